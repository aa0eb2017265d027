use Rattle.std.proofs.Common.{◌≡◌, ◌<◌, ◌-◌, ◌++◌, ◌∷◌, [], ℕ, List, length, refl, drop, arith, sym, ap, subst, ◌∙◌, rules}
use Rattle.std.proofs.lemmas.Result.{err_from_is_err_and}
use Rattle.std.proofs.lemmas.Bool.{lt-ltb}
use Rattle.redis_codec.specs.Resp.{Found, Fails, part_at, seen}
use Rattle.redis_codec.specs.Answers.{count_of, weight, is_too_deep, lacking_after}
use Rattle.redis_codec.specs.declared.item.Item.{Item}
use Rattle.redis_codec.proofs.Again.{gives_none, gives_some, rest_within}
use Rattle.redis_codec.proofs.Wholes.{none_left, short_part, fails_part, heavy_part, deep_part, part_follows, part_ends}
use Rattle.redis_codec.proofs.reading.Progress.read_part.Goals as goal
use Rattle.redis_codec.proofs.reading.Progress.read_part.Goals.{then-weight-self-via-then-weight-self, then-weight-self-via-else-weight-self+then-is_too_deep}

pub returns-then-self-eq0-clause-fault : goal.returns-then-self-eq0-clause-fault
returns-then-self-eq0-clause-fault c = none_left c.args.depth c.args.self.now c.args.bytes.now c.requires.lacking c.if-self-eq0.true

pub returns-in_err-item-clause-fault : goal.returns-in_err-item-clause-fault
returns-in_err-item-clause-fault c =
    let p = err_from_is_err_and c.from_residual.result c.from_residual.ensures.1 in
    rw (p.1, p.2) (fails_part c.args.depth c.args.self.now c.args.bytes.now _ c.requires.lacking (omega arith)
    (subst (λ (z : List ℕ). Fails c.in_err-item.field-0.0 (part_at c.args.self.now.room z)) c.split_at.ensures.back c.in_err-item.ensures))

pub returns-in_default-clause-short : goal.returns-in_default-clause-short
returns-in_default-clause-short c = λ e. short_part c.args.depth c.args.self.now c.args.bytes.now c.requires.lacking (omega arith)
    (ap (part_at c.args.self.now.room) (sym c.split_at.ensures.back) ∙ gives_none _ c.in_ok-item.field-0 (part_at c.args.self.now.room c.split_at.result.1.now) c.in_ok-item.ensures c.in_default.is)

pub overflow_sub-at : goal.overflow_sub-at
overflow_sub-at c =
    let e : part_at c.args.self.now.room (drop c.args.self.now.at c.args.bytes.now) ≡ Found (seen c.in-Some.item, c.in-Some.rest.now) =
    ap (part_at c.args.self.now.room) (sym c.split_at.ensures.back) ∙ gives_some _ c.in_ok-item.field-0 _ (part_at c.args.self.now.room c.split_at.result.1.now) c.in_ok-item.ensures c.in-Some.is in
    rest_within c.in-Some.rest.now c.args.bytes.now (part_ends c.args.self.now.room c.args.self.now.at c.args.bytes.now (seen c.in-Some.item) c.in-Some.rest.now e)

pub returns-then-weight-self-clause-fault : goal.returns-then-weight-self-clause-fault
returns-then-weight-self-clause-fault c =
    let e : part_at c.args.self.now.room (drop c.args.self.now.at c.args.bytes.now) ≡ Found (seen c.in-Some.item, c.in-Some.rest.now) =
    ap (part_at c.args.self.now.room) (sym c.split_at.ensures.back) ∙ gives_some _ c.in_ok-item.field-0 _ (part_at c.args.self.now.room c.split_at.result.1.now) c.in_ok-item.ensures c.in-Some.is in
    elim c.then-weight-self.branch [
      | then-weight-self-via-then-weight-self w ↦
          let heavy : c.args.self.now.room < weight (seen c.in-Some.item) = omega (arith, c.weight-weight.ensures) in
          heavy_part c.args.depth c.args.self.now c.args.bytes.now (seen c.in-Some.item, c.in-Some.rest.now) c.requires.lacking (omega arith) e (lt-ltb c.args.self.now.room (weight (seen c.in-Some.item)) heavy)
      | then-weight-self-via-else-weight-self+then-is_too_deep w ↦
          deep_part c.args.depth c.args.self.now c.args.bytes.now (seen c.in-Some.item, c.in-Some.rest.now) c.requires.lacking (omega arith) e
          (let lists : w.len.result ≡ length c.args.self.now.lacking.items = search rules in
          ap (λ (k : ℕ). is_too_deep c.args.depth k (count_of (seen c.in-Some.item))) (sym lists) ∙ ap (is_too_deep c.args.depth w.len.result) (sym c.count_of-count.ensures) ∙ sym w.is_too_deep.ensures ∙ w.if-is_too_deep.true)
    ]

pub returns-clause-follows : goal.returns-clause-follows
returns-clause-follows c =
    let e : part_at c.args.self.now.room (drop c.args.self.now.at c.args.bytes.now) ≡ Found (seen c.in-Some.item, c.in-Some.rest.now) =
    ap (part_at c.args.self.now.room) (sym c.split_at.ensures.back) ∙ gives_some _ c.in_ok-item.field-0 _ (part_at c.args.self.now.room c.split_at.result.1.now) c.in_ok-item.ensures c.in-Some.is in
    part_follows c.args.depth c.args.self.now _ c.args.bytes.now c.in-Some.item c.in-Some.rest.now c.requires.within c.requires.lacking e (omega (arith, c.weight-weight.ensures))
    (let lists : c.len.result ≡ length c.args.self.now.lacking.items = search rules in
    ap (λ (k : ℕ). is_too_deep c.args.depth k (count_of (seen c.in-Some.item))) (sym lists) ∙ ap (is_too_deep c.args.depth c.len.result) (sym c.count_of-count.ensures) ∙ sym c.is_too_deep.ensures ∙ c.if-is_too_deep.false)
    (record {
      at = refl;
      items = c.push_reserved.ensures.items ∙ ap (λ (z : List Item). z ++ c.in-Some.item ∷ []) c.in_ok-reserve.ensures.items;
      lacking = c.in_ok-count_one.ensures.ok ∙ ap (λ (n : ℕ). lacking_after n c.args.self.now.lacking.items) c.count_of-count.ensures;
      room = ap (λ (n : ℕ). c.args.self.now.room - n) c.weight-weight.ensures;
      left = omega arith;
    })
