use Rattle.std.proofs.Common.{◌≡◌, ◌≤◌, ◌∙◌, ap, sym, subst, Ok, drop, length}
use Rattle.std.proofs.lemmas.Result.{err_from_is_err_and}
use Rattle.redis_codec.specs.Resp.{Fails, Found, seen_all}
use Rattle.redis_codec.specs.Answers.{answer_at, Stream, most_kept}
use Rattle.redis_codec.proofs.Wholes.{next_fails, next_short, next_whole, leads_first}
use Rattle.redis_codec.proofs.Bounds.{answer_at-within}
use Rattle.redis_codec.proofs.Kept.{answer_at-kept}
use Rattle.redis_codec.proofs.decoder.Decoder.next.Goals as goal

pub returns-in_err-read_on-clause-exact : goal.returns-in_err-read_on-clause-exact
returns-in_err-read_on-clause-exact c =
    let p = err_from_is_err_and c.from_residual.result c.from_residual.ensures.1 in
    rw (p.1, p.2) (subst (λ (s : Stream). Fails c.in_err-read_on.field-0.0 (answer_at s.limits s.bytes)) c.self.view_is
    (next_fails c.self.inside.limits c.self.inside.progress c.read_on.new.self c.self.inside.bytes.items c.as_slice.result.now c.in_err-read_on.field-0.0 c.as_slice.ensures.value c.self.invariant c.in_err-read_on.ensures.follows c.in_err-read_on.ensures.fault))

pub returns-then-not-branch-clause-exact : goal.returns-then-not-branch-clause-exact
returns-then-not-branch-clause-exact c =
    sym (ap (λ (s : Stream). answer_at s.limits s.bytes) c.self.view_is)
    ∙ next_short c.self.inside.limits c.self.inside.progress c.read_on.new.self c.self.inside.bytes.items c.as_slice.result.now c.as_slice.ensures.value c.self.invariant c.in_ok-read_on.ensures.follows (c.in_ok-read_on.ensures.short (ap Ok c.if-not-branch.true))

pub invariant_of-self-2 : goal.invariant_of-self-2
invariant_of-self-2 c = rw c.replace-whole.ensures.after (leads_first c.self.inside.limits c.in_ok-fresh.fresh c.in_ok-rest.rest.items c.in_ok-fresh.ensures)

pub returns-clause-exact : goal.returns-clause-exact
returns-clause-exact c =
    sym (ap (λ (s : Stream). answer_at s.limits s.bytes) c.self.view_is)
    ∙ next_whole c.self.inside.limits c.self.inside.progress c.read_on.new.self c.self.inside.bytes.items c.as_slice.result.now c.as_slice.ensures.value c.self.invariant c.in_ok-read_on.ensures.follows (c.in_ok-read_on.ensures.whole (ap Ok c.if-not-branch.false))
    ∙ (let whole : c.replace-whole.result ≡ c.read_on.new.self = c.replace-whole.ensures.value in
    let rest : c.in_ok-rest.rest.items ≡ drop c.read_on.new.self.at c.self.inside.bytes.items =
    c.in_ok-rest.ensures.items ∙ c.split_at.ensures.back ∙ ap (drop c.read_on.new.self.at) c.deref.ensures.value in
    λ i. Found (seen_all (sym whole i).items.items, sym rest i))

pub returns-clause-within : goal.returns-clause-within
returns-clause-within c =
    answer_at-within c.args.self.now.limits c.args.self.now.bytes (seen_all c.replace-whole.result.items.items) c.in_ok-rest.rest.items (returns-clause-exact c)

pub returns-then-not-branch-clause-bounded : goal.returns-then-not-branch-clause-bounded
returns-then-not-branch-clause-bounded c =
    subst (λ (s : Stream). length s.bytes ≤ most_kept c.args.self.now.limits) (sym c.self.view_is)
    (answer_at-kept c.args.self.now.limits c.args.self.now.bytes (returns-then-not-branch-clause-exact c))
