use Rattle.std.proofs.Common.{◌≡◌, ◌<◌, ◌≤◌, ◌⊎◌, length, sym, ◌∙◌, ap, drop, arith, inl, inr, eqb-true, nat_eq, ℕ, false, get_or}
use Rattle.std.proofs.lemmas.Bool.{eqb-false}
use Rattle.redis_codec.specs.Resp.{number_after}
use Rattle.redis_codec.proofs.Numbers.{number_in-empty, number_in-some, number_after-end, number_after-step, number_after-stop}
use Rattle.redis_codec.proofs.reading.number.Goals as goal
use Rattle.redis_codec.proofs.reading.number.Goals.{then-digit-lt48-via-then-digit-lt48, then-digit-lt48-via-else-digit-lt48+then-digit-gt57, then-digit-lt48-via-else-digit-lt48+else-digit-gt57+then-number-ge100000000000000000}

positive : (n : ℕ) → nat_eq n 0 ≡ false → 0 < n
positive n e = let f = eqb-false n 0 e in omega arith

pub returns-then-is_empty-clause-exact : goal.returns-then-is_empty-clause-exact
returns-then-is_empty-clause-exact c = sym (number_in-empty c.args.text.now (eqb-true (length c.args.text.now) 0 (sym c.is_empty.ensures ∙ c.if-is_empty.true)))

pub returns-then-digit-lt48-clause-exact : goal.returns-then-digit-lt48-clause-exact
returns-then-digit-lt48-clause-exact c =
    let some : 0 < length c.args.text.now = omega arith in
    let at : ((get_or c.args.text.now c.loop-digit.digit-index 0 < 48) ⊎ (57 < get_or c.args.text.now c.loop-digit.digit-index 0)) ⊎ (100_000_000_000_000_000 ≤ c.loop-digit.number) =
    elim c.then-digit-lt48.branch [
      | then-digit-lt48-via-then-digit-lt48 w ↦ inl (inl (omega arith))
      | then-digit-lt48-via-else-digit-lt48+then-digit-gt57 w ↦ inl (inr (omega arith))
      | then-digit-lt48-via-else-digit-lt48+else-digit-gt57+then-number-ge100000000000000000 w ↦ inr (omega arith)
    ] in
    sym (number_in-some c.args.text.now some ∙ sym c.loop-digit.invariant.0 ∙ number_after-stop c.loop-digit.number c.loop-digit.digit-index c.args.text.now (omega arith) at)

pub loop-digit-preserved : goal.loop-digit-preserved
loop-digit-preserved c =
    (sym (number_after-step c.loop-digit.number c.loop-digit.digit-index c.args.text.now (omega arith) (omega arith) (omega arith) (omega arith)) ∙ c.loop-digit.invariant.0, omega (arith, c.loop-digit.invariant.1))

pub returns-clause-exact : goal.returns-clause-exact
returns-clause-exact c =
    let some : 0 < length c.args.text.now = positive _ (sym c.is_empty.ensures ∙ c.if-is_empty.false) in
    let end : c.loop-digit.digit-index ≡ length c.args.text.now = omega arith in
    sym (number_in-some c.args.text.now some ∙ sym c.loop-digit.invariant.0 ∙ ap (λ i. number_after c.loop-digit.number (drop i c.args.text.now)) end ∙ number_after-end c.loop-digit.number c.args.text.now)
