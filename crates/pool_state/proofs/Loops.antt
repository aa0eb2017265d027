-- The steps of the loops along a line.
use Rattle.std.proofs.Common.{◌≡◌, ◌≢◌, ℕ, ◌+◌, ◌-◌, ◌<◌, ◌≤◌, true, false, cond, List, [], ◌∷◌, Option, Some, None, refl, sym, ◌∙◌, ap, arith}
use Rattle.std.specs.Prelude.{◌==◌}
use Rattle.std.proofs.lemmas.Bool.Decides.{nat_tests}
use Rattle.pool_state.specs.declared.line.place.Place.{Place}
use Rattle.pool_state.specs.declared.line.place.Standing.{Standing}
use Rattle.pool_state.specs.declared.line.place.Standing.TheVariants.{Quiet, Told, Aside}
use Rattle.pool_state.specs.Ring.{standing_of, or_quiet, row_of, walk}
use Rattle.pool_state.specs.Waiting.{weight, ahead, first_quiet, told_first, with_standing, copies_in}
use Rattle.pool_state.proofs.Rows.{row_more}

module _ (sts : List (Option Standing)) (f : ℕ → ℕ) (n k at : ℕ) (lt : k < n) where
  pub ahead_more : (slot next : ℕ) → next ≡ f at → at ≢ slot → weight (or_quiet (standing_of sts at)) + ahead slot (row_of sts (walk f (n - (k + 1)) next)) ≡ ahead slot (row_of sts (walk f (n - k) at))
  ahead_more slot next e ne =
      let q : (at == slot) ≡ false = grind (arith, nat_tests, ne) in
      let w = weight (or_quiet (standing_of sts at)) in
      ap (λ x. w + ahead slot (row_of sts (walk f (n - (k + 1)) x))) e ∙ (sym (ap (λ b. cond b 0 (w + ahead slot (row_of sts (walk f (n - (k + 1)) (f at))))) q) ∙ sym (ap (ahead slot) (row_more sts f n k at lt)))

  pub ahead_here : (slot : ℕ) → at ≡ slot → ahead slot (row_of sts (walk f (n - k) at)) ≡ 0
  ahead_here slot is =
      let q : (at == slot) ≡ true = grind (arith, nat_tests, is) in
      let w = weight (or_quiet (standing_of sts at)) in
      ap (ahead slot) (row_more sts f n k at lt) ∙ ap (λ b. cond b 0 (w + ahead slot (row_of sts (walk f (n - (k + 1)) (f at))))) q

pub weight-le : (t : Standing) → weight t ≤ 1
weight-le Quiet = omega arith
weight-le Told = omega arith
weight-le Aside = omega arith

-- who is told
pub tell_nobody : (ps : List Place) → first_quiet ps ≡ None → told_first ps ≡ ps
tell_nobody [] e = refl
tell_nobody (p ∷ ps) e = grind (arith, tell_nobody ps)

pub first_stands : (s : ℕ) (ps : List Place) → first_quiet ps ≡ Some s → 0 < copies_in s ps
first_stands s [] e = absurd cc
first_stands s (p ∷ ps) e = grind (arith, nat_tests, first_stands s ps)

pub tell_first : (s : ℕ) (ps : List Place) → first_quiet ps ≡ Some s → copies_in s ps ≤ 1 → with_standing s Told ps ≡ told_first ps
tell_first s [] e one = refl
tell_first s (p ∷ ps) e one = grind (arith, nat_tests, tell_first s ps, first_stands s ps)
