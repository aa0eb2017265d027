-- Who waits, at the end or on in its place, was told nothing.
use Rattle.std.proofs.Common.{◌≡◌, ℕ, false, List, [], ◌∷◌, ◌++◌, Option, Some, None, refl, ◌∙◌, ap, arith}
use Rattle.std.specs.Prelude.{IfSome}
use Rattle.pool_state.specs.declared.line.place.Place.{Place}
use Rattle.pool_state.specs.declared.line.place.Standing.TheVariants.{Quiet}
use Rattle.pool_state.specs.Waiting.{place, told_at, with_standing, copies_in}

pub told_at-joined : (s : ℕ) (ps : List Place) → copies_in s ps ≡ 0 → told_at s (ps ++ place s Quiet ∷ []) ≡ false
told_at-joined s [] none = grind arith
told_at-joined s (p ∷ ps) none = grind (arith, told_at-joined s ps)

pub told_at-quiet : (s : ℕ) (ps : List Place) → told_at s (with_standing s Quiet ps) ≡ false
told_at-quiet s [] = refl
told_at-quiet s (p ∷ ps) = grind (arith, told_at-quiet s ps)

pub join_untold : (r : Option ℕ) (old new : List Place) → IfSome r (λ s. new ≡ old ++ place s Quiet ∷ []) → IfSome r (λ s. copies_in s old ≡ 0)
    → IfSome r (λ s. told_at s new ≡ false)
join_untold None old new joined fresh = tt
join_untold (Some s) old new joined fresh = ap (told_at s) joined ∙ told_at-joined s old fresh
