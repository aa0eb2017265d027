-- Who is overtaken was told, and has not looked since: of those who wait the first ones, as many as
-- are idle, were told. (The type of LinedBook says so, and its `take` wants the turn.)
use Rattle.std.proofs.Common.{◌≡◌, ℕ, ◌+◌, ◌<◌, ◌≤◌, true, false, cond, List, [], ◌∷◌, Option, Some, None, refl, sym, ◌∙◌, ap, arith}
use Rattle.std.specs.Prelude.{◌==◌, nat_lt, IsTrue}
use Rattle.std.proofs.lemmas.Bool.Decides.{nat_tests}
use Rattle.pool_state.specs.declared.line.place.Place.{Place}
use Rattle.pool_state.specs.declared.line.place.Standing.{Standing}
use Rattle.pool_state.specs.declared.line.place.Standing.TheVariants.{Quiet, Told, Aside}
use Rattle.pool_state.specs.Waiting.{AreTold, weight, waiting_in, ahead}
use Rattle.pool_state.specs.Order.{Event, Took, TookAtOnce, standing_in, came_in, standing_at, slots_of, StandAsTheyCame, IsHistoryOf}
use Rattle.pool_state.specs.Overtaking.{waits, overtakes}
use Rattle.pool_state.proofs.Overtaking.{both}
use Rattle.pool_state.proofs.Order.{none_behind, quiet_waits, was_told_in_turn}

told_so : (o : Option Standing) → IsTrue (waits o) → (o ≡ Some Quiet → ⊥) → o ≡ Some Told
told_so None w untold = absurd cc
told_so (Some Quiet) w untold = absurd (untold refl)
told_so (Some Told) w untold = refl
told_so (Some Aside) w untold = absurd cc

fewer_ahead : (came : ℕ → ℕ) (s t : ℕ) (ps : List Place) → StandAsTheyCame came (slots_of ps) → came s < came t → standing_at s ps ≡ Some Quiet → ahead s ps ≤ ahead t ps
fewer_ahead came s t [] order lt quiet = omega arith
fewer_ahead came s t (p ∷ ps) order lt quiet =
    elim (p.slot == s) as (λ b. cond b (Some p.standing) (standing_at s ps) ≡ Some Quiet → cond b 0 (weight p.standing + ahead s ps) ≤ ahead t (p ∷ ps)) [
      | true ↦ λ w. omega arith
      | false ↦ λ w.
          elim (p.slot == t) as (λ b. (p.slot == t) ≡ b → weight p.standing + ahead s ps ≤ cond b 0 (weight p.standing + ahead t ps)) [
            | true ↦ λ v.
                let same : p.slot ≡ t = grind (arith, nat_tests) in
                let none = none_behind came (came p.slot) s ps order.0 (omega (arith, ap came same, lt)) in
                let wrong : None ≡ Some Quiet = sym none ∙ w in
                absurd cc
            | false ↦ λ v. omega (arith, fewer_ahead came s t ps order.1 lt w)
          ] refl
    ] quiet

pub overtaken_was_told : (h : List Event) (slot idle s : ℕ) (ps : List Place) → AreTold idle ps → ahead slot ps < idle → IsHistoryOf h ps → IsTrue (overtakes h (Took slot idle) s) → standing_in h s ≡ Some Told
overtaken_was_told h slot idle s ps told turn is w =
    let parts = both (waits (standing_in h s)) (nat_lt (came_in h s) (came_in h slot)) w in
    let later : came_in h s < came_in h slot = grind (arith, nat_tests, parts.1) in
    told_so (standing_in h s) parts.0 (λ untold.
    let fewer = fewer_ahead (came_in h) s slot ps is.as_they_came later (is.stand s ∙ untold) in
    was_told_in_turn h s idle ps told (omega (arith, fewer, turn)) is untold)

pub overtaken_at_once_was_told : (h : List Event) (idle s : ℕ) (ps : List Place) → AreTold idle ps → waiting_in ps < idle → IsHistoryOf h ps → IsTrue (overtakes h (TookAtOnce idle) s) → standing_in h s ≡ Some Told
overtaken_at_once_was_told h idle s ps told turn is w =
    told_so (standing_in h s) w (λ untold.
    let fewer = quiet_waits s ps (is.stand s ∙ untold) in
    was_told_in_turn h s idle ps told (omega (arith, fewer, turn)) is untold)
