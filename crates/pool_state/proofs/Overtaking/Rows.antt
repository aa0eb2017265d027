-- Worked rows: who overtakes whom and how often, and what does not bound it. A row's name says what it shows.
use Rattle.std.proofs.Common.{◌≡◌, ℕ, zero, suc, ◌+◌, ◌<◌, ◌≤◌, true, cond, List, [], ◌∷◌, length, Some, refl, ap, ◌∙◌, arith}
use Rattle.std.specs.Prelude.{nat_lt, ◌&&◌}
use Rattle.std.proofs.lemmas.Bool.Decides.{nat_tests}
use Rattle.pool_state.specs.declared.line.place.Standing.TheVariants.{Quiet, Told, Aside}
use Rattle.pool_state.specs.Waiting.{place, copies_of}
use Rattle.pool_state.specs.Order.{Event, Came, WasTold, WaitsOn, Took, Passed, Left, TookAtOnce, standing_in, came_in, IsInOrder, IsHistoryOf}
use Rattle.pool_state.specs.Overtaking.{waits, overtakes, overtakings, most_idle, spare_since}
use Rattle.pool_state.proofs.Order.{began, came, was_told, took, left}

-- two callers come, and are told
abbrev two_told : List Event
two_told = WasTold 2 ∷ WasTold 4 ∷ Came 2 ∷ Came 4 ∷ []

-- the second takes where two are idle
the_first_is_overtaken_once : overtakings (Took 2 2 ∷ two_told) 4 ≡ 1
the_first_is_overtaken_once = refl

one_was_spare : spare_since (Took 2 2 ∷ two_told) 4 ≡ 1
one_was_spare = refl

who_took_is_not_overtaken : overtakings (Took 4 1 ∷ Took 2 2 ∷ two_told) 2 ≡ 0
who_took_is_not_overtaken = refl

-- three are idle, and the check of what the second took fails: it takes again
abbrev takes_again : List Event
takes_again = Took 2 2 ∷ Took 2 3 ∷ two_told

who_takes_again_overtakes_again : overtakings takes_again 4 ≡ 2
who_takes_again_overtakes_again = refl

two_were_spare : spare_since takes_again 4 ≡ 2
two_were_spare = refl

three_were_idle_at_once : most_idle takes_again 4 ≡ 3
three_were_idle_at_once = refl

fewer_are_spare_where_none_comes_back : spare_since (Took 7 2 ∷ Took 2 3 ∷ Came 4 ∷ TookAtOnce 9 ∷ []) 4 ≡ 2
fewer_are_spare_where_none_comes_back = refl

-- one comes back, and one that does not stand in line takes
one_comes_back : overtakings (TookAtOnce 2 ∷ takes_again) 4 ≡ 3
one_comes_back = refl

what_comes_back_is_spare_too : spare_since (TookAtOnce 2 ∷ takes_again) 4 ≡ 3
what_comes_back_is_spare_too = refl

-- one is idle: the first takes, its check fails, and the second took in the meantime
abbrev check_failed : List Event
check_failed = WaitsOn 4 ∷ Took 2 1 ∷ WasTold 2 ∷ Took 4 1 ∷ WasTold 4 ∷ Came 2 ∷ Came 4 ∷ []

who_was_served_was_not_overtaken : overtakings check_failed 4 ≡ 0
who_was_served_was_not_overtaken = refl

it_waits_again_before_those_that_came_later : overtakes (Came 7 ∷ check_failed) (Took 7 2) 4 ≡ true
it_waits_again_before_those_that_came_later = refl

apart : (n s : ℕ) → copies_of s (n ∷ []) ≤ 1
apart n s = grind arith

none_of_those_takes_the_one_that_is_idle : IsInOrder (Took 7 1 ∷ WasTold 7 ∷ WasTold 4 ∷ Came 7 ∷ check_failed) → ⊥
none_of_those_takes_the_one_that_is_idle h =
    let wrong : 1 < 1 = h.0 (4 ∷ []) (apart 4) ((refl, omega arith), tt) in omega (arith, wrong)

who_was_late_is_not_overtaken : overtakings (Took 2 1 ∷ WasTold 2 ∷ Passed 4 ∷ WasTold 4 ∷ Came 2 ∷ Came 4 ∷ []) 4 ≡ 0
who_was_late_is_not_overtaken = refl

who_comes_again_was_not_overtaken_yet : overtakings (Came 4 ∷ Left 4 ∷ Took 2 2 ∷ two_told) 4 ≡ 0
who_comes_again_was_not_overtaken_yet = refl

-- WHAT DOES NOT BOUND IT: two are idle at most, and one that was told sleeps on. Others come one
-- after another, wait, are told when one comes back, take it and leave.
abbrev sleeps_on : ℕ → List Event
sleeps_on zero = WasTold 4 ∷ Came 4 ∷ []
sleeps_on (suc n) = Left 2 ∷ Took 2 2 ∷ WasTold 2 ∷ Came 2 ∷ sleeps_on n

can_be : (n : ℕ) → IsHistoryOf (sleeps_on n) (place 4 Told ∷ [])
can_be zero = was_told (Came 4 ∷ []) 4 (place 4 Quiet ∷ []) refl (came [] 4 [] refl began)
can_be (suc n) =
    let h = sleeps_on n in
    let one_came = came h 2 (place 4 Told ∷ []) refl (can_be n) in
    let one_told = was_told (Came 2 ∷ h) 2 (place 4 Told ∷ place 2 Quiet ∷ []) refl one_came in
    let told : Some Told ≡ Some Quiet → ⊥ = λ w. cc in
    let one_took = took (WasTold 2 ∷ Came 2 ∷ h) 2 2 (place 4 Told ∷ place 2 Told ∷ []) refl told (omega arith) one_told in
    left (Took 2 2 ∷ WasTold 2 ∷ Came 2 ∷ h) 2 (place 4 Told ∷ place 2 Aside ∷ []) one_took

it_waits : (n : ℕ) → waits (standing_in (sleeps_on n) 4) ≡ true
it_waits zero = refl
it_waits (suc n) = it_waits n

it_came_first : (n : ℕ) → came_in (sleeps_on n) 4 ≡ 1
it_came_first zero = refl
it_came_first (suc n) = it_came_first n

others_came_later : (n : ℕ) → 0 < length (sleeps_on n)
others_came_later zero = omega arith
others_came_later (suc n) = omega (arith, others_came_later n)

it_is_overtaken : (n : ℕ) → (waits (standing_in (sleeps_on n) 4) && nat_lt (came_in (sleeps_on n) 4) (length (sleeps_on n) + 1)) ≡ true
it_is_overtaken n =
    let first = it_came_first n in
    let some = others_came_later n in
    let earlier : nat_lt (came_in (sleeps_on n) 4) (length (sleeps_on n) + 1) ≡ true = grind (arith, nat_tests) in
    ap (λ b. b && nat_lt (came_in (sleeps_on n) 4) (length (sleeps_on n) + 1)) (it_waits n) ∙ earlier

pub how_many_are_idle_at_once_bounds_nothing : (n : ℕ) → (overtakings (sleeps_on n) 4 ≡ n) × (most_idle (sleeps_on n) 4 ≤ 2)
how_many_are_idle_at_once_bounds_nothing zero = (refl, omega arith)
how_many_are_idle_at_once_bounds_nothing (suc n) =
    let before = how_many_are_idle_at_once_bounds_nothing n in
    let once_more = ap {B = ℕ} (λ b. cond b 1 0) (it_is_overtaken n) in
    (omega (arith, once_more, before.0), omega (arith, before.1))
