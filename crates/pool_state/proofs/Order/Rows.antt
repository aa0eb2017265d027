-- Worked rows: what the definitions say of histories. A row's name says what it shows.
use Rattle.std.proofs.Common.{◌≡◌, ℕ, ◌<◌, ◌≤◌, List, [], ◌∷◌, Some, None, refl, arith}
use Rattle.std.specs.declared.time.Duration.{Duration}
use Rattle.pool_state.specs.declared.line.place.Place.{Place}
use Rattle.pool_state.specs.declared.line.place.Standing.TheVariants.{Quiet, Told, Aside}
use Rattle.pool_state.specs.Waiting.{place, copies_of, first_late}
use Rattle.pool_state.specs.Order.{Event, Came, WasTold, WaitsOn, Took, Passed, Left, TookAtOnce, standing_in, came_in, IsInOrder, comings, services, IsHistoryOf}
use Rattle.pool_state.proofs.Order.{began, came, was_told, passed, took}

-- callers come at the slots 4, 2 and 7; the first is told, and takes
abbrev three : List Event
three = Came 7 ∷ Came 2 ∷ Came 4 ∷ []

abbrev first_served : List Event
first_served = Took 4 1 ∷ WasTold 4 ∷ three

-- it leaves, and another one comes at its slot, behind the others; the next two are served
abbrev again_at_4 : List Event
again_at_4 = Took 7 1 ∷ Took 2 1 ∷ WasTold 7 ∷ WasTold 2 ∷ Came 4 ∷ Left 4 ∷ first_served

who_came : comings again_at_4 ≡ 4 ∷ 2 ∷ 7 ∷ 4 ∷ []
who_came = refl

who_was_served : services again_at_4 ≡ 4 ∷ 2 ∷ 7 ∷ []
who_was_served = refl

who_is_served_keeps_its_place : standing_in first_served 4 ≡ Some Aside
who_is_served_keeps_its_place = refl

who_left_is_gone : standing_in (Left 4 ∷ first_served) 4 ≡ None
who_left_is_gone = refl

who_is_told_and_looks_in_vain_waits_to_be_told : standing_in (WaitsOn 4 ∷ WasTold 4 ∷ three) 4 ≡ Some Quiet
who_is_told_and_looks_in_vain_waits_to_be_told = refl

who_is_passed_keeps_its_place : standing_in (Passed 4 ∷ WasTold 4 ∷ three) 4 ≡ Some Aside
who_is_passed_keeps_its_place = refl

who_is_passed_and_looks_waits_to_be_told : standing_in (WaitsOn 4 ∷ Passed 4 ∷ WasTold 4 ∷ three) 4 ≡ Some Quiet
who_is_passed_and_looks_waits_to_be_told = refl

a_place_is_as_old_as_the_coming : came_in first_served 4 ≡ 1
a_place_is_as_old_as_the_coming = refl

a_slot_that_is_used_again_is_the_last : came_in again_at_4 4 ≡ 7
a_slot_that_is_used_again_is_the_last = refl

-- WHAT CANNOT BE

apart : (n s : ℕ) → copies_of s (n ∷ []) ≤ 1
apart n s = grind arith

the_second_is_told : IsInOrder (WasTold 2 ∷ Came 2 ∷ Came 4 ∷ []) → ⊥
the_second_is_told h = let wrong : 2 ≤ 1 = h.0.1 4 refl in omega (arith, wrong)

one_is_told_twice : IsInOrder (WasTold 4 ∷ WasTold 4 ∷ Came 4 ∷ []) → ⊥
one_is_told_twice h = let wrong : Some Told ≡ Some Quiet = h.0.0 in cc

the_second_takes_what_is_kept_for_the_first : IsInOrder (Took 2 1 ∷ Came 2 ∷ Came 4 ∷ []) → ⊥
the_second_takes_what_is_kept_for_the_first h =
    let wrong : 1 < 1 = h.0 (4 ∷ []) (apart 4) ((refl, omega arith), tt) in omega (arith, wrong)

a_newcomer_takes_what_is_kept : IsInOrder (TookAtOnce 1 ∷ Came 4 ∷ []) → ⊥
a_newcomer_takes_what_is_kept h =
    let wrong : 1 < 1 = h.0 (4 ∷ []) (apart 4) (refl, tt) in omega (arith, wrong)

one_takes_that_was_not_told : IsInOrder (Took 4 1 ∷ Came 4 ∷ []) → ⊥
one_takes_that_was_not_told h = h.1 refl

one_is_passed_that_was_not_told : IsInOrder (Passed 4 ∷ Came 4 ∷ []) → ⊥
one_is_passed_that_was_not_told h = let wrong : Some Quiet ≡ Some Told = h.0 in cc

-- the time of the first is over at 7, of the second at 9; the third was told nothing
abbrev seconds : ℕ → Duration
seconds n = record { secs = n; nanos = 0 }

abbrev ends : List Duration
ends = seconds 9 ∷ seconds 7 ∷ seconds 0 ∷ []

nobody_is_late_before_its_time : first_late 6_999_999_999 ends (place 1 Told ∷ place 0 Told ∷ []) ≡ None
nobody_is_late_before_its_time = refl

one_is_late_at_its_time : first_late 7_000_000_000 ends (place 0 Told ∷ place 1 Told ∷ []) ≡ Some 1
one_is_late_at_its_time = refl

who_was_told_nothing_is_not_late : first_late 9_000_000_000 ends (place 2 Quiet ∷ place 1 Told ∷ []) ≡ None
who_was_told_nothing_is_not_late = refl

-- WHAT CAN BE

abbrev two_wait : List Place
two_wait = place 4 Quiet ∷ place 2 Quiet ∷ []

two_came : IsHistoryOf (Came 2 ∷ Came 4 ∷ []) two_wait
two_came = came (Came 4 ∷ []) 2 (place 4 Quiet ∷ []) refl (came [] 4 [] refl began)

the_second_is_told_after_the_first : IsHistoryOf (WasTold 2 ∷ WasTold 4 ∷ Came 2 ∷ Came 4 ∷ []) (place 4 Told ∷ place 2 Told ∷ [])
the_second_is_told_after_the_first =
    was_told (WasTold 4 ∷ Came 2 ∷ Came 4 ∷ []) 2 (place 4 Told ∷ place 2 Quiet ∷ []) refl (was_told (Came 2 ∷ Came 4 ∷ []) 4 two_wait refl two_came)

the_second_takes_where_two_are_idle : IsHistoryOf (Took 2 2 ∷ WasTold 2 ∷ WasTold 4 ∷ Came 2 ∷ Came 4 ∷ []) (place 4 Told ∷ place 2 Aside ∷ [])
the_second_takes_where_two_are_idle =
    let told : Some Told ≡ Some Quiet → ⊥ = λ w. cc in
    took (WasTold 2 ∷ WasTold 4 ∷ Came 2 ∷ Came 4 ∷ []) 2 2 (place 4 Told ∷ place 2 Told ∷ []) refl told (omega arith) the_second_is_told_after_the_first

the_second_takes_where_the_first_is_passed : IsHistoryOf (Took 2 1 ∷ WasTold 2 ∷ Passed 4 ∷ WasTold 4 ∷ Came 2 ∷ Came 4 ∷ []) (place 4 Aside ∷ place 2 Aside ∷ [])
the_second_takes_where_the_first_is_passed =
    let one_told = was_told (Came 2 ∷ Came 4 ∷ []) 4 two_wait refl two_came in
    let one_passed = passed (WasTold 4 ∷ Came 2 ∷ Came 4 ∷ []) 4 (place 4 Told ∷ place 2 Quiet ∷ []) refl one_told in
    let two_told = was_told (Passed 4 ∷ WasTold 4 ∷ Came 2 ∷ Came 4 ∷ []) 2 (place 4 Aside ∷ place 2 Quiet ∷ []) refl one_passed in
    let told : Some Told ≡ Some Quiet → ⊥ = λ w. cc in
    took (WasTold 2 ∷ Passed 4 ∷ WasTold 4 ∷ Came 2 ∷ Came 4 ∷ []) 2 1 (place 4 Aside ∷ place 2 Told ∷ []) refl told (omega arith) two_told
