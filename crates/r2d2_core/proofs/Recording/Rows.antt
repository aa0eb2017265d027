-- Worked rows of records, computed from the definitions alone: what they come to, and which are legal. The oldest stands first.
use Rattle.std.proofs.Common.{◌≡◌, ℕ, ◌*◌, Bool, true, false, List, [], ◌∷◌, Option, Some, None, refl}
use Rattle.std.specs.declared.time.Duration.{Duration}
use Rattle.pool_machine.specs.declared.schedule.limits.LendingOrder.TheVariants as lending
use Rattle.pool_machine.specs.declared.schedule.limits.LimitSettings.{LimitSettings}
use Rattle.pool_machine.specs.Limits.{settings, with_order}
use Rattle.pool_machine.specs.Ids.{copies_of}
use Rattle.pool_machine.specs.Connections.{idle_connection, lent_connection, is_expired, is_kept}
use Rattle.r2d2_core.specs.Records.{SeenRecord, Taken, Ordered, Admitted, Kept, Closed, Reaped, ClosedAll}
use Rattle.r2d2_core.specs.Bases.{SeenBase, first_base}
use Rattle.r2d2_core.specs.Folding.{folded, all_follow, known_in}
use Rattle.r2d2_core.specs.Folding.{replay as replay_from}

abbrev seconds : ℕ → Duration
seconds n = record { secs = n; nanos = 0 }

abbrev ms : ℕ → ℕ
ms n = n * 1_000_000

-- so many at most, so many wanted; closed at these ages and idle times
abbrev limited : ℕ → Option ℕ → Option Duration → Option Duration → LimitSettings
limited size least life idle = settings size least life idle (seconds 30) (seconds 30)

abbrev small : LimitSettings
small = limited 1 None None None

abbrev pair : LimitSettings
pair = limited 2 None None None

-- whether records are legal from the making on, but for their ids
abbrev legal : LimitSettings → List SeenRecord → Bool
legal limits rs = all_follow limits rs (first_base limits 0)

-- what records come to from the making on
abbrev replay : LimitSettings → List SeenRecord → SeenBase
replay limits rs = replay_from limits rs (first_base limits 0)

abbrev running_base : ℕ → ℕ → ℕ → Bool → SeenBase
running_base at connections pending closed = record { at = at; idle = []; lent = []; connections = connections; pending = pending; closed = closed }

-- ONE CONNECTION, taken and kept

abbrev one_kept : List SeenRecord
one_kept = Admitted (ms 1) 0 ∷ Taken (ms 2) 0 0 ∷ Kept (ms 3) 0 ∷ []

one_kept-replays : replay small one_kept ≡ record (running_base (ms 3) 1 0 false) { idle = idle_connection 0 (ms 1) (ms 3) tt ∷ [] }
unfolding is_expired is_kept
one_kept-replays = refl

one_kept-legal : legal small one_kept ≡ true
unfolding is_expired is_kept
one_kept-legal = refl

one_lent-replays : replay small (Admitted (ms 1) 0 ∷ Taken (ms 2) 0 0 ∷ []) ≡ record (running_base (ms 2) 1 0 false) { lent = lent_connection 0 (ms 1) ∷ [] }
unfolding is_expired is_kept
one_lent-replays = refl

-- TWO CONNECTIONS, reaped when they were idle for a second, and closed

abbrev idling : LimitSettings
idling = limited 2 None None (Some (seconds 1))

abbrev two_reaped : List SeenRecord
two_reaped = Admitted 0 0 ∷ Admitted 0 1 ∷ Reaped (ms 1000) 2 ∷ []

two_reaped-replays : replay idling two_reaped ≡ running_base (ms 1000) 0 2 false
unfolding is_expired is_kept
two_reaped-replays = refl

two_closed-replays : folded idling (ClosedAll (ms 1001)) (replay idling two_reaped) ≡ running_base (ms 1001) 0 0 true
unfolding is_expired is_kept
two_closed-replays = refl

two_closed-legal : legal idling (Admitted 0 0 ∷ Admitted 0 1 ∷ Reaped (ms 1000) 2 ∷ ClosedAll (ms 1001) ∷ []) ≡ true
unfolding is_expired is_kept
two_closed-legal = refl

-- a reap closes those that came first and leaves the others; here it finds one of two
one_reaped-replays : replay idling (Admitted 0 0 ∷ Admitted 0 1 ∷ Taken (ms 400) 1 0 ∷ Kept (ms 500) 1 ∷ Reaped (ms 1000) 1 ∷ [])
    ≡ record (running_base (ms 1000) 1 1 false) { idle = idle_connection 1 0 (ms 500) tt ∷ [] }
unfolding is_expired is_kept
one_reaped-replays = refl

-- after a base: one is lent from before, and comes back
after_base-replays : replay_from pair (Kept (ms 7) 4 ∷ []) (record (running_base (ms 5) 1 1 false) { lent = lent_connection 4 (ms 2) ∷ [] }) ≡ record
    (running_base (ms 7) 1 1 false) { idle = idle_connection 4 (ms 2) (ms 7) tt ∷ [] }
unfolding is_expired is_kept
after_base-replays = refl

-- the oldest record of three is folded in, and the other two go on from there
one_folded : folded small (Admitted (ms 1) 0) (first_base small 0) ≡ record (running_base (ms 1) 1 0 false) { idle = idle_connection 0 (ms 1) (ms 1) tt ∷ [] }
unfolding is_expired is_kept
one_folded = refl

one_folded-replays : replay_from small (Taken (ms 2) 0 0 ∷ Kept (ms 3) 0 ∷ []) (folded small (Admitted (ms 1) 0) (first_base small 0)) ≡ replay small one_kept
unfolding is_expired is_kept
one_folded-replays = refl

-- where the oldest is lent first, the older of two is next
takes_the_oldest : legal (with_order lending.OldestFirst pair) (Admitted 0 0 ∷ Admitted 0 1 ∷ Taken 5 0 0 ∷ []) ≡ true
unfolding is_expired is_kept
takes_the_oldest = refl

-- the moment of a close counts too
falls_after_a_close : legal pair (Admitted (ms 2) 0 ∷ Taken (ms 3) 0 0 ∷ ClosedAll (ms 5) ∷ Closed (ms 4) 0 0 ∷ []) ≡ false
unfolding is_expired is_kept
falls_after_a_close = refl

-- NOT LEGAL

-- a moment that falls
falls : legal small (Admitted (ms 2) 0 ∷ Taken (ms 1) 0 0 ∷ []) ≡ false
unfolding is_expired is_kept
falls = refl

-- the older of two idle ones is taken
takes_the_older : legal pair (Admitted 0 0 ∷ Admitted 0 1 ∷ Taken 5 0 0 ∷ []) ≡ false
unfolding is_expired is_kept
takes_the_older = refl

-- a take orders more than there is room for, and less than is wanted
takes_and_orders : legal small (Admitted 0 0 ∷ Taken 5 0 1 ∷ []) ≡ false
unfolding is_expired is_kept
takes_and_orders = refl

takes_and_orders_too_few : legal (limited 2 (Some 1) None None) (Admitted 0 0 ∷ Taken 5 0 0 ∷ []) ≡ false
unfolding is_expired is_kept
takes_and_orders_too_few = refl

takes_and_orders_one : legal (limited 2 (Some 1) None None) (Admitted 0 0 ∷ Taken 5 0 1 ∷ []) ≡ true
unfolding is_expired is_kept
takes_and_orders_one = refl

-- one is ordered where one is idle, where there is no room, and two at once
orders_beside_idle : legal (limited 3 (Some 1) None None) (Admitted 0 0 ∷ Ordered 5 1 ∷ []) ≡ false
unfolding is_expired is_kept
orders_beside_idle = refl

orders_without_room : legal small (Ordered 5 1 ∷ []) ≡ false
unfolding is_expired is_kept
orders_without_room = refl

orders_two : legal (limited 3 (Some 0) None None) (Ordered 5 2 ∷ []) ≡ false
unfolding is_expired is_kept
orders_two = refl

orders_one : legal (limited 3 (Some 0) None None) (Ordered 5 1 ∷ []) ≡ true
unfolding is_expired is_kept
orders_one = refl

-- an id is admitted twice, or with no opening pending
admits_twice : copies_of 0 (known_in (first_base pair 0) (Admitted 0 0 ∷ Admitted 5 0 ∷ [])) ≡ 2
admits_twice = refl

admits_one_of_the_base : copies_of 4 (known_in (record (running_base 0 1 1 false) { lent = lent_connection 4 0 ∷ [] }) (Admitted 5 4 ∷ [])) ≡ 2
admits_one_of_the_base = refl

admits_unordered : legal small (Admitted 0 0 ∷ Admitted 5 1 ∷ []) ≡ false
unfolding is_expired is_kept
admits_unordered = refl

-- one is kept that is not lent, or is too old
keeps_an_idle_one : legal small (Admitted 0 0 ∷ Kept 5 0 ∷ []) ≡ false
unfolding is_expired is_kept
keeps_an_idle_one = refl

keeps_an_old_one : legal (limited 1 None (Some (seconds 1)) None) (Admitted 0 0 ∷ Taken 5 0 0 ∷ Kept (ms 1000) 0 ∷ []) ≡ false
unfolding is_expired is_kept
keeps_an_old_one = refl

keeps_a_younger_one : legal (limited 1 None (Some (seconds 1)) None) (Admitted 0 0 ∷ Taken 5 0 0 ∷ Kept (ms 999) 0 ∷ []) ≡ true
unfolding is_expired is_kept
keeps_a_younger_one = refl

-- one is closed that is idle, or with the wrong order
closes_an_idle_one : legal small (Admitted 0 0 ∷ Closed 5 0 1 ∷ []) ≡ false
unfolding is_expired is_kept
closes_an_idle_one = refl

closes_without_order : legal small (Admitted 0 0 ∷ Taken 5 0 0 ∷ Closed 6 0 0 ∷ []) ≡ false
unfolding is_expired is_kept
closes_without_order = refl

-- a reap that closes and orders nothing, or orders too few
reaps_nothing : legal idling (Admitted 0 0 ∷ Admitted 0 1 ∷ Reaped (ms 999) 0 ∷ []) ≡ false
unfolding is_expired is_kept
reaps_nothing = refl

reaps_and_orders_too_few : legal idling (Admitted 0 0 ∷ Admitted 0 1 ∷ Reaped (ms 1000) 1 ∷ []) ≡ false
unfolding is_expired is_kept
reaps_and_orders_too_few = refl

-- once closed there are closings of one alone, which order nothing
admits_once_closed : legal pair (Admitted 0 0 ∷ ClosedAll 6 ∷ Admitted 7 1 ∷ []) ≡ false
unfolding is_expired is_kept
admits_once_closed = refl

closes_twice : legal pair (ClosedAll 6 ∷ ClosedAll 7 ∷ []) ≡ false
unfolding is_expired is_kept
closes_twice = refl

closes_one_once_closed : legal pair (Admitted 0 0 ∷ Taken 5 0 0 ∷ ClosedAll 6 ∷ Closed 7 0 0 ∷ []) ≡ true
unfolding is_expired is_kept
closes_one_once_closed = refl

orders_once_closed : legal pair (Admitted 0 0 ∷ Taken 5 0 0 ∷ ClosedAll 6 ∷ Closed 7 0 1 ∷ []) ≡ false
unfolding is_expired is_kept
orders_once_closed = refl
