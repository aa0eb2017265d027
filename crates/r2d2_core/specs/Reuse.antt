-- Newest-first and oldest-first beside any other choice of the connection to lend. Three idle lists
-- start alike and live through the same moves. Of a connection they hold the moment since which it
-- is idle, the oldest first. Moments are in nanoseconds.
use Rattle.std.specs.Prelude.{ℕ, ◌-◌, ◌≤◌, max, nat_le, nat_lt, if◌then◌else◌, List, [], ◌∷◌, ◌++◌}
use Rattle.std.specs.Prelude.{length, map, remove, count_by, slice_index_or, Option, Some}
use Rattle.std.specs.Prelude.{None, option_and_then}
use Rattle.std.specs.List.Sorted.{IsNonDecreasingBy}
use Rattle.std.specs.Duration.{as_nanos}
use Rattle.std.specs.declared.time.Duration.{Duration}
use Rattle.r2d2_core.specs.declared.reuse.Move.{Move}
use Rattle.r2d2_core.specs.declared.reuse.Move.TheVariants as move
use Rattle.pool_machine.specs.declared.schedule.limits.LendingOrder.{LendingOrder}
use Rattle.pool_machine.specs.declared.schedule.limits.LendingOrder.TheVariants as lending
use Rattle.pool_machine.specs.Lending.{still_idle}
use Rattle.pool_machine.specs.Limits.{has_reached}

-- each moment is at most every one after it
pub record IsSorted (idle : List Duration) : Type 0 where
  pub never_falls : IsNonDecreasingBy as_nanos idle

-- RAISED MOMENTS: each counts as the latest one seen so far

-- the latest moment before all moves: the last of the list
abbrev pub first_seen : List ℕ → ℕ
first_seen idle = slice_index_or idle (length idle - 1) 0

-- the moment that a move hands in
abbrev pub moment_in : Move → ℕ
moment_in (move.Take at) = as_nanos at
moment_in (move.Add at) = as_nanos at

-- the latest moment after some moves
abbrev pub last_seen : ℕ → List Move → ℕ
last_seen seen [] = seen
last_seen seen (step ∷ steps) = last_seen (max seen (moment_in step)) steps

-- TWO LISTS: one that lends in either order

-- what a move at a raised moment makes of it: a take removes the one that is lent next, if there is
-- one; an add appends the moment
abbrev pub order_after : LendingOrder → ℕ → List ℕ → Move → List ℕ
order_after order moment kept (move.Take at) = still_idle order kept
order_after order moment kept (move.Add at) = kept ++ moment ∷ []

-- what some moves leave of it
abbrev pub order_left : LendingOrder → ℕ → List ℕ → List Move → List ℕ
order_left order seen kept [] = kept
order_left order seen kept (step ∷ steps) =
    order_left order (max seen (moment_in step))
    (order_after order (max seen (moment_in step)) kept step) steps

-- THE THIRD LIST: the choice by picks

-- the list, with the picks that are left
pub record Picked : Type 0 where
  pub kept : List ℕ
  pub picks : List ℕ

abbrev pub picked : List ℕ → List ℕ → Picked
picked kept picks = record { kept = kept; picks = picks }

-- what a take makes of it: it removes the place that the next pick names, counted from 0; an empty
-- list stays, and uses no pick; none where no pick is left, or where it names no place
abbrev pub after_pick : List ℕ → List ℕ → Option Picked
after_pick [] picks = Some (picked [] picks)
after_pick (first ∷ rest) [] = None
after_pick (first ∷ rest) (pick ∷ picks) = if nat_lt pick (length (first ∷ rest))
    then Some (picked (remove (first ∷ rest) pick) picks) else None

-- what a move at a raised moment makes of it: a take as above; an add appends the moment
abbrev pub other_after : ℕ → Picked → Move → Option Picked
other_after moment other (move.Take at) = after_pick other.kept other.picks
other_after moment other (move.Add at) = Some (picked (other.kept ++ moment ∷ []) other.picks)

-- what some moves leave of it, if the picks serve
abbrev pub other_left : ℕ → Picked → List Move → Option (List ℕ)
other_left seen other [] = Some other.kept
other_left seen other (step ∷ steps) =
    option_and_then (λ after. other_left (max seen (moment_in step)) after steps)
    (other_after (max seen (moment_in step)) other step)

-- WHAT IS COMPARED: each list starts as `idle`

-- the moments since which the connections are idle
abbrev pub moments_of : List Duration → List ℕ
moments_of idle = map as_nanos idle

-- what all moves leave of a list that lends in an order
abbrev pub order_list : LendingOrder → List Duration → List Move → List ℕ
order_list order idle moves =
    order_left order (first_seen (moments_of idle)) (moments_of idle) moves

abbrev pub newest_list : List Duration → List Move → List ℕ
newest_list idle moves = order_list lending.NewestFirst idle moves

abbrev pub oldest_list : List Duration → List Move → List ℕ
oldest_list idle moves = order_list lending.OldestFirst idle moves

-- what all moves leave of the list that lends by picks, if the picks serve
abbrev pub other_list : List Duration → List Move → List ℕ → Option (List ℕ)
other_list idle moves picks =
    other_left (first_seen (moments_of idle)) (picked (moments_of idle) picks) moves

-- the moment at which the expired ones are counted: `now`, raised as well
abbrev pub raised_now : List Duration → List Move → Duration → ℕ
raised_now idle moves now = max (last_seen (first_seen (moments_of idle)) moves) (as_nanos now)

-- how many of the moments are expired at a moment: the time since then has reached the limit
abbrev pub expired : ℕ → Duration → List ℕ → ℕ
expired now limit moments = count_by (λ moment. has_reached (Some limit) (now - moment)) moments

-- THE REASON: what is expired is what is not after a threshold, the moment less the limit; and at
-- each threshold newest-first has at least as many as the choice by picks, and that at least as
-- many as oldest-first

-- how many of the moments are not after x
abbrev pub not_after : ℕ → List ℕ → ℕ
not_after x moments = count_by (λ moment. nat_le moment x) moments

-- for each moment x, the first list has at least as many moments not after x as the second
abbrev pub IsNeverBehind : List ℕ → List ℕ → Type 0
IsNeverBehind ahead behind = (x : ℕ) → not_after x behind ≤ not_after x ahead

-- the third list is never behind the first, nor ahead of the second
abbrev pub IsBetween : List ℕ → List ℕ → List ℕ → Type 0
IsBetween oldest newest other = IsNeverBehind other oldest × IsNeverBehind newest other
