-- Whom the pool wakes after a step, read off the step's answer: one waiting caller where a connection came in, or there is room to order
-- one; all waiting workers where something is due.
use Rattle.std.specs.Prelude.{ℕ, nat_lt, Bool, true, false, Result, Ok, Err}
use Rattle.pool_machine.specs.declared.machine.answers.Refusal.{Refusal}
use Rattle.pool_machine.specs.Seen.{SeenTake, Found, Empty, SeenReturned, Kept, Closed}
use Rattle.pool_state.specs.declared.engine.Wakes.{Wakes}

abbrev pub wakes : Bool → Bool → Wakes
wakes caller workers = record { caller = caller; workers = workers }

-- at least one
abbrev pub is_some_number : ℕ → Bool
is_some_number n = nat_lt 0 n

abbrev pub nobody : Wakes
nobody = wakes false false

-- the workers, where openings were ordered
abbrev pub workers_for : ℕ → Wakes
workers_for n = wakes false (is_some_number n)

-- a caller, since there may be room for another connection; and the workers, where openings were ordered
abbrev pub caller_and_workers_for : ℕ → Wakes
caller_and_workers_for n = wakes true (is_some_number n)

module _ {T : Type 0} where
  -- after a take, that found or not, the workers where it ordered
  abbrev pub wakes_of_take : SeenTake T → Wakes
  wakes_of_take (Found id birth value n) = workers_for n
  wakes_of_take (Empty n) = workers_for n

  -- after a return that was kept, a caller; after one that was closed, a caller, and the workers where it ordered
  abbrev pub wakes_of_return : Result (SeenReturned T) (Refusal × T) → Wakes
  wakes_of_return (Ok Kept) = wakes true false
  wakes_of_return (Ok (Closed value age n)) = caller_and_workers_for n
  wakes_of_return (Err back) = nobody

-- after a reap that closed so many and ordered so many, a caller where it closed one, and the workers where it ordered
abbrev pub wakes_of_reap : ℕ → ℕ → Wakes
wakes_of_reap closed ordered = wakes (is_some_number closed) (is_some_number ordered)
