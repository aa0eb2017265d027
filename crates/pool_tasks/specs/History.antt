-- What the calls of tasks add to the history of the line.
use Rattle.std.specs.Prelude.{ℕ, zero, suc, Bool, true, false, List, Option, Some, None, Vec, is_some}
use Rattle.std.specs.declared.time.Duration.{Duration}
use Rattle.futures.specs.declared.task.Poll.{Poll}
use Rattle.futures.specs.declared.task.Poll.TheVariants.{Ready, Pending}
use Rattle.futures.specs.declared.task.waker.Waker.{Waker}
use Rattle.pool_state.specs.declared.line.place.Place.{Place}
use Rattle.pool_state.specs.Waiting.{first_late, told_instead, passed_late}
use Rattle.pool_state.specs.Order.{Event, with_told, with_wait, with_pass, with_leave, with_look}
use Rattle.pool_tasks.specs.declared.task_book.Looked.{Looked}
use Rattle.pool_tasks.specs.declared.task_book.Looked.TheVariants as look
use Rattle.pool_tasks.specs.Wakers.{waker_at}

-- the caller at this place sleeps there
abbrev pub is_asleep : {A : Type 0} → Vec (Option Waker) A → Option ℕ → Bool
is_asleep wakers None = false
is_asleep wakers (Some slot) = is_some (waker_at wakers slot)

module _ {T : Type 0} where
  -- one poll: it takes, or leaves a closed pool, or finds no room; it sleeps on, or looks in vain and waits
  abbrev pub with_poll : Poll (Looked T) → Bool → Bool → Option ℕ → Option ℕ → ℕ → Option ℕ → List Event → List Event
  with_poll (Ready (look.Found id payload since)) asleep keeps old new idle told h = with_look true keeps old new idle h
  with_poll (Ready look.Closed) asleep keeps old new idle told h = with_told told (with_leave old h)
  with_poll (Ready look.Full) asleep keeps old new idle told h = with_wait old new h
  with_poll Pending true keeps old new idle told h = h
  with_poll Pending false keeps old new idle told h = with_wait old new h

-- the first late one is passed, if one is late, and the next one told
abbrev pub with_late : ℕ → List Duration → List Place → List Event → List Event
with_late t ends ps h = with_told (told_instead (first_late t ends ps) ps) (with_pass (first_late t ends ps) h)

-- the same, once that was done so many times
abbrev pub with_all_late : ℕ → ℕ → List Duration → List Place → List Event → List Event
with_all_late zero t ends ps h = h
with_all_late (suc n) t ends ps h = with_late t ends (passed_late n t ends ps) (with_all_late n t ends ps h)
