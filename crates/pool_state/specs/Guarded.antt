-- What contracts see of what the lock of a pool guards.
use Rattle.std.specs.Prelude.{◌≡◌, ◌≤◌, ℕ, ◌+◌, ◌-◌, min, false, List, length}
use Rattle.std.specs.declared.time.Duration.{Duration}
use Rattle.r2d2_core.specs.Book.{SeenBook}
use Rattle.pool_machine.specs.Picture.{Picture}
use Rattle.pool_state.specs.declared.failures.Failures.{Failures}
use Rattle.pool_state.specs.declared.line.place.Place.{Place}
use Rattle.pool_state.specs.declared.waiters.Waiters.{Waiters}
use Rattle.pool_state.specs.Waiting.{AreTold, told_in, waiting_in}
use Rattle.pool_state.specs.Waits.{NoneIsLost, OthersSleep}

-- the book, what counts its takes, who stands in line, how many openings those are yet to order, who waits elsewhere, the least id that no
-- eviction has reached, until when nobody looks again before it waits, and what failed
pub record SeenState (T : Type 0) (C : Type 0) : Type 0 where
  pub book : SeenBook T
  pub total : C
  pub places : List Place
  pub owed : ℕ
  pub waiting : Waiters
  pub evicted_below : ℕ
  pub hurried_until : Duration
  pub failures : Failures

abbrev pub seen_state : {T C : Type 0} → SeenBook T → C → List Place → ℕ → Waiters → ℕ → Duration → Failures → SeenState T C
seen_state book total places owed waiting evicted hurried failures = record {
  book = book;
  total = total;
  places = places;
  owed = owed;
  waiting = waiting;
  evicted_below = evicted;
  hurried_until = hurried;
  failures = failures;
}

-- Of the callers in line as many were told to look, or have an opening on order or owed, as there are connections that are not lent: idle
-- ones, and those that there is room for. (In a closed pool all who wait are woken, and look.)
abbrev pub NoneInLineIsLost : {T : Type 0} → Picture T → List Place → ℕ → Type 0
NoneInLineIsLost p places owed =
    p.on_order.closed ≡ false → min (p.on_order.limits.max_size - length p.lent) (waiting_in places) ≤ told_in places + owed + p.on_order.pending

-- of those in line the first ones, as many as connections are idle, were told to look; no wake is lost, there or elsewhere
pub record IsKeptFor {T : Type 0} (p : Picture T) (places : List Place) (owed : ℕ) (waiting : Waiters) : Type 0 where
  pub told : AreTold (length p.idle) places
  pub in_line : NoneInLineIsLost p places owed
  pub none_lost : NoneIsLost p waiting.callers waiting.woken
  pub others : OthersSleep p waiting.maker_sleeps waiting.drain_sleeps
