-- Who waits at the callers' variable of a pool, and who of them was woken.
use Rattle.std.specs.Prelude.{◌≡◌, ◌≤◌, ◌<◌, ℕ, ◌+◌, ◌-◌, ◌^◌, min, Bool, true, false, if◌then◌else◌, length, List, None}
use Rattle.pool_machine.specs.Limits.{wanted_of}
use Rattle.pool_machine.specs.Picture.{Picture}
use Rattle.pool_machine.specs.Seen.{SeenTake, Found, Empty, seen_take}
use Rattle.pool_state.specs.declared.line.place.Place.{Place}
use Rattle.pool_state.specs.declared.engine.Wakes.{Wakes}
use Rattle.pool_state.specs.declared.waiters.Wake.{Wake}
use Rattle.pool_state.specs.declared.waiters.Wake.TheVariants as wake
use Rattle.pool_state.specs.declared.waiters.Waiters.{Waiters}
use Rattle.pool_state.specs.declared.waiters.ToWake.{ToWake}
use Rattle.pool_state.specs.declared.state.looking.Turn.{Turn}
use Rattle.pool_state.specs.declared.state.looking.Turn.TheVariants as turn
use Rattle.std.specs.declared.time.Duration.{Duration}
use Rattle.pool_machine.specs.declared.machine.answers.Take.{Take}
use Rattle.r2d2_core.specs.Book.{SeenBook}
use Rattle.r2d2_core.specs.BookSteps.{IsTake}
use Rattle.pool_state.specs.Failed.{one_more}
use Rattle.pool_state.specs.Wakes.{wakes_of_take}
use Rattle.pool_state.specs.Waiting.{told_if, slot_if}

-- THE FACTS

-- Of the callers who wait as many were woken, or have an opening on order for them, as there are connections that are not lent: idle ones,
-- and those that there is room for. In a closed pool all were woken.
pub record NoneIsLost {T : Type 0} (p : Picture T) (callers woken : ℕ) : Type 0 where
  pub while_open : p.on_order.closed ≡ false
      → min (p.on_order.limits.max_size - length p.lent) callers ≤ woken + p.on_order.pending
  pub once_closed : p.on_order.closed ≡ true → callers ≤ woken
  pub within : woken ≤ callers

-- The maker of the pool sleeps only while fewer connections are there than are wanted, and a drain only while something is lent.
pub record OthersSleep {T : Type 0} (p : Picture T) (maker drain : Bool) : Type 0 where
  pub making : maker ≡ true → p.connections < wanted_of p.on_order.limits
  pub draining : drain ≡ true → 0 < length p.lent

-- Nobody waits at the callers' variable: no caller, no maker of a pool, no drain that sleeps there.
pub record NobodyWaits (w : Waiters) : Type 0 where
  pub callers : w.callers ≡ 0
  pub maker : w.maker_sleeps ≡ false
  pub drain : w.drain_sleeps ≡ false

-- WHAT A STEP SENDS

-- how many callers who were not woken a wake reaches, of so many
abbrev pub woken_by : Wake → ℕ → ℕ
woken_by wake.Nobody rest = 0
woken_by wake.One rest = 1
woken_by wake.All rest = rest

-- a wake that is due is sent: to all, where somebody sleeps who does not wait for a connection; else to a caller, unless each was woken
pub record IsSent (due : Bool) (sent : Wake) (old new : Waiters) : Type 0 where
  pub counted : new.woken ≡ old.woken + woken_by sent (old.callers - old.woken)
  pub enough : due ≡ true → min (old.woken + 1) old.callers ≤ new.woken
  pub nobody : due ≡ false → sent ≡ wake.Nobody
  pub to_maker : due ≡ true → old.maker_sleeps ≡ true → sent ≡ wake.All
  pub to_drains : due ≡ true → old.drain_sleeps ≡ true → sent ≡ wake.All

-- who sleeps still, and does not wait for a connection, slept before, and no wake was due
pub record SleepOnlyUndue (due : Bool) (old new : Waiters) : Type 0 where
  pub maker : new.maker_sleeps ≡ true → (due ≡ false) × (old.maker_sleeps ≡ true)
  pub drain : new.drain_sleeps ≡ true → (due ≡ false) × (old.drain_sleeps ≡ true)

-- as many wait as before, since the same moment
pub record WaitAsBefore (old new : Waiters) : Type 0 where
  pub callers : new.callers ≡ old.callers
  pub drains : new.drains ≡ old.drains
  pub since : new.since ≡ old.since

-- after a step that is to wake these, by the engine: who is told in line, and who is woken elsewhere
pub record AreWoken (due : Wakes) (to_wake : ToWake) (old new : Waiters) (before after : List Place) : Type 0 where
  pub callers : IsSent due.caller to_wake.callers old new
  pub workers : to_wake.workers ≡ due.workers
  pub told : to_wake.told ≡ slot_if due.caller before
  pub nobody_else : to_wake.all_in_line ≡ false
  pub line : after ≡ told_if due.caller before
  pub waits : WaitAsBefore old new
  pub sleepers : SleepOnlyUndue due.caller old new

-- HOW MANY WAIT

-- one more, after a look that found none in an open pool
abbrev pub waits_after : {T : Type 0} → SeenTake T → Bool → ℕ
waits_after (Found id birth value ordered) closed = 0
waits_after (Empty ordered) closed = if closed then 0 else 1

-- those at the callers' variable, with those who drain
abbrev pub count_of : Waiters → ℕ
count_of w = min (w.callers + w.drains) (2 ^ 64 - 1)

-- one caller more, or none
abbrev pub one_if : Bool → ℕ
one_if true = 1
one_if false = 0

-- one caller more waits, if it does, and somebody since this moment
abbrev pub waiting_if : Bool → Duration → Waiters → Waiters
waiting_if true since w = record w { callers = one_more w.callers; since = since }
waiting_if false since w = w

-- one that waited has the lock again, and took a wake, if one was sent
abbrev pub after_wait : Waiters → Waiters
after_wait w = record w { callers = w.callers - 1; woken = w.woken - 1 }

-- as many wait as before, and all were woken
pub record AllAreWoken (old new : Waiters) : Type 0 where
  pub woken : new.woken ≡ old.callers
  pub maker : new.maker_sleeps ≡ false
  pub drain : new.drain_sleeps ≡ false
  pub waits : WaitAsBefore old new

-- all are to be woken: at the callers' variable, in line, and the workers
pub record IsForAll (to_wake : ToWake) : Type 0 where
  pub callers : to_wake.callers ≡ wake.All
  pub workers : to_wake.workers ≡ true
  pub in_line : to_wake.all_in_line ≡ true
  pub nobody_told : to_wake.told ≡ None

-- one gave up: it waits no more, and the wake that it may have had is another's
pub record IsPassedOn (wake : Wake) (old new : Waiters) : Type 0 where
  pub callers : new.callers ≡ old.callers - 1
  pub sent : IsSent true wake (after_wait old) new

-- A LOOK

module _ {T : Type 0} where
  -- what a caller comes to, by a take that may order, and whether the pool is closed
  abbrev pub turn_after : SeenTake T → Bool → Turn T → Type 0
  turn_after (Found id birth value ordered) closed (turn.Found i v) = (i ≡ id) × (v ≡ value)
  turn_after (Found id birth value ordered) closed (turn.Waits w) = ⊥
  turn_after (Found id birth value ordered) closed turn.Closed = ⊥
  turn_after (Empty ordered) closed (turn.Found i v) = ⊥
  turn_after (Empty ordered) closed (turn.Waits w) = closed ≡ false
  turn_after (Empty ordered) closed turn.Closed = closed ≡ true

  abbrev pub waits_in : Turn T → Bool
  waits_in (turn.Found id value) = false
  waits_in (turn.Waits w) = true
  waits_in turn.Closed = false

  abbrev pub found_in_turn : Turn T → ℕ
  found_in_turn (turn.Found id value) = 1
  found_in_turn (turn.Waits w) = 0
  found_in_turn turn.Closed = 0

  -- who waits brings the moment with it
  abbrev pub IsTokenOf : Turn T → Duration → Type 0
  IsTokenOf (turn.Found id value) since = Unit {0}
  IsTokenOf (turn.Waits w) since = w.since ≡ since
  IsTokenOf turn.Closed since = Unit {0}

  -- a caller looks that may wait: the book makes a take that may order, and the workers are woken where it did
  pub record IsLook (now : Duration) (seen : Turn T) (to_workers : Bool) (old new : SeenBook T) : Type 0 where
    pub taken : Take T
    pub step : IsTake now true taken old new
    pub turn : turn_after (seen_take taken) new.picture.on_order.closed seen
    pub workers : to_workers ≡ (wakes_of_take (seen_take taken)).workers
