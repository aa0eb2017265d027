-- What a call that wants a connection saw of the clock, with moments in nanoseconds.
use Rattle.std.specs.Prelude.{ℕ, ◌-◌, ◌^◌, min, max, Option, Some, None, unwrap_or}
use Rattle.pool_machine.specs.Limits.{later_by}

pub record SeenCallTime : Type 0 where
  -- the first reading
  pub start : Option ℕ
  -- the moment of the latest step
  pub step : ℕ
  -- the latest moment of all
  pub seen : ℕ
  -- how many more it may take, of a call that does not wait
  pub left : ℕ
  -- since when it was idle what the call took last, where it asked
  pub idle_since : Option ℕ

-- of a call that looked at the clock as it began, or did not
abbrev pub begun_at : Option ℕ → SeenCallTime
begun_at start = record {
  start = start;
  step = 0;
  seen = unwrap_or start 0;
  left = 2 ^ 32 - 1;
  idle_since = None;
}

-- after a reading that shows t: the first one is the start, and no moment falls
abbrev pub looked_at : ℕ → SeenCallTime → SeenCallTime
looked_at t c = record c { start = Some (unwrap_or c.start t); step = t; seen = max c.seen t }

-- when it began; before any reading, at zero
abbrev pub start_of : SeenCallTime → ℕ
start_of c = unwrap_or c.start c.seen

-- how long it has lasted
abbrev pub waited_of : SeenCallTime → ℕ
waited_of c = c.seen - start_of c

-- how much is left of a timeout, which counts from the start
abbrev pub left_of : ℕ → SeenCallTime → ℕ
left_of timeout c = later_by (start_of c) timeout - c.seen

-- of so many idle connections, how many it may still take; and after that it may take one less
abbrev pub may_still_take : ℕ → SeenCallTime → ℕ
may_still_take idle c = min c.left idle

abbrev pub with_one_less : ℕ → SeenCallTime → SeenCallTime
with_one_less idle c = record c { left = may_still_take idle c - 1 }
