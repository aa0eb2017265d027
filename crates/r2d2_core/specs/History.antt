-- What happened to a core: how it was made, and which steps were accepted. Each definition looks
-- back.
use Rattle.std.specs.Prelude.{ℕ, max, Bool, true, false}
use Rattle.std.specs.Duration.{as_nanos}
use Rattle.pool_machine.specs.declared.step.Step.{Step}
use Rattle.pool_machine.specs.declared.step.Step.TheVariants as step
use Rattle.pool_machine.specs.declared.schedule.limits.LimitSettings.{LimitSettings}
use Rattle.pool_machine.specs.Seen.{SeenAnswer}

-- A core was made, with limits, at a moment, its ids counted from a first one; then came accepted
-- steps, each with its answer.
pub data History (T : Type 0) : Type 0 where
  Made : (limits : LimitSettings) (moment first : ℕ) → History T
  Then : (before : History T) (step : Step T) (reply : SeenAnswer T) → History T

module _ {T : Type 0} where
  abbrev pub limits_of : History T → LimitSettings
  limits_of (Made limits moment first) = limits
  limits_of (Then h s r) = limits_of h

  -- the moment of the making
  abbrev pub start_of : History T → ℕ
  start_of (Made limits moment first) = moment
  start_of (Then h s r) = start_of h

  -- the first id
  abbrev pub first_of : History T → ℕ
  first_of (Made limits moment first) = first
  first_of (Then h s r) = first_of h

  -- whether there was a close
  abbrev pub is_closed : History T → Bool
  is_closed (Made limits moment first) = false
  is_closed (Then h step.Close r) = true
  is_closed (Then h _ r) = is_closed h

  -- MOMENTS

  -- the later of the latest moment and that of a step, where it hands one in
  abbrev pub raised : ℕ → Step T → ℕ
  raised latest (step.Take now or_order) = max latest (as_nanos now)
  raised latest (step.Begin now) = max latest (as_nanos now)
  raised latest (step.Admit now id value) = max latest (as_nanos now)
  raised latest (step.Fail now tries text) = max latest (as_nanos now)
  raised latest (step.FailCheck now id text) = max latest (as_nanos now)
  raised latest (step.PutBack now id value broken) = max latest (as_nanos now)
  raised latest (step.Reap now) = max latest (as_nanos now)
  raised latest _ = latest

  -- the latest moment: of the making, and of each accepted step
  abbrev pub now_of : History T → ℕ
  now_of (Made limits moment first) = moment
  now_of (Then h s r) = raised (now_of h) s

  -- the raised moment of a step after h
  abbrev pub moment_of : History T → Step T → ℕ
  moment_of h s = raised (now_of h) s
