-- The settings that r2d2 has not.
use Rattle.std.specs.Prelude.{◌≡◌, ℕ, Bool, false, if◌then◌else◌, Option, Some, None}
use Rattle.pool_state.specs.declared.tuning.Tuning.{Tuning}

-- each is off
pub record IsOff (tuning : Tuning) : Type 0 where
  pub test_if_idle_for : tuning.test_if_idle_for ≡ None
  pub evict_idle_on_failed_check : tuning.evict_idle_on_failed_check ≡ false
  pub max_retry_delay : tuning.max_retry_delay ≡ None
  pub lifetime_jitter : tuning.lifetime_jitter ≡ None
  pub max_waiting : tuning.max_waiting ≡ None
  pub in_line : tuning.in_line ≡ false

-- how many callers a line has room for, where they wait in line
abbrev pub room_in_line : Option ℕ → Bool → ℕ
room_in_line None in_line = 0
room_in_line (Some callers) in_line = if in_line then callers else 0
