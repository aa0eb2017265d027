-- Limits want no more idle ones than there may be.
use Rattle.std.proofs.Common.{ℕ, ◌≤◌, Option, Some, None, refl, arith}
use Rattle.std.specs.Prelude.{unwrap_or}
use Rattle.std.specs.Option.{ForSome}
use Rattle.pool_machine.specs.declared.schedule.limits.Limits.{Limits}
use Rattle.pool_machine.specs.Limits.{seen_limits, wanted_of}

wanted_within : (size : ℕ) (least : Option ℕ) → ForSome least (λ n. n ≤ size) → unwrap_or least size ≤ size
wanted_within size None within = omega arith
wanted_within size (Some n) within = within n refl

pub legal : (limits : Limits) → wanted_of (seen_limits limits) ≤ (seen_limits limits).max_size
legal limits = wanted_within limits.settings.max_size limits.settings.min_idle limits.idle_within
