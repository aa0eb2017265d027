-- Why a connection leaves its pool.
use Rattle.std.specs.Prelude.{Bool, Option, Some, None, if◌then◌else◌}
use Rattle.pool_state.specs.declared.reason.ReleaseReason.{ReleaseReason}
use Rattle.pool_state.specs.declared.reason.ReleaseReason.TheVariants as reason

-- why a return was closed: it was unfit for that reason; else it was evicted, or the pool is closed; else it was too old
abbrev pub reason_of_return : Option ReleaseReason → Bool → Bool → ReleaseReason
reason_of_return (Some why) evicted closed = why
reason_of_return None evicted closed = if evicted then reason.Evicted else if closed then reason.PoolClosed else reason.Lifetime

-- why a reap closed a connection: it was too old, or else idle for too long
abbrev pub reason_of_reap : Bool → ReleaseReason
reason_of_reap too_old = if too_old then reason.Lifetime else reason.Idle
