-- How many left a pool, by the reason.
use Rattle.std.specs.Prelude.{ℕ, ◌+◌}
use Rattle.pool_state.specs.declared.reason.ReleaseReason.{ReleaseReason}
use Rattle.pool_state.specs.declared.reason.ReleaseReason.TheVariants as reason
use Rattle.pool_metrics.specs.declared.closings.Closings.{Closings}

abbrev pub count_for : ReleaseReason → Closings → ℕ
count_for reason.Broken closed = closed.broken
count_for reason.CheckFailed closed = closed.check_failed
count_for reason.Distrusted closed = closed.distrusted
count_for reason.Lifetime closed = closed.lifetime
count_for reason.Idle closed = closed.idle
count_for reason.Evicted closed = closed.evicted
count_for reason.Detached closed = closed.detached
count_for reason.PoolClosed closed = closed.pool_closed

abbrev pub total_of : Closings → ℕ
total_of closed = closed.broken + closed.check_failed + closed.distrusted + closed.lifetime + closed.idle + closed.evicted + closed.detached + closed.pool_closed
