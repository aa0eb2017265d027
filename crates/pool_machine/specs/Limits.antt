-- What the limits of a pool say. Lengths of time are compared in nanoseconds.
use Rattle.std.specs.Prelude.{ℕ, ◌+◌, ◌-◌, ◌*◌, ◌/◌, ◌^◌, ◌<◌, ◌≤◌, min, Bool, false, ◌||◌, nat_le}
use Rattle.std.specs.Prelude.{Option, Some, None, is_some, unwrap_or, if◌then◌else◌}
use Rattle.std.specs.Option.{ForSome}
use Rattle.std.specs.Duration.{as_nanos, max_nanos}
use Rattle.std.specs.declared.time.Duration.{Duration}
use Rattle.pool_machine.specs.declared.schedule.limits.Limits.{Limits}
use Rattle.pool_machine.specs.declared.schedule.limits.LimitSettings.{LimitSettings}
use Rattle.pool_machine.specs.declared.schedule.limits.LendingOrder.{LendingOrder}
use Rattle.pool_machine.specs.declared.schedule.limits.LendingOrder.TheVariants as lending

-- limits are settings that are legal
abbrev pub seen_limits : Limits → LimitSettings
seen_limits l = l.settings

-- limits that lend the newest first
abbrev pub settings : ℕ → Option ℕ → Option Duration → Option Duration → Duration → Duration
    → LimitSettings
settings size least life idle timeout every = record {
  max_size = size;
  min_idle = least;
  max_lifetime = life;
  idle_timeout = idle;
  connection_timeout = timeout;
  reap_every = every;
  order = lending.NewestFirst;
}

-- the same limits, lending in that order
abbrev pub with_order : LendingOrder → LimitSettings → LimitSettings
with_order order limits = record limits { order = order }

-- sizes and lengths are positive, and no more are wanted idle than there may be
pub record AreLegal (limits : LimitSettings) : Type 0 where
  pub has_size : 0 < limits.max_size
  pub idle_within : ForSome limits.min_idle (λ n. n ≤ limits.max_size)
  pub lives : ForSome limits.max_lifetime (λ d. 0 < as_nanos d)
  pub idles : ForSome limits.idle_timeout (λ d. 0 < as_nanos d)
  pub waits : 0 < as_nanos limits.connection_timeout
  pub reaps : 0 < as_nanos limits.reap_every

-- how many connections are wanted idle: `min_idle`, else `max_size`
abbrev pub wanted_of : LimitSettings → ℕ
wanted_of limits = unwrap_or limits.min_idle limits.max_size

-- what a top-up orders where so many are idle, connected and pending: what is wanted beside the
-- idle ones, as far as there is room; none once closed
abbrev pub top_up : LimitSettings → Bool → ℕ → ℕ → ℕ → ℕ
top_up limits closed idle connections pending =
    if closed then 0 else min (wanted_of limits - idle) (limits.max_size - connections - pending)

-- whether reaps are ever due: only where an age or an idle time is limited
abbrev pub has_reaps : LimitSettings → Bool
has_reaps limits = is_some limits.max_lifetime || is_some limits.idle_timeout

-- a length of time has reached a limit, where one is set; exactly the limit has reached it
abbrev pub has_reached : Option Duration → ℕ → Bool
has_reached None length = false
has_reached (Some limit) length = nat_le (as_nanos limit) length

-- a moment and a length of time after it, at most the greatest moment
abbrev pub later_by : ℕ → ℕ → ℕ
later_by moment length = min (moment + length) max_nanos

-- the k-th delay in a row of one opening: 200 ms doubled k times, at most half the connection
-- timeout
abbrev pub delay_of : LimitSettings → ℕ → ℕ
delay_of limits k = min (as_nanos limits.connection_timeout / 2) (200_000_000 * 2 ^ k)
