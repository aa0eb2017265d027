-- Which idle connections expire, where births don't matter.
use Rattle.std.proofs.Common.{◌≡◌, ℕ, ◌-◌, ◌≤◌, Bool, true, false, ◌||◌, Option, Some, None, refl, arith}
use Rattle.std.specs.declared.time.Duration.{Duration}
use Rattle.std.proofs.lemmas.Bool.Decides.{nat_tests}
use Rattle.pool_machine.specs.declared.schedule.limits.LimitSettings.{LimitSettings}
use Rattle.pool_machine.specs.Limits.{has_reached}
use Rattle.pool_machine.specs.Connections.{SeenIdleConnection, since_of, is_expired}
use Rattle.pool_machine.proofs.Lists.Turning.{IsForEarlier}

reached_earlier : (limit : Option Duration) (now a b : ℕ) → a ≤ b → has_reached limit (now - b) ≡ true → has_reached limit (now - a) ≡ true
reached_earlier None now a b le is = is
reached_earlier (Some limit) now a b le is = grind (arith, nat_tests)

or_none : (b : Bool) → (b || false) ≡ b
or_none true = refl
or_none false = refl

module _ {T : Type 0} where
  by_idle_time : (limits : LimitSettings) (now : ℕ) (c : SeenIdleConnection T) → limits.max_lifetime ≡ None
      → is_expired limits now c ≡ has_reached limits.idle_timeout (now - c.since)
  unfolding is_expired
  by_idle_time limits now c none = rw none (or_none (has_reached limits.idle_timeout (now - c.since)))

  -- who is idle for longer expires first
  pub expires_earlier : (limits : LimitSettings) (now : ℕ) → limits.max_lifetime ≡ None → IsForEarlier since_of (is_expired {T = T} limits now)
  expires_earlier limits now none = record {
    holds = λ a b le is. rw (by_idle_time limits now a none) (reached_earlier limits.idle_timeout now a.since b.since le
        (rw (← by_idle_time limits now b none) is));
  }

  -- where nothing is limited none expires
  pub never_expires : (limits : LimitSettings) (now : ℕ) → limits.max_lifetime ≡ None → limits.idle_timeout ≡ None → (c : SeenIdleConnection T)
      → is_expired limits now c ≡ false
  never_expires limits now none idle c = rw (by_idle_time limits now c none, idle) refl
