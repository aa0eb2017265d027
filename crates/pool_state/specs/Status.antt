-- What a pool promises of each status that it shows.
use Rattle.std.specs.Prelude.{◌≡◌, ◌↔◌, ◌<◌, ℕ, ◌+◌, ◌-◌, ◌^◌, min, List, length, not, ◌&&◌, Bool, false, nat_eq, nat_lt, Option, Some, None, IsSome}
use Rattle.pool_machine.specs.Sums.{FitsIn, IsReplenished}
use Rattle.pool_machine.specs.Picture.{Picture}
use Rattle.pool_state.specs.declared.status.Status.{Status}
use Rattle.pool_state.specs.declared.line.place.Place.{Place}
use Rattle.pool_state.specs.Waiting.{waiting_in}

pub record IsStatus (s : Status) : Type 0 where
  -- connections are the idle ones and the lent ones
  pub counted : s.connections ≡ s.idle + s.lent
  -- connections and those that are being opened are at most `max_size`
  pub fits : FitsIn s.max_size s.connections s.opening
  -- unless closed, what is idle and being opened reaches what is wanted, or there is no more room
  pub replenished : IsReplenished s.wanted s.max_size s.idle s.connections s.opening s.closed
  -- it is known since when somebody waits, exactly where somebody does
  pub since : IsSome s.waiting_since ↔ (0 < s.waiting)

-- nothing is idle, and something is to come back
abbrev pub is_all_lent : {T : Type 0} → Picture T → Bool
is_all_lent p = nat_eq (length p.idle) 0 && (nat_lt 0 p.connections && not p.on_order.closed)

-- nothing is idle, the pool is open, and as many wait as may
abbrev pub is_full : {T : Type 0} → Option ℕ → ℕ → Picture T → Bool
is_full None waiting p = false
is_full (Some most) waiting p = nat_eq (length p.idle) 0 && (not p.on_order.closed && not (nat_lt waiting most))

-- those who wait at the callers' variable, and those in line
abbrev pub all_who_wait : ℕ → List Place → ℕ
all_who_wait others places = min (others + waiting_in places) (2 ^ 64 - 1)
