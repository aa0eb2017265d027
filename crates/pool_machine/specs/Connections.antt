-- Connections. Moments and ages are in nanoseconds.
use Rattle.std.specs.Prelude.{ℕ, ◌-◌, Bool, not, ◌||◌, List, map, filter, Option, option_map}
use Rattle.pool_machine.specs.declared.schedule.limits.LimitSettings.{LimitSettings}
use Rattle.pool_machine.specs.Limits.{has_reached}
use Rattle.pool_machine.specs.Ids.{found}

-- one that is idle: when it was admitted, since when it is idle, and what was handed in then
pub record SeenIdleConnection (T : Type 0) : Type 0 where
  pub id : ℕ
  pub birth : ℕ
  pub since : ℕ
  pub value : T

-- one that is lent
pub record SeenLentConnection : Type 0 where
  pub id : ℕ
  pub birth : ℕ

-- one that a reap closed
pub record SeenReleased (T : Type 0) : Type 0 where
  pub id : ℕ
  pub age : ℕ
  pub value : T

abbrev pub lent_connection : ℕ → ℕ → SeenLentConnection
lent_connection id birth = record { id = id; birth = birth }

abbrev pub id_of_lent : SeenLentConnection → ℕ
id_of_lent c = c.id

-- the birth of the lent one with the id
abbrev pub birth_in : ℕ → List SeenLentConnection → Option ℕ
birth_in i lent = option_map (λ c. c.birth) (found id_of_lent i lent)

module _ {T : Type 0} where
  abbrev pub idle_connection : ℕ → ℕ → ℕ → T → SeenIdleConnection T
  idle_connection id birth since value =
      record { id = id; birth = birth; since = since; value = value }

  abbrev pub id_of_idle : SeenIdleConnection T → ℕ
  id_of_idle c = c.id

  abbrev pub since_of : SeenIdleConnection T → ℕ
  since_of c = c.since

  abbrev pub pair_of : SeenIdleConnection T → ℕ × T
  pair_of c = (c.id, c.value)

  -- a reap at the moment closes it: it is idle too long, or too old
  unfoldable pub is_expired : LimitSettings → ℕ → SeenIdleConnection T → Bool
  is_expired limits now c = has_reached limits.idle_timeout (now - c.since)
      || has_reached limits.max_lifetime (now - c.birth)

  -- or keeps it
  unfoldable pub is_kept : LimitSettings → ℕ → SeenIdleConnection T → Bool
  is_kept limits now c = not (is_expired limits now c)

  -- what a reap at the moment hands out of it
  unfoldable pub released_at : ℕ → SeenIdleConnection T → SeenReleased T
  released_at now c = record { id = c.id; age = now - c.birth; value = c.value }

  -- what a reap at the moment closes of a list
  abbrev pub closed_of : LimitSettings → ℕ → List (SeenIdleConnection T) → List (SeenReleased T)
  closed_of limits now idle = map (released_at now) (filter (is_expired limits now) idle)
