-- Bases: what stood before the oldest of some records. They tell no payload. Moments are in
-- nanoseconds.
use Rattle.std.specs.Prelude.{◌≡◌, ℕ, ◌+◌, ◌≤◌, Bool, true, false, List, [], ◌++◌, length, map}
use Rattle.std.specs.Duration.{as_nanos}
use Rattle.std.specs.declared.time.Duration.{Duration}
use Rattle.std.specs.List.{All}
use Rattle.std.specs.List.Sorted.{IsNonDecreasingBy}
use Rattle.pool_machine.specs.declared.schedule.limits.LimitSettings.{LimitSettings}
use Rattle.pool_machine.specs.Limits.{wanted_of}
use Rattle.pool_machine.specs.Sums.{FitsIn}
use Rattle.pool_machine.specs.Ids.{copies_of}
use Rattle.pool_machine.specs.Connections.{SeenIdleConnection, SeenLentConnection, idle_connection}
use Rattle.pool_machine.specs.Connections.{lent_connection, id_of_idle, id_of_lent, since_of}

-- an idle connection without its payload
abbrev pub BareConnection : Type 0
BareConnection = SeenIdleConnection (Unit {0})

-- an idle connection as a report has it: id, birth, and since when it is idle
abbrev pub seen_bare : ℕ × Duration × Duration → BareConnection
seen_bare c = idle_connection c.0 (as_nanos c.1) (as_nanos c.2) tt

-- a lent one: id and birth
abbrev pub seen_lent : ℕ × Duration → SeenLentConnection
seen_lent c = lent_connection c.0 (as_nanos c.1)

pub record SeenBase : Type 0 where
  -- the moment up to which it tells
  pub at : ℕ
  -- the oldest first
  pub idle : List BareConnection
  -- in the order of the takes
  pub lent : List SeenLentConnection
  pub connections : ℕ
  pub pending : ℕ
  pub closed : Bool

-- a base of these parts, in their order
abbrev pub base_of : ℕ → List BareConnection → List SeenLentConnection → ℕ → ℕ → Bool → SeenBase
base_of at idle lent connections pending closed = record {
  at = at;
  idle = idle;
  lent = lent;
  connections = connections;
  pending = pending;
  closed = closed;
}

-- that of a pool just made, at a moment: what is wanted is pending
abbrev pub first_base : LimitSettings → ℕ → SeenBase
first_base limits now = base_of now [] [] 0 (wanted_of limits) false

-- the ids of all that is idle or lent in it
abbrev pub ids_in_base : SeenBase → List ℕ
ids_in_base b = map id_of_idle b.idle ++ map id_of_lent b.lent

-- what holds of each base of a pool with these limits
pub record IsLegalBase (limits : LimitSettings) (b : SeenBase) : Type 0 where
  -- no id stands twice
  pub apart : (i : ℕ) → copies_of i (ids_in_base b) ≤ 1
  -- connections are the idle ones and the lent ones; with the pending ones they are at most
  -- `max_size`
  pub counted : b.connections ≡ length b.idle + length b.lent
  pub fits : FitsIn limits.max_size b.connections b.pending
  -- the idle ones stand in the order in which they came to be idle, none after its moment
  pub is_sorted : IsNonDecreasingBy since_of b.idle
  pub seen : All (λ c. c.since ≤ b.at) b.idle
  -- each was admitted before
  pub born : All (λ c. c.birth ≤ c.since) b.idle
  pub born_lent : All (λ c. c.birth ≤ b.at) b.lent
  -- once closed, nothing is idle or pending
  pub none_idle : b.closed ≡ true → b.idle ≡ []
  pub none_pending : b.closed ≡ true → b.pending ≡ 0
