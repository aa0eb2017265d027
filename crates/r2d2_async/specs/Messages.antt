-- What a timeout tells.
use Rattle.std.specs.Prelude.{◌≡◌, ℕ, List, Some, false, codes}
use Rattle.pool_state.specs.declared.status.Status.{Status}

-- nobody opens connections, of a pool that is open
pub record LacksWorkers (s : Status) : Type 0 where
  pub nobody : s.workers ≡ Some 0
  pub open_pool : s.closed ≡ false

-- that no worker is running, and what to do
abbrev pub no_worker : List ℕ
no_worker = codes "no worker is running: spawn what Pool::worker returns"
