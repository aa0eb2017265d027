-- What a contract sees of the events.
use Rattle.std.specs.declared.time.Duration.{Duration}
use Rattle.std.specs.Prelude.{ℕ}
use Rattle.pool_state.specs.declared.reason.ReleaseReason.{ReleaseReason}

-- a connection was opened
pub record Acquired : Type 0 where
  pub id : ℕ

-- a connection as old as this leaves the pool, for this reason
pub record Released : Type 0 where
  pub id : ℕ
  pub age : Duration
  pub reason : ReleaseReason

-- a connection was lent, to a caller who waited so long; or came back, after it was lent for so long
pub record Timed : Type 0 where
  pub id : ℕ
  pub duration : Duration

-- a caller waited so long in vain
pub record InVain : Type 0 where
  pub timeout : Duration
