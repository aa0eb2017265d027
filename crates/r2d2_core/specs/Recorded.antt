-- Which record each step makes, by its answer. A step that is refused makes none, nor does one that
-- changes neither what is idle, lent, connected or pending nor whether the pool is closed.
use Rattle.std.specs.Prelude.{ℕ, Bool, ◌==◌, ◌&&◌, if◌then◌else◌, Option, Some, None, Result, Ok}
use Rattle.std.specs.Prelude.{Err}
use Rattle.pool_machine.specs.declared.machine.answers.Refusal.{Refusal}
use Rattle.pool_machine.specs.Seen.{SeenTake, Found, Empty, SeenReturned, SeenGone}
use Rattle.pool_machine.specs.Seen.{Kept as CameToBeIdle, Closed as CameToBeClosed}
use Rattle.r2d2_core.specs.Records.{SeenRecord, Taken, Ordered, Admitted, Kept, Closed, Reaped}
use Rattle.r2d2_core.specs.Records.{ClosedAll}

module _ {T : Type 0} where
  -- a take that found one, or that ordered one
  abbrev pub record_of_take : ℕ → SeenTake T → Option SeenRecord
  record_of_take at (Found id birth value n) = Some (Taken at id n)
  record_of_take at (Empty n) = if n == 0 then None else Some (Ordered at n)

  -- an admission of the id that was accepted
  abbrev pub record_of_admission : ℕ → ℕ → Result (Unit {0}) (Refusal × T) → Option SeenRecord
  record_of_admission at id (Ok done) = Some (Admitted at id)
  record_of_admission at id (Err back) = None

  -- a return of the id that was kept, or closed
  abbrev pub record_of_return : ℕ → ℕ → Result (SeenReturned T) (Refusal × T) → Option SeenRecord
  record_of_return at id (Ok CameToBeIdle) = Some (Kept at id)
  record_of_return at id (Ok (CameToBeClosed value age n)) = Some (Closed at id n)
  record_of_return at id (Err back) = None

-- a failed check of the id that was accepted
abbrev pub record_of_check : ℕ → ℕ → Result SeenGone Refusal → Option SeenRecord
record_of_check at id (Ok gone) = Some (Closed at id gone.ordered)
record_of_check at id (Err why) = None

-- a reap that closed so many and ordered so many, not both none
abbrev pub record_of_reap : ℕ → ℕ → ℕ → Option SeenRecord
record_of_reap at closed n = if (closed == 0) && (n == 0) then None else Some (Reaped at n)

-- a close of a pool that was not closed before
abbrev pub record_of_close : ℕ → Bool → Option SeenRecord
record_of_close at closed_before = if closed_before then None else Some (ClosedAll at)
