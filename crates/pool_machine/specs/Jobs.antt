-- What a worker is to do.
use Rattle.std.specs.Prelude.{ℕ, if◌then◌else◌, nat_le, List, [], ◌∷◌, Option, Some, None}
use Rattle.std.specs.Duration.{as_nanos}
use Rattle.pool_machine.specs.declared.schedule.Job.{Job}
use Rattle.pool_machine.specs.declared.schedule.Job.TheVariants as job
use Rattle.pool_machine.specs.Openings.{SeenOpening}

-- a `Job`, with its moment in nanoseconds
pub data SeenJob : Type 0 where
  Open : (tries : ℕ) → SeenJob
  Reap : SeenJob
  Wait : (due : ℕ) → SeenJob
  Nothing : SeenJob
  Closed : SeenJob

abbrev pub seen_job : Job → SeenJob
seen_job (job.Open tries) = Open tries
seen_job job.Reap = Reap
seen_job (job.Wait due) = Wait (as_nanos due)
seen_job job.Nothing = Nothing
seen_job job.Closed = Closed

-- a job is handed out once it is due, and until then the worker is to wait for it
abbrev pub once_due : ℕ → ℕ → SeenJob → SeenJob
once_due now due job = if nat_le due now then job else Wait due

-- the least opening or the next reap, whichever is due first; at one moment the opening comes first
abbrev pub first_job : ℕ → List SeenOpening → Option ℕ → SeenJob
first_job now [] None = Nothing
first_job now [] (Some reap) = once_due now reap Reap
first_job now (x ∷ xs) None = once_due now x.due (Open x.tries)
first_job now (x ∷ xs) (Some reap) =
    if nat_le x.due reap then once_due now x.due (Open x.tries) else once_due now reap Reap
