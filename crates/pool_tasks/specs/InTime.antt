-- No worker sleeps past what is due.
use Rattle.std.specs.Prelude.{◌≡◌, ◌≤◌, ℕ, [], Option, Some, None, IfSome, IsSomeAnd, MatchOption}
use Rattle.std.specs.List.{AllByRecursion}
use Rattle.std.specs.List.Sorted.{IsNonDecreasingBy}
use Rattle.std.specs.Duration.{as_nanos, max_nanos}
use Rattle.std.specs.declared.time.Duration.{Duration}
use Rattle.futures.specs.WaitList.{WaitList, value_of, IsQueued}
use Rattle.pool_machine.specs.declared.schedule.Job.{Job}
use Rattle.pool_machine.specs.declared.schedule.Job.TheVariants as job
use Rattle.pool_machine.specs.OnOrder.{SeenOnOrder}

-- no opening and no reap is due before this moment
abbrev pub NoneIsDueBefore : ℕ → SeenOnOrder → Type 0
NoneIsDueBefore moment o =
    AllByRecursion (λ x. moment ≤ x.due) o.scheduled × IfSome o.next_reap (λ reap. moment ≤ reap)

-- who sleeps until then sleeps past nothing that is due; who sleeps for good, where nothing ever is
abbrev pub IsInTime : Option Duration → SeenOnOrder → Type 0
IsInTime until o = MatchOption until ((o.scheduled ≡ []) × (o.next_reap ≡ None))
    (λ moment. NoneIsDueBefore (as_nanos moment) o)

-- each worker that sleeps: the value of its key is the moment until which it does, None for good
abbrev pub AreInTime : SeenOnOrder → WaitList (Option Duration) → Type 0
AreInTime o workers =
    (key : ℕ) → IsQueued workers key → IsSomeAnd (value_of workers key) (λ until. IsInTime until o)

-- a worker that is to wait is told a moment at which it is in time
abbrev pub IsTimely : Job → SeenOnOrder → Type 0
IsTimely (job.Wait due) o = IsInTime (Some due) o
IsTimely job.Nothing o = IsInTime None o
IsTimely (job.Open tries) o = Unit {0}
IsTimely job.Reap o = Unit {0}
IsTimely job.Closed o = Unit {0}

-- the openings stand in the order of their moments, and the next reap is at one that a Duration holds
pub record IsInOrder (o : SeenOnOrder) : Type 0 where
  pub openings : IsNonDecreasingBy (λ x. x.due) o.scheduled
  pub reap : IfSome o.next_reap (λ reap. reap ≤ max_nanos)
