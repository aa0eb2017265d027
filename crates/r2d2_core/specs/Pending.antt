-- The openings of a history: ordered, scheduled, in work and numbered; its reaps, and what a worker
-- is to do.
use Rattle.std.specs.Prelude.{ℕ, ◌+◌, ◌-◌, ◌*◌, min, Bool, false, ◌==◌, ◌||◌, ◌&&◌, not}
use Rattle.std.specs.Prelude.{if◌then◌else◌, List, [], ◌∷◌, ◌++◌, map, length, filter, drop, Option}
use Rattle.std.specs.Prelude.{Some, None, Ok}
use Rattle.std.specs.List.{range_with_len}
use Rattle.std.specs.Duration.{as_nanos}
use Rattle.pool_machine.specs.declared.step.Step.{Step}
use Rattle.pool_machine.specs.declared.step.Step.TheVariants as step
use Rattle.pool_machine.specs.Limits.{wanted_of, later_by, has_reaps}
use Rattle.pool_machine.specs.Openings.{SeenOpening, opening, with_opening, with_many}
use Rattle.pool_machine.specs.Jobs.{SeenJob, Open, Reap, Closed as JobClosed, first_job}
use Rattle.pool_machine.specs.OnOrder.{SeenOnOrder}
use Rattle.pool_machine.specs.Seen.{SeenAnswer, Taken, Found, Empty, Begun, Numbered, Failed, PutBack}
use Rattle.pool_machine.specs.Seen.{Closed, Reaped, CheckFailed}
use Rattle.r2d2_core.specs.History.{History, Made, Then, limits_of, start_of, first_of, is_closed}
use Rattle.r2d2_core.specs.History.{moment_of}
use Rattle.r2d2_core.specs.Deeds.{admits, admitted_count}

module _ {T : Type 0} where
  -- PENDING

  -- how many openings an answer says that it ordered
  abbrev pub ordered_in : SeenAnswer T → ℕ
  ordered_in (Taken (Found id birth value ordered)) = ordered
  ordered_in (Taken (Empty ordered)) = ordered
  ordered_in (CheckFailed (Ok gone)) = gone.ordered
  ordered_in (PutBack (Ok (Closed value age ordered))) = ordered
  ordered_in (Reaped closed ordered) = ordered
  ordered_in _ = 0

  -- how many were ordered, at the making and since
  abbrev pub ordered_of : History T → ℕ
  ordered_of (Made limits moment first) = wanted_of limits
  ordered_of (Then h s r) = ordered_of h + ordered_in r

  -- how many openings are ordered and not admitted; until the close never more are admitted than
  -- were ordered
  unfoldable pub pending_of : History T → ℕ
  pending_of h = if is_closed h then 0 else ordered_of h - admitted_count h

  -- SCHEDULED

  abbrev pub scheduled_after : ℕ → List SeenOpening → Step T → SeenAnswer T → List SeenOpening
  scheduled_after t xs step.Close r = []
  scheduled_after t xs (step.Fail now tries text) (Failed (Ok due)) =
      with_opening (opening due (min (tries + 1) 99)) xs
  scheduled_after t xs (step.Begin now) (Begun (Open tries)) = drop 1 xs
  scheduled_after t xs s r = with_many (ordered_in r) (opening t 0) xs

  -- the openings made, less those handed out, each of which was the least one then; the least
  -- first. This one goes forward, with the list
  abbrev pub scheduled_of : History T → List SeenOpening
  scheduled_of (Made limits moment first) = with_many (wanted_of limits) (opening moment 0) []
  scheduled_of (Then h s r) = scheduled_after (moment_of h s) (scheduled_of h) s r

  -- IN WORK

  -- how often `begin` handed out an opening with these tries
  abbrev pub begun_of : History T → ℕ → ℕ
  begun_of (Made limits moment first) k = 0
  begun_of (Then h s (Begun (Open tries))) k = begun_of h k + (if tries == k then 1 else 0)
  begun_of (Then h s _) k = begun_of h k

  -- how often one with these tries was numbered or failed
  abbrev pub ended_of : History T → ℕ → ℕ
  ended_of (Made limits moment first) k = 0
  ended_of (Then h (step.Number tries) r) k = ended_of h k + (if tries == k then 1 else 0)
  ended_of (Then h (step.Fail now tries text) r) k = ended_of h k + (if tries == k then 1 else 0)
  ended_of (Then h _ r) k = ended_of h k

  -- how many openings with these tries are in work; never more ended than were begun
  unfoldable pub in_work_at : History T → ℕ → ℕ
  in_work_at h k = if is_closed h then 0 else begun_of h k - ended_of h k

  -- the same for each number of tries, of which there are 100: tries stay at 99 once there
  unfoldable pub in_work_of : History T → List ℕ
  in_work_of h = map (in_work_at h) (range_with_len 0 100)

  -- NUMBERED

  -- the ids that `number` answered
  abbrev pub ids_of : History T → List ℕ
  ids_of (Made limits moment first) = []
  ids_of (Then h s (Numbered (Ok id))) = ids_of h ++ id ∷ []
  ids_of (Then h s _) = ids_of h

  unfoldable pub next_id_of : History T → ℕ
  next_id_of h = first_of h + length (ids_of h)

  -- whether an id was admitted
  abbrev pub is_admitted : History T → ℕ → Bool
  is_admitted (Made limits moment first) i = false
  is_admitted (Then h s r) i = admits s i || is_admitted h i

  -- the ids that await their admission
  unfoldable pub numbered_of : History T → List ℕ
  numbered_of h = if is_closed h then [] else filter (λ i. not (is_admitted h i)) (ids_of h)

  -- REAPS

  -- how many reaps `begin` handed out
  abbrev pub reaps_of : History T → ℕ
  reaps_of (Made limits moment first) = 0
  reaps_of (Then h s (Begun Reap)) = reaps_of h + 1
  reaps_of (Then h s _) = reaps_of h

  -- when the next reap is due: the n-th is due n times the rate after the making
  unfoldable pub next_reap_of : History T → Option ℕ
  next_reap_of h =
      if not (is_closed h) && has_reaps (limits_of h)
      then Some (later_by (start_of h) (as_nanos (limits_of h).reap_every * (1 + reaps_of h)))
      else None

  -- what a worker is to do at a moment
  abbrev pub job_of : History T → ℕ → SeenJob
  job_of h t = if is_closed h then JobClosed else first_job t (scheduled_of h) (next_reap_of h)

  -- ALL OF IT

  unfoldable pub on_order_of : History T → SeenOnOrder
  on_order_of h = record {
    limits = limits_of h;
    scheduled = scheduled_of h;
    in_work = in_work_of h;
    numbered = numbered_of h;
    next_reap = next_reap_of h;
    next_id = next_id_of h;
    pending = pending_of h;
    closed = is_closed h;
  }
