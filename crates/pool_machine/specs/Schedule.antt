-- What a schedule holds: openings in order and the next reap. Moments and lengths are in
-- nanoseconds.
use Rattle.std.specs.Prelude.{ℕ, Bool, if◌then◌else◌, nat_lt, false, List, [], drop, Option, Some}
use Rattle.std.specs.Prelude.{None}
use Rattle.std.specs.Option.{option_map}
use Rattle.std.specs.declared.time.Duration.{Duration}
use Rattle.std.specs.Duration.{as_nanos}
use Rattle.pool_machine.specs.declared.schedule.limits.LimitSettings.{LimitSettings}
use Rattle.pool_machine.specs.Limits.{later_by, has_reaps}
use Rattle.pool_machine.specs.Openings.{SeenOpening, with_opening}
use Rattle.pool_machine.specs.Jobs.{SeenJob, Open, Reap, Wait, Nothing, Closed}

pub record SeenSchedule : Type 0 where
  pub max_size : ℕ
  pub reap_every : ℕ
  pub openings : List SeenOpening
  pub next_reap : Option ℕ

-- the first reap, where reaps are ever due
abbrev pub first_reap : LimitSettings → ℕ → Option ℕ
first_reap limits now =
    if has_reaps limits then Some (later_by now (as_nanos limits.reap_every)) else None

-- no openings, and the first reap
abbrev pub first_schedule : LimitSettings → ℕ → SeenSchedule
first_schedule limits now = record {
  max_size = limits.max_size;
  reap_every = as_nanos limits.reap_every;
  openings = [];
  next_reap = first_reap limits now;
}

abbrev pub with_openings : List SeenOpening → SeenSchedule → SeenSchedule
with_openings xs p = record p { openings = xs }

-- one opening joins
abbrev pub joined : SeenOpening → SeenSchedule → SeenSchedule
joined x p = with_openings (with_opening x p.openings) p

abbrev pub cleared : SeenSchedule → SeenSchedule
cleared p = record p { openings = []; next_reap = None }

-- the reap after one that was handed out
abbrev pub next_by : ℕ → Option ℕ → Option ℕ
next_by every reap = option_map (λ r. later_by r every) reap

-- a task is handed out: the least opening leaves, or the next reap moves on
abbrev pub after_job : SeenJob → SeenSchedule → SeenSchedule
after_job (Open tries) p = with_openings (drop 1 p.openings) p
after_job Reap p = record p { next_reap = next_by p.reap_every p.next_reap }
after_job (Wait due) p = p
after_job Nothing p = p
after_job Closed p = p

-- the reap is due before that moment
abbrev pub is_due_before : Option Duration → ℕ → Bool
is_due_before None due = false
is_due_before (Some reap) due = nat_lt (as_nanos reap) due
