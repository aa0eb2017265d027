-- What is on order: the openings that were ordered and not admitted, and what becomes of them.
use Rattle.std.specs.Prelude.{◌≡◌, ℕ, ◌+◌, ◌-◌, ◌^◌, ◌≤◌, min, Bool, true, false, not, ◌==◌, nat_lt}
use Rattle.std.specs.Prelude.{if◌then◌else◌, List, [], ◌∷◌, ◌++◌, length, sum, drop}
use Rattle.std.specs.Prelude.{replicate, slice_index, Option, None, is_some}
use Rattle.std.specs.List.{All}
use Rattle.std.specs.Duration.{as_nanos}
use Rattle.pool_machine.specs.declared.machine.answers.Refusal.{Refusal}
use Rattle.pool_machine.specs.declared.machine.answers.Refusal.TheVariants as refusal
use Rattle.pool_machine.specs.declared.schedule.limits.LimitSettings.{LimitSettings}
use Rattle.pool_machine.specs.Limits.{wanted_of, top_up, later_by, delay_of}
use Rattle.pool_machine.specs.Ids.{found, without, same_id}
use Rattle.pool_machine.specs.Openings.{SeenOpening, opening, with_opening, with_many, one_more}
use Rattle.pool_machine.specs.Openings.{one_less}
use Rattle.pool_machine.specs.Jobs.{SeenJob, Open, Reap, Wait, Nothing, Closed, first_job}
use Rattle.pool_machine.specs.Schedule.{first_reap, next_by}
use Rattle.pool_machine.specs.Refusals.{refused_if, unless_refused}

pub record SeenOnOrder : Type 0 where
  pub limits : LimitSettings
  -- ordered and not begun
  pub scheduled : List SeenOpening
  -- how many are in work, for each number of tries from 0 to 99
  pub in_work : List ℕ
  -- the ids that await their admission
  pub numbered : List ℕ
  pub next_reap : Option ℕ
  pub next_id : ℕ
  pub pending : ℕ
  pub closed : Bool

-- each pending opening stands in one of three places
pub record IsAccounted (o : SeenOnOrder) : Type 0 where
  pub placed : o.pending ≡ length o.scheduled + (sum o.in_work + length o.numbered)
  pub within : o.pending ≤ o.limits.max_size
  pub tries : All (λ x. x.tries ≤ 99) o.scheduled
  pub lanes : length o.in_work ≡ 100
  -- once closed, nothing is pending, and so none stands there, and no reap is due any more
  pub none_once_closed : o.closed ≡ true → o.pending ≡ 0
  pub no_reap_once_closed : o.closed ≡ true → o.next_reap ≡ None

-- ORDERS

-- how many more there may be beside so many connections
abbrev pub room_beside : ℕ → SeenOnOrder → ℕ
room_beside connections o = o.limits.max_size - connections - o.pending

-- what a top-up orders beside so many idle ones and so many connections
abbrev pub top_up_beside : ℕ → ℕ → SeenOnOrder → ℕ
top_up_beside idle connections o = top_up o.limits o.closed idle connections o.pending

-- what a miss orders: one, where it is asked for and there is room
abbrev pub miss_order : Bool → ℕ → SeenOnOrder → ℕ
miss_order or_order connections o =
    if o.closed then 0 else (if or_order then min 1 (room_beside connections o) else 0)

-- n more, due at a moment
abbrev pub with_orders : ℕ → ℕ → SeenOnOrder → SeenOnOrder
with_orders n due o =
    record o { scheduled = with_many n (opening due 0) o.scheduled; pending = o.pending + n }

-- what is wanted is ordered at the making
abbrev pub first_on_order : LimitSettings → ℕ → ℕ → SeenOnOrder
first_on_order limits now first_id = record {
  limits = limits;
  scheduled = with_many (wanted_of limits) (opening now 0) [];
  in_work = replicate 100 0;
  numbered = [];
  next_reap = first_reap limits now;
  next_id = first_id;
  pending = wanted_of limits;
  closed = false;
}

-- BEGIN

abbrev pub job_at : ℕ → SeenOnOrder → SeenJob
job_at now o = if o.closed then Closed else first_job now o.scheduled o.next_reap

abbrev pub begun_by : SeenJob → SeenOnOrder → SeenOnOrder
begun_by (Open tries) o =
    record o { scheduled = drop 1 o.scheduled; in_work = one_more tries o.in_work }
begun_by Reap o = record o { next_reap = next_by (as_nanos o.limits.reap_every) o.next_reap }
begun_by (Wait due) o = o
begun_by Nothing o = o
begun_by Closed o = o

abbrev pub begun : ℕ → SeenOnOrder → SeenOnOrder
begun now o = begun_by (job_at now o) o

-- NUMBER

abbrev pub has_in_work : ℕ → SeenOnOrder → Bool
has_in_work tries o = nat_lt 0 (slice_index o.in_work tries)

abbrev pub number_refusal : ℕ → SeenOnOrder → Option Refusal
number_refusal tries o =
    refused_if o.closed refusal.Closed (refused_if (not (has_in_work tries o)) refusal.NoOpening
    (refused_if (o.next_id == 2 ^ 64 - 1) refusal.IdsUsedUp None))

-- one in work becomes a number
abbrev pub numbered_one : ℕ → SeenOnOrder → SeenOnOrder
numbered_one tries o = record o {
  in_work = one_less tries o.in_work;
  numbered = o.numbered ++ o.next_id ∷ [];
  next_id = o.next_id + 1;
}

abbrev pub after_numbering : ℕ → SeenOnOrder → SeenOnOrder
after_numbering tries o = unless_refused (number_refusal tries o) (numbered_one tries o) o

-- ADMIT

abbrev pub admit_refusal : ℕ → SeenOnOrder → Option Refusal
admit_refusal id o = refused_if o.closed refusal.Closed
    (refused_if (not (is_some (found same_id id o.numbered))) refusal.NotNumbered None)

-- a numbered one is pending no more
abbrev pub admitted_one : ℕ → SeenOnOrder → SeenOnOrder
admitted_one id o = record o { numbered = without same_id id o.numbered; pending = o.pending - 1 }

-- FAIL

abbrev pub fail_refusal : ℕ → SeenOnOrder → Option Refusal
fail_refusal tries o = refused_if o.closed refusal.Closed
    (refused_if (not (has_in_work tries o)) refusal.NoOpening None)

-- when an opening that failed at a moment is due again
abbrev pub due_again : ℕ → ℕ → SeenOnOrder → ℕ
due_again now tries o = later_by now (delay_of o.limits (tries + 1))

-- one in work is scheduled again; tries stay at 99 once there
abbrev pub failed_one : ℕ → ℕ → SeenOnOrder → SeenOnOrder
failed_one now tries o = record o {
  in_work = one_less tries o.in_work;
  scheduled = with_opening
      (opening (due_again now tries o) (min (tries + 1) 99)) o.scheduled;
}

-- CLOSE

abbrev pub emptied : SeenOnOrder → SeenOnOrder
emptied o = record o {
  scheduled = [];
  in_work = replicate 100 0;
  numbered = [];
  next_reap = None;
  pending = 0;
  closed = true;
}
