-- What becomes of a worker's opening and of a caller's check, each told to the book as one outcome: one step of the book for each.
use Rattle.std.specs.Prelude.{◌≡◌, ℕ, true, false, Option, Some, None, Result, Ok, Err}
use Rattle.std.specs.declared.time.Duration.{Duration}
use Rattle.std.specs.Duration.{as_nanos}
use Rattle.pool_machine.specs.declared.machine.answers.Refusal.{Refusal}
use Rattle.pool_machine.specs.Seen.{SeenGone, seen_gone}
use Rattle.pool_machine.specs.Picture.{Picture, IsSound}
use Rattle.pool_machine.specs.Table.{admit_answer, after_admit, fail_answer, after_fail, check_answer, after_check}
use Rattle.r2d2_core.specs.Journal.{SeenJournal}
use Rattle.r2d2_core.specs.Book.{SeenBook}
use Rattle.r2d2_core.specs.Noted.{noted_admission, noted_check}
use Rattle.pool_state.specs.declared.engine.Wakes.{Wakes}
use Rattle.pool_state.specs.declared.engine.Outcome.{Outcome}
use Rattle.pool_state.specs.declared.engine.Outcome.TheVariants as outcome
use Rattle.pool_state.specs.declared.engine.Settled.{Settled}
use Rattle.pool_state.specs.declared.engine.Settled.TheVariants as settled
use Rattle.pool_state.specs.Wakes.{wakes, nobody, caller_and_workers_for}

-- a `Settled`, with moments and ages in nanoseconds
pub data SeenSettled (T : Type 0) : Type 0 where
  -- the connection is idle
  Admitted : SeenSettled T
  -- the opening is due again at this moment
  Retry : (due : ℕ) → SeenSettled T
  -- the connection is no longer the pool's
  Gone : SeenGone → SeenSettled T
  -- nothing changed; a connection that was to be admitted comes back
  Refused : (why : Refusal) (back : Option T) → SeenSettled T

module _ {T : Type 0} where
  abbrev pub seen_settled : Settled T → SeenSettled T
  seen_settled settled.Admitted = Admitted
  seen_settled (settled.Retry due) = Retry (as_nanos due)
  seen_settled (settled.Gone gone) = Gone (seen_gone gone)
  seen_settled (settled.Refused why back) = Refused why back

  -- how an admission, a failed opening and a failed check are settled, by the answer of the book
  abbrev pub settled_admission : Result (Unit {0}) (Refusal × T) → SeenSettled T
  settled_admission (Ok done) = Admitted
  settled_admission (Err back) = Refused back.0 (Some back.1)

  abbrev pub settled_failure : Result ℕ Refusal → SeenSettled T
  settled_failure (Ok due) = Retry due
  settled_failure (Err why) = Refused why None

  abbrev pub settled_check : Result SeenGone Refusal → SeenSettled T
  settled_check (Ok gone) = Gone gone
  settled_check (Err why) = Refused why None

  -- what settling an outcome at the moment t answers: that of an admission, of a failed opening, of a failed check
  abbrev pub settle_answer : ℕ → Outcome T → Picture T → SeenSettled T
  settle_answer t (outcome.Opened id value) p = settled_admission (admit_answer id value p)
  settle_answer t (outcome.Failed tries text) p = settled_failure (fail_answer t tries p)
  settle_answer t (outcome.Unsound id text) p = settled_check (check_answer t id p)

  -- and what it makes of the picture
  abbrev pub after_settle : ℕ → Outcome T → Picture T → Picture T
  after_settle t (outcome.Opened id value) p = after_admit t id value p
  after_settle t (outcome.Failed tries text) p = after_fail t tries text p
  after_settle t (outcome.Unsound id text) p = after_check t id text p

  -- and what the book notes of it: its journal after it
  abbrev pub noted_settle : ℕ → Outcome T → SeenBook T → SeenJournal
  noted_settle t (outcome.Opened id value) b = noted_admission t id (admit_answer id value b.picture) b
  noted_settle t (outcome.Failed tries text) b = b.journal
  noted_settle t (outcome.Unsound id text) b = noted_check t id (check_answer t id b.picture) b

  -- so an outcome is settled
  pub record IsSettling (now : Duration) (outcome : Outcome T) (result : Settled T)
      (old new : SeenBook T) : Type 0 where
    pub answer : seen_settled result ≡ settle_answer (as_nanos now) outcome old.picture
    pub after : new.picture ≡ after_settle (as_nanos now) outcome old.picture
    pub sound : IsSound new.picture
    pub noted : new.journal ≡ noted_settle (as_nanos now) outcome old

  -- whom to wake: after an admission, a caller; after a failed opening, the workers, since it is due again; after a failed check, a
  -- caller, and the workers where it ordered; after a refusal, nobody
  abbrev pub wakes_of_settled : SeenSettled T → Wakes
  wakes_of_settled Admitted = wakes true false
  wakes_of_settled (Retry due) = wakes false true
  wakes_of_settled (Gone gone) = caller_and_workers_for gone.ordered
  wakes_of_settled (Refused why back) = nobody
