-- What a book notes at each call: its journal after the call, by the answer. A book notes the
-- raised moment of a step.
use Rattle.std.specs.Prelude.{ℕ, max, Result}
use Rattle.pool_machine.specs.declared.machine.answers.Refusal.{Refusal}
use Rattle.pool_machine.specs.Seen.{SeenTake, SeenReturned, SeenGone}
use Rattle.r2d2_core.specs.Recorded.{record_of_take, record_of_admission, record_of_return}
use Rattle.r2d2_core.specs.Recorded.{record_of_check, record_of_reap, record_of_close}
use Rattle.r2d2_core.specs.Journal.{SeenJournal, with_noted}
use Rattle.r2d2_core.specs.Book.{SeenBook}

module _ {T : Type 0} where
  -- the raised moment of a step at t
  abbrev pub raised_in : SeenBook T → ℕ → ℕ
  raised_in b t = max b.picture.latest t

  -- after a take
  abbrev pub noted_take : ℕ → SeenTake T → SeenBook T → SeenJournal
  noted_take t taken b = with_noted (record_of_take (raised_in b t) taken) b.journal

  -- after an admission of the id
  abbrev pub noted_admission : ℕ → ℕ → Result (Unit {0}) (Refusal × T) → SeenBook T → SeenJournal
  noted_admission t id answer b =
      with_noted (record_of_admission (raised_in b t) id answer) b.journal

  -- after a return of the id
  abbrev pub noted_return : ℕ → ℕ → Result (SeenReturned T) (Refusal × T) → SeenBook T → SeenJournal
  noted_return t id answer b = with_noted (record_of_return (raised_in b t) id answer) b.journal

  -- after a failed check of the id
  abbrev pub noted_check : ℕ → ℕ → Result SeenGone Refusal → SeenBook T → SeenJournal
  noted_check t id answer b = with_noted (record_of_check (raised_in b t) id answer) b.journal

  -- after a reap that closed and ordered so many
  abbrev pub noted_reap : ℕ → ℕ → ℕ → SeenBook T → SeenJournal
  noted_reap t closed ordered b =
      with_noted (record_of_reap (raised_in b t) closed ordered) b.journal

  -- after a close
  abbrev pub noted_close : SeenBook T → SeenJournal
  noted_close b = with_noted (record_of_close b.picture.latest b.picture.on_order.closed) b.journal
