-- What a book notes of a step of any kind, and a book after a list of them. Each line is that of the
-- step's own call.
use Rattle.std.specs.Prelude.{List, [], ◌∷◌, length}
use Rattle.std.specs.Duration.{as_nanos}
use Rattle.pool_machine.specs.declared.step.Step.{Step}
use Rattle.pool_machine.specs.declared.step.Step.TheVariants as step
use Rattle.pool_machine.specs.Table as table
use Rattle.pool_machine.specs.Steps.{after_step}
use Rattle.r2d2_core.specs.Journal.{SeenJournal}
use Rattle.r2d2_core.specs.Book.{SeenBook, seen_book}
use Rattle.r2d2_core.specs.Noted.{noted_take, noted_admission, noted_return, noted_check}
use Rattle.r2d2_core.specs.Noted.{noted_reap, noted_close}

module _ {T : Type 0} where
  -- what a book notes of it: its journal after it
  abbrev pub noted_step : Step T → SeenBook T → SeenJournal
  noted_step (step.Take now or_order) b =
      noted_take (as_nanos now) (table.take_answer or_order b.picture) b
  noted_step (step.Admit now id value) b =
      noted_admission (as_nanos now) id (table.admit_answer id value b.picture) b
  noted_step (step.FailCheck now id text) b =
      noted_check (as_nanos now) id (table.check_answer (as_nanos now) id b.picture) b
  noted_step (step.PutBack now id value broken) b =
      noted_return (as_nanos now) id (table.return_answer (as_nanos now) id value broken b.picture)
      b
  noted_step (step.Reap now) b =
      noted_reap (as_nanos now) (length (table.reap_closed (as_nanos now) b.picture))
      (table.reap_orders (as_nanos now) b.picture) b
  noted_step step.Close b = noted_close b
  noted_step _ b = b.journal

  -- the book after all of these steps
  abbrev pub book_after : List (Step T) → SeenBook T → SeenBook T
  book_after [] b = b
  book_after (s ∷ steps) b =
      book_after steps (seen_book (after_step s b.picture) (noted_step s b))
