use Rattle.std.specs.Prelude.{◌≡◌, ◌≤◌, ℕ}
use Rattle.pool_machine.specs.declared.schedule.limits.LimitSettings.{LimitSettings}
use Rattle.pool_machine.specs.Limits.{wanted_of}
use Rattle.r2d2_core.specs.History.{Made}
use Rattle.pool_machine.specs.Table.{first_picture}
use Rattle.r2d2_core.specs.NotedSteps.{book_after}
use Rattle.r2d2_core.proofs.Follows.Runs.{IsRun}
use Rattle.r2d2_core.proofs.run.answer_and_report.Given as goal

-- the book and the answers are those of the steps so far
abbrev pub invariant-loop-step : goal.invariant-loop-step
invariant-loop-step g l = record {
  run : (limits : LimitSettings) (now : ℕ) → wanted_of limits ≤ limits.max_size → l.fn.book.picture ≡ first_picture limits now 0
      → IsRun (Made limits now 0) l.yielded l.answers.items l.book.picture;
  book_is : l.book ≡ book_after l.yielded l.fn.book;
}
