use Rattle.std.specs.Prelude.{◌≡◌, ◌≤◌, ℕ}
use Rattle.pool_machine.specs.declared.schedule.limits.LimitSettings.{LimitSettings}
use Rattle.pool_machine.specs.Limits.{wanted_of}
use Rattle.r2d2_core.specs.History.{Made}
use Rattle.pool_machine.specs.Table.{first_picture}
use Rattle.r2d2_core.proofs.Follows.Runs.{IsRun}
use Rattle.r2d2_core.proofs.run.answer_all.Given as goal

-- the core and the answers are those of the steps so far
abbrev pub invariant-loop-step : goal.invariant-loop-step
invariant-loop-step g l =
    (limits : LimitSettings) (now : ℕ) → wanted_of limits ≤ limits.max_size → l.fn.core ≡ first_picture limits now 0
    → IsRun (Made limits now 0) l.yielded l.answers.items l.core
