use Rattle.std.proofs.Common.{◌∙◌, ap}
use Rattle.pool_state.specs.Waiting.{told_if}
use Rattle.pool_tasks.proofs.Leaving.{failure_tells_nobody}
use Rattle.pool_tasks.proofs.task_book.TaskBook.put_back_opening.Goals as goal

pub returns-in-Some-clause-line : goal.returns-in-Some-clause-line
returns-in-Some-clause-line g c =
    let step = c.fail in
    step.ensures.told ∙ ap (λ b. told_if b c.args.self.now.guarded.places) (failure_tells_nobody step.result _ step.ensures.step.answer)
