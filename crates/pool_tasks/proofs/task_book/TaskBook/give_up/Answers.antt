use Rattle.std.proofs.Common.{◌<◌, sym, ◌∙◌, subst}
use Rattle.std.specs.Prelude.{IfSome}
use Rattle.pool_tasks.specs.Wakers.{NobodySleeps}
use Rattle.pool_tasks.proofs.task_book.TaskBook.give_up.Goals as goal

pub returns-clause-woken : goal.returns-clause-woken
returns-clause-woken g c =
    let left = c.abandon-gone in
    subst (λ w. IfSome left.result (λ gone. 0 < gone.ordered → NobodySleeps w)) (sym (c.take_error-error.ensures.workers ∙ c.count_timeout.ensures.workers)) left.ensures.workers
