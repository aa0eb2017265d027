use Rattle.std.proofs.Common.{sym, ◌∙◌, subst}
use Rattle.r2d2_core.specs.Book.{SeenBook}
use Rattle.pool_tasks.specs.InTime.{IsInOrder}
use Rattle.pool_tasks.proofs.task_book.TaskBook.new.Goals as goal

pub invariant_of-result-clause-in_order : goal.invariant_of-result-clause-in_order
invariant_of-result-clause-in_order g c =
    subst (λ (b : SeenBook _). IsInOrder b.picture.on_order) (sym (c.new-guarded.ensures.book ∙ c.plain.ensures.book)) c.requires

pub invariant_of-result-clause-in_time : goal.invariant_of-result-clause-in_time
invariant_of-result-clause-in_time g c key queued = absurd (c.in_ok-new-2.ensures.none_queued key queued)

pub invariant_of-result-clause-up : goal.invariant_of-result-clause-up
invariant_of-result-clause-up g c closed = (c.in_ok-no_wakers.ensures.none, c.in_ok-new-2.ensures.none_queued)
