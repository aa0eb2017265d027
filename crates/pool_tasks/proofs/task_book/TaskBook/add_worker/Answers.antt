use Rattle.std.proofs.Common.{refl, sym, ◌∙◌}
use Rattle.futures.specs.declared.util.wait_list.Ticket.{Ticket}
use Rattle.pool_tasks.proofs.Closed.{up_kept}
use Rattle.pool_tasks.proofs.InTime.{added_in_time}
use Rattle.pool_tasks.proofs.task_book.TaskBook.add_worker.Goals as goal

pub invariant_of-self-clause-in_time : goal.invariant_of-self-clause-in_time
invariant_of-self-clause-in_time g c =
    let old = c.args.self.now in
    let added = c.insert in
    added_in_time added.result (λ (t : Ticket). t.key) old.guarded.book.picture.on_order old.workers added.new.self added.ensures.queue.keys
    added.ensures.not_queued added.ensures.sets added.ensures.err old.in_time

pub invariant_of-self-clause-up : goal.invariant_of-self-clause-up
invariant_of-self-clause-up g c =
    let old = c.args.self.now in
    let added = c.insert in
    up_kept old.guarded.book.picture.on_order.closed old.guarded.book.picture.on_order.closed old.wakers old.wakers old.workers added.new.self refl
    (λ s none. none) (λ key queued. sym (added.ensures.queue.keys key) ∙ queued) old.up
