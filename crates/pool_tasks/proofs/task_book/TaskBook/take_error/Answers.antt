use Rattle.std.proofs.Common.{ap}
use Rattle.pool_state.specs.Guarded.{SeenState}
use Rattle.pool_tasks.proofs.Awake.{awake_same}
use Rattle.pool_machine.specs.Picture.{Picture}
use Rattle.pool_tasks.proofs.Drained.{drained_kept}
use Rattle.pool_tasks.proofs.Closed.{up_kept}
use Rattle.pool_tasks.proofs.InTime.{same_order, same_times}
use Rattle.pool_state.proofs.Waits.{nobody_as_before}
use Rattle.pool_tasks.proofs.task_book.TaskBook.take_error.Goals as goal

pub invariant_of-self : goal.invariant_of-self
invariant_of-self g c =
    let old = c.args.self.now in
    record {
      awake = awake_same old.guarded.places c.take_error.new.self.places old.wakers (ap (λ (s : SeenState _ _). s.places) c.take_error.ensures.same) old.awake;
      drained = drained_kept old.guarded.book.picture.lent c.take_error.new.self.book.picture.lent old.drains (ap (λ (p : Picture _). p.lent) c.take_error.ensures.step.of_core.after) old.drained;
      up = up_kept old.guarded.book.picture.on_order.closed c.take_error.new.self.book.picture.on_order.closed old.wakers old.wakers old.workers old.workers
          (ap (λ (p : Picture _). p.on_order.closed) c.take_error.ensures.step.of_core.after) (λ s none. none) (λ key queued. queued) old.up;
      in_order = same_order old.guarded.book.picture.on_order c.take_error.new.self.book.picture.on_order (ap (λ (p : Picture _). p.on_order) c.take_error.ensures.step.of_core.after) old.in_order;
      in_time = same_times old.guarded.book.picture.on_order c.take_error.new.self.book.picture.on_order old.workers (ap (λ (p : Picture _). p.on_order) c.take_error.ensures.step.of_core.after) old.in_time;
      elsewhere = nobody_as_before old.guarded.waiting c.take_error.new.self.waiting (ap (λ (s : SeenState _ _). s.waiting) c.take_error.ensures.same) old.elsewhere;
    }
