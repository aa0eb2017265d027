use Rattle.std.proofs.Common.{ap, ◌∙◌}
use Rattle.pool_state.specs.Guarded.{SeenState}
use Rattle.pool_tasks.proofs.Awake.{awake_same}
use Rattle.pool_machine.specs.Picture.{Picture}
use Rattle.pool_tasks.proofs.Drained.{drained_kept}
use Rattle.pool_tasks.proofs.Closed.{up_kept, number_same}
use Rattle.pool_tasks.proofs.InTime.{stays_in_order, stays_in_time}
use Rattle.pool_tasks.proofs.Ordering.{number_stays}
use Rattle.pool_state.proofs.Waits.{nobody_as_before}
use Rattle.pool_tasks.proofs.task_book.TaskBook.number.Goals as goal

pub invariant_of-self : goal.invariant_of-self
invariant_of-self g c =
    let old = c.args.self.now in
    record {
      awake = awake_same old.guarded.places c.number.new.self.places old.wakers (ap (λ (s : SeenState _ _). s.places) c.number.ensures.same) old.awake;
      drained = drained_kept old.guarded.book.picture.lent c.number.new.self.book.picture.lent old.drains (ap (λ (p : Picture _). p.lent) c.number.ensures.step.of_core.after) old.drained;
      up = up_kept old.guarded.book.picture.on_order.closed c.number.new.self.book.picture.on_order.closed old.wakers old.wakers old.workers old.workers
          (ap (λ (p : Picture _). p.on_order.closed) c.number.ensures.step.of_core.after ∙ number_same c.args.tries old.guarded.book.picture) (λ s none. none) (λ key queued. queued) old.up;
      in_order = stays_in_order old.guarded.book.picture.on_order c.number.new.self.book.picture.on_order
          (number_stays c.args.tries old.guarded.book.picture c.number.new.self.book.picture c.number.ensures.step.of_core.after) old.in_order;
      in_time = stays_in_time old.guarded.book.picture.on_order c.number.new.self.book.picture.on_order old.workers
          (number_stays c.args.tries old.guarded.book.picture c.number.new.self.book.picture c.number.ensures.step.of_core.after) old.in_time;
      elsewhere = nobody_as_before old.guarded.waiting c.number.new.self.waiting (ap (λ (s : SeenState _ _). s.waiting) c.number.ensures.same) old.elsewhere;
    }
