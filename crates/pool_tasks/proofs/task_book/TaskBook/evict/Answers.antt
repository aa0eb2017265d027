use Rattle.pool_tasks.proofs.Drained.{drained_kept}
use Rattle.std.specs.Duration.{as_nanos}
use Rattle.pool_tasks.proofs.Ordering.{evicted_in_order}
use Rattle.pool_state.proofs.Waits.{nobody_of_all}
use Rattle.pool_tasks.proofs.task_book.TaskBook.evict.Goals as goal

pub invariant_of-self : goal.invariant_of-self
invariant_of-self g c =
    let old = c.args.self.now in
    let step = c.evict-to_wake in
    record {
      awake = λ s told. c.wake.ensures.line step.ensures.wakes.in_line s;
      drained = drained_kept old.guarded.book.picture.lent step.new.self.book.picture.lent old.drains step.ensures.comes_to.lent old.drained;
      up = λ closed. (λ s. c.wake.ensures.line step.ensures.wakes.in_line s, λ key queued. absurd (c.wake.ensures.workers step.ensures.wakes.workers key queued));
      in_order = evicted_in_order (as_nanos c.args.now) old.guarded.book step.new.self.book step.ensures.after old.in_order;
      in_time = λ key queued. absurd (c.wake.ensures.workers step.ensures.wakes.workers key queued);
      elsewhere = nobody_of_all old.guarded.waiting step.new.self.waiting step.ensures.waiting old.elsewhere;
    }
