use Rattle.std.proofs.Common.{ap}
use Rattle.std.specs.Duration.{as_nanos}
use Rattle.pool_state.specs.Waiting.{first_late}
use Rattle.pool_state.specs.Guarded.{SeenState}
use Rattle.pool_tasks.proofs.Awake.{awake_passed, awake_none_passed}
use Rattle.pool_tasks.proofs.Drained.{drained_kept}
use Rattle.pool_tasks.proofs.Closed.{up_kept}
use Rattle.pool_tasks.proofs.InTime.{same_order, same_times, step_in_time}
use Rattle.pool_state.proofs.Waits.{nobody_as_before}
use Rattle.pool_tasks.proofs.task_book.TaskBook.pass_one.Goals as goal

pub invariant_of-self : goal.invariant_of-self
invariant_of-self g c =
    let old = c.args.self.now in
    let ps = old.guarded.places in
    let step = c.pass_late in
    record {
      awake = awake_passed (first_late (as_nanos c.args.now) c.deref.result.now ps) ps step.new.self.places c.in-Some.to_wake.told old.wakers c.wake.new.wakers
          step.ensures.line (c.in-Some.ensures.told) old.awake c.wake.ensures.told c.wake.ensures.others;
      drained = drained_kept old.guarded.book.picture.lent step.new.self.book.picture.lent old.drains (ap (λ (s : SeenState _ _). s.book.picture.lent) step.ensures.same) old.drained;
      up = up_kept old.guarded.book.picture.on_order.closed step.new.self.book.picture.on_order.closed old.wakers c.wake.new.wakers old.workers c.wake.new.workers
          (ap (λ (s : SeenState _ _). s.book.picture.on_order.closed) step.ensures.same) c.wake.ensures.others c.wake.ensures.fewer old.up;
      in_order = same_order old.guarded.book.picture.on_order step.new.self.book.picture.on_order (ap (λ (s : SeenState _ _). s.book.picture.on_order) step.ensures.same) old.in_order;
      in_time = step_in_time c.in-Some.to_wake.workers old.guarded.book.picture.on_order step.new.self.book.picture.on_order old.workers c.wake.new.workers c.wake.ensures.workers c.wake.ensures.rest
          (λ none. (ap (λ (s : SeenState _ _). s.book.picture.on_order.scheduled) step.ensures.same, ap (λ (s : SeenState _ _). s.book.picture.on_order.next_reap) step.ensures.same)) old.in_time;
      elsewhere = nobody_as_before old.guarded.waiting step.new.self.waiting (ap (λ (s : SeenState _ _). s.waiting) step.ensures.same) old.elsewhere;
    }

pub invariant_of-self-in-None : goal.invariant_of-self-in-None
invariant_of-self-in-None g c =
    let old = c.args.self.now in
    let ps = old.guarded.places in
    let step = c.pass_late in
    record {
      awake = awake_none_passed (first_late (as_nanos c.args.now) c.deref.result.now ps) ps step.new.self.places old.wakers
          c.in-None.ensures.whether step.ensures.line old.awake;
      drained = drained_kept old.guarded.book.picture.lent step.new.self.book.picture.lent old.drains (ap (λ (s : SeenState _ _). s.book.picture.lent) step.ensures.same) old.drained;
      up = up_kept old.guarded.book.picture.on_order.closed step.new.self.book.picture.on_order.closed old.wakers old.wakers old.workers old.workers
          (ap (λ (s : SeenState _ _). s.book.picture.on_order.closed) step.ensures.same) (λ s none. none) (λ key queued. queued) old.up;
      in_order = same_order old.guarded.book.picture.on_order step.new.self.book.picture.on_order (ap (λ (s : SeenState _ _). s.book.picture.on_order) step.ensures.same) old.in_order;
      in_time = same_times old.guarded.book.picture.on_order step.new.self.book.picture.on_order old.workers (ap (λ (s : SeenState _ _). s.book.picture.on_order) step.ensures.same) old.in_time;
      elsewhere = nobody_as_before old.guarded.waiting step.new.self.waiting (ap (λ (s : SeenState _ _). s.waiting) step.ensures.same) old.elsewhere;
    }
