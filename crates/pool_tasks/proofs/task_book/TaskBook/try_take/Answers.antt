use Rattle.std.proofs.Common.{ap}
use Rattle.std.specs.Duration.{as_nanos}
use Rattle.pool_state.specs.Waiting.{is_kept}
use Rattle.pool_state.specs.Guarded.{SeenState}
use Rattle.pool_tasks.proofs.Awake.{awake_same}
use Rattle.pool_tasks.proofs.Drained.{drained_lent}
use Rattle.pool_tasks.proofs.Closed.{up_kept, lent_same}
use Rattle.pool_machine.specs.Seen.{seen_take}
use Rattle.pool_tasks.proofs.InTime.{step_in_time}
use Rattle.pool_tasks.proofs.Ordering.{lent_in_order, lent_quiet}
use Rattle.pool_state.proofs.Waits.{nobody_as_before}
use Rattle.pool_tasks.proofs.task_book.TaskBook.try_take.Goals as goal

pub invariant_of-self : goal.invariant_of-self
invariant_of-self g c =
    let old = c.args.self.now in
    record {
      awake = awake_same old.guarded.places c.look_once-taken.new.self.places old.wakers (ap (λ (s : SeenState _ _). s.places) c.look_once-taken.ensures.same) old.awake;
      drained = drained_lent (as_nanos c.args.now) (is_kept old.guarded.book.picture old.guarded.places) old.guarded.book c.look_once-taken.new.self.book old.drains
          (λ kept. (c.look_once-taken.ensures.kept kept).1) (λ free. (c.look_once-taken.ensures.step free).of_core.after) old.drained;
      up = up_kept old.guarded.book.picture.on_order.closed c.look_once-taken.new.self.book.picture.on_order.closed old.wakers old.wakers old.workers c.wake_workers.new.workers
          (lent_same (as_nanos c.args.now) (is_kept old.guarded.book.picture old.guarded.places) old.guarded.book c.look_once-taken.new.self.book
          (λ kept. (c.look_once-taken.ensures.kept kept).1) (λ free. (c.look_once-taken.ensures.step free).of_core.after))
          (λ s none. none) c.wake_workers.ensures.fewer old.up;
      in_order = lent_in_order (as_nanos c.args.now) (is_kept old.guarded.book.picture old.guarded.places) old.guarded.book c.look_once-taken.new.self.book
          (λ kept. (c.look_once-taken.ensures.kept kept).1) (λ free. (c.look_once-taken.ensures.step free).of_core.after) old.in_order;
      in_time = step_in_time c.look_once-taken.result.1 old.guarded.book.picture.on_order c.look_once-taken.new.self.book.picture.on_order old.workers
          c.wake_workers.new.workers c.wake_workers.ensures.workers c.wake_workers.ensures.rest
          (lent_quiet (as_nanos c.args.now) (is_kept old.guarded.book.picture old.guarded.places) c.look_once-taken.result.1 (seen_take c.look_once-taken.result.0)
          old.guarded.book c.look_once-taken.new.self.book (λ kept. (c.look_once-taken.ensures.kept kept).1)
          (λ free. (c.look_once-taken.ensures.step free).of_core.after) (λ free. (c.look_once-taken.ensures.step free).of_core.answer)
          c.look_once-taken.ensures.workers) old.in_time;
      elsewhere = nobody_as_before old.guarded.waiting c.look_once-taken.new.self.waiting (ap (λ (s : SeenState _ _). s.waiting) c.look_once-taken.ensures.same) old.elsewhere;
    }
