use Rattle.std.specs.Prelude.{max}
use Rattle.std.specs.Duration.{as_nanos}
use Rattle.std.proofs.Common.{ap, ◌∙◌}
use Rattle.pool_state.specs.Guarded.{SeenState}
use Rattle.pool_tasks.proofs.Awake.{awake_same}
use Rattle.pool_machine.specs.Picture.{Picture}
use Rattle.pool_tasks.proofs.Drained.{drained_kept}
use Rattle.pool_tasks.proofs.Closed.{up_kept, begin_same}
use Rattle.pool_tasks.proofs.InTime.{begin_in_order, begin_in_time, begin_timely}
use Rattle.pool_state.proofs.Waits.{nobody_as_before}
use Rattle.pool_tasks.proofs.task_book.TaskBook.begin.Goals as goal

pub invariant_of-self : goal.invariant_of-self
invariant_of-self g c =
    let old = c.args.self.now in
    let was = old.guarded.book.picture in
    let is = c.begin.new.self.book.picture in
    let after = ap (λ (p : Picture _). p.on_order) c.begin.ensures.step.of_core.after in
    record {
      awake = awake_same old.guarded.places c.begin.new.self.places old.wakers (ap (λ (s : SeenState _ _). s.places) c.begin.ensures.same) old.awake;
      drained = drained_kept was.lent is.lent old.drains (ap (λ (p : Picture _). p.lent) c.begin.ensures.step.of_core.after) old.drained;
      up = up_kept was.on_order.closed is.on_order.closed old.wakers old.wakers old.workers old.workers
          (ap (λ (p : Picture _). p.on_order.closed) c.begin.ensures.step.of_core.after ∙ begin_same (as_nanos c.args.now) was) (λ s none. none) (λ key queued. queued) old.up;
      in_order = begin_in_order (max was.latest (as_nanos c.args.now)) was.on_order is.on_order after old.in_order;
      in_time = begin_in_time (max was.latest (as_nanos c.args.now)) was.on_order is.on_order old.workers after old.in_order old.in_time;
      elsewhere = nobody_as_before old.guarded.waiting c.begin.new.self.waiting (ap (λ (s : SeenState _ _). s.waiting) c.begin.ensures.same) old.elsewhere;
    }

pub returns-clause-timely : goal.returns-clause-timely
returns-clause-timely g c =
    let was = c.args.self.now.guarded.book.picture in
    let is = c.begin.new.self.book.picture in
    begin_timely c.begin.result (max was.latest (as_nanos c.args.now)) was.on_order is.on_order c.begin.ensures.step.of_core.answer
    (ap (λ (p : Picture _). p.on_order) c.begin.ensures.step.of_core.after) c.args.self.now.in_order
