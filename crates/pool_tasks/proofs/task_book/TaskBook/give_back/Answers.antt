use Rattle.pool_state.specs.Evicted.{is_to_close}
use Rattle.std.specs.Duration.{as_nanos}
use Rattle.pool_machine.specs.Picture.{Picture}
use Rattle.std.proofs.Common.{sym, ap, ◌∙◌, subst}
use Rattle.pool_tasks.specs.Wakers.{KeepsOthers}
use Rattle.pool_tasks.proofs.Awake.{awake_after}
use Rattle.r2d2_core.specs.Book.{SeenBook}
use Rattle.pool_tasks.proofs.Drained.{drained_kept}
use Rattle.pool_tasks.proofs.Closed.{up_kept, returned_same}
use Rattle.pool_machine.specs.Seen.{map_ok, seen_returned}
use Rattle.pool_tasks.proofs.InTime.{step_in_time}
use Rattle.pool_tasks.proofs.Ordering.{return_in_order, return_stays}
use Rattle.pool_state.proofs.Waits.{nobody_woken}
use Rattle.pool_tasks.proofs.History.{told_by_step}
use Rattle.pool_tasks.proofs.task_book.TaskBook.give_back.Goals as goal

pub invariant_of-self : goal.invariant_of-self
invariant_of-self g c =
    let old = c.args.self.now in
    let step = c.give_back-returned in
    record {
      awake = awake_after _ old.guarded.places step.new.self.places step.result.1.told old.wakers c.wake.new.wakers
          step.ensures.wakes.line step.ensures.wakes.told old.awake c.wake.ensures.told c.wake.ensures.others;
      drained = drained_kept c.book.result.now.picture.lent _ c.wake_drains.new.drains (ap (λ (b : SeenBook _). b.picture.lent) (sym c.book.ensures.value)) c.wake_drains.ensures;
      up = up_kept old.guarded.book.picture.on_order.closed step.new.self.book.picture.on_order.closed old.wakers c.wake.new.wakers old.workers c.wake.new.workers
          (ap (λ (p : Picture _). p.on_order.closed) step.ensures.step.of_core.after ∙ returned_same (as_nanos c.args.now) c.args.id c.args.payload (is_to_close c.args.unfit c.args.outlived c.args.id old.guarded.evicted_below) old.guarded.book.picture) c.wake.ensures.others c.wake.ensures.fewer old.up;
      in_order = return_in_order (as_nanos c.args.now) c.args.id c.args.payload (is_to_close c.args.unfit c.args.outlived c.args.id old.guarded.evicted_below)
          old.guarded.book.picture step.new.self.book.picture step.ensures.step.of_core.after old.in_order;
      in_time = step_in_time step.result.1.workers old.guarded.book.picture.on_order step.new.self.book.picture.on_order old.workers c.wake.new.workers
          c.wake.ensures.workers c.wake.ensures.rest
          (return_stays (as_nanos c.args.now) c.args.id c.args.payload (is_to_close c.args.unfit c.args.outlived c.args.id old.guarded.evicted_below)
          step.result.1.workers (map_ok seen_returned step.result.0) old.guarded.book.picture step.new.self.book.picture
          step.ensures.step.of_core.after step.ensures.step.of_core.answer step.ensures.wakes.workers) old.in_time;
      elsewhere = nobody_woken _ step.result.1 old.guarded.waiting step.new.self.waiting old.guarded.places step.new.self.places step.ensures.wakes old.elsewhere;
    }

pub returns-clause-alone : goal.returns-clause-alone
returns-clause-alone g c =
    let step = c.give_back-returned in
    subst (λ o. KeepsOthers o c.args.self.now.wakers c.wake.new.wakers) step.ensures.wakes.told (c.wake.ensures.alone step.ensures.wakes.nobody_else)

pub returns-clause-history : goal.returns-clause-history
returns-clause-history g c =
    let step = c.give_back-returned in
    told_by_step step.result.1.told _ c.args.self.now.guarded.places step.new.self.places step.ensures.wakes.told step.ensures.history
