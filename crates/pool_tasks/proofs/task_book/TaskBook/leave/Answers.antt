use Rattle.std.proofs.Common.{◌≢◌, Some, sym, ◌∙◌, ap, subst}
use Rattle.pool_state.specs.Guarded.{SeenState}
use Rattle.pool_tasks.proofs.Awake.{awake_gone}
use Rattle.pool_tasks.proofs.Drained.{drained_kept}
use Rattle.pool_tasks.proofs.Closed.{up_kept}
use Rattle.pool_tasks.proofs.InTime.{same_order, step_in_time}
use Rattle.pool_state.proofs.Waits.{nobody_as_before}
use Rattle.pool_state.specs.Order.{IsHistoryOf, with_told, with_leave}
use Rattle.pool_tasks.proofs.task_book.TaskBook.leave.Goals as goal

pub invariant_of-self : goal.invariant_of-self
invariant_of-self g c =
    let old = c.args.self.now in
    let left = c.leave-to_wake in
    record {
      awake = awake_gone c.args.place.now old.guarded.places left.new.self.places left.result.told old.wakers c.clear_at.new.wakers c.wake.new.wakers
          left.ensures.line left.ensures.told old.awake c.clear_at.ensures.cleared c.clear_at.ensures.others c.wake.ensures.told c.wake.ensures.others;
      drained = drained_kept old.guarded.book.picture.lent left.new.self.book.picture.lent old.drains (ap (λ (s : SeenState _ _). s.book.picture.lent) left.ensures.same) old.drained;
      up = up_kept old.guarded.book.picture.on_order.closed left.new.self.book.picture.on_order.closed old.wakers c.wake.new.wakers old.workers c.wake.new.workers
          (ap (λ (s : SeenState _ _). s.book.picture.on_order.closed) left.ensures.same) (λ s none. c.wake.ensures.others s (c.clear_at.ensures.others s none)) c.wake.ensures.fewer old.up;
      in_order = same_order old.guarded.book.picture.on_order left.new.self.book.picture.on_order (ap (λ (s : SeenState _ _). s.book.picture.on_order) left.ensures.same) old.in_order;
      in_time = step_in_time left.result.workers old.guarded.book.picture.on_order left.new.self.book.picture.on_order old.workers c.wake.new.workers c.wake.ensures.workers c.wake.ensures.rest
          (λ none. (ap (λ (s : SeenState _ _). s.book.picture.on_order.scheduled) left.ensures.same, ap (λ (s : SeenState _ _). s.book.picture.on_order.next_reap) left.ensures.same)) old.in_time;
      elsewhere = nobody_as_before old.guarded.waiting left.new.self.waiting (ap (λ (s : SeenState _ _). s.waiting) left.ensures.same) old.elsewhere;
    }

pub returns-clause-alone : goal.returns-clause-alone
returns-clause-alone g c slot own told =
    let left = c.leave-to_wake in
    c.wake.ensures.alone left.ensures.nobody_else.2 slot (subst (λ o. o ≢ Some slot) (sym left.ensures.told) told) ∙ c.clear_at.ensures.alone slot own

pub returns-clause-history : goal.returns-clause-history
returns-clause-history g c h is =
    let left = c.leave-to_wake in
    subst (λ o. IsHistoryOf (with_told o (with_leave c.args.place.now h)) left.new.self.places) left.ensures.told (left.ensures.history h is)
