use Rattle.std.proofs.Common.{List, subst}
use Rattle.pool_state.specs.Order.{Event, IsHistoryOf, with_told}
use Rattle.pool_state.specs.Ring.{places_in}
use Rattle.pool_state.proofs.Lined.{one_settled}
use Rattle.pool_state.proofs.Guarded.{kept_due}
use Rattle.pool_state.proofs.Waits.{goes_settled}
use Rattle.pool_state.proofs.state.PoolState.settle.Goals as goal

pub due-to_wake-requires : goal.due-to_wake-requires
due-to_wake-requires g c = c.self.invariant.none_lost.within

pub invariant_of-self : goal.invariant_of-self
invariant_of-self g c =
    let state = c.self.inside in
    let step = c.settle-settled in
    let p = state.book.book.picture in
    let q = step.new.self.book.picture in
    let caller = step.result.1.caller in
    let sent = c.due-to_wake in
    let woken = sent.ensures.woken in
    kept_due caller sent.result.callers p q (places_in state.line.ring) (places_in sent.new.line.ring) state.owed state.waiting sent.new.waiting c.self.invariant
    (one_settled c.args.now c.args.outcome step.result.0 p q step.result.1 step.ensures.step.answer step.ensures.step.after step.ensures.wakes) (goes_settled c.args.now c.args.outcome step.result.0 p q step.result.1 step.ensures.step.answer step.ensures.step.after step.ensures.wakes)
    woken.line woken.callers sent.ensures.within woken.waits woken.sleepers

pub returns-clause-history : goal.returns-clause-history
returns-clause-history g c =
    let sent = c.due-to_wake in
    subst (λ v. (h : List Event) → IsHistoryOf h v.places → IsHistoryOf (with_told sent.result.told h) (places_in sent.new.line.ring)) c.self.view_is sent.ensures.history
