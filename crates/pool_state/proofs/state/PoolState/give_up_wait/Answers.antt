use Rattle.pool_state.proofs.Waits.{gave_up, none_sleeps_due}
use Rattle.pool_state.proofs.state.PoolState.give_up_wait.Goals as goal

pub invariant_of-self : goal.invariant_of-self
invariant_of-self g c =
    let state = c.self.inside in
    let p = state.book.book.picture in
    let sent = c.wake_if-to_wake in
    record {
      told = c.self.invariant.told;
      in_line = c.self.invariant.in_line;
      none_lost = gave_up p state.waiting _ sent.new.self sent.result c.self.invariant.none_lost c.end.ensures sent.ensures.sent sent.ensures.within sent.ensures.waits;
      others = none_sleeps_due _ sent.new.self p sent.ensures.sleepers;
    }
