use Rattle.std.proofs.Common.{true}
use Rattle.pool_state.proofs.Waits.{none_lost, none_sleeps_due, unchanged}
use Rattle.pool_state.proofs.state.PoolState.give_up_late.Goals as goal

pub invariant_of-self : goal.invariant_of-self
invariant_of-self g c =
    let state = c.self.inside in
    let p = state.book.book.picture in
    let sent = c.wake_if-to_wake in
    record {
      told = c.self.invariant.told;
      in_line = c.self.invariant.in_line;
      none_lost = none_lost true sent.result state.waiting sent.new.self p p (unchanged true p) c.self.invariant.none_lost sent.ensures.sent sent.ensures.within sent.ensures.waits;
      others = none_sleeps_due state.waiting sent.new.self p sent.ensures.sleepers;
    }
