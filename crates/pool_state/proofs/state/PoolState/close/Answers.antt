use Rattle.std.proofs.Common.{ap}
use Rattle.pool_machine.specs.Picture.{Picture}
use Rattle.pool_state.specs.Ring.{places_in}
use Rattle.pool_state.proofs.Lined.{none_more_closed}
use Rattle.pool_state.proofs.Guarded.{kept_woken, none_lost-closed}
use Rattle.pool_state.proofs.state.PoolState.close.Goals as goal

pub invariant_of-self : goal.invariant_of-self
invariant_of-self g c =
    let state = c.self.inside in
    let p = state.book.book.picture in
    let q = c.close.new.self.book.picture in
    kept_woken p q (places_in state.line.ring) state.owed state.waiting c.due_to_all-to_wake.new.waiting c.self.invariant (none_more_closed _ p q c.close.ensures.step.of_core)
    (none_lost-closed q (places_in state.line.ring) state.owed (ap (λ (s : Picture _). s.on_order.closed) c.close.ensures.step.of_core.after)) c.due_to_all-to_wake.ensures.counted
