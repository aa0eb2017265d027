use Rattle.std.proofs.Common.{length, ap, arith}
use Rattle.pool_state.specs.Ring.{places_in}
use Rattle.pool_state.proofs.Guarded.{kept_woken, none_lost-evicted}
use Rattle.pool_state.proofs.state.PoolState.evict.Goals as goal

pub invariant_of-self : goal.invariant_of-self
invariant_of-self g c =
    let state = c.self.inside in
    let p = state.book.book.picture in
    let q = c.evict.new.self.book.picture in
    kept_woken p q (places_in state.line.ring) state.owed state.waiting c.due_to_all-to_wake.new.waiting c.self.invariant (omega (arith, ap length c.evict.ensures.comes_to.none_idle))
    (none_lost-evicted _ p q (places_in state.line.ring) state.owed c.evict.ensures.comes_to c.self.invariant.in_line) c.due_to_all-to_wake.ensures.counted
