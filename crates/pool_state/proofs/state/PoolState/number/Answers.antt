use Rattle.pool_state.specs.Ring.{places_in}
use Rattle.pool_state.proofs.Lined.{none_more_numbered}
use Rattle.pool_state.proofs.Guarded.{kept_quiet}
use Rattle.pool_state.proofs.Waits.{goes_number}
use Rattle.pool_state.proofs.state.PoolState.number.Goals as goal

pub invariant_of-self : goal.invariant_of-self
invariant_of-self g c =
    let state = c.self.inside in
    let p = state.book.book.picture in
    let q = c.number.new.self.book.picture in
    kept_quiet p q (places_in state.line.ring) state.owed state.waiting c.self.invariant (none_more_numbered c.args.tries c.number.result p q c.number.ensures.step.of_core)
    (goes_number c.args.tries c.number.result p q c.number.ensures.step.of_core)
