use Rattle.pool_state.specs.Ring.{places_in}
use Rattle.pool_state.proofs.Lined.{none_more_told}
use Rattle.pool_state.proofs.Guarded.{kept_quiet}
use Rattle.pool_state.proofs.Waits.{goes_telling}
use Rattle.pool_state.proofs.state.PoolState.take_error.Goals as goal

pub invariant_of-self : goal.invariant_of-self
invariant_of-self g c =
    let state = c.self.inside in
    let p = state.book.book.picture in
    let q = c.take_error.new.self.book.picture in
    kept_quiet p q (places_in state.line.ring) state.owed state.waiting c.self.invariant (none_more_told c.take_error.result p q c.take_error.ensures.step.of_core)
    (goes_telling c.take_error.result p q c.take_error.ensures.step.of_core)
