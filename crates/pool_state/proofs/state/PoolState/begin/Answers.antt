use Rattle.pool_state.specs.Ring.{places_in}
use Rattle.pool_state.proofs.Lined.{none_more_begun}
use Rattle.pool_state.proofs.Guarded.{kept_quiet}
use Rattle.pool_state.proofs.Waits.{goes_begin}
use Rattle.pool_state.proofs.state.PoolState.begin.Goals as goal

pub invariant_of-self : goal.invariant_of-self
invariant_of-self g c =
    let state = c.self.inside in
    let p = state.book.book.picture in
    let q = c.begin.new.self.book.picture in
    kept_quiet p q (places_in state.line.ring) state.owed state.waiting c.self.invariant (none_more_begun c.args.now c.begin.result p q c.begin.ensures.step.of_core)
    (goes_begin c.args.now c.begin.result p q c.begin.ensures.step.of_core)
