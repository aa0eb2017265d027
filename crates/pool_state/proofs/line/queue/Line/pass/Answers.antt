use Rattle.std.proofs.Common.{◌∷◌, sym, subst}
use Rattle.pool_state.specs.Order.{Passed, IsHistoryOf}
use Rattle.pool_state.specs.Ring.{places_in}
use Rattle.pool_state.proofs.Order.{passed}
use Rattle.pool_state.proofs.line.queue.Line.pass.Goals as goal

pub returns-clause-history : goal.returns-clause-history
returns-clause-history c = λ h is told.
    let s = c.args.slot in
    subst (IsHistoryOf (Passed s ∷ h)) (sym c.mark.ensures.places) (passed h s (places_in c.args.self.now.ring) told is)
