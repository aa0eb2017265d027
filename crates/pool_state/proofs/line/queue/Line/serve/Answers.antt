use Rattle.std.proofs.Common.{◌∷◌, sym, subst}
use Rattle.pool_state.specs.Order.{Took, IsHistoryOf}
use Rattle.pool_state.specs.Ring.{places_in}
use Rattle.pool_state.proofs.Order.{took}
use Rattle.pool_state.proofs.line.queue.Line.serve.Goals as goal

pub returns-clause-history : goal.returns-clause-history
returns-clause-history c = λ h idle is stands told turn.
    let s = c.args.slot in
    subst (IsHistoryOf (Took s idle ∷ h)) (sym c.mark.ensures.places) (took h s idle (places_in c.args.self.now.ring) stands told turn is)
