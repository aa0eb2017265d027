use Rattle.std.proofs.Common.{◌∷◌, sym, subst}
use Rattle.pool_state.specs.Order.{WaitsOn, IsHistoryOf}
use Rattle.pool_state.specs.Ring.{places_in}
use Rattle.pool_state.proofs.Order.{waits_on}
use Rattle.pool_state.proofs.line.queue.Line.wait_on.Goals as goal

pub returns-clause-history : goal.returns-clause-history
returns-clause-history c = λ h is stands.
    let s = c.args.slot in
    subst (IsHistoryOf (WaitsOn s ∷ h)) (sym c.mark.ensures.places) (waits_on h s (places_in c.args.self.now.ring) stands is)
