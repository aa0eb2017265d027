use Rattle.std.proofs.Common.{subst}
use Rattle.r2d2.specs.Entries.{IsPlaceOf}
use Rattle.r2d2.proofs.Changes.{changed_by_remove}
use Rattle.r2d2.proofs.extensions.Extensions.remove.Goals as goal

pub returns-clause-map : goal.returns-clause-map
returns-clause-map g c =
    let kinds = g.met.X.Kind.Eq in
    let at = subst (λ es. IsPlaceOf (g.X.Kind.PartialEq.eq c.args.kind.now) es c.in_ok-place.place) c.deref.ensures.value c.in_ok-place.ensures.some in
    changed_by_remove kinds.laws _ _ _ _ _ c.self.view_is c.remove-value.ensures.items at c.self.invariant
