use Rattle.std.proofs.Common.{◌≡◌, subst, None}
use Rattle.std.specs.Map.{lookup}
use Rattle.r2d2.specs.Entries.{IsPlaceOf}
use Rattle.r2d2.proofs.Changes.{changed_in_place, changed_by_push}
use Rattle.r2d2.proofs.Places.{distinct_grown}
use Rattle.r2d2.proofs.extensions.Extensions.insert.Goals as goal
use Rattle.r2d2.proofs.extensions.Extensions.insert.Goals.{in-Ok, in-Err}

-- kinds can be sent, so what is assumed of them is assumed of every thread: here it is used in this one
pub invariant_of-self-in-None : goal.invariant_of-self-in-None
invariant_of-self-in-None g c =
    let kinds = g.met.X.Kind.Eq in
    let none = subst (λ es. lookup (g.X.Kind.PartialEq.eq c.kind-kind.result) es ≡ None) c.deref.ensures.value c.in-None.ensures.none in
    distinct_grown kinds.laws _ _ c.kind-kind.result c.args.value _ c.push.ensures.items none c.self.invariant

pub returns-in-Some-clause-map : goal.returns-in-Some-clause-map
returns-in-Some-clause-map g c =
    let kinds = g.met.X.Kind.Eq in
    let at = subst (λ es. IsPlaceOf (g.X.Kind.PartialEq.eq c.kind-kind.result) es c.in-Some.place) c.deref.ensures.value c.in-Some.ensures.some in
    changed_in_place kinds.laws _ _ _ _ _ _ _ _ c.self.view_is c.kind-kind.ensures c.replace.ensures.after c.index_mut.ensures.value at

pub returns-after-push-clause-map : goal.returns-after-push-clause-map
returns-after-push-clause-map g c =
    let kinds = g.met.X.Kind.Eq in
    let none = subst (λ es. lookup (g.X.Kind.PartialEq.eq c.kind-kind.result) es ≡ None) c.deref.ensures.value c.in-None.ensures.none in
    elim c.match-push.branch [
      | in-Ok w ↦ rw w.result-is (changed_by_push kinds.laws _ _ _ _ _ _ c.self.view_is c.kind-kind.ensures w.in-Ok.ensures.items none)
      | in-Err w ↦ rw w.result-is tt
    ]
