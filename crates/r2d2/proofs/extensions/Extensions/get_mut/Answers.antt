use Rattle.std.proofs.Common.{sym, ap, ◌∙◌, subst, Some}
use Rattle.std.specs.Map.{lookup, set_value}
use Rattle.r2d2.specs.Entries.{IsPlaceOf}
use Rattle.r2d2.proofs.Changes.{changeable_in_place}
use Rattle.r2d2.proofs.Places.{set_through, distinct_through, same_end}
use Rattle.r2d2.proofs.extensions.Extensions.get_mut.Goals as goal

pub invariant_of-self-lent : goal.invariant_of-self-lent
invariant_of-self-lent g c =
    let at = subst (λ es. IsPlaceOf (g.X.Kind.PartialEq.eq c.args.kind.now) es c.in_ok-place.place) c.deref.ensures.value c.in_ok-place.ensures.some in
    distinct_through g.X.Kind.PartialEq.eq g.X.Kind.PartialEq.eq _ _ _ _ c.index_mut-entry.ensures.value at c.self.invariant

pub returns : goal.returns
returns g c =
    let kinds = g.met.X.Kind.Eq in
    let test = g.X.Kind.PartialEq.eq c.args.kind.now in
    let at = subst (λ es. IsPlaceOf test es c.in_ok-place.place) c.deref.ensures.value c.in_ok-place.ensures.some in (
      same_end _ _ _ (λ w. set_through _ _ _ _ c.index_mut-entry.ensures.value at w ∙ ap (λ es. set_value test es w) c.self.view_is),
      record {
        value = ap (λ e. Some e.1) c.index_mut-entry.ensures.value ∙ sym (at.found c.index_mut-entry.result.now) ∙ ap (λ es. lookup test es) c.self.view_is;
        map = changeable_in_place kinds.laws _ _ _ _ c.index_mut-entry.result.now c.self.view_is at;
        writes_back = tt;
      },
    )
