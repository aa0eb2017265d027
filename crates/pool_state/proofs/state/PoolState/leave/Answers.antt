use Rattle.std.proofs.Common.{◌≡◌, List, ◌∷◌, length, sym, ◌∙◌, ap, subst}
use Rattle.pool_state.specs.Ring.{places_in}
use Rattle.pool_state.specs.declared.line.place.Place.{Place}
use Rattle.pool_state.specs.Waiting.{AreTold, told_if, told_at, without}
use Rattle.pool_state.proofs.Lined.{left_told}
use Rattle.pool_state.specs.Guarded.{NoneInLineIsLost}
use Rattle.pool_state.proofs.Guarded.{kept_told, none_lost-left}
use Rattle.pool_state.specs.Order.{Event, Left, IsHistoryOf, with_told, with_leave}
use Rattle.pool_state.proofs.state.PoolState.leave.Goals as goal

pub invariant_of-self : goal.invariant_of-self
invariant_of-self g c =
    let ps = places_in c.self.inside.line.ring in
    let idle = length c.self.inside.book.book.picture.idle in
    let s = c.in-Some.slot in
    let left = c.leave-was_told in
    let P : List Place → Type 0 = λ qs. AreTold idle qs in
    let now : places_in c.tell_if.new.self.ring ≡ told_if (told_at s ps) (without s ps) =
    c.tell_if.ensures.places ∙ (ap (told_if left.result) left.ensures.places ∙ ap (λ b. told_if b (without s ps)) left.ensures.told) in
    let p = c.self.inside.book.book.picture in
    let owed = c.self.inside.owed in
    let Q : List Place → Type 0 = λ qs. NoneInLineIsLost p qs owed in
    kept_told p ps (places_in c.tell_if.new.self.ring) owed owed c.self.inside.waiting c.self.invariant
    (subst P (sym now) (left_told idle s ps c.self.invariant.told)) (subst Q (sym now) (none_lost-left p ps owed s c.self.invariant.in_line))

pub returns-clause-history : goal.returns-clause-history
returns-clause-history g c =
    let ps = places_in c.self.inside.line.ring in
    let s = c.in-Some.slot in
    let after = places_in c.tell_if.new.self.ring in
    let gone : (h : List Event) → IsHistoryOf h ps → IsHistoryOf (with_told c.tell_if.result (with_leave c.args.place.now h)) after =
    λ h is. subst (λ o. IsHistoryOf (with_told c.tell_if.result (with_leave o h)) after) c.in-Some.ensures.value (c.tell_if.ensures.history (Left s ∷ h) (c.leave-was_told.ensures.history h is)) in
    let of_view : (h : List Event) → IsHistoryOf h c.args.self.now.places → IsHistoryOf (with_told c.tell_if.result (with_leave c.args.place.now h)) after =
    subst (λ v. (h : List Event) → IsHistoryOf h v.places → IsHistoryOf (with_told c.tell_if.result (with_leave c.args.place.now h)) after) c.self.view_is gone in
    subst (λ o. (h : List Event) → IsHistoryOf h c.args.self.now.places → IsHistoryOf (with_told o (with_leave c.args.place.now h)) after) (sym c.told.ensures.told) of_view
