use Rattle.std.proofs.Common.{◌<◌, false, List, length, sym, subst, arith}
use Rattle.pool_state.specs.Ring.{places_in}
use Rattle.pool_state.specs.declared.line.place.Place.{Place}
use Rattle.pool_state.specs.Waiting.{AreTold}
use Rattle.pool_state.specs.Waiting.{before}
use Rattle.pool_state.proofs.Lined.{one_taken, one_found, one_lent, one_less_served}
use Rattle.pool_state.specs.Guarded.{NoneInLineIsLost}
use Rattle.pool_state.proofs.Guarded.{kept_quiet, kept_told, none_lost-served}
use Rattle.pool_state.proofs.Waits.{goes_take}
use Rattle.pool_state.specs.Order.{Event, IsHistoryOf, IsPlaceIn, with_take}
use Rattle.pool_state.proofs.Order.{took_at_once, was_told_in_turn}
use Rattle.pool_state.proofs.state.PoolState.take.Goals as goal

pub invariant_of-self : goal.invariant_of-self
invariant_of-self g c =
    let ps = places_in c.self.inside.line.ring in
    let old = c.self.inside.book.book.picture in
    let new = c.lend-taken.new.self.book.picture in
    let less = one_taken c.args.now false c.lend-taken.result.0 old new c.lend-taken.ensures.step.of_core in
    kept_quiet old new ps c.self.inside.owed c.self.inside.waiting c.self.invariant (omega (arith, less))
    (goes_take c.args.now false c.lend-taken.result.0 old new c.lend-taken.ensures.step.of_core)

pub invariant_of-self-2 : goal.invariant_of-self-2
invariant_of-self-2 g c =
    let ps = places_in c.self.inside.line.ring in
    let old = c.self.inside.book.book.picture in
    let new = c.lend-taken.new.self.book.picture in
    let turn = subst (λ v. before c.args.place v.places < length v.book.picture.idle) (sym c.self.view_is) c.requires.turn in
    let one = one_found c.args.now false c.lend-taken.result.0 old new c.lend-taken.ensures.step.of_core (omega (arith, turn)) in
    let P : List Place → Type 0 = λ qs. AreTold (length new.idle) qs in
    let owed = c.self.inside.owed in
    let Q : List Place → Type 0 = λ qs. NoneInLineIsLost new qs owed in
    let goes = goes_take c.args.now false c.lend-taken.result.0 old new c.lend-taken.ensures.step.of_core in
    kept_told new ps (places_in c.serve.new.self.ring) owed owed c.self.inside.waiting
    (kept_quiet old new ps owed c.self.inside.waiting c.self.invariant (omega (arith, one)) goes)
    (subst P (sym c.serve.ensures.places) (one_less_served (length old.idle) (length new.idle) c.in-Some.slot ps c.self.invariant.told one))
    (subst Q (sym c.serve.ensures.places) (none_lost-served old new ps owed c.in-Some.slot goes
    (one_lent c.args.now c.lend-taken.result.0 old new c.lend-taken.ensures.step.of_core (omega (arith, turn))) c.self.invariant.in_line))

pub returns-in_default-clause-history : goal.returns-in_default-clause-history
returns-in_default-clause-history g c =
    let ps = places_in c.self.inside.line.ring in
    let idle = length c.self.inside.book.book.picture.idle in
    let turn = subst (λ v. before c.args.place v.places < length v.book.picture.idle) (sym c.self.view_is) c.requires.turn in
    let nowhere : (h : List Event) → IsHistoryOf h ps → IsPlaceIn h c.args.place → IsHistoryOf (with_take c.args.place idle h) ps =
    λ h is at. subst (λ o. before o ps < idle → IsPlaceIn h o → IsHistoryOf (with_take o idle h) ps) (sym c.in_default.is) (λ lt none. took_at_once h idle ps lt is) turn at in
    subst (λ v. (h : List Event) → IsHistoryOf h v.places → IsPlaceIn h c.args.place → IsHistoryOf (with_take c.args.place (length v.book.picture.idle) h) ps) c.self.view_is
    nowhere

pub returns-clause-history : goal.returns-clause-history
returns-clause-history g c =
    let ps = places_in c.self.inside.line.ring in
    let after = places_in c.serve.new.self.ring in
    let idle = length c.self.inside.book.book.picture.idle in
    let turn = subst (λ v. before c.args.place v.places < length v.book.picture.idle) (sym c.self.view_is) c.requires.turn in
    let here : (h : List Event) → IsHistoryOf h ps → IsPlaceIn h c.args.place → IsHistoryOf (with_take c.args.place idle h) after =
    λ h is at. subst (λ o. before o ps < idle → IsPlaceIn h o → IsHistoryOf (with_take o idle h) after) (sym c.in-Some.is) (λ lt stands. c.serve.ensures.history h idle is stands (was_told_in_turn h c.in-Some.slot idle ps c.self.invariant.told lt is) lt) turn at in
    subst (λ v. (h : List Event) → IsHistoryOf h v.places → IsPlaceIn h c.args.place → IsHistoryOf (with_take c.args.place (length v.book.picture.idle) h) after) c.self.view_is
    here
