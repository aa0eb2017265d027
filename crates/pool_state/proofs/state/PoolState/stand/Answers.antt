use Rattle.std.proofs.Common.{◌≤◌, ◌-◌, List, length, sym, ◌∙◌, ap, subst}
use Rattle.std.specs.Prelude.{◌^◌}
use Rattle.pool_state.specs.Ring.{places_in}
use Rattle.pool_state.specs.declared.line.place.Place.{Place}
use Rattle.pool_state.specs.Guarded.{NoneInLineIsLost}
use Rattle.pool_state.specs.Waiting.{AreTold, told_at, waiting_in}
use Rattle.pool_state.specs.Waiting.{before}
use Rattle.pool_state.proofs.Waiting.{kept_join, kept_quiet}
use Rattle.pool_state.specs.Order.{Event, IsHistoryOf, IsPlaceIn, with_wait}
use Rattle.pool_state.proofs.Guarded.{kept_told, few_wait, none_lost-joined, none_lost-waits_on}
use Rattle.pool_state.proofs.Standing.{told_at-joined, told_at-quiet}
use Rattle.pool_state.proofs.state.PoolState.stand.Goals as goal

pub invariant_of-self-in_default : goal.invariant_of-self-in_default
invariant_of-self-in_default g c =
    let state = c.self.inside in
    let ps = places_in state.line.ring in
    let p = state.book.book.picture in
    let s = c.in_ok-slot.slot in
    let owed = c.saturating_add-self-inside in
    let none = subst (λ v. length v.book.picture.idle ≤ before c.args.place.now v.places) (sym c.self.view_is) c.requires in
    let joined = c.in_ok-slot.ensures.joined in
    let P : List Place → Type 0 = λ qs. AreTold (length p.idle) qs in
    let Q : List Place → Type 0 = λ qs. NoneInLineIsLost p qs owed.result in
    let few = subst (λ (qs : List Place). waiting_in qs ≤ 2 ^ 32 - 1) joined (few_wait c.join.new.self) in
    kept_told p ps (places_in c.join.new.self.ring) state.owed owed.result state.waiting c.self.invariant
    (subst P (sym joined) (kept_join (length p.idle) ps s (subst (λ o. length p.idle ≤ before o ps) c.in_default.is none) c.self.invariant.told))
    (subst Q (sym joined) (none_lost-joined p ps state.owed owed.result s (2 ^ 32 - 1) c.self.invariant.in_line few owed.ensures))

pub invariant_of-self-2 : goal.invariant_of-self-2
invariant_of-self-2 g c =
    let state = c.self.inside in
    let ps = places_in state.line.ring in
    let p = state.book.book.picture in
    let s = c.in-Some.slot in
    let owed = c.saturating_add-self-inside-2 in
    let none = subst (λ v. length v.book.picture.idle ≤ before c.args.place.now v.places) (sym c.self.view_is) c.requires in
    let waits = c.wait_on.ensures.places in
    let P : List Place → Type 0 = λ qs. AreTold (length p.idle) qs in
    let Q : List Place → Type 0 = λ qs. NoneInLineIsLost p qs owed.result in
    let few = subst (λ (qs : List Place). waiting_in qs ≤ 2 ^ 32 - 1) waits (few_wait c.wait_on.new.self) in
    kept_told p ps (places_in c.wait_on.new.self.ring) state.owed owed.result state.waiting c.self.invariant
    (subst P (sym waits) (kept_quiet (length p.idle) s ps (subst (λ o. length p.idle ≤ before o ps) c.in-Some.is none) c.self.invariant.told))
    (subst Q (sym waits) (none_lost-waits_on p ps state.owed owed.result s (2 ^ 32 - 1) c.self.invariant.in_line few owed.ensures))

pub returns-in_default-clause-quiet : goal.returns-in_default-clause-quiet
returns-in_default-clause-quiet g c =
    ap (told_at c.in_ok-slot.slot) c.in_ok-slot.ensures.joined ∙ told_at-joined c.in_ok-slot.slot (places_in c.self.inside.line.ring) c.in_ok-slot.ensures.fresh

pub returns-clause-quiet : goal.returns-clause-quiet
returns-clause-quiet g c = ap (told_at c.in-Some.slot) c.wait_on.ensures.places ∙ told_at-quiet c.in-Some.slot (places_in c.self.inside.line.ring)

pub returns-clause-history : goal.returns-clause-history
returns-clause-history g c =
    let ps = places_in c.self.inside.line.ring in
    let place = c.args.place.now in
    let after = places_in c.wait_on.new.self.ring in
    let here : (h : List Event) → IsHistoryOf h ps → IsPlaceIn h place → IsHistoryOf (with_wait place place h) after =
    subst (λ o. (h : List Event) → IsHistoryOf h ps → IsPlaceIn h o → IsHistoryOf (with_wait o o h) after) (sym c.in-Some.is) (λ h is stands. c.wait_on.ensures.history h is stands) in
    subst (λ v. (h : List Event) → IsHistoryOf h v.places → IsPlaceIn h place → IsHistoryOf (with_wait place place h) after) c.self.view_is here
