use Rattle.std.proofs.Common.{◌≡◌, List, ◌∷◌, ℕ, Option, Some, length, sym, ◌∙◌, ap, subst}
use Rattle.std.specs.Duration.{as_nanos}
use Rattle.pool_state.specs.Ring.{places_in}
use Rattle.pool_state.specs.declared.line.place.Place.{Place}
use Rattle.pool_state.specs.declared.line.place.Standing.TheVariants.{Aside}
use Rattle.pool_state.specs.Waiting.{AreTold, told_first, with_standing, first_quiet, first_late, told_instead}
use Rattle.pool_state.specs.Order.{Event, Passed, IsHistoryOf, with_told, with_pass}
use Rattle.pool_state.proofs.Order.{late_in}
use Rattle.pool_state.specs.Guarded.{NoneInLineIsLost}
use Rattle.pool_state.proofs.Guarded.{kept_told, none_lost-passed}
use Rattle.pool_state.proofs.Waiting.{kept_passed}
use Rattle.pool_state.specs.Search.{IsSearch, IsLateSearch, AreSearches}
use Rattle.pool_state.proofs.Searches.{late_search_told, late_search_passed, search_passed}
use Rattle.pool_state.proofs.state.PoolState.pass_late.Goals as goal

pub tell_next-told-requires : goal.tell_next-told-requires
tell_next-told-requires g c =
    let t = as_nanos c.args.now in
    let ends = c.args.ends.now in
    let ps = places_in c.self.inside.line.ring in
    let quiet = c.args.search.now.quiet in
    let P : List Place → Type 0 = λ qs. IsSearch quiet qs in
    let here = subst (λ v. AreSearches t ends c.args.search.now v.places) (sym c.self.view_is) c.requires in
    subst P (sym c.pass.ensures.places) (search_passed quiet c.in_ok-slot.slot ps here.quiet)

pub invariant_of-self : goal.invariant_of-self
invariant_of-self g c =
    let ps = places_in c.self.inside.line.ring in
    let idle = length c.self.inside.book.book.picture.idle in
    let s = c.in_ok-slot.slot in
    let P : List Place → Type 0 = λ qs. AreTold idle qs in
    let now : places_in c.tell_next-told.new.self.ring ≡ told_first (with_standing s Aside ps) = c.tell_next-told.ensures.places ∙ ap told_first c.pass.ensures.places in
    let p = c.self.inside.book.book.picture in
    let owed = c.self.inside.owed in
    let Q : List Place → Type 0 = λ qs. NoneInLineIsLost p qs owed in
    kept_told p ps (places_in c.tell_next-told.new.self.ring) owed owed c.self.inside.waiting c.self.invariant
    (subst P (sym now) (kept_passed idle s ps c.self.invariant.told)) (subst Q (sym now) (none_lost-passed p ps owed s c.self.invariant.in_line))

pub returns-clause-history : goal.returns-clause-history
returns-clause-history g c =
    let t = as_nanos c.args.now in
    let ends = c.args.ends.now in
    let ps = places_in c.self.inside.line.ring in
    let s = c.in_ok-slot.slot in
    let after = places_in c.tell_next-told.new.self.ring in
    let late : first_late t ends ps ≡ Some s = sym c.in_ok-slot.ensures.late in
    let who : c.tell_next-told.result ≡ first_quiet (with_standing s Aside ps) = c.tell_next-told.ensures.who ∙ ap first_quiet c.pass.ensures.places in
    let passed : (h : List Event) → IsHistoryOf h ps → IsHistoryOf (with_told (told_instead (Some s) ps) (with_pass (Some s) h)) after =
    λ h is. subst (λ o. IsHistoryOf (with_told o (Passed s ∷ h)) after) who
    (c.tell_next-told.ensures.history (Passed s ∷ h) (c.pass.ensures.history h is (late_in h t s ends ps late is))) in
    let here : (h : List Event) → IsHistoryOf h ps → IsHistoryOf (with_told (told_instead (first_late t ends ps) ps) (with_pass (first_late t ends ps) h)) after =
    subst (λ (o : Option ℕ). (h : List Event) → IsHistoryOf h ps → IsHistoryOf (with_told (told_instead o ps) (with_pass o h)) after) (sym late) passed in
    subst (λ v. (h : List Event) → IsHistoryOf h v.places
    → IsHistoryOf (with_told (told_instead (first_late t ends v.places) v.places) (with_pass (first_late t ends v.places) h)) after) c.self.view_is here

pub returns-clause-search : goal.returns-clause-search
returns-clause-search g c =
    let t = as_nanos c.args.now in
    let ends = c.args.ends.now in
    let ps = places_in c.self.inside.line.ring in
    let s = c.in_ok-slot.slot in
    let passed = with_standing s Aside ps in
    let late = c.first_late.new.search in
    let P : List Place → Type 0 = λ qs. IsLateSearch t ends late qs in
    let now : places_in c.tell_next-told.new.self.ring ≡ told_first passed = c.tell_next-told.ensures.places ∙ ap told_first c.pass.ensures.places in
    record {
      late = subst P (sym now) (late_search_told t ends late passed (late_search_passed t ends late s ps c.first_late.ensures.search));
      quiet = c.tell_next-told.ensures.search;
    }
