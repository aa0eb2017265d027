use Rattle.std.proofs.Common.{List, sym, ◌∙◌, arith}
use Rattle.pool_state.specs.declared.line.place.Place.{Place}
use Rattle.pool_state.specs.Search.{IsSearch}
use Rattle.pool_state.proofs.Searches.{search_told}
use Rattle.pool_state.specs.Ring.{order, places_in, standing_of}
use Rattle.pool_state.proofs.Rows.{copies_in-row, one_if-le}
use Rattle.pool_state.proofs.Loops.{tell_nobody, tell_first}
use Rattle.std.proofs.Common.{subst, ◌∷◌}
use Rattle.pool_state.specs.Order.{WasTold, IsHistoryOf}
use Rattle.pool_state.proofs.Order.{was_told, none_untold}
use Rattle.pool_state.proofs.line.queue.Line.tell_next.Goals as goal

pub returns-in_default-clause-places : goal.returns-in_default-clause-places
returns-in_default-clause-places c =
    let me = c.args.self.now in
    sym (tell_nobody (places_in me.ring) (sym c.first_quiet.ensures.quiet ∙ c.in_default.is))

pub returns-clause-places : goal.returns-clause-places
returns-clause-places c =
    let me = c.args.self.now in
    let s = c.in-Some.slot in
    let sts = me.ring.standings.items in
    let ss = order me.ring.links.items me.ring.end me.ring.len in
    c.mark.ensures.places ∙ tell_first s (places_in me.ring) (sym c.first_quiet.ensures.quiet ∙ c.in-Some.is) (omega (arith, copies_in-row sts s ss, me.stand s, one_if-le (standing_of sts s)))

pub returns-clause-history : goal.returns-clause-history
returns-clause-history c = λ h is.
    let me = c.args.self.now in
    let s = c.in-Some.slot in
    subst (IsHistoryOf (WasTold s ∷ h)) (sym (returns-clause-places c)) (was_told h s (places_in me.ring) (sym c.first_quiet.ensures.quiet ∙ c.in-Some.is) is)

pub returns-in_default-clause-nobody : goal.returns-in_default-clause-nobody
returns-in_default-clause-nobody c = λ h is s untold.
    let me = c.args.self.now in
    none_untold s (places_in me.ring) (sym c.first_quiet.ensures.quiet ∙ c.in_default.is) (is.stand s ∙ untold)

pub returns-clause-search : goal.returns-clause-search
returns-clause-search c =
    let ps = places_in c.args.self.now.ring in
    let P : List Place → Type 0 = λ qs. IsSearch c.first_quiet.new.search qs in
    subst P (sym (returns-clause-places c)) (search_told c.first_quiet.new.search ps c.first_quiet.ensures.search)
