use Rattle.std.proofs.Common.{◌<◌, map, sym, ◌∙◌, ap, subst, arith, ◌++◌, ◌∷◌, []}
use Rattle.std.specs.Prelude.{option_map}
use Rattle.std.specs.Duration.{as_nanos}
use Rattle.r2d2_core.specs.declared.journal.bounded.Before.{Before}
use Rattle.pool_machine.specs.Limits.{seen_limits}
use Rattle.r2d2_core.specs.Records.{seen_record}
use Rattle.r2d2_core.specs.Bases.{IsLegalBase}
use Rattle.r2d2_core.specs.Folding.{AreLegalFrom}
use Rattle.r2d2_core.specs.Journal.{SeenJournal, added, with_noted, with_record}
use Rattle.r2d2_core.specs.JournalParts.{MayNote, BaseHasRoom, base_before, journal_in, kept_alone}
use Rattle.r2d2_core.specs.RunningBase.{SeenRunningBase}
use Rattle.r2d2_core.proofs.Recording.Beside.{kept_with_room}
use Rattle.r2d2_core.proofs.Recording.Keeping.{gives_up, full_noted, kept_within, none_lost}
use Rattle.r2d2_core.proofs.journal.bounded.Journal.note.Goals as goal

pub invariant_of-self-in-Some-push_back : goal.invariant_of-self-in-Some-push_back
invariant_of-self-in-Some-push_back g c =
    let s = c.self.inside in
    let limits = seen_limits s.limits in
    let made = c.in-Some.made in
    let base = c.in-Folded.running_base.base in
    let room = subst (λ (b : Before _). BaseHasRoom limits s.records.capacity b) c.in-Folded.is c.self.invariant.has_room in
    let may = subst (λ (l : SeenJournal). 0 < l.room → MayNote (option_map seen_record c.args.made) l) (sym c.self.view_is) c.requires room.0 in
    let legal : IsLegalBase limits base = subst (λ (b : Before _). IsLegalBase limits (base_before limits b)) c.in-Folded.is may.legal in
    let are : AreLegalFrom limits base (map seen_record s.records.items ++ seen_record made ∷ []) =
    subst (λ m. AreLegalFrom limits base (added (option_map seen_record m) (map seen_record s.records.items))) c.in-Some.is
    (subst (λ (b : Before _). AreLegalFrom limits (base_before limits b) (added (option_map seen_record c.args.made)
    (map seen_record s.records.items))) c.in-Folded.is may.follow) in
    let up = gives_up limits base s.records.items made c.in-Some-push_back.oldest s.records.capacity c.push_back.result legal are c.push_back.ensures.value
    c.in-Some-push_back.is in
    let fits = kept_within s.records.items made c.push_back.new.self s.records.capacity c.push_back.ensures.items in
    record {
      within = fits.0;
      bounded = omega (arith, fits.1, c.self.invariant.bounded);
      counted = λ none. absurd (none_lost s.lost (sym c.saturating_add-self-inside-in-Some-push_back.ensures ∙ none));
      has_room = (omega (arith, room.0, fits.1), ap (λ (n : SeenRunningBase). n.room) (c.follow.ensures.folded (c.follow.ensures.may ∙ up.may)) ∙ room.1);
    }

pub returns-in-Some-push_back : goal.returns-in-Some-push_back
returns-in-Some-push_back g c =
    let s = c.self.inside in
    let limits = seen_limits s.limits in
    let made = c.in-Some.made in
    let base = c.in-Folded.running_base.base in
    let room = subst (λ (b : Before _). BaseHasRoom limits s.records.capacity b) c.in-Folded.is c.self.invariant.has_room in
    let may = subst (λ (l : SeenJournal). 0 < l.room → MayNote (option_map seen_record c.args.made) l) (sym c.self.view_is) c.requires room.0 in
    let legal : IsLegalBase limits base = subst (λ (b : Before _). IsLegalBase limits (base_before limits b)) c.in-Folded.is may.legal in
    let are : AreLegalFrom limits base (map seen_record s.records.items ++ seen_record made ∷ []) =
    subst (λ m. AreLegalFrom limits base (added (option_map seen_record m) (map seen_record s.records.items))) c.in-Some.is
    (subst (λ (b : Before _). AreLegalFrom limits (base_before limits b) (added (option_map seen_record c.args.made)
    (map seen_record s.records.items))) c.in-Folded.is may.follow) in
    let up = gives_up limits base s.records.items made c.in-Some-push_back.oldest s.records.capacity c.push_back.result legal are c.push_back.ensures.value
    c.in-Some-push_back.is in
    let folded = ap (λ (n : SeenRunningBase). n.base) (c.follow.ensures.folded (c.follow.ensures.may ∙ up.may)) ∙ up.base in
    full_noted limits base c.follow.new.self.base s.records.items c.push_back.new.self made
    (as_nanos s.made) s.records.capacity s.lost c.saturating_add-self-inside-in-Some-push_back.result s.takes c.with_take-self-inside.result
    c.self.invariant.within up.full c.push_back.ensures.items folded c.saturating_add-self-inside-in-Some-push_back.ensures c.with_take-self-inside.ensures
    ∙ (ap (λ (b : Before _). with_record (seen_record made) (record (journal_in s) { base = base_before limits b })) (sym c.in-Folded.is)
    ∙ (ap (λ m. with_noted (option_map seen_record m) (journal_in s)) (sym c.in-Some.is)
    ∙ (kept_with_room (journal_in s) (option_map seen_record c.args.made) room.0 ∙ ap (kept_alone (option_map seen_record c.args.made)) c.self.view_is)))
