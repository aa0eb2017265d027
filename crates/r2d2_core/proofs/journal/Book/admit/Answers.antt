use Rattle.std.proofs.Common.{◌≡◌, ◌∙◌, ap, sym, subst, max}
use Rattle.std.specs.Prelude.{option_map}
use Rattle.std.specs.Duration.{as_nanos}
use Rattle.pool_machine.specs.Table.{admit_answer}
use Rattle.r2d2_core.specs.Records.{seen_record}
use Rattle.r2d2_core.specs.Recorded.{record_of_admission}
use Rattle.r2d2_core.specs.Journal.{with_noted}
use Rattle.pool_machine.specs.CoreSteps.{IsAdmission}
use Rattle.r2d2_core.specs.Book.{SeenBook}
use Rattle.r2d2_core.specs.BookParts.{beside, book_in}
use Rattle.r2d2_core.specs.Noted.{noted_admission}
use Rattle.r2d2_core.proofs.Recording.Beside.{keeps_as, may_note, noted_beside, faithful}
use Rattle.r2d2_core.proofs.Recording.Books.{keeps_admit}
use Rattle.r2d2_core.proofs.Recording.Moments.{latest_in, admission_at}
use Rattle.r2d2_core.proofs.journal.Book.admit.Goals as goal

-- what is noted keeps the records legal
pub note-requires : goal.note-requires
note-requires g c =
    let old = c.self.inside.machine in
    let l = c.self.inside.journal in
    let made : option_map seen_record c.of_admission.result ≡ record_of_admission (max old.latest (as_nanos c.args.now)) c.args.id
    (admit_answer c.args.id c.args.value old) =
    c.of_admission.ensures
    ∙ (ap (λ at. record_of_admission at c.args.id c.admit-answer.result) (c.latest-at.ensures.value ∙ ap latest_in c.admit-answer.ensures.after)
    ∙ (ap (record_of_admission _ c.args.id) c.admit-answer.ensures.answer
    ∙ admission_at (as_nanos c.args.now) c.args.id c.args.value old)) in
    let keeps = keeps_as (beside old l) _ _ _ c.admit-answer.new.self made c.admit-answer.ensures.after
    (keeps_admit (as_nanos c.args.now) c.args.id c.args.value (book_in old l) c.self.invariant.sound c.self.invariant.recorded) in
    may_note l _ old c.admit-answer.new.self keeps

pub returns : goal.returns
returns g c =
    let old = c.self.inside.machine in
    let l = c.self.inside.journal in
    let made : option_map seen_record c.of_admission.result ≡ record_of_admission (max old.latest (as_nanos c.args.now)) c.args.id
    (admit_answer c.args.id c.args.value old) =
    c.of_admission.ensures
    ∙ (ap (λ at. record_of_admission at c.args.id c.admit-answer.result) (c.latest-at.ensures.value ∙ ap latest_in c.admit-answer.ensures.after)
    ∙ (ap (record_of_admission _ c.args.id) c.admit-answer.ensures.answer
    ∙ admission_at (as_nanos c.args.now) c.args.id c.args.value old)) in
    let keeps = keeps_as (beside old l) _ _ _ c.admit-answer.new.self made c.admit-answer.ensures.after
    (keeps_admit (as_nanos c.args.now) c.args.id c.args.value (book_in old l) c.self.invariant.sound c.self.invariant.recorded) in
    record {
      of_core = subst
          (λ (b : SeenBook _). IsAdmission c.args.now c.args.id c.args.value
          c.admit-answer.result b.picture c.admit-answer.new.self)
          c.self.view_is c.admit-answer.ensures;
      noted = subst (λ (b : SeenBook _). beside c.admit-answer.new.self c.note.new.self ≡ noted_admission
          (as_nanos c.args.now) c.args.id c.admit-answer.result b) c.self.view_is
          (noted_beside l c.note.new.self _ old c.admit-answer.new.self c.self.invariant keeps c.note.ensures
          ∙ ap (λ made. with_noted made (beside old l))
          (made ∙ sym (ap (record_of_admission _ c.args.id) c.admit-answer.ensures.answer)));
    }

pub invariant_of-self : goal.invariant_of-self
invariant_of-self g c =
    let old = c.self.inside.machine in
    let l = c.self.inside.journal in
    let made : option_map seen_record c.of_admission.result ≡ record_of_admission (max old.latest (as_nanos c.args.now)) c.args.id
    (admit_answer c.args.id c.args.value old) =
    c.of_admission.ensures
    ∙ (ap (λ at. record_of_admission at c.args.id c.admit-answer.result) (c.latest-at.ensures.value ∙ ap latest_in c.admit-answer.ensures.after)
    ∙ (ap (record_of_admission _ c.args.id) c.admit-answer.ensures.answer
    ∙ admission_at (as_nanos c.args.now) c.args.id c.args.value old)) in
    let keeps = keeps_as (beside old l) _ _ _ c.admit-answer.new.self made c.admit-answer.ensures.after
    (keeps_admit (as_nanos c.args.now) c.args.id c.args.value (book_in old l) c.self.invariant.sound c.self.invariant.recorded) in
    faithful l c.note.new.self _ old c.admit-answer.new.self c.self.invariant c.admit-answer.ensures.sound keeps c.note.ensures
