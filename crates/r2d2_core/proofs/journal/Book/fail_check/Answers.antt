use Rattle.std.proofs.Common.{◌≡◌, ◌∙◌, ap, sym, subst, max}
use Rattle.std.specs.Prelude.{option_map}
use Rattle.std.specs.Duration.{as_nanos}
use Rattle.pool_machine.specs.Seen.{seen_gone, map_ok}
use Rattle.pool_machine.specs.Table.{check_answer}
use Rattle.r2d2_core.specs.Records.{seen_record}
use Rattle.r2d2_core.specs.Recorded.{record_of_check}
use Rattle.r2d2_core.specs.Journal.{with_noted}
use Rattle.pool_machine.specs.CoreSteps.{IsFailedCheck}
use Rattle.r2d2_core.specs.Book.{SeenBook}
use Rattle.r2d2_core.specs.BookParts.{beside, book_in}
use Rattle.r2d2_core.specs.Noted.{noted_check}
use Rattle.r2d2_core.proofs.Recording.Beside.{keeps_as, may_note, noted_beside, faithful}
use Rattle.r2d2_core.proofs.Recording.Books.{keeps_check}
use Rattle.r2d2_core.proofs.Recording.Moments.{latest_in, check_at}
use Rattle.r2d2_core.proofs.journal.Book.fail_check.Goals as goal

-- what is noted keeps the records legal
pub note-requires : goal.note-requires
note-requires g c =
    let old = c.self.inside.machine in
    let l = c.self.inside.journal in
    let made : option_map seen_record c.of_check.result ≡ record_of_check (max old.latest (as_nanos c.args.now)) c.args.id
    (check_answer (as_nanos c.args.now) c.args.id old) =
    c.of_check.ensures
    ∙ (ap (λ at. record_of_check at c.args.id (map_ok seen_gone c.fail_check-answer.result))
    (c.latest-at.ensures.value ∙ ap latest_in c.fail_check-answer.ensures.after)
    ∙ (ap (record_of_check _ c.args.id) c.fail_check-answer.ensures.answer
    ∙ check_at (as_nanos c.args.now) c.args.id c.args.text old)) in
    let keeps = keeps_as (beside old l) _ _ _ c.fail_check-answer.new.self made c.fail_check-answer.ensures.after
    (keeps_check (as_nanos c.args.now) c.args.id c.args.text (book_in old l) c.self.invariant.sound c.self.invariant.recorded) in
    may_note l _ old c.fail_check-answer.new.self keeps

pub returns : goal.returns
returns g c =
    let old = c.self.inside.machine in
    let l = c.self.inside.journal in
    let made : option_map seen_record c.of_check.result ≡ record_of_check (max old.latest (as_nanos c.args.now)) c.args.id
    (check_answer (as_nanos c.args.now) c.args.id old) =
    c.of_check.ensures
    ∙ (ap (λ at. record_of_check at c.args.id (map_ok seen_gone c.fail_check-answer.result))
    (c.latest-at.ensures.value ∙ ap latest_in c.fail_check-answer.ensures.after)
    ∙ (ap (record_of_check _ c.args.id) c.fail_check-answer.ensures.answer
    ∙ check_at (as_nanos c.args.now) c.args.id c.args.text old)) in
    let keeps = keeps_as (beside old l) _ _ _ c.fail_check-answer.new.self made c.fail_check-answer.ensures.after
    (keeps_check (as_nanos c.args.now) c.args.id c.args.text (book_in old l) c.self.invariant.sound c.self.invariant.recorded) in
    record {
      of_core = subst
          (λ (b : SeenBook _). IsFailedCheck c.args.now c.args.id c.args.text
          c.fail_check-answer.result b.picture c.fail_check-answer.new.self)
          c.self.view_is c.fail_check-answer.ensures;
      noted = subst (λ (b : SeenBook _). beside c.fail_check-answer.new.self c.note.new.self ≡ noted_check (as_nanos c.args.now) c.args.id
          (map_ok seen_gone c.fail_check-answer.result) b) c.self.view_is
          (noted_beside l c.note.new.self _ old c.fail_check-answer.new.self c.self.invariant keeps c.note.ensures
          ∙ ap (λ made. with_noted made (beside old l))
          (made ∙ sym (ap (record_of_check _ c.args.id) c.fail_check-answer.ensures.answer)));
    }

pub invariant_of-self : goal.invariant_of-self
invariant_of-self g c =
    let old = c.self.inside.machine in
    let l = c.self.inside.journal in
    let made : option_map seen_record c.of_check.result ≡ record_of_check (max old.latest (as_nanos c.args.now)) c.args.id
    (check_answer (as_nanos c.args.now) c.args.id old) =
    c.of_check.ensures
    ∙ (ap (λ at. record_of_check at c.args.id (map_ok seen_gone c.fail_check-answer.result))
    (c.latest-at.ensures.value ∙ ap latest_in c.fail_check-answer.ensures.after)
    ∙ (ap (record_of_check _ c.args.id) c.fail_check-answer.ensures.answer
    ∙ check_at (as_nanos c.args.now) c.args.id c.args.text old)) in
    let keeps = keeps_as (beside old l) _ _ _ c.fail_check-answer.new.self made c.fail_check-answer.ensures.after
    (keeps_check (as_nanos c.args.now) c.args.id c.args.text (book_in old l) c.self.invariant.sound c.self.invariant.recorded) in
    faithful l c.note.new.self _ old c.fail_check-answer.new.self c.self.invariant c.fail_check-answer.ensures.sound keeps c.note.ensures
