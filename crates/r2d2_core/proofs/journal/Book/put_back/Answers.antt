use Rattle.std.proofs.Common.{◌≡◌, ◌∙◌, ap, sym, subst, max}
use Rattle.std.specs.Prelude.{option_map}
use Rattle.std.specs.Duration.{as_nanos}
use Rattle.pool_machine.specs.Seen.{seen_returned, map_ok}
use Rattle.pool_machine.specs.Table.{return_answer}
use Rattle.r2d2_core.specs.Records.{seen_record}
use Rattle.r2d2_core.specs.Recorded.{record_of_return}
use Rattle.r2d2_core.specs.Journal.{with_noted}
use Rattle.pool_machine.specs.CoreSteps.{IsReturn}
use Rattle.r2d2_core.specs.Book.{SeenBook}
use Rattle.r2d2_core.specs.BookParts.{beside, book_in}
use Rattle.r2d2_core.specs.Noted.{noted_return}
use Rattle.r2d2_core.proofs.Recording.Beside.{keeps_as, may_note, noted_beside, faithful}
use Rattle.r2d2_core.proofs.Recording.Books.{keeps_return}
use Rattle.r2d2_core.proofs.Recording.Moments.{latest_in, return_at}
use Rattle.r2d2_core.proofs.journal.Book.put_back.Goals as goal

-- what is noted keeps the records legal
pub note-requires : goal.note-requires
note-requires g c =
    let old = c.self.inside.machine in
    let l = c.self.inside.journal in
    let made : option_map seen_record c.of_return.result ≡ record_of_return (max old.latest (as_nanos c.args.now)) c.args.id
    (return_answer (as_nanos c.args.now) c.args.id c.args.value c.args.broken old) =
    c.of_return.ensures
    ∙ (ap (λ at. record_of_return at c.args.id (map_ok seen_returned c.put_back-answer.result))
    (c.latest-at.ensures.value ∙ ap latest_in c.put_back-answer.ensures.after)
    ∙ (ap (record_of_return _ c.args.id) c.put_back-answer.ensures.answer
    ∙ return_at (as_nanos c.args.now) c.args.id c.args.value c.args.broken old)) in
    let keeps = keeps_as (beside old l) _ _ _ c.put_back-answer.new.self made c.put_back-answer.ensures.after
    (keeps_return (as_nanos c.args.now) c.args.id c.args.value c.args.broken (book_in old l) c.self.invariant.sound c.self.invariant.recorded) in
    may_note l _ old c.put_back-answer.new.self keeps

pub returns : goal.returns
returns g c =
    let old = c.self.inside.machine in
    let l = c.self.inside.journal in
    let made : option_map seen_record c.of_return.result ≡ record_of_return (max old.latest (as_nanos c.args.now)) c.args.id
    (return_answer (as_nanos c.args.now) c.args.id c.args.value c.args.broken old) =
    c.of_return.ensures
    ∙ (ap (λ at. record_of_return at c.args.id (map_ok seen_returned c.put_back-answer.result))
    (c.latest-at.ensures.value ∙ ap latest_in c.put_back-answer.ensures.after)
    ∙ (ap (record_of_return _ c.args.id) c.put_back-answer.ensures.answer
    ∙ return_at (as_nanos c.args.now) c.args.id c.args.value c.args.broken old)) in
    let keeps = keeps_as (beside old l) _ _ _ c.put_back-answer.new.self made c.put_back-answer.ensures.after
    (keeps_return (as_nanos c.args.now) c.args.id c.args.value c.args.broken (book_in old l) c.self.invariant.sound c.self.invariant.recorded) in
    record {
      of_core = subst
          (λ (b : SeenBook _). IsReturn c.args.now c.args.id c.args.value c.args.broken
          c.put_back-answer.result b.picture c.put_back-answer.new.self)
          c.self.view_is c.put_back-answer.ensures;
      noted = subst (λ (b : SeenBook _). beside c.put_back-answer.new.self c.note.new.self ≡ noted_return (as_nanos c.args.now) c.args.id
          (map_ok seen_returned c.put_back-answer.result) b) c.self.view_is
          (noted_beside l c.note.new.self _ old c.put_back-answer.new.self c.self.invariant keeps c.note.ensures
          ∙ ap (λ made. with_noted made (beside old l))
          (made ∙ sym (ap (record_of_return _ c.args.id) c.put_back-answer.ensures.answer)));
    }

pub invariant_of-self : goal.invariant_of-self
invariant_of-self g c =
    let old = c.self.inside.machine in
    let l = c.self.inside.journal in
    let made : option_map seen_record c.of_return.result ≡ record_of_return (max old.latest (as_nanos c.args.now)) c.args.id
    (return_answer (as_nanos c.args.now) c.args.id c.args.value c.args.broken old) =
    c.of_return.ensures
    ∙ (ap (λ at. record_of_return at c.args.id (map_ok seen_returned c.put_back-answer.result))
    (c.latest-at.ensures.value ∙ ap latest_in c.put_back-answer.ensures.after)
    ∙ (ap (record_of_return _ c.args.id) c.put_back-answer.ensures.answer
    ∙ return_at (as_nanos c.args.now) c.args.id c.args.value c.args.broken old)) in
    let keeps = keeps_as (beside old l) _ _ _ c.put_back-answer.new.self made c.put_back-answer.ensures.after
    (keeps_return (as_nanos c.args.now) c.args.id c.args.value c.args.broken (book_in old l) c.self.invariant.sound c.self.invariant.recorded) in
    faithful l c.note.new.self _ old c.put_back-answer.new.self c.self.invariant c.put_back-answer.ensures.sound keeps c.note.ensures
