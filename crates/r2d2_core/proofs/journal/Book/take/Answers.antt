use Rattle.std.proofs.Common.{◌≡◌, ◌∙◌, ap, subst, max}
use Rattle.std.specs.Prelude.{option_map}
use Rattle.std.specs.Duration.{as_nanos}
use Rattle.pool_machine.specs.Seen.{seen_take}
use Rattle.pool_machine.specs.Table.{take_answer}
use Rattle.r2d2_core.specs.Records.{seen_record}
use Rattle.r2d2_core.specs.Recorded.{record_of_take}
use Rattle.r2d2_core.specs.Journal.{with_noted}
use Rattle.pool_machine.specs.CoreSteps.{IsTake}
use Rattle.r2d2_core.specs.Book.{SeenBook}
use Rattle.r2d2_core.specs.BookParts.{beside, book_in}
use Rattle.r2d2_core.specs.Noted.{noted_take}
use Rattle.r2d2_core.proofs.Recording.Beside.{keeps_as, may_note, noted_beside, faithful}
use Rattle.r2d2_core.proofs.Recording.Books.{keeps_take}
use Rattle.r2d2_core.proofs.Recording.Moments.{latest_in, latest-take}
use Rattle.r2d2_core.proofs.journal.Book.take.Goals as goal

-- what is noted keeps the records legal
pub note-requires : goal.note-requires
note-requires g c =
    let old = c.self.inside.machine in
    let l = c.self.inside.journal in
    let made : option_map seen_record c.of_take.result ≡ record_of_take (max old.latest (as_nanos c.args.now)) (take_answer c.args.or_order old) =
    c.of_take.ensures
    ∙ (ap (λ at. record_of_take at (seen_take c.take-taken.result)) (c.latest-at.ensures.value
    ∙ (ap latest_in c.take-taken.ensures.after ∙ latest-take (as_nanos c.args.now) c.args.or_order old))
    ∙ ap (record_of_take (max old.latest (as_nanos c.args.now))) c.take-taken.ensures.answer) in
    let keeps = keeps_as (beside old l) _ _ _ c.take-taken.new.self made c.take-taken.ensures.after
    (keeps_take (as_nanos c.args.now) c.args.or_order (book_in old l) c.self.invariant.sound c.self.invariant.recorded) in
    may_note l _ old c.take-taken.new.self keeps

pub returns : goal.returns
returns g c =
    let old = c.self.inside.machine in
    let l = c.self.inside.journal in
    let made : option_map seen_record c.of_take.result ≡ record_of_take (max old.latest (as_nanos c.args.now)) (take_answer c.args.or_order old) =
    c.of_take.ensures
    ∙ (ap (λ at. record_of_take at (seen_take c.take-taken.result)) (c.latest-at.ensures.value
    ∙ (ap latest_in c.take-taken.ensures.after ∙ latest-take (as_nanos c.args.now) c.args.or_order old))
    ∙ ap (record_of_take (max old.latest (as_nanos c.args.now))) c.take-taken.ensures.answer) in
    let keeps = keeps_as (beside old l) _ _ _ c.take-taken.new.self made c.take-taken.ensures.after
    (keeps_take (as_nanos c.args.now) c.args.or_order (book_in old l) c.self.invariant.sound c.self.invariant.recorded) in
    record {
      of_core = subst
          (λ (b : SeenBook _). IsTake c.args.now c.args.or_order
          c.take-taken.result b.picture c.take-taken.new.self)
          c.self.view_is c.take-taken.ensures;
      noted = subst (λ (b : SeenBook _). beside c.take-taken.new.self c.note.new.self ≡ noted_take (as_nanos c.args.now) (seen_take c.take-taken.result) b) c.self.view_is
          (noted_beside l c.note.new.self _ old c.take-taken.new.self c.self.invariant keeps c.note.ensures
          ∙ ap (λ made. with_noted made (beside old l))
          (c.of_take.ensures
          ∙ ap (λ at. record_of_take at (seen_take c.take-taken.result)) (c.latest-at.ensures.value
          ∙ (ap latest_in c.take-taken.ensures.after ∙ latest-take (as_nanos c.args.now) c.args.or_order old))));
    }

pub invariant_of-self : goal.invariant_of-self
invariant_of-self g c =
    let old = c.self.inside.machine in
    let l = c.self.inside.journal in
    let made : option_map seen_record c.of_take.result ≡ record_of_take (max old.latest (as_nanos c.args.now)) (take_answer c.args.or_order old) =
    c.of_take.ensures
    ∙ (ap (λ at. record_of_take at (seen_take c.take-taken.result)) (c.latest-at.ensures.value
    ∙ (ap latest_in c.take-taken.ensures.after ∙ latest-take (as_nanos c.args.now) c.args.or_order old))
    ∙ ap (record_of_take (max old.latest (as_nanos c.args.now))) c.take-taken.ensures.answer) in
    let keeps = keeps_as (beside old l) _ _ _ c.take-taken.new.self made c.take-taken.ensures.after
    (keeps_take (as_nanos c.args.now) c.args.or_order (book_in old l) c.self.invariant.sound c.self.invariant.recorded) in
    faithful l c.note.new.self _ old c.take-taken.new.self c.self.invariant c.take-taken.ensures.sound keeps c.note.ensures
