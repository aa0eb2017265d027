use Rattle.std.proofs.Common.{◌≡◌, ◌∙◌, ap, refl, subst}
use Rattle.std.specs.Prelude.{option_map}
use Rattle.pool_machine.specs.Table.{after_close}
use Rattle.r2d2_core.specs.Records.{seen_record}
use Rattle.r2d2_core.specs.Recorded.{record_of_close}
use Rattle.r2d2_core.specs.Journal.{with_noted}
use Rattle.pool_machine.specs.CoreSteps.{IsClose}
use Rattle.r2d2_core.specs.Book.{SeenBook}
use Rattle.r2d2_core.specs.BookParts.{beside, book_in}
use Rattle.r2d2_core.specs.Noted.{noted_close}
use Rattle.r2d2_core.proofs.Recording.Beside.{keeps_as, may_note, noted_beside, faithful}
use Rattle.r2d2_core.proofs.Recording.Books.{keeps_close}
use Rattle.r2d2_core.proofs.journal.Book.close.Goals as goal

-- what is noted keeps the records legal
pub note-requires : goal.note-requires
note-requires g c =
    let old = c.self.inside.machine in
    let l = c.self.inside.journal in
    let made : option_map seen_record c.of_close-made.result ≡ record_of_close old.latest old.on_order.closed =
    c.of_close-made.ensures ∙ (ap (λ at. record_of_close at c.is_closed.result) c.latest.ensures.value
    ∙ ap (record_of_close old.latest) c.is_closed.ensures.value) in
    let keeps = keeps_as (beside old l) _ _ _ (after_close old) made refl (keeps_close (book_in old l) c.self.invariant.sound c.self.invariant.recorded) in
    may_note l _ old (after_close old) keeps

pub returns : goal.returns
returns g c =
    let old = c.self.inside.machine in
    let l = c.self.inside.journal in
    let made : option_map seen_record c.of_close-made.result ≡ record_of_close old.latest old.on_order.closed =
    c.of_close-made.ensures ∙ (ap (λ at. record_of_close at c.is_closed.result) c.latest.ensures.value
    ∙ ap (record_of_close old.latest) c.is_closed.ensures.value) in
    let keeps = keeps_as (beside old l) _ _ _ c.close.new.self made c.close.ensures.after (keeps_close
    (book_in old l) c.self.invariant.sound c.self.invariant.recorded) in
    record {
      of_core = subst (λ (b : SeenBook _). IsClose c.close.result b.picture c.close.new.self)
          c.self.view_is c.close.ensures;
      noted = subst (λ (b : SeenBook _). beside c.close.new.self c.note.new.self ≡ noted_close b) c.self.view_is
          (noted_beside l c.note.new.self _ old c.close.new.self c.self.invariant keeps c.note.ensures ∙ ap (λ made. with_noted made (beside old l)) made);
    }

pub invariant_of-self : goal.invariant_of-self
invariant_of-self g c =
    let old = c.self.inside.machine in
    let l = c.self.inside.journal in
    let made : option_map seen_record c.of_close-made.result ≡ record_of_close old.latest old.on_order.closed =
    c.of_close-made.ensures ∙ (ap (λ at. record_of_close at c.is_closed.result) c.latest.ensures.value
    ∙ ap (record_of_close old.latest) c.is_closed.ensures.value) in
    let keeps = keeps_as (beside old l) _ _ _ c.close.new.self made c.close.ensures.after (keeps_close
    (book_in old l) c.self.invariant.sound c.self.invariant.recorded) in
    faithful l c.note.new.self _ old c.close.new.self c.self.invariant c.close.ensures.sound keeps c.note.ensures
