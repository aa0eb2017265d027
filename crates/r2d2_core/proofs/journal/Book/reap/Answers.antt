use Rattle.std.proofs.Common.{◌≡◌, ◌∙◌, ap, sym, subst, max, length}
use Rattle.std.specs.Prelude.{option_map}
use Rattle.std.specs.Duration.{as_nanos}
use Rattle.std.proofs.lemmas.List.{length-map}
use Rattle.pool_machine.specs.Seen.{seen_released}
use Rattle.pool_machine.specs.Table.{reap_closed, reap_orders}
use Rattle.r2d2_core.specs.Records.{seen_record}
use Rattle.r2d2_core.specs.Recorded.{record_of_reap}
use Rattle.r2d2_core.specs.Journal.{with_noted}
use Rattle.pool_machine.specs.CoreSteps.{IsReap}
use Rattle.r2d2_core.specs.Book.{SeenBook}
use Rattle.r2d2_core.specs.BookParts.{beside, book_in}
use Rattle.r2d2_core.specs.Noted.{noted_reap}
use Rattle.r2d2_core.proofs.Recording.Beside.{keeps_as, may_note, noted_beside, faithful}
use Rattle.r2d2_core.proofs.Recording.Books.{keeps_reap}
use Rattle.r2d2_core.proofs.Recording.Moments.{latest_in}
use Rattle.r2d2_core.proofs.journal.Book.reap.Goals as goal

-- what is noted keeps the records legal
pub note-requires : goal.note-requires
note-requires g c =
    let old = c.self.inside.machine in
    let l = c.self.inside.journal in
    let closed : c.len.result ≡ length (reap_closed (as_nanos c.args.now) old) =
    c.len.ensures ∙ c.reap_uncounted-ordered.new.out.ok.0 ∙ (sym (length-map c.reap_uncounted-ordered.new.out.items seen_released)
    ∙ ap length c.reap_uncounted-ordered.ensures.released) in
    let made : option_map seen_record c.of_reap.result ≡ record_of_reap (max old.latest (as_nanos c.args.now)) c.len.result
    (reap_orders (as_nanos c.args.now) old) =
    c.of_reap.ensures
    ∙ (ap (λ at. record_of_reap at c.len.result c.reap_uncounted-ordered.result) (c.latest-at.ensures.value
    ∙ ap latest_in c.reap_uncounted-ordered.ensures.after)
    ∙ ap (record_of_reap (max old.latest (as_nanos c.args.now)) c.len.result) c.reap_uncounted-ordered.ensures.answer) in
    let keeps = keeps_as (beside old l) _ _ _ c.reap_uncounted-ordered.new.self made c.reap_uncounted-ordered.ensures.after
    (keeps_reap (as_nanos c.args.now) (book_in old l) c.len.result closed c.self.invariant.sound c.self.invariant.recorded) in
    may_note l _ old c.reap_uncounted-ordered.new.self keeps

pub returns : goal.returns
returns g c =
    let old = c.self.inside.machine in
    let l = c.self.inside.journal in
    let closed : c.len.result ≡ length (reap_closed (as_nanos c.args.now) old) =
    c.len.ensures ∙ c.reap_uncounted-ordered.new.out.ok.0 ∙ (sym (length-map c.reap_uncounted-ordered.new.out.items seen_released)
    ∙ ap length c.reap_uncounted-ordered.ensures.released) in
    let made : option_map seen_record c.of_reap.result ≡ record_of_reap (max old.latest (as_nanos c.args.now)) c.len.result
    (reap_orders (as_nanos c.args.now) old) =
    c.of_reap.ensures
    ∙ (ap (λ at. record_of_reap at c.len.result c.reap_uncounted-ordered.result) (c.latest-at.ensures.value
    ∙ ap latest_in c.reap_uncounted-ordered.ensures.after)
    ∙ ap (record_of_reap (max old.latest (as_nanos c.args.now)) c.len.result) c.reap_uncounted-ordered.ensures.answer) in
    let keeps = keeps_as (beside old l) _ _ _ c.reap_uncounted-ordered.new.self made c.reap_uncounted-ordered.ensures.after
    (keeps_reap (as_nanos c.args.now) (book_in old l) c.len.result closed c.self.invariant.sound c.self.invariant.recorded) in
    record {
      of_core = subst
          (λ (b : SeenBook _). IsReap c.args.now c.reap_uncounted-ordered.new.out.items
          c.reap_uncounted-ordered.result b.picture c.reap_uncounted-ordered.new.self)
          c.self.view_is c.reap_uncounted-ordered.ensures;
      noted = subst (λ (b : SeenBook _). beside c.reap_uncounted-ordered.new.self c.note.new.self ≡ noted_reap (as_nanos c.args.now)
          (length c.reap_uncounted-ordered.new.out.items) c.reap_uncounted-ordered.result b) c.self.view_is
          (noted_beside l c.note.new.self _ old c.reap_uncounted-ordered.new.self c.self.invariant keeps c.note.ensures
          ∙ ap (λ made. with_noted made (beside old l))
          (c.of_reap.ensures
          ∙ (ap (λ at. record_of_reap at c.len.result c.reap_uncounted-ordered.result) (c.latest-at.ensures.value
          ∙ ap latest_in c.reap_uncounted-ordered.ensures.after)
          ∙ ap (λ n. record_of_reap (max old.latest (as_nanos c.args.now)) n c.reap_uncounted-ordered.result)
          (c.len.ensures ∙ c.reap_uncounted-ordered.new.out.ok.0))));
    }

pub invariant_of-self : goal.invariant_of-self
invariant_of-self g c =
    let old = c.self.inside.machine in
    let l = c.self.inside.journal in
    let closed : c.len.result ≡ length (reap_closed (as_nanos c.args.now) old) =
    c.len.ensures ∙ c.reap_uncounted-ordered.new.out.ok.0 ∙ (sym (length-map c.reap_uncounted-ordered.new.out.items seen_released)
    ∙ ap length c.reap_uncounted-ordered.ensures.released) in
    let made : option_map seen_record c.of_reap.result ≡ record_of_reap (max old.latest (as_nanos c.args.now)) c.len.result
    (reap_orders (as_nanos c.args.now) old) =
    c.of_reap.ensures
    ∙ (ap (λ at. record_of_reap at c.len.result c.reap_uncounted-ordered.result) (c.latest-at.ensures.value
    ∙ ap latest_in c.reap_uncounted-ordered.ensures.after)
    ∙ ap (record_of_reap (max old.latest (as_nanos c.args.now)) c.len.result) c.reap_uncounted-ordered.ensures.answer) in
    let keeps = keeps_as (beside old l) _ _ _ c.reap_uncounted-ordered.new.self made c.reap_uncounted-ordered.ensures.after
    (keeps_reap (as_nanos c.args.now) (book_in old l) c.len.result closed c.self.invariant.sound c.self.invariant.recorded) in
    faithful l c.note.new.self _ old c.reap_uncounted-ordered.new.self c.self.invariant c.reap_uncounted-ordered.ensures.sound keeps c.note.ensures
