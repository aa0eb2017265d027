use Rattle.std.proofs.Common.{◌∙◌, ap, sym, subst}
use Rattle.std.specs.Duration.{as_nanos}
use Rattle.pool_machine.specs.Limits.{seen_limits}
use Rattle.pool_machine.specs.Picture.{Picture}
use Rattle.pool_machine.specs.Table.{first_picture}
use Rattle.r2d2_core.specs.Journal.{SeenJournal}
use Rattle.r2d2_core.specs.Book.{seen_book}
use Rattle.r2d2_core.specs.BookParts.{book_in, IsFaithful}
use Rattle.pool_machine.proofs.Facts.Sounds.{sound_first}
use Rattle.r2d2_core.proofs.Recording.Beside.{beside_first, faithful_first}
use Rattle.pool_machine.proofs.Facts.Legal.{legal}
use Rattle.r2d2_core.proofs.journal.Book.with_first_id.Goals as goal

pub invariant_of-result : goal.invariant_of-result
invariant_of-result g c =
    let le = legal c.args.limits in
    let first = first_picture (seen_limits c.args.limits) (as_nanos c.args.now) c.args.first_id in
    subst (λ (p : Picture _). IsFaithful (book_in p c.in_ok-journal.journal)) (sym c.in_ok-machine.ensures)
    (subst (λ (l : SeenJournal). IsFaithful (book_in first l)) (sym c.in_ok-journal.ensures)
    (faithful_first _ (seen_limits c.args.limits) (as_nanos c.args.now) c.args.first_id c.args.room le
    (sound_first (seen_limits c.args.limits) (as_nanos c.args.now) c.args.first_id le)))

pub returns : goal.returns
returns g c =
    let first = first_picture (seen_limits c.args.limits) (as_nanos c.args.now) c.args.first_id in
    ap (λ (p : Picture _). book_in p c.in_ok-journal.journal) c.in_ok-machine.ensures
    ∙ (ap (λ (l : SeenJournal). book_in first l) c.in_ok-journal.ensures ∙ ap (seen_book first)
    (beside_first g.row.T.Denot (seen_limits c.args.limits) (as_nanos c.args.now) c.args.first_id c.args.room))
