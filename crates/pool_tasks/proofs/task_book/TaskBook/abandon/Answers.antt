use Rattle.std.proofs.Common.{◌≢◌, Some, sym, ◌∙◌, subst}
use Rattle.std.specs.Prelude.{is_some}
use Rattle.pool_state.specs.Waiting.{told_by}
use Rattle.pool_tasks.proofs.Leaving.{left_line, left_history}
use Rattle.pool_tasks.proofs.task_book.TaskBook.abandon.Goals as goal

pub returns-clause-line : goal.returns-clause-line
returns-clause-line g c =
    let lost = c.lose-gone in
    left_line c.args.place.now (is_some lost.result) c.args.self.now.guarded.places lost.new.self.guarded.places c.leave.new.self.guarded.places lost.ensures.line c.leave.ensures.line

pub returns-clause-history : goal.returns-clause-history
returns-clause-history g c =
    let lost = c.lose-gone in
    left_history c.args.place.now (is_some lost.result) c.args.self.now.guarded.places lost.new.self.guarded.places c.leave.new.self.guarded.places lost.ensures.line
    lost.ensures.history c.leave.ensures.history

pub returns-clause-alone : goal.returns-clause-alone
returns-clause-alone g c slot own told passed =
    let lost = c.lose-gone in
    c.leave.ensures.alone slot own (subst (λ ps. told_by c.args.place.now ps ≢ Some slot) (sym lost.ensures.line) passed) ∙ lost.ensures.alone slot told
