use Rattle.std.proofs.Common.{sym, ◌∙◌, ap, subst}
use Rattle.std.specs.Duration.{as_nanos}
use Rattle.pool_machine.specs.Limits.{seen_limits}
use Rattle.r2d2_core.specs.History.{Made}
use Rattle.r2d2_core.specs.Answers.{after_all}
use Rattle.r2d2_core.specs.NotedSteps.{book_after}
use Rattle.r2d2_core.specs.Reports.{IsReportOf}
use Rattle.pool_machine.proofs.Facts.Legal.{legal}
use Rattle.r2d2_core.proofs.Histories.Made.{kept_made, picture_of-made}
use Rattle.r2d2_core.proofs.Follows.Runs.{book_shows, told_after, if_ok}
use Rattle.r2d2_core.proofs.run.run_and_report.Goals as goal

pub returns-clause-answers : goal.returns-clause-answers
returns-clause-answers g c =
    if_ok c.answer_and_report.result c.answer_and_report.ensures.facts c.answer_and_report.ensures.answers
    (λ r facts are. are (seen_limits c.args.limits) (as_nanos c.args.now) (legal c.args.limits) (ap (λ b. b.picture) c.in_ok-book.ensures))

pub returns-clause-told : goal.returns-clause-told
returns-clause-told g c =
    let limits = seen_limits c.args.limits in
    let now = as_nanos c.args.now in
    let shown = ap (λ b. b.picture) c.in_ok-book.ensures ∙ sym (picture_of-made limits now 0) in
    if_ok c.answer_and_report.result c.answer_and_report.ensures.facts c.answer_and_report.ensures.given
    (λ r facts given. told_after (after_all (Made limits now 0) c.args.steps.items) (book_after c.args.steps.items c.in_ok-book.book) r.0
    (book_shows (Made limits now 0) c.args.steps.items c.in_ok-book.book (kept_made limits now 0 (legal c.args.limits)) shown) given facts)

pub returns-clause-given : goal.returns-clause-given
returns-clause-given g c =
    if_ok c.answer_and_report.result c.answer_and_report.ensures.facts c.answer_and_report.ensures.given
    (λ r facts given. subst (λ b. IsReportOf (book_after c.args.steps.items b) r.0) c.in_ok-book.ensures given)
