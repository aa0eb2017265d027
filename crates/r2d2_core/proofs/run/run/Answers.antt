use Rattle.std.proofs.Common.{sym, subst}
use Rattle.std.specs.Duration.{as_nanos}
use Rattle.pool_machine.specs.Limits.{seen_limits}
use Rattle.pool_machine.specs.Picture.{IsSound}
use Rattle.r2d2_core.specs.History.{Made}
use Rattle.r2d2_core.specs.Answers.{after_all}
use Rattle.pool_machine.proofs.Facts.Legal.{legal}
use Rattle.r2d2_core.proofs.Histories.Made.{kept_made}
use Rattle.r2d2_core.proofs.Follows.Runs.{kept_after_all, has_sums}
use Rattle.r2d2_core.proofs.run.run.Goals as goal

pub returns-clause-answers : goal.returns-clause-answers
returns-clause-answers g c =
    c.in_ok-answers.ensures.answers (seen_limits c.args.limits) (as_nanos c.args.now) (legal c.args.limits) c.in_ok-core.ensures

pub returns-clause-picture : goal.returns-clause-picture
returns-clause-picture g c =
    c.in_ok-answers.ensures.picture (seen_limits c.args.limits) (as_nanos c.args.now) (legal c.args.limits) c.in_ok-core.ensures

pub returns-clause-sound : goal.returns-clause-sound
returns-clause-sound g c =
    let limits = seen_limits c.args.limits in
    let now = as_nanos c.args.now in
    subst IsSound (sym (c.in_ok-answers.ensures.picture limits now (legal c.args.limits) c.in_ok-core.ensures))
    (kept_after_all (Made limits now 0) c.args.steps.items (kept_made limits now 0 (legal c.args.limits))).sound

pub returns-clause-sums : goal.returns-clause-sums
returns-clause-sums g c =
    let limits = seen_limits c.args.limits in
    let now = as_nanos c.args.now in
    has_sums (after_all (Made limits now 0) c.args.steps.items) (kept_after_all (Made limits now 0) c.args.steps.items (kept_made limits now 0 (legal c.args.limits))).sound
