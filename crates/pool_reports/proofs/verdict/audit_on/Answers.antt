use Rattle.std.proofs.Common.{subst}
use Rattle.r2d2_core.specs.Faults.{IsFault}
use Rattle.r2d2_core.proofs.Recording.Auditing.{some_in}
use Rattle.pool_reports.specs.declared.verdict.Verdict.TheVariants as verdict
use Rattle.pool_reports.proofs.Kept.{sound_alone}
use Rattle.pool_reports.proofs.verdict.audit_on.Goals as goal

pub returns-in_default-clause-sound : goal.returns-in_default-clause-sound
returns-in_default-clause-sound g c = sound_alone c.args.report.now c.verdict.result c.verdict.ensures

pub returns-in-Record-clause-sound : goal.returns-in-Record-clause-sound
returns-in-Record-clause-sound g c =
    let r = c.args.report.now in
    let at = some_in _ _ _ c.in-Some.fault c.in-Some.is c.in_ok-fault.ensures in
    let here = subst (λ f. IsFault f r) c.in-Record.is at in
    sound_alone r (verdict.Record c.in-Record.place c.reason-reason.result) here.0
