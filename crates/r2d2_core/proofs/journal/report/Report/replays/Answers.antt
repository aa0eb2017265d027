use Rattle.r2d2_core.proofs.Recording.Auditing.{none_wrong}
use Rattle.r2d2_core.proofs.journal.report.Report.replays.Goals as goal

pub returns : goal.returns
returns g c = none_wrong c.args.self.now c.in_ok-first_wrong.field-0 c.is_none.result c.is_none.ensures c.in_ok-first_wrong.ensures
