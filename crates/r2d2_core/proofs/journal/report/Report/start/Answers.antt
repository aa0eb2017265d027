use Rattle.std.proofs.Common.{◌≡◌, true, map, subst}
use Rattle.pool_machine.specs.Limits.{seen_limits}
use Rattle.r2d2_core.specs.Records.{seen_record}
use Rattle.r2d2_core.specs.Reports.{seen_base}
use Rattle.r2d2_core.specs.Auditing.{counts_fit}
use Rattle.r2d2_core.specs.RunningBase.{rooms_for}
use Rattle.r2d2_core.proofs.Recording.Auditing.{IsPut, IsStart, starts, if_ok}
use Rattle.r2d2_core.proofs.journal.report.Report.start.Goals as goal

pub returns : goal.returns
returns g c =
    let r = c.args.self.now in
    let limits = seen_limits r.limits in
    let base = seen_base r.base in
    let room = rooms_for base (map seen_record c.args.records.now) in
    let counts : counts_fit limits base ≡ true = cc in
    if_ok (IsPut base c.of-room.result) (IsStart limits base room) c.of.result (λ made put. starts limits base room made counts c.requires.apart
    (subst (λ n. IsPut base n made) c.of-room.ensures put)) c.of.ensures
