use Rattle.std.proofs.Common.{◌≡◌, List, map, take, sym, ◌∙◌, ap}
use Rattle.std.proofs.lemmas.List.{take-map}
use Rattle.pool_machine.specs.Limits.{seen_limits}
use Rattle.r2d2_core.specs.declared.journal.record.Record.{Record}
use Rattle.r2d2_core.specs.Records.{seen_record}
use Rattle.r2d2_core.specs.RunningBase.{rooms_for}
use Rattle.r2d2_core.specs.Reports.{seen_base, seen_records}
use Rattle.r2d2_core.specs.Faults.{HasWrongBase, AreApartUpTo}
use Rattle.r2d2_core.proofs.Recording.Auditing.{base_apart, some_in, start_there}
use Rattle.r2d2_core.proofs.Recording.Following.{begun_in}
use Rattle.r2d2_core.proofs.journal.report.Report.replay.Goals as goal

pub start-requires : goal.start-requires
start-requires g c =
    let r = c.args.self.now in
    let upto = some_in (HasWrongBase r) (λ n. AreApartUpTo r n) c.in_ok-apart.field-0 c.in-Some.apart c.in-Some.is c.in_ok-apart.ensures in
    record { apart = base_apart (seen_base r.base) (take c.in-Some.apart (seen_records r)) upto.apart }

pub returns-clause-of : goal.returns-clause-of
returns-clause-of g c =
    let r = c.args.self.now in
    let base = seen_base r.base in
    let all = c.as_slice.result.now in
    let apart = c.in-Some.apart in
    let rs = map seen_record (take apart all) in
    let same : rs ≡ take apart (seen_records r) = sym (take-map seen_record apart all)
    ∙ ap (λ (l : List Record). take apart (map seen_record l)) c.as_slice.ensures.value in
    let upto = some_in (HasWrongBase r) (λ n. AreApartUpTo r n) c.in_ok-apart.field-0 apart c.in-Some.is c.in_ok-apart.ensures in
    let there = start_there (seen_limits r.limits) base (rooms_for base rs) c.in_ok-running_base.field-0 c.in-Some-2.running_base c.in-Some-2.is c.in_ok-running_base.ensures in
    begun_in r apart 0 c.in-Some-2.running_base rs there.0 upto same there.1
