use Rattle.std.proofs.Common.{arith}
use Rattle.r2d2_core.specs.Records.{seen_record}
use Rattle.r2d2_core.proofs.Recording.Auditing.{some_record, rest_next, leave_next}
use Rattle.r2d2_core.proofs.journal.running_base.Rooms.of.Goals as goal

pub loop-record-preserved : goal.loop-record-preserved
loop-record-preserved g c =
    let rs = c.args.records.now in
    let k = c.loop-record.record-index in
    record {
      idle = omega (arith, c.loop-record.invariant.idle, c.made_idle-idle.ensures.is, rest_next seen_record rs k some_record (omega arith));
      lent = omega (arith, c.loop-record.invariant.lent, c.made_lent-lent.ensures.is, leave_next seen_record rs k some_record (omega arith));
      few_idle = omega (arith, c.loop-record.invariant.few_idle, c.made_idle-idle.ensures.few);
      few_lent = omega (arith, c.loop-record.invariant.few_lent, c.made_lent-lent.ensures.few);
    }
