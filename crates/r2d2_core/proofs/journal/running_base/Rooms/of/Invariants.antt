use Rattle.std.proofs.Common.{◌≡◌, ◌≤◌, ◌+◌, map, take}
use Rattle.r2d2_core.specs.Records.{seen_record}
use Rattle.r2d2_core.specs.RunningBase.{made_idle_in, made_lent_in}
use Rattle.r2d2_core.proofs.journal.running_base.Rooms.of.Given as goal

abbrev pub invariant-loop-record : goal.invariant-loop-record
invariant-loop-record g l = record {
  idle : l.idle ≡ l.initial.idle + made_idle_in (take l.record-index (map seen_record l.records));
  lent : l.lent ≡ l.initial.lent + made_lent_in (take l.record-index (map seen_record l.records));
  few_idle : l.idle ≤ l.initial.idle + l.record-index;
  few_lent : l.lent ≤ l.initial.lent + l.record-index;
}
