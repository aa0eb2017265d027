use Rattle.std.proofs.Common.{◌≡◌, ◌++◌, map, take}
use Rattle.r2d2_core.specs.Records.{seen_record}
use Rattle.std.specs.Prelude.{flat_map}
use Rattle.r2d2_core.specs.Folding.{admitted_by}
use Rattle.r2d2_core.proofs.journal.replaying.add_admitted.Given as goal

abbrev pub invariant-loop-record : goal.invariant-loop-record
invariant-loop-record g l = record {
  added : l.ids.items ≡ l.fn.ids.items ++ flat_map admitted_by (take l.record-index (map seen_record l.records));
}
