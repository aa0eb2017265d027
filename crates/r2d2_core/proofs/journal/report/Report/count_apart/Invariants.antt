use Rattle.std.proofs.Common.{◌≤◌, ◌<◌, ◌-◌, ℕ, length, map, take}
use Rattle.pool_machine.specs.Ids.{copies_of}
use Rattle.r2d2_core.specs.Records.{seen_record}
use Rattle.r2d2_core.specs.Folding.{known_in}
use Rattle.r2d2_core.specs.Reports.{seen_base}
use Rattle.r2d2_core.proofs.journal.report.Report.count_apart.Given as goal

abbrev pub invariant-halving : goal.invariant-halving
invariant-halving g l = record {
  order : l.apart < l.twice;
  within : l.twice ≤ length l.records;
  apart : (i : ℕ) → copies_of i (known_in (seen_base l.self.base) (take l.apart (map seen_record l.records))) ≤ 1;
  twice : ((i : ℕ) → copies_of i (known_in (seen_base l.self.base) (take l.twice (map seen_record l.records))) ≤ 1) → ⊥;
}

abbrev pub decreases-halving : goal.decreases-halving
decreases-halving g l = l.twice - l.apart
