use Rattle.std.proofs.Common.{◌≡◌, map, take}
use Rattle.pool_reports.specs.declared.summary.Loan.{Loan}
use Rattle.pool_reports.proofs.summary.loans.Given as goal

abbrev pub invariant-loop-id : goal.invariant-loop-id
invariant-loop-id l = record {
  made : map (λ (x : Loan). x.id) l.loans.items ≡ take l.id-index l.ids;
}
