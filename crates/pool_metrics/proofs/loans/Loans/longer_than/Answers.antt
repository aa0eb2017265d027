use Rattle.std.proofs.Common.{◌≡◌, ◌-◌, nat_lt, sym, subst, List}
use Rattle.std.proofs.lemmas.Result.{IfOk-weaker}
use Rattle.std.proofs.lemmas.List.Kept.{IsNonDecreasingBy-filter}
use Rattle.pool_metrics.specs.declared.loans.Loan.{Loan}
use Rattle.pool_metrics.specs.declared.loans.LongLoan.{LongLoan}
use Rattle.pool_metrics.specs.Longest.{IsLongestFirst, longer_than}
use Rattle.pool_metrics.proofs.Longer.{longest_first}
use Rattle.pool_metrics.proofs.loans.Loans.longer_than.Goals as goal

pub returns-clause-longest_first : goal.returns-clause-longest_first
returns-clause-longest_first c =
    let in_order = longest_first c.max-now.result _ (IsNonDecreasingBy-filter (λ (e : Loan). e.since)
    (λ (e : Loan). nat_lt c.args.nanos (c.max-now.result - e.since)) _ c.args.self.now.in_order) in
    IfOk-weaker c.in_order_of_lending.result (λ v. v.items ≡ longer_than c.args.nanos c.max-now.result c.args.self.now.entries.items)
    (λ v. IsLongestFirst v.items) (λ v is. subst (λ (xs : List LongLoan). IsLongestFirst xs) (sym is) in_order) c.in_order_of_lending.ensures
