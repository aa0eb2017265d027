use Rattle.std.proofs.Common.{◌≡◌, sym, subst, List}
use Rattle.std.proofs.lemmas.Result.{IfOk-weaker}
use Rattle.pool_metrics.specs.declared.loans.LongLoan.{LongLoan}
use Rattle.pool_metrics.specs.Longest.{IsLongestFirst, told_at}
use Rattle.pool_metrics.proofs.Longer.{longest_first}
use Rattle.pool_metrics.proofs.loans.Loans.all.Goals as goal

pub returns-clause-longest_first : goal.returns-clause-longest_first
returns-clause-longest_first c =
    let in_order = longest_first c.max.result c.args.self.now.entries.items c.args.self.now.in_order in
    IfOk-weaker c.all_in_order.result (λ v. v.items ≡ told_at c.max.result c.args.self.now.entries.items) (λ v. IsLongestFirst v.items)
    (λ v is. subst (λ (xs : List LongLoan). IsLongestFirst xs) (sym is) in_order) c.all_in_order.ensures
