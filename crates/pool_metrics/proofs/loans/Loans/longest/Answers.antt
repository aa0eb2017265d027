use Rattle.std.proofs.Common.{arith}
use Rattle.pool_metrics.proofs.Longer.{none_longer}
use Rattle.pool_metrics.proofs.loans.Loans.longest.Goals as goal

pub returns-clause-none_longer : goal.returns-clause-none_longer
returns-clause-none_longer c k d within =
    let most = none_longer c.max.result c.args.self.now.entries.items c.args.self.now.in_order k d within in
    omega (arith, most, c.max.ensures, c.since_the_first_lending.ensures)
