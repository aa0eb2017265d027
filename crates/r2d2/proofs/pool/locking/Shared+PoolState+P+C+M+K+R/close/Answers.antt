use Rattle.std.proofs.Common.{rules}
use Rattle.r2d2.proofs.pool.locking.Shared+PoolState+P+C+M+K+R.close.Goals as goal

-- from what is guarded before the step to what is after it
pub returns : goal.returns
returns g c =
    let s = c.step.ensures in
    (s.0.now, s.3.now, search (rules, s), search (rules, s))
