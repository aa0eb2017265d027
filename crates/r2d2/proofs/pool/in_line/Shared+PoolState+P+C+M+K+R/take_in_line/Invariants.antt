use Rattle.std.proofs.Common.{◌≡◌}
use Rattle.r2d2.proofs.pool.in_line.Shared+PoolState+P+C+M+K+R.take_in_line.Given as goal

-- what was missed was not counted
abbrev pub invariant-loop : goal.invariant-loop
invariant-loop g l = (g.C.TakeCounter.parts l.tally ≡ g.C.TakeCounter.parts l.initial.tally) × (g.C.TakeCounter.amount l.tally ≡ g.C.TakeCounter.amount l.initial.tally)
