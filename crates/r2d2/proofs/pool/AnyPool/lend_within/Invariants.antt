use Rattle.std.proofs.Common.{◌≡◌, ◌≤◌}
use Rattle.r2d2.proofs.pool.AnyPool.lend_within.Given as goal

-- a connection whose check failed stays counted
abbrev pub invariant-loop : goal.invariant-loop
invariant-loop g l = (g.C.TakeCounter.parts l.tally ≡ g.C.TakeCounter.parts l.initial.tally) × (g.C.TakeCounter.amount l.initial.tally ≤ g.C.TakeCounter.amount l.tally)
