use Rattle.std.proofs.Common.{◌≡◌}
use Rattle.std.specs.Prelude.{IsSome}
use Rattle.r2d2.proofs.pool.waiting.Shared+PoolState+P+C+M+K+R.wait_for_turn.Given as goal

-- what was missed was not counted, and the call has begun
abbrev pub invariant-loop : goal.invariant-loop
invariant-loop g l = record {
  parts : g.C.TakeCounter.parts l.tally ≡ g.C.TakeCounter.parts l.initial.tally;
  amount : g.C.TakeCounter.amount l.tally ≡ g.C.TakeCounter.amount l.initial.tally;
  begun : IsSome l.time.start;
}
