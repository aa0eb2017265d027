use Rattle.std.proofs.Common.{◌≡◌, ◌≤◌, vec_len}
use Rattle.std.specs.Vec.{vec_capacity}
use Rattle.pool_machine.proofs.schedule.filled.Given as goal

abbrev pub invariant-loop : goal.invariant-loop
invariant-loop g l = record {
  len : vec_len l.entries ≡ l.counter;
  room : l.count ≤ vec_capacity l.entries;
}
