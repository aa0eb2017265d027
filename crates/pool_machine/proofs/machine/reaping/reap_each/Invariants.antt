use Rattle.std.proofs.Common.{◌≡◌, ◌≤◌, ◌+◌, ◌*◌, length, vec_capacity}
use Rattle.std.specs.Duration.{as_nanos}
use Rattle.pool_machine.specs.Limits.{seen_limits}
use Rattle.pool_machine.specs.Connections.{is_expired, released_at}
use Rattle.pool_machine.specs.Seen.{seen_released}
use Rattle.pool_machine.proofs.Lists.Turning.{Turned}
use Rattle.pool_machine.proofs.machine.reaping.reap_each.Given as goal

abbrev pub invariant-loop : goal.invariant-loop
invariant-loop g l = record {
  turned : Turned (is_expired (seen_limits l.limits) (as_nanos l.now)) (released_at (as_nanos l.now)) seen_released l.fn.ring.items l.counter l.ring.items
      l.out.items;
  fixed : l.ring.capacity ≡ l.fn.ring.capacity;
  fits : length l.fn.ring.items ≤ l.fn.ring.capacity;
  room : vec_capacity l.out ≡ vec_capacity l.fn.out;
  over : l.all ≡ length l.fn.ring.items;
  cost : l.steps ≤ l.fn.steps + 2 * l.counter;
}
