use Rattle.std.proofs.Common.{◌≡◌, length}
use Rattle.std.specs.Duration.{as_nanos}
use Rattle.pool_machine.specs.Limits.{seen_limits}
use Rattle.pool_machine.specs.Connections.{is_expired}
use Rattle.pool_machine.proofs.Lists.Shedding.{IsFronted}
use Rattle.pool_machine.proofs.machine.idle.shedding.shed_front.Given as goal

abbrev pub invariant-loop : goal.invariant-loop
invariant-loop g l = record {
  fronted : IsFronted (is_expired (seen_limits l.limits) (as_nanos l.now)) l.fn.ring.items l.counter l.ring.items;
  fixed : l.ring.capacity ≡ l.fn.ring.capacity;
  over : l.end ≡ length l.fn.ring.items;
}
