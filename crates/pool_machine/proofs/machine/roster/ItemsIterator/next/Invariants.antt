use Rattle.std.proofs.Common.{◌≡◌, length}
use Rattle.pool_machine.specs.Slots.{held}
use Rattle.pool_machine.proofs.machine.roster.ItemsIterator.next.Given as goal

abbrev pub invariant-holes : goal.invariant-holes
invariant-holes g l = held l.self.slots.now ≡ held l.fn.self.slots.now

abbrev pub decreases-holes : goal.decreases-holes
decreases-holes g l = length l.self.slots.now
