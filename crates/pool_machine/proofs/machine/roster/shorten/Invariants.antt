use Rattle.std.proofs.Common.{◌≡◌, ◌≤◌, length, take}
use Rattle.pool_machine.specs.Slots.{held}
use Rattle.pool_machine.proofs.machine.roster.shorten.Given as goal

abbrev pub invariant-holes : goal.invariant-holes
invariant-holes g l = record {
  within : l.len ≤ length l.slots.items;
  same : held (take l.len l.slots.items) ≡ held l.slots.items;
}

abbrev pub decreases-holes : goal.decreases-holes
decreases-holes g l = l.len
