use Rattle.std.proofs.Common.{◌≡◌, ◌+◌, ◌++◌, length, map, vec_capacity}
use Rattle.pool_machine.specs.Slots.{held}
use Rattle.pool_machine.proofs.machine.roster.Roster.ids.Given as goal

abbrev pub invariant-loop-x : goal.invariant-loop-x
invariant-loop-x g l = record {
  told : l.ids.items ++ map g.X.HasId.id_of (held l.x-iterator.slots.now) ≡ map g.X.HasId.id_of l.fn.self.items;
  room : length l.ids.items + length (held l.x-iterator.slots.now) ≡ vec_capacity l.ids;
}
