use Rattle.std.proofs.Common.{◌≡◌, map}
use Rattle.std.specs.Prelude.{◌↔◌}
use Rattle.pool_machine.specs.Slots.{held}
use Rattle.pool_machine.proofs.machine.roster.Roster.has_ids.Given as goal

abbrev pub invariant-loop-x : goal.invariant-loop-x
invariant-loop-x g l = (map g.X.HasId.id_of (held l.x-iterator.slots.now) ≡ l.left) ↔ (map g.X.HasId.id_of l.fn.self.items ≡ l.fn.ids)
