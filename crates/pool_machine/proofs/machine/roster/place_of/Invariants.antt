use Rattle.std.proofs.Common.{◌≤◌, length}
use Rattle.pool_machine.specs.Slots.{NoneHeldFrom}
use Rattle.pool_machine.proofs.machine.roster.place_of.Given as goal

abbrev pub invariant-back : goal.invariant-back
invariant-back g l = record {
  within : l.place ≤ length l.slots;
  none_after : NoneHeldFrom g.X.HasId.id_of l.id l.slots l.place;
}

abbrev pub decreases-back : goal.decreases-back
decreases-back g l = l.place
