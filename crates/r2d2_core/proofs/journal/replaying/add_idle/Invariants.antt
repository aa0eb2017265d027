use Rattle.std.proofs.Common.{◌≡◌, ◌++◌, map, take}
use Rattle.pool_machine.specs.Connections.{id_of_idle}
use Rattle.r2d2_core.specs.Bases.{seen_bare}
use Rattle.r2d2_core.proofs.journal.replaying.add_idle.Given as goal

abbrev pub invariant-loop-entry : goal.invariant-loop-entry
invariant-loop-entry g l = record {
  added : l.ids.items ≡ l.fn.ids.items ++ take l.entry-index (map id_of_idle (map seen_bare l.idle));
}
