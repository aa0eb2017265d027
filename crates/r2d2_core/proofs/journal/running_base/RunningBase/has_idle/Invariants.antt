use Rattle.std.proofs.Common.{◌≡◌, map, take, length}
use Rattle.pool_machine.specs.Connections.{id_of_idle}
use Rattle.r2d2_core.proofs.journal.running_base.RunningBase.has_idle.Given as goal

abbrev pub invariant-loop-place : goal.invariant-loop-place
invariant-loop-place g l = record {
  alike : take l.place (map id_of_idle l.fn.self.base.idle) ≡ take l.place l.ids;
  long : length l.fn.self.base.idle ≡ length l.ids;
}
