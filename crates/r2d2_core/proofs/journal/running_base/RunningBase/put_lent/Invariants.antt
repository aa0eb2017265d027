use Rattle.std.proofs.Common.{◌≡◌, map, take, drop}
use Rattle.std.specs.Duration.{as_nanos}
use Rattle.r2d2_core.specs.Bases.{seen_lent}
use Rattle.r2d2_core.specs.Auditing.{are_born}
use Rattle.r2d2_core.proofs.journal.running_base.RunningBase.put_lent.Given as goal

abbrev pub invariant-loop-entry : goal.invariant-loop-entry
invariant-loop-entry g l = record {
  order : are_born (as_nanos l.self-inside.at) (map seen_lent l.lent) ≡ are_born (as_nanos l.self-inside.at) (drop l.entry-index (map seen_lent l.lent));
  put : l.self-inside.lent.items ≡ take l.entry-index (map seen_lent l.lent);
  room : l.self-inside.idle.capacity ≡ l.fn.self.room.idle;
  lent_room : l.self-inside.lent.capacity ≡ l.fn.self.room.lent;
  at : as_nanos l.self-inside.at ≡ l.fn.self.base.at;
  idle : l.self-inside.idle.items ≡ l.fn.self.base.idle;
  pending : l.self-inside.pending ≡ l.fn.self.base.pending;
  closed : l.self-inside.closed ≡ l.fn.self.base.closed;
}
