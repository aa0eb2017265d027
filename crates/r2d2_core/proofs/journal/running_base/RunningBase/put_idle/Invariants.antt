use Rattle.std.proofs.Common.{◌≡◌, map, take, drop}
use Rattle.std.specs.Duration.{as_nanos}
use Rattle.r2d2_core.specs.Bases.{seen_bare}
use Rattle.r2d2_core.specs.Auditing.{are_in_order}
use Rattle.r2d2_core.proofs.journal.running_base.RunningBase.put_idle.Given as goal

abbrev pub invariant-loop-entry : goal.invariant-loop-entry
invariant-loop-entry g l = record {
  order : are_in_order (as_nanos l.self-inside.at) 0 (map seen_bare l.idle) ≡ are_in_order (as_nanos l.self-inside.at) (as_nanos l.last)
      (drop l.entry-index (map seen_bare l.idle));
  put : l.self-inside.idle.items ≡ take l.entry-index (map seen_bare l.idle);
  room : l.self-inside.idle.capacity ≡ l.fn.self.room.idle;
  lent_room : l.self-inside.lent.capacity ≡ l.fn.self.room.lent;
  at : as_nanos l.self-inside.at ≡ l.fn.self.base.at;
  lent : l.self-inside.lent.items ≡ l.fn.self.base.lent;
  pending : l.self-inside.pending ≡ l.fn.self.base.pending;
  closed : l.self-inside.closed ≡ l.fn.self.base.closed;
}
