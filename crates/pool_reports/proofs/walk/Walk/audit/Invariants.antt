use Rattle.std.proofs.Common.{◌≡◌}
use Rattle.r2d2_core.specs.Replays.{IsReplayOf}
use Rattle.pool_reports.proofs.walk.Walk.audit.Given as goal

abbrev pub invariant-loop-record : goal.invariant-loop-record
invariant-loop-record g l = record {
  of : IsReplayOf l.report l.replay;
  at : l.replay.followed ≡ l.record-index;
}
