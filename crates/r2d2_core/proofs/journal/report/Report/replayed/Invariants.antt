use Rattle.std.proofs.Common.{◌≡◌}
use Rattle.r2d2_core.specs.Replays.{IsReplayOf}
use Rattle.r2d2_core.proofs.journal.report.Report.replayed.Given as goal

abbrev pub invariant-loop-place : goal.invariant-loop-place
invariant-loop-place g l = record {
  of : IsReplayOf l.self l.replay;
  at : l.replay.followed ≡ l._place;
}
