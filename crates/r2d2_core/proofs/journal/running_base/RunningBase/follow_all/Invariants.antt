use Rattle.std.proofs.Common.{◌≡◌, map}
use Rattle.pool_machine.specs.Limits.{seen_limits}
use Rattle.r2d2_core.specs.Records.{seen_record}
use Rattle.r2d2_core.specs.Replays.{IsFollowing}
use Rattle.r2d2_core.proofs.journal.running_base.RunningBase.follow_all.Given as goal

abbrev pub invariant-loop-made : goal.invariant-loop-made
invariant-loop-made g l = record {
  following : IsFollowing (seen_limits l.limits) (map seen_record l.records) l.fn.self.base l.made-index l.self.base l.self.room;
  room : l.self.room ≡ l.fn.self.room;
  followed : l.followed ≡ l.made-index;
}
