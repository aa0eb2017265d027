use Rattle.std.proofs.Common.{◌≡◌, true, false, ◌∙◌, sym, ap, subst, arith, map, take, get_or, ◌+◌}
use Rattle.pool_machine.specs.Limits.{seen_limits}
use Rattle.r2d2_core.specs.Records.{seen_record}
use Rattle.r2d2_core.specs.Folding.{may_follow, all_follow}
use Rattle.r2d2_core.specs.RunningBase.{SeenRunningBase}
use Rattle.r2d2_core.specs.Replays.{IsFollowing}
use Rattle.r2d2_core.proofs.Recording.Auditing.{some_record, seen_next, seen_taken, following_fits, following_stop, following_more}
use Rattle.r2d2_core.proofs.journal.running_base.RunningBase.follow_all.Goals as goal

pub follow-requires-clause-idle_room : goal.follow-requires-clause-idle_room
follow-requires-clause-idle_room g c =
    let rs = c.args.records.now in
    let k = c.loop-made.made-index in
    (following_fits (seen_limits c.args.limits.now) (map seen_record rs) c.args.self.now.base k c.loop-made.self.base c.loop-made.self.room
    (seen_record (get_or rs k some_record))
    (seen_next seen_record rs k some_record (omega arith)) c.loop-made.invariant.following).0

pub follow-requires-clause-lent_room : goal.follow-requires-clause-lent_room
follow-requires-clause-lent_room g c =
    let rs = c.args.records.now in
    let k = c.loop-made.made-index in
    (following_fits (seen_limits c.args.limits.now) (map seen_record rs) c.args.self.now.base k c.loop-made.self.base c.loop-made.self.room
    (seen_record (get_or rs k some_record))
    (seen_next seen_record rs k some_record (omega arith)) c.loop-made.invariant.following).1

pub returns-then-not-follow-clause-stops : goal.returns-then-not-follow-clause-stops
returns-then-not-follow-clause-stops g c =
    λ _.
    let rs = c.args.records.now in
    let k = c.loop-made.made-index in
    let limits = seen_limits c.args.limits.now in
    let r = seen_record (get_or rs k some_record) in
    let fits : may_follow limits r c.loop-made.self.base ≡ false = cc in
    ap (λ n. all_follow limits (take (n + 1) (map seen_record rs)) c.args.self.now.base) c.loop-made.invariant.followed
    ∙ following_stop limits (map seen_record rs) c.args.self.now.base k c.loop-made.self.base c.loop-made.self.room r
    (seen_taken seen_record rs k some_record (omega arith)) fits c.loop-made.invariant.following

pub loop-made-preserved : goal.loop-made-preserved
loop-made-preserved g c =
    let rs = c.args.records.now in
    let k = c.loop-made.made-index in
    let limits = seen_limits c.args.limits.now in
    let r = seen_record (get_or rs k some_record) in
    let fits : may_follow limits r c.loop-made.self.base ≡ true = cc in
    let is = c.follow.ensures.folded (c.follow.ensures.may ∙ fits) in
    record {
      following = subst (λ (s : SeenRunningBase). IsFollowing limits (map seen_record rs) c.args.self.now.base (k + 1) s.base s.room) (sym is)
          (following_more limits (map seen_record rs) c.args.self.now.base k c.loop-made.self.base c.loop-made.self.room r
          (seen_next seen_record rs k some_record (omega arith)) (seen_taken seen_record rs k some_record
          (omega arith)) fits c.loop-made.invariant.following);
      room = ap (λ (s : SeenRunningBase). s.room) is ∙ c.loop-made.invariant.room;
      followed = omega (arith, c.loop-made.invariant.followed);
    }
