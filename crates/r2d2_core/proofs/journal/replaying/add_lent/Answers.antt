use Rattle.std.proofs.Common.{ℕ, map, take, arith}
use Rattle.std.specs.declared.time.Duration.{Duration}
use Rattle.pool_machine.specs.Connections.{id_of_lent}
use Rattle.r2d2_core.specs.Bases.{seen_lent}
use Rattle.r2d2_core.proofs.Recording.Auditing.{taken_next, added_more}
use Rattle.r2d2_core.proofs.journal.replaying.add_lent.Goals as goal

pub loop-entry-preserved : goal.loop-entry-preserved
loop-entry-preserved g c =
    let all = c.args.lent.now in
    let k = c.loop-entry.entry-index in
    let none : ℕ × Duration = (0, record { secs = 0; nanos = 0 }) in
    record {
      added = added_more c.args.ids.now.items c.push.new.self.items c.loop-entry.ids.items (take k
          (map id_of_lent (map seen_lent all))) _ _ c.in_ok-push.ensures.items c.loop-entry.invariant.added
          (taken_next id_of_lent seen_lent all k none (omega arith));
    }
