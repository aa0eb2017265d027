use Rattle.std.proofs.Common.{◌<◌, length, sym, ◌∙◌, arith}
use Rattle.std.proofs.lemmas.List.{length_push}
use Rattle.pool_machine.specs.Connections.{id_of_idle}
use Rattle.r2d2_core.proofs.Recording.Listing.{listed_more, there_is_one}
use Rattle.r2d2_core.proofs.journal.report.idle_ids.Goals as goal
use Rattle.r2d2_core.proofs.journal.report.idle_ids.Goals.{in-Some, in_default}

pub loop-place-preserved : goal.loop-place-preserved
loop-place-preserved g c =
    let within : c.loop-place.place < length c.args.machine.now.idle = omega (arith, c.idle-count.ensures.value) in
    elim c.match-idle_id.branch [
      | in-Some w ↦
          rw (w.ids-is, w.push_reserved.ensures.items, w.push_reserved.ensures.capacity)
          (record {
            listed = listed_more id_of_idle c.args.machine.now.idle c.loop-place.place w.in-Some.id c.loop-place.ids.items
                (sym c.idle_id.ensures ∙ w.in-Some.is) c.loop-place.invariant.listed;
            len = omega (arith, length_push c.loop-place.ids.items w.in-Some.id, c.loop-place.invariant.len);
            room = c.loop-place.invariant.room;
          })
      | in_default w ↦ absurd (there_is_one id_of_idle c.args.machine.now.idle c.loop-place.place within (sym c.idle_id.ensures ∙ w.in_default.is))
    ]
