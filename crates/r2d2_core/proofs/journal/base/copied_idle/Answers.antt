use Rattle.std.proofs.Common.{◌≡◌, ℕ, ◌<◌, Some, length, sym, ◌∙◌, ap, arith, refl}
use Rattle.std.specs.Prelude.{option_copied, option_map, slice_get}
use Rattle.std.specs.declared.time.Duration.{Duration}
use Rattle.std.proofs.lemmas.List.{length_push}
use Rattle.r2d2_core.specs.Bases.{seen_bare}
use Rattle.r2d2_core.specs.Book.{bare}
use Rattle.r2d2_core.proofs.Recording.Listing.{copied_more, there_is_one}
use Rattle.r2d2_core.proofs.journal.base.copied_idle.Goals as goal
use Rattle.r2d2_core.proofs.journal.base.copied_idle.Goals.{in-Some, in_default}

pub loop-place-preserved : goal.loop-place-preserved
loop-place-preserved g c =
    let all = c.args.idle.now.items in
    let within : c.loop-place.place < length all = omega (arith, c.len-count.ensures) in
    elim c.match-get.branch [
      | in-Some w ↦
          let there : slice_get all c.loop-place.place ≡ Some w.in-Some.entry.now = sym c.get.ensures ∙ ap option_copied w.in-Some.is in
          let p : ℕ × Duration × Duration = (w.id.result, w.birth.result, w.since.result) in
          let told : seen_bare p ≡ bare w.in-Some.entry.now = rw (w.id.ensures, w.birth.ensures, w.since.ensures) refl in
          rw (w.list-is, w.push_reserved.ensures.items, w.push_reserved.ensures.capacity)
          (record {
            listed = copied_more seen_bare bare all c.loop-place.place c.loop-place.list.items p
                (ap (option_map bare) there ∙ ap Some (sym told)) c.loop-place.invariant.listed;
            len = omega (arith, length_push c.loop-place.list.items p, c.loop-place.invariant.len);
            room = c.loop-place.invariant.room;
          })
      | in_default w ↦ absurd (there_is_one bare all c.loop-place.place within (ap (option_map bare) (sym c.get.ensures ∙ ap option_copied w.in_default.is)))
    ]
