-- What a report that replays keeps, and that a verdict says just that.
use Rattle.std.proofs.Common.{◌≡◌, ℕ, ◌+◌, ◌≤◌, List, [], ◌∷◌, length, refl, sym, ◌∙◌, ap, arith}
use Rattle.std.specs.Prelude.{◌↔◌}
use Rattle.std.proofs.lemmas.List.{length-map}
use Rattle.r2d2_core.specs.declared.journal.report.Report.{Report}
use Rattle.pool_machine.specs.declared.schedule.limits.LimitSettings.{LimitSettings}
use Rattle.pool_machine.specs.Limits.{seen_limits, wanted_of}
use Rattle.pool_machine.specs.Connections.{id_of_idle, id_of_lent}
use Rattle.r2d2_core.specs.Records.{SeenRecord}
use Rattle.r2d2_core.specs.Bases.{SeenBase, IsLegalBase}
use Rattle.r2d2_core.specs.Folding.{replay, folded, AreLegalFrom}
use Rattle.pool_machine.specs.Sums.{IsReplenished}
use Rattle.r2d2_core.specs.Reports.{seen_base, seen_records, told_in, DoesReplay, HasSoundCounts}
use Rattle.r2d2_core.specs.Reports.{IsSoundReport}
use Rattle.r2d2_core.proofs.Recording.Folding.{folds_first}
use Rattle.r2d2_core.proofs.Recording.Auditing.{legal_before}
use Rattle.pool_reports.specs.declared.verdict.Verdict.{Verdict}
use Rattle.pool_reports.specs.declared.verdict.Verdict.TheVariants as verdict
use Rattle.pool_reports.specs.Verdicts.{IsVerdictOn}

-- what legal records come to is legal
pub legal_told : (limits : LimitSettings) (rs : List SeenRecord) (b : SeenBase) → IsLegalBase limits b → AreLegalFrom limits b rs
    → IsLegalBase limits (replay limits rs b)
legal_told limits [] b legal are = legal
legal_told limits (r ∷ rs) b legal are =
    let f = folds_first limits r rs b legal are in
    legal_told limits rs (folded limits r b) f.legal f.rest

module _ {B : Type 0} (r : Report B) where
  -- so the counts of a report that replays are sound where what is wanted is there or on its way
  pub sound_counts : DoesReplay r
      → IsReplenished (wanted_of (seen_limits r.limits)) (seen_limits r.limits).max_size (length r.idle.items) r.connections r.pending r.closed
      → HasSoundCounts r
  sound_counts d ready =
      let end = told_in r in
      let legal : IsLegalBase (seen_limits r.limits) end = legal_told (seen_limits r.limits) (seen_records r) (seen_base r.base) d.base d.legal in
      let idle : length end.idle ≡ length r.idle.items = sym (length-map end.idle id_of_idle) ∙ ap (λ (l : List ℕ). length l) d.idle in
      let lent : length end.lent ≡ length r.lent.items = sym (length-map end.lent id_of_lent) ∙ ap (λ (l : List ℕ). length l) d.lent in
      let fits : end.connections + end.pending ≤ (seen_limits r.limits).max_size = legal.fits in
      record {
        counted = omega (arith, legal.counted, idle, lent, d.connections);
        fits = omega (arith, fits, d.connections, d.pending);
        replenished = ready;
      }

  -- of a sound report nothing else is said, and of no other one that it is sound
  pub sound_alone : (v : Verdict) → IsVerdictOn v r → (v ≡ verdict.Sound) ↔ IsSoundReport r
  sound_alone verdict.Sound on = (λ _. on, λ _. refl)
  sound_alone (verdict.Base _) on = (λ is. absurd (cc is), λ s. absurd (on s.replays.base))
  sound_alone (verdict.Record place _) on = (
    λ is. absurd (cc is),
    λ s. absurd (on.wrong (legal_before (seen_limits r.limits) (place + 1) (seen_records r)
        (seen_base r.base) s.replays.legal)),
  )
  sound_alone (verdict.Counts _) on = (
    λ is. absurd (cc is),
    λ s. absurd (on.other (let d = s.replays in
        record { idle = d.idle; lent = d.lent; connections = d.connections; pending = d.pending; closed = d.closed })),
  )
  sound_alone (verdict.Making _) on = (λ is. absurd (cc is), λ s. absurd (on.other s.begins))
  sound_alone (verdict.Takes shown due) on = (λ is. absurd (cc is), λ s. absurd (on.other (on.shows ∙ (s.counted on.none_lost ∙ sym on.tells))))
  sound_alone (verdict.Starved _) on = (λ is. absurd (cc is), λ s. absurd (on.other s.sound))
