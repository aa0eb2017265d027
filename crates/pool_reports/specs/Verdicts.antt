-- What a verdict says of a report.
use Rattle.std.specs.Prelude.{◌≡◌, ◌≢◌, ℕ}
use Rattle.r2d2_core.specs.declared.journal.report.Report.{Report}
use Rattle.r2d2_core.specs.Records.{takes_in}
use Rattle.r2d2_core.specs.Reports.{seen_records, DoesReplay, CountsItsTakes, BeginsAtAMaking}
use Rattle.r2d2_core.specs.Reports.{HasSoundCounts, IsSoundReport}
use Rattle.r2d2_core.specs.Faults.{HasWrongBase, IsFirstWrong, ComesToOther}
use Rattle.pool_reports.specs.declared.verdict.Verdict.{Verdict}
use Rattle.pool_reports.specs.declared.verdict.Verdict.TheVariants as verdict

module _ {B : Type 0} where
  -- it replays, but from the base of no pool just made, though nothing was folded into it
  pub record BeginsElsewhere (r : Report B) : Type 0 where
    pub replays : DoesReplay r
    pub other : BeginsAtAMaking r → ⊥

  -- it replays from its making, but its takes are others than its records tell of
  pub record MiscountsTakes (r : Report B) (shown due : ℕ) : Type 0 where
    pub replays : DoesReplay r
    pub begins : BeginsAtAMaking r
    pub none_lost : r.lost ≡ 0
    pub shows : shown ≡ r.takes
    pub tells : due ≡ takes_in (seen_records r)
    pub other : shown ≢ due

  -- it replays, and counts its takes, but no step of a pool leaves such counts
  pub record HasOtherCounts (r : Report B) : Type 0 where
    pub replays : DoesReplay r
    pub begins : BeginsAtAMaking r
    pub counted : CountsItsTakes r
    pub other : HasSoundCounts r → ⊥

  -- the report is sound, or what is named is wrong first: the base, the record at the place, what the records come to, the making, the
  -- takes, or that less is idle or on its way than is wanted
  abbrev pub IsVerdictOn : Verdict → Report B → Type 0
  IsVerdictOn verdict.Sound r = IsSoundReport r
  IsVerdictOn (verdict.Base _) r = HasWrongBase r
  IsVerdictOn (verdict.Record place _) r = IsFirstWrong r place
  IsVerdictOn (verdict.Counts _) r = ComesToOther r
  IsVerdictOn (verdict.Making _) r = BeginsElsewhere r
  IsVerdictOn (verdict.Takes shown due) r = MiscountsTakes r shown due
  IsVerdictOn (verdict.Starved _) r = HasOtherCounts r
