-- The histograms of a pool's metrics.
use Rattle.std.specs.Prelude.{◌≡◌, IfSome}
use Rattle.pool_metrics.specs.declared.buckets.Scales.{Scales}
use Rattle.pool_metrics.specs.declared.recording.Records.{Records}
use Rattle.pool_metrics.specs.declared.recording.Snapshot.{Snapshot}

-- which bounds they have; those of waits that timed out are those of waits
abbrev pub scales_of : {R : Type 0} → Records R → Scales
scales_of records = record {
  waits = records.waits.scale;
  uses = records.uses.scale;
  openings = records.openings.scale;
  ages = records.ages.scale;
}

-- what was read of them has these bounds
pub record HasBounds (scales : Scales) (snapshot : Snapshot) : Type 0 where
  pub waits : snapshot.waits.scale ≡ scales.waits
  pub timed_out_waits : snapshot.timed_out_waits.scale ≡ scales.waits
  pub uses : snapshot.uses.scale ≡ scales.uses
  pub ages : snapshot.ages.scale ≡ scales.ages
  pub openings : IfSome snapshot.openings (λ openings. openings.scale ≡ scales.openings)
