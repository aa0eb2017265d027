-- The bounds of the buckets.
use Rattle.std.specs.Prelude.{ℕ, List}
use Rattle.pool_metrics.specs.declared.buckets.Scale.{Scale}
use Rattle.pool_metrics.specs.declared.buckets.Scale.TheVariants.{Short, Long, Own}
use Rattle.pool_metrics.specs.declared.buckets.Scales.{Scales}
use Rattle.pool_metrics.specs.declared.buckets.TheConstants.{SHORT, LONG}

-- in nanoseconds
abbrev pub bounds_of : Scale → List ℕ
bounds_of Short = SHORT
bounds_of Long = LONG
bounds_of (Own own) = own.nanos

-- those of metrics for which none were chosen
abbrev pub usual : Scales
usual = record { waits = Short; uses = Short; openings = Short; ages = Long }
