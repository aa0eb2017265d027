use Rattle.std.proofs.Common.{◌≡◌, ℕ, ◌<◌, ◌≤◌, length}
use Rattle.std.specs.Prelude.{slice_index, slice_index_or}
use Rattle.pool_metrics.specs.Bounds.{bounds_of}
use Rattle.pool_metrics.specs.declared.histogram.Bucket.{Bucket}
use Rattle.pool_metrics.specs.declared.histogram.UpTo.TheVariants.{Nanos, Infinity}
use Rattle.pool_metrics.proofs.histogram.Distribution.buckets.Given as goal

abbrev pub invariant-loop-i : goal.invariant-loop-i
invariant-loop-i l = record {
  len : length l.buckets ≡ 14;
  counts : (k : ℕ) (d : Bucket) → k < l.i → (slice_index_or l.buckets k d).count ≡ slice_index l.self.up_to k;
  bounds : (k : ℕ) (d : Bucket) → k < l.i → (slice_index_or l.buckets k d).up_to ≡ Nanos (slice_index (bounds_of l.self.scale) k);
  left : (k : ℕ) (d : Bucket) → l.i ≤ k → k < 14 → (slice_index_or l.buckets k d) ≡ record { up_to = Infinity; count = slice_index l.self.up_to 13 };
}
