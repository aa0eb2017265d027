use Rattle.std.proofs.Common.{◌≡◌, ℕ, ◌<◌, ◌-◌, ◌^◌, min, take, length}
use Rattle.std.specs.Prelude.{sum, slice_index_or}
use Rattle.pool_metrics.specs.Counted.{counted_up_to}
use Rattle.pool_metrics.proofs.histogram.running_sums.Given as goal

abbrev pub invariant-loop-i : goal.invariant-loop-i
invariant-loop-i l = record {
  len : length l.sums ≡ 14;
  sum : l.sum ≡ min (sum (take l.i l.counts)) (2 ^ 64 - 1);
  sums : (k d : ℕ) → k < l.i → slice_index_or l.sums k d ≡ counted_up_to l.counts k;
}
