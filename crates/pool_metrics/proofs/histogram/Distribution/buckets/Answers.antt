use Rattle.std.proofs.Common.{◌≡◌, arith, rules, refl}
use Rattle.std.specs.Prelude.{slice_index}
use Rattle.pool_metrics.specs.Bounds.{bounds_of}
use Rattle.pool_metrics.specs.declared.histogram.Bucket.{Bucket}
use Rattle.pool_metrics.specs.declared.histogram.UpTo.TheVariants.{Nanos, Infinity}
use Rattle.pool_metrics.proofs.Places.{set_below, set_above}
use Rattle.pool_metrics.proofs.histogram.Distribution.buckets.Goals as goal

pub loop-i-preserved : goal.loop-i-preserved
loop-i-preserved c =
    let within = c.loop-i.invariant.len in
    record {
      len = search rules;
      counts = set_below (λ k (v : Bucket). v.count ≡ slice_index c.args.self.now.up_to k) c.loop-i.buckets c.loop-i.i _
          (omega arith) refl c.loop-i.invariant.counts;
      bounds = set_below (λ k (v : Bucket). v.up_to ≡ Nanos (slice_index (bounds_of c.args.self.now.scale) k)) c.loop-i.buckets c.loop-i.i _ (omega arith)
          (search rules) c.loop-i.invariant.bounds;
      left = set_above (λ k (v : Bucket). v ≡ record { up_to = Infinity; count = slice_index c.args.self.now.up_to 13 }) c.loop-i.buckets c.loop-i.i _
          c.loop-i.invariant.left;
    }
