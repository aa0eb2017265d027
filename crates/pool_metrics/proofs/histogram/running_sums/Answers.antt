use Rattle.std.proofs.Common.{◌≡◌, arith, rules}
use Rattle.std.proofs.lemmas.List.Sums.{sum_by_more}
use Rattle.pool_metrics.specs.Counted.{counted_up_to}
use Rattle.pool_metrics.proofs.Places.{set_below}
use Rattle.pool_metrics.proofs.Sums.{counts_rise}
use Rattle.pool_metrics.proofs.histogram.running_sums.Goals as goal

pub loop-i-preserved : goal.loop-i-preserved
loop-i-preserved c =
    let next = sum_by_more (λ n. n) c.args.counts c.loop-i.i 0 (omega arith) in
    let added : c.saturating_add-sum.result ≡ counted_up_to c.args.counts c.loop-i.i = omega (arith, next) in
    record {
      len = search rules;
      sum = added;
      sums = set_below (λ k v. v ≡ counted_up_to c.args.counts k) c.loop-i.sums c.loop-i.i _ (omega arith) added c.loop-i.invariant.sums;
    }

pub returns-clause-rising : goal.returns-clause-rising
returns-clause-rising c = counts_rise c.args.counts c.loop-i.sums (λ i h. c.loop-i.invariant.sums i 0 (omega arith))
