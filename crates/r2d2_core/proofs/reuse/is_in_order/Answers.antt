use Rattle.std.proofs.Common.{arith, refl}
use Rattle.r2d2_core.proofs.Reusing.Sorted.{zero_moment, sorted_start, sorted_tail, sorted_more, sorted_less, sorted_falls, sorted_end}
use Rattle.r2d2_core.proofs.reuse.is_in_order.Goals as goal

pub loop-moment-init : goal.loop-moment-init
loop-moment-init c = record {
  onward = sorted_start c.args.idle.now;
  back = sorted_tail zero_moment c.args.idle.now;
}

pub returns-then-as_nanos : goal.returns-then-as_nanos
returns-then-as_nanos c = (
  λ h. cc,
  λ h. absurd (sorted_falls c.loop-moment.seen c.args.idle.now c.loop-moment.moment-index (omega arith) (omega arith)
      (c.loop-moment.invariant.onward h)),
)

pub loop-moment-preserved : goal.loop-moment-preserved
loop-moment-preserved c = record {
  onward = λ h. sorted_more c.loop-moment.seen c.args.idle.now c.loop-moment.moment-index (omega arith) (omega arith) (c.loop-moment.invariant.onward h);
  back = λ h. c.loop-moment.invariant.back (sorted_less c.loop-moment.seen c.args.idle.now c.loop-moment.moment-index (omega arith) (omega arith) h);
}

pub returns : goal.returns
returns c = (λ _. c.loop-moment.invariant.back (sorted_end c.loop-moment.seen c.args.idle.now c.loop-moment.moment-index (omega arith)), λ _. refl)
