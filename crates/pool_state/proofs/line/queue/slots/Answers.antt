use Rattle.std.proofs.Common.{◌∙◌, ap, arith}
use Rattle.pool_state.specs.Waiting.{copies_of}
use Rattle.pool_state.proofs.Waiting.{push_apart, push_below}
use Rattle.pool_state.proofs.line.queue.slots.Goals as goal

pub loop-slot-preserved : goal.loop-slot-preserved
loop-slot-preserved c =
    let i = c.loop-slot.invariant in
    record {
      len = omega (arith, i.len, c.push_reserved.ensures.len);
      capacity = omega (arith, i.capacity, c.push_reserved.ensures.capacity);
      apart = λ s. omega (arith, ap (copies_of s) c.push_reserved.ensures.items, push_apart c.loop-slot.free.items c.loop-slot.slot s (i.apart s) (i.below s));
      below = λ s le. ap (copies_of s) c.push_reserved.ensures.items ∙ push_below c.loop-slot.free.items c.loop-slot.slot s (omega (arith, le)) (i.below s);
    }
