use Rattle.std.proofs.Common.{arith, ◌≡◌, ◌<◌, true, false, length, get_or, sym, ◌∙◌, suc}
use Rattle.std.proofs.lemmas.List.Edits.{swapped_from_swap}
use Rattle.std.proofs.lemmas.List.Sorted.{IsPermutation-trans}
use Rattle.pool_machine.specs.Openings.{SeenOpening, is_before}
use Rattle.pool_machine.proofs.Scheduling.Heaps.{IsFirstChild, down_more, down_done, down_last, down_cost_more, down_cost_done, down_cost_last, before_read}
use Rattle.pool_machine.proofs.schedule.heap.sink.Goals as goal

pub down-preserved : goal.down-preserved
down-preserved g c =
    let i = c.down.invariant in
    let n = length c.args.entries.now in
    let xs = c.down.entries in
    let at = c.down.at in
    let child = c.first_child-child.result in
    let ys = c.swap.new.self in
    let x = c.index-entries-child.result in
    let y = c.index-entries-at.result in
    let e = c.first_child-child.ensures in
    let at_within : at < length xs = omega arith in
    let before : is_before x y ≡ true = sym c.is_before.ensures.value ∙ c.if-not-is_before.false in
    let first : (d : SeenOpening) → IsFirstChild (λ k. get_or xs k d) n at child = λ d. record {
      of = omega (arith, e.from, e.to);
      low = omega (arith, e.from);
      high = omega (arith, e.within, i.size);
      least = λ k low high up. e.least k d (omega arith) (omega arith) (omega (arith, i.size));
    } in
    record {
      within = omega (arith, c.swap.ensures.len, e.within);
      heap = λ d. down_more (λ k. get_or xs k d) (λ k. get_or ys k d) n at child (i.heap d) (first d)
          (swapped_from_swap xs ys at child d at_within e.within c.swap.ensures.after)
          (before_read xs child at x y d true e.within at_within c.index-entries-child.is c.index-entries-at.is before);
      size = omega (arith, c.swap.ensures.len);
      permutation = IsPermutation-trans c.args.entries.now xs ys i.permutation c.swap.ensures.permutation;
      cost = (suc i.cost.0, omega (arith, i.cost.1, e.cost, c.is_before.ensures.cost), down_cost_more i.cost.0 at child i.cost.2 e.from);
    }

pub returns-then-not-is_before-clause-heap : goal.returns-then-not-is_before-clause-heap
returns-then-not-is_before-clause-heap g c =
    let i = c.down.invariant in
    let n = length c.args.entries.now in
    let xs = c.down.entries in
    let at = c.down.at in
    let child = c.first_child-child.result in
    let x = c.index-entries-child.result in
    let y = c.index-entries-at.result in
    let e = c.first_child-child.ensures in
    let at_within : at < length xs = omega arith in
    let not_before : is_before x y ≡ false = sym c.is_before.ensures.value ∙ c.if-not-is_before.true in
    let first : (d : SeenOpening) → IsFirstChild (λ k. get_or xs k d) n at child = λ d. record {
      of = omega (arith, e.from, e.to);
      low = omega (arith, e.from);
      high = omega (arith, e.within, i.size);
      least = λ k low high up. e.least k d (omega arith) (omega arith) (omega (arith, i.size));
    } in
    λ k d low high. down_done (λ k. get_or xs k d) n at child (i.heap d) (first d)
    (before_read xs child at x y d false e.within at_within c.index-entries-child.is c.index-entries-at.is not_before) k low (omega (arith, i.size))

pub returns-then-not-is_before-clause-cost : goal.returns-then-not-is_before-clause-cost
returns-then-not-is_before-clause-cost g c =
    let i = c.down.invariant in
    let done = down_cost_done c.args.steps.now c.down.steps i.cost.0 c.down.at (length c.args.entries.now) i.cost.1 i.cost.2 (omega (arith, i.size)) in
    omega (arith, c.first_child-child.ensures.cost, c.is_before.ensures.cost)

pub returns-clause-heap : goal.returns-clause-heap
returns-clause-heap g c k d low high =
    let i = c.down.invariant in
    down_last (λ k. get_or c.down.entries k d) (length c.args.entries.now) c.down.at (i.heap d) (omega (arith, i.size)) k low (omega (arith, i.size))

pub returns-clause-cost : goal.returns-clause-cost
returns-clause-cost g c =
    let i = c.down.invariant in
    down_cost_last c.args.steps.now c.down.steps i.cost.0 c.down.at (length c.args.entries.now) i.cost.1 i.cost.2 (omega (arith, i.within, i.size))
