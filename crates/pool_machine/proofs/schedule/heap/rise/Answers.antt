use Rattle.std.proofs.Common.{arith, ◌≡◌, ℕ, ◌+◌, ◌-◌, ◌*◌, ◌^◌, ◌≤◌, true, false, length, get_or, sym, ◌∙◌, subst}
use Rattle.std.proofs.lemmas.List.Edits.{swapped_from_swap}
use Rattle.std.proofs.lemmas.List.Sorted.{IsPermutation-trans}
use Rattle.pool_machine.specs.Openings.{is_before}
use Rattle.pool_machine.specs.Heap.{parent}
use Rattle.pool_machine.proofs.Scheduling.Heaps.{up_more, up_done, up_cost_more, up_cost_done, up_cost_top, before_read}
use Rattle.pool_machine.proofs.schedule.heap.rise.Goals as goal

pub up-preserved : goal.up-preserved
up-preserved g c =
    let i = c.up.invariant in
    let xs = c.up.entries in
    let at = c.up.at in
    let ys = c.swap.new.self in
    let x = c.index-entries-at.result in
    let y = c.index-entries-parent.result in
    let before : is_before x y ≡ true = sym c.is_before.ensures.value ∙ c.if-not-is_before.false in
    record {
      within = omega (arith, c.swap.ensures.len);
      heap = λ d. up_more (λ k. get_or xs k d) (λ k. get_or ys k d) (length c.args.entries.now) at (i.heap d) c.up-test.true (omega arith)
          (swapped_from_swap xs ys at (parent at) d i.within (omega arith) c.swap.ensures.after)
          (before_read xs at (parent at) x y d true i.within (omega arith) c.index-entries-at.is c.index-entries-parent.is before);
      size = omega (arith, c.swap.ensures.len);
      permutation = IsPermutation-trans c.args.entries.now xs ys i.permutation c.swap.ensures.permutation;
      from = omega arith;
      cost = rw c.is_before.ensures.cost (up_cost_more c.args.steps.now c.up.steps at (length c.args.entries.now) i.from c.up-test.true i.cost);
    }

pub returns-then-not-is_before-clause-heap : goal.returns-then-not-is_before-clause-heap
returns-then-not-is_before-clause-heap g c =
    let i = c.up.invariant in
    let xs = c.up.entries in
    let at = c.up.at in
    let x = c.index-entries-at.result in
    let y = c.index-entries-parent.result in
    let not_before : is_before x y ≡ false = sym c.is_before.ensures.value ∙ c.if-not-is_before.true in
    λ k d low high. up_done (λ k. get_or xs k d) (length c.args.entries.now) at (i.heap d)
    (before_read xs at (parent at) x y d false i.within (omega arith) c.index-entries-at.is c.index-entries-parent.is not_before) k low (omega (arith, i.size))

pub returns-then-not-is_before-clause-cost : goal.returns-then-not-is_before-clause-cost
returns-then-not-is_before-clause-cost g c =
    let done = up_cost_done c.args.steps.now c.up.steps c.up.at (length c.args.entries.now) c.up.invariant.from c.up-test.true c.up.invariant.cost in
    omega (arith, c.is_before.ensures.cost)

pub returns-clause-heap : goal.returns-clause-heap
returns-clause-heap g c k d low high =
    let h = c.up.invariant.heap d in
    h.held k low (omega (arith, c.up.invariant.size)) (λ e. omega arith)

pub returns-clause-cost : goal.returns-clause-cost
returns-clause-cost g c =
    let at : c.up.at ≡ 0 = omega arith in
    let cost = subst (λ (a : ℕ). 2 ^ (c.up.steps - c.args.steps.now) * (a + 1) ≤ length c.args.entries.now) at c.up.invariant.cost in
    up_cost_top c.args.steps.now c.up.steps (length c.args.entries.now) c.up.invariant.from cost
