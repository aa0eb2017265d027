use Rattle.std.proofs.Common.{arith, ◌≡◌, ◌-◌, List, length, take, ap, sym, ◌∙◌, subst}
use Rattle.std.specs.List.{swap}
use Rattle.std.specs.List.Sorted.{IsPermutation}
use Rattle.std.proofs.lemmas.List.{take_at}
use Rattle.std.proofs.lemmas.List.Sorted.{length_permutation}
use Rattle.pool_machine.specs.Openings.{SeenOpening, sorted}
use Rattle.pool_machine.specs.Heap.{IsHeapButTheFirst}
use Rattle.pool_machine.proofs.Scheduling.Heaps.{heap_but_the_first, sorted-removed, length-take_swapped, binary_digits_mono}
use Rattle.pool_machine.proofs.schedule.heap.remove_least.Goals as goal

pub sink-requires : goal.sink-requires
sink-requires g c =
    subst (λ (zs : List SeenOpening). IsHeapButTheFirst (take (c.args.held - 1) zs)) (sym c.swap.ensures.after)
    (heap_but_the_first c.args.entries.now c.args.held c.requires.some c.requires.room c.requires.heap)

pub returns-clause-openings : goal.returns-clause-openings
returns-clause-openings g c =
    let xs = c.args.entries.now in
    let n = c.args.held in
    let ys = c.sink.new.entries in
    let moved = subst (λ (zs : List SeenOpening). IsPermutation (take (n - 1) zs) ys) c.swap.ensures.after c.sink.ensures.permutation in
    let size = length_permutation (take (n - 1) (swap xs 0 (n - 1))) ys moved ∙ length-take_swapped xs n c.requires.some c.requires.room in
    ap sorted (take_at ys _ (n - 1) size) ∙ sorted-removed xs ys n c.requires.some c.requires.room c.requires.heap moved

pub returns-clause-cost : goal.returns-clause-cost
returns-clause-cost g c =
    let xs = c.args.entries.now in
    let n = c.args.held in
    let size : length (take (n - 1) c.swap.new.self) ≡ n - 1 =
    ap (λ (zs : List SeenOpening). length (take (n - 1) zs)) c.swap.ensures.after ∙ length-take_swapped xs n c.requires.some c.requires.room in
    let few = binary_digits_mono (length (take (n - 1) c.swap.new.self)) n (omega (arith, size)) in
    omega (arith, c.sink.ensures.cost)
