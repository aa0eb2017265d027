use Rattle.std.proofs.Common.{arith, ◌≡◌, ◌+◌, length, take, set, ap, ◌∙◌, length-set}
use Rattle.std.proofs.lemmas.List.{take_at, length-take-le}
use Rattle.std.proofs.lemmas.List.Sorted.{length_permutation}
use Rattle.pool_machine.specs.Openings.{sorted}
use Rattle.pool_machine.proofs.Scheduling.Heaps.{heap_but_the_last, sorted-added}
use Rattle.pool_machine.proofs.schedule.heap.add.Goals as goal

pub rise-requires-clause-heap : goal.rise-requires-clause-heap
rise-requires-clause-heap g c = heap_but_the_last c.args.entries.now c.args.held c.args.opening c.requires.room c.requires.heap

pub returns-clause-openings : goal.returns-clause-openings
returns-clause-openings g c =
    let xs = c.args.entries.now in
    let n = c.args.held in
    let ys = c.rise.new.entries in
    let part = take (n + 1) (set xs n c.args.opening) in
    let size : length part ≡ n + 1 = length-take-le (n + 1) (set xs n c.args.opening) (omega (arith, length-set xs n c.args.opening, c.requires.room)) in
    let moved = length_permutation part ys c.rise.ensures.permutation in
    ap sorted (take_at ys _ (n + 1) (moved ∙ size)) ∙ sorted-added xs ys n c.args.opening c.requires.room c.rise.ensures.permutation
