-- How many openings a schedule holds, and which is the first.
use Rattle.std.proofs.Common.{arith, ◌≡◌, ℕ, ◌<◌, ◌≤◌, ◌∷◌, ◌∙◌, List, length, take, get_or, sym}
use Rattle.std.specs.List.{swap_remove}
use Rattle.std.proofs.lemmas.List.{length-take-le, get_or-take}
use Rattle.pool_machine.specs.Openings.{SeenOpening, sorted}
use Rattle.pool_machine.specs.Heap.{IsHeap}
use Rattle.pool_machine.proofs.Scheduling.Openings.{length-sorted}
use Rattle.pool_machine.proofs.Scheduling.Heaps.{sorted-heap}

pub length-held : (items : List SeenOpening) (held : ℕ) → held ≤ length items → length (sorted (take held items)) ≡ held
length-held items held within = length-sorted (take held items) ∙ length-take-le held items within

pub first_held : (items : List SeenOpening) (held : ℕ) (x : SeenOpening) → IsHeap (take held items) → 0 < held → held ≤ length items → x ≡ get_or items 0 x
    → sorted (take held items) ≡ x ∷ sorted (swap_remove (take held items) 0 x)
first_held items held x heap some within read =
    let size = length-take-le held items within in
    sorted-heap (take held items) x heap (omega arith) (read ∙ sym (get_or-take held items 0 x some))
