-- Openings as a binary heap, and how many comparisons a schedule's calls may take.
use Rattle.std.specs.Prelude.{◌≡◌, ℕ, ◌-◌, ◌*◌, ◌/◌, ◌<◌, false, List, length, slice_index_or}
use Rattle.std.specs.Int.Digits.{digits_of}
use Rattle.pool_machine.specs.Openings.{SeenOpening, is_before}
use Rattle.pool_machine.specs.Jobs.{SeenJob, Open, Reap, Wait, Nothing, Closed}

-- how many binary digits a number has
unfoldable pub binary_digits : ℕ → ℕ
binary_digits n = length (digits_of 2 n)

-- a `next` with this answer may take so many, where n openings were held: none but for an opening
-- that is handed out
abbrev pub steps_of_job : SeenJob → ℕ → ℕ
steps_of_job (Open tries) n = 2 * binary_digits n
steps_of_job Reap n = 0
steps_of_job (Wait due) n = 0
steps_of_job Nothing n = 0
steps_of_job Closed n = 0

-- where the one stands that the one at k is a child of
abbrev pub parent : ℕ → ℕ
parent k = (k - 1) / 2

-- no opening comes before its parent
abbrev pub IsHeap : List SeenOpening → Type 0
IsHeap xs = (k : ℕ) (d : SeenOpening) → 0 < k → k < length xs
    → is_before (slice_index_or xs k d) (slice_index_or xs (parent k) d) ≡ false

-- none but perhaps the last one
abbrev pub IsHeapButTheLast : List SeenOpening → Type 0
IsHeapButTheLast xs = (k : ℕ) (d : SeenOpening) → 0 < k → k < length xs - 1
    → is_before (slice_index_or xs k d) (slice_index_or xs (parent k) d) ≡ false

-- none but perhaps the children of the first one
abbrev pub IsHeapButTheFirst : List SeenOpening → Type 0
IsHeapButTheFirst xs = (k : ℕ) (d : SeenOpening) → 0 < parent k → k < length xs
    → is_before (slice_index_or xs k d) (slice_index_or xs (parent k) d) ≡ false
