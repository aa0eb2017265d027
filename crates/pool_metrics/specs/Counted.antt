-- Counts, added up from bucket to bucket.
use Rattle.std.specs.Prelude.{ℕ, ◌+◌, ◌-◌, ◌^◌, List, min, sum, take}

-- how many stand at the place i and before it; what no u64 holds counts as the greatest that one does
abbrev pub counted_up_to : List ℕ → ℕ → ℕ
counted_up_to counts i = min (sum (take (i + 1) counts)) (2 ^ 64 - 1)
