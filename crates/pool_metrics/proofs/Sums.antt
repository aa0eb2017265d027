-- Running sums do not fall.
use Rattle.std.proofs.Common.{◌≡◌, ℕ, ◌+◌, ◌<◌, ◌≤◌, List, [], ◌∷◌, zero, suc, length, take, arith}
use Rattle.std.specs.Prelude.{sum, slice_index}
use Rattle.std.specs.List.Sorted.{IsNonDecreasing}
use Rattle.std.proofs.lemmas.Grind.{get_or_default_zero}
use Rattle.std.proofs.lemmas.List.Sums.{sum_by-cons}
use Rattle.pool_metrics.specs.Counted.{counted_up_to}

pub sums_rise : (xs : List ℕ) (i j : ℕ) → i ≤ j → sum (take i xs) ≤ sum (take j xs)
sums_rise [] zero zero h = omega arith
sums_rise [] zero (suc j) h = omega arith
sums_rise [] (suc i) zero h = omega arith
sums_rise [] (suc i) (suc j) h = omega arith
sums_rise (x ∷ xs) zero j h = omega arith
sums_rise (x ∷ xs) (suc i) zero h = omega arith
sums_rise (x ∷ xs) (suc i) (suc j) h = omega (arith, sum_by-cons (λ n. n) x (take i xs), sum_by-cons (λ n. n) x (take j xs), sums_rise xs i j (omega arith))

pub counts_rise : (counts sums : List ℕ) → ((i : ℕ) → i < length sums → slice_index sums i ≡ counted_up_to counts i) → IsNonDecreasing sums
counts_rise counts sums are i j d before within =
    let first : i < length sums = omega arith in
    let at_i : slice_index sums i ≡ counted_up_to counts i = are i first in
    let at_j : slice_index sums j ≡ counted_up_to counts j = are j within in
    let more = sums_rise counts (i + 1) (j + 1) (omega arith) in
    rw (get_or_default_zero sums i d first, get_or_default_zero sums j d within, at_i, at_j) (omega (arith, more))
