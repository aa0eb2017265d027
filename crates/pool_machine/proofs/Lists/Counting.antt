-- Openings in work, and scheduled.
use Rattle.std.proofs.Common.{◌≡◌, ℕ, zero, suc, ◌+◌, ◌-◌, ◌<◌, ◌≤◌, Bool, true, false, cond, List, [], ◌∷◌, length, sum, arith}
use Rattle.std.specs.List.{All}
use Rattle.std.specs.Prelude.{slice_index}
use Rattle.std.proofs.lemmas.List.Sums.{sum_by-set, sum_by-cons}
use Rattle.pool_machine.specs.Openings.{one_more, one_less}
use Rattle.pool_machine.specs.Openings.{SeenOpening, is_before, with_opening, with_many}

-- where something is counted, there is a place
pub within_counts : (k : ℕ) (xs : List ℕ) → 0 < slice_index xs k → k < length xs
within_counts k [] some = absurd (omega arith)
within_counts zero (x ∷ xs) some = omega arith
within_counts (suc k) (x ∷ xs) some = omega (arith, within_counts k xs some)

pub sum-one_more : (k : ℕ) (xs : List ℕ) → k < length xs → sum (one_more k xs) ≡ sum xs + 1
sum-one_more k xs lt = omega (arith, sum_by-set (λ x. x) xs k (slice_index xs k + 1) 0 lt)

pub sum-one_less : (k : ℕ) (xs : List ℕ) → 0 < slice_index xs k → sum (one_less k xs) + 1 ≡ sum xs
sum-one_less k xs some = omega (arith, sum_by-set (λ x. x) xs k (slice_index xs k - 1) 0 (within_counts k xs some))

with_step : (P : SeenOpening → Type 0) (b : Bool) (x y : SeenOpening) (ys zs : List SeenOpening) → P x → All P (y ∷ ys) → All P zs
    → All P (cond b (y ∷ zs) (x ∷ y ∷ ys))
with_step P true x y ys zs p all rest zero d lt = all 0 d (omega arith)
with_step P true x y ys zs p all rest (suc k) d lt = rest k d (omega arith)
with_step P false x y ys zs p all rest zero d lt = p
with_step P false x y ys zs p all rest (suc k) d lt = all k d (omega arith)

one_step : (P : SeenOpening → Type 0) (x : SeenOpening) → P x → All P (x ∷ [])
one_step P x p zero d lt = p
one_step P x p (suc k) d lt = absurd (omega arith)

pub All-with : (P : SeenOpening → Type 0) (x : SeenOpening) (xs : List SeenOpening) → P x → All P xs → All P (with_opening x xs)
All-with P x [] p all = one_step P x p
All-with P x (y ∷ ys) p all = with_step P (is_before y x) x y ys (with_opening x ys) p all (All-with P x ys p (λ k d lt. all (suc k) d (omega arith)))

pub All-with_many : (P : SeenOpening → Type 0) (n : ℕ) (x : SeenOpening) (xs : List SeenOpening) → P x → All P xs → All P (with_many n x xs)
All-with_many P zero x xs p all = all
All-with_many P (suc n) x xs p all = All-with P x (with_many n x xs) p (All-with_many P n x xs p all)

pub get_or-sum_le : (k : ℕ) (xs : List ℕ) → slice_index xs k ≤ sum xs
get_or-sum_le k [] = omega arith
get_or-sum_le zero (x ∷ xs) = omega (arith, sum_by-cons (λ x. x) x xs)
get_or-sum_le (suc k) (x ∷ xs) = omega (arith, sum_by-cons (λ x. x) x xs, get_or-sum_le k xs)
