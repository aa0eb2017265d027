-- Openings that are ordered and not begun, the least first; and how many are in work.
use Rattle.std.specs.Prelude.{ℕ, zero, suc, ◌+◌, ◌-◌, Bool, ◌&&◌, ◌||◌, ◌==◌, nat_lt, if◌then◌else◌}
use Rattle.std.specs.Prelude.{List, [], ◌∷◌, slice_index, slice_set}

-- when an opening is due, in nanoseconds, and how often it failed
pub record SeenOpening : Type 0 where
  pub due : ℕ
  pub tries : ℕ

abbrev pub opening : ℕ → ℕ → SeenOpening
opening due tries = record { due = due; tries = tries }

-- a comes before b: by the due moment, then by the tries
unfoldable pub is_before : SeenOpening → SeenOpening → Bool
is_before a b = nat_lt a.due b.due || (a.due == b.due && nat_lt a.tries b.tries)

-- xs, which are in order, with x at its place
abbrev pub with_opening : SeenOpening → List SeenOpening → List SeenOpening
with_opening x [] = x ∷ []
with_opening x (y ∷ ys) = if is_before y x then y ∷ with_opening x ys else x ∷ y ∷ ys

-- xs with n more alike
abbrev pub with_many : ℕ → SeenOpening → List SeenOpening → List SeenOpening
with_many zero x xs = xs
with_many (suc n) x xs = with_opening x (with_many n x xs)

-- xs in order, which is the same for all lists with the same openings
abbrev pub sorted : List SeenOpening → List SeenOpening
sorted [] = []
sorted (x ∷ xs) = with_opening x (sorted xs)

-- one more in work that failed k times, where counts says how many there are for each number of
-- tries
abbrev pub one_more : ℕ → List ℕ → List ℕ
one_more k counts = slice_set counts k (slice_index counts k + 1)

-- one less
abbrev pub one_less : ℕ → List ℕ → List ℕ
one_less k counts = slice_set counts k (slice_index counts k - 1)
