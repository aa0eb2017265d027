-- Lengths that were longer than one.
use Rattle.std.specs.Prelude.{ℕ, ◌+◌, ◌<◌, ◌≤◌, List, length, slice_index}

-- where the least bound stands that is not below this one; the last, where each is
pub record IsPlaceFor (least : ℕ) (bounds : List ℕ) (place : ℕ) : Type 0 where
  pub within : place < length bounds
  pub below : (i : ℕ) → i < place → slice_index bounds i < least
  pub enough : place + 1 < length bounds → least ≤ slice_index bounds place
