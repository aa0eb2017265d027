-- The two sums of the headline, each stated here alone. Each speaks of how many are wanted idle,
-- how many there may be, how many are idle, connected and pending, and whether the pool is closed,
-- in this order.
use Rattle.std.specs.Prelude.{◌≡◌, ◌⊎◌, ℕ, ◌+◌, ◌≤◌, Bool, false}

-- connections and pending openings are at most `max_size`
abbrev pub FitsIn : (max_size connections pending : ℕ) → Type 0
FitsIn max_size connections pending = connections + pending ≤ max_size

-- unless closed, what is idle and pending reaches what is wanted, or there is no more room
abbrev pub IsReplenished : (wanted max_size idle connections pending : ℕ) (closed : Bool) → Type 0
IsReplenished wanted max_size idle connections pending closed =
    closed ≡ false → (wanted ≤ idle + pending) ⊎ (connections + pending ≡ max_size)
