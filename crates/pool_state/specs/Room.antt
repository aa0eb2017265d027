-- The lists into which a reap or an eviction closes.
use Rattle.std.specs.Prelude.{◌≡◌, ◌≤◌, ℕ, Vec, vec_len, vec_capacity}

-- it is empty, and has room for so many
abbrev pub HasRoom : {X A : Type 0} → ℕ → Vec X A → Type 0
HasRoom room list = (vec_len list ≡ 0) × (room ≤ vec_capacity list)
