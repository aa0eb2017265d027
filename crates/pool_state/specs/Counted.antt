-- What contracts see of a book whose takes a ledger counts.
use Rattle.std.specs.Prelude.{◌≡◌, ℕ, ◌-◌, ◌^◌, min, Option, Some, None}
use Rattle.pool_machine.specs.Seen.{SeenTake, Found, Empty}
use Rattle.r2d2_core.specs.Book.{SeenBook}

-- the book, and what counts its takes: of a ledger, its total
pub record SeenCounted (T : Type 0) (C : Type 0) : Type 0 where
  pub book : SeenBook T
  pub total : C

-- a total as a count of 64 bits, which stops at the greatest
abbrev pub counted_up_to : ℕ → ℕ
counted_up_to total = min total (2 ^ 64 - 1)

abbrev pub seen_counted : {T C : Type 0} → SeenBook T → C → SeenCounted T C
seen_counted book total = record { book = book; total = total }

-- one where there is something
abbrev pub number_of : {X : Type 0} → Option X → ℕ
number_of None = 0
number_of (Some x) = 1

module _ {T : Type 0} where
  -- by how much a take raises what is counted
  abbrev pub found_by : SeenTake T → ℕ
  found_by (Found id birth value ordered) = 1
  found_by (Empty ordered) = 0

  -- what a take leaves of what counts the takes that found
  abbrev pub counted_where : {C : Type 0} → (C → C → Type 0) → SeenTake T → C → C → Type 0
  counted_where counts (Found id birth value ordered) old new = counts old new
  counted_where counts (Empty ordered) old new = new ≡ old
