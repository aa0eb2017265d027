-- A caller in line looks: what it comes to, and what is ordered for those who wait.
use Rattle.std.specs.Prelude.{ℕ, zero, suc, ◌+◌, ◌-◌, ◌^◌, min, nat_lt, Bool, true, false, if◌then◌else◌, List, length, Option, Some, None}
use Rattle.r2d2_core.specs.Book.{SeenBook}
use Rattle.pool_state.specs.declared.line.place.Place.{Place}
use Rattle.pool_state.specs.declared.state.serving.Look.{Look}
use Rattle.pool_state.specs.declared.state.serving.Look.TheVariants as look
use Rattle.pool_state.specs.Evicted.{book_taken}
use Rattle.pool_state.specs.Waiting.{served, left_by, told_by, stood_by}

module _ {T : Type 0} where
  -- a look found
  abbrev pub is_found : Look T → Bool
  is_found (look.Found id value) = true
  is_found (look.Stands slot) = false
  is_found look.Full = false

  abbrev pub found_in : Look T → ℕ
  found_in l = if is_found l then 1 else 0

  -- what it found, with its id
  abbrev pub pair_found : Look T → Option (ℕ × T)
  pair_found (look.Found id value) = Some (id, value)
  pair_found (look.Stands slot) = None
  pair_found look.Full = None

  -- a book after n takes at the moment t, each of which orders one where it finds none and there is room
  abbrev pub book_asked : ℕ → ℕ → SeenBook T → SeenBook T
  book_asked t zero b = b
  book_asked t (suc n) b = book_taken t true (book_asked t n b)

  -- how many of the openings that are owed are ordered, where so many wait: none while something is idle
  abbrev pub paid_of : ℕ → ℕ → SeenBook T → ℕ
  paid_of waiting owed b = if nat_lt 0 (length b.picture.idle) then 0 else min waiting owed

  -- the book after that, and how many are owed then: those for whom nobody waits are forgotten
  abbrev pub book_paid : ℕ → ℕ → ℕ → SeenBook T → SeenBook T
  book_paid t waiting owed b = book_asked t (paid_of waiting owed b) b

  abbrev pub still_owed : ℕ → SeenBook T → ℕ
  still_owed owed b = if nat_lt 0 (length b.picture.idle) then owed else 0

  -- something was ordered
  abbrev pub has_ordered : SeenBook T → SeenBook T → Bool
  has_ordered old new = nat_lt old.picture.on_order.pending new.picture.on_order.pending

-- one more is owed
abbrev pub one_more_owed : ℕ → ℕ
one_more_owed owed = min (owed + 1) (2 ^ 32 - 1)

module _ {T : Type 0} where
  -- the book after a look at the moment t, where so many wait then: what was found is taken, and what is owed is ordered; one who stands in
  -- line owes one more
  abbrev pub book_looked : ℕ → Look T → ℕ → ℕ → SeenBook T → SeenBook T
  book_looked t (look.Found id value) waiting owed b = book_paid t waiting owed (book_taken t false b)
  book_looked t (look.Stands slot) waiting owed b = book_paid t waiting (one_more_owed owed) b
  book_looked t look.Full waiting owed b = b

  -- and how many are owed then
  abbrev pub owed_looked : ℕ → Look T → ℕ → SeenBook T → ℕ
  owed_looked t (look.Found id value) owed b = still_owed owed (book_taken t false b)
  owed_looked t (look.Stands slot) owed b = still_owed (one_more_owed owed) b
  owed_looked t look.Full owed b = owed

-- who stands in line after a look of a caller with or without a slot: it found, and kept its place or left; or it waits, with the slot that it
-- has then
abbrev pub looked_by : Bool → Bool → Option ℕ → Option ℕ → List Place → List Place
looked_by true true old new ps = served old ps
looked_by true false old new ps = left_by old (served old ps)
looked_by false keeps_place old new ps = stood_by old new ps

-- and the slot of the one who is told then: of the next one, where a caller that was told leaves
abbrev pub told_looked : Bool → Bool → Option ℕ → List Place → Option ℕ
told_looked true true old ps = None
told_looked true false old ps = told_by old (served old ps)
told_looked false keeps_place old ps = None
