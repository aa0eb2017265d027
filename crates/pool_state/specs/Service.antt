-- What happened at a line, and the order of service: that of coming. A caller is known by the slot
-- at which it stands.
use Rattle.std.specs.Prelude.{◌≡◌, ◌<◌, ◌≤◌, ℕ, ◌+◌, ◌==◌, if◌then◌else◌, Bool, true, false, IsTrue}
use Rattle.std.specs.Prelude.{List, [], ◌∷◌, length, Option, Some, None, IsSome}
use Rattle.std.specs.List.{AllByRecursion}
use Rattle.pool_state.specs.declared.line.place.Standing.{Standing}
use Rattle.pool_state.specs.declared.line.place.Standing.TheVariants.{Quiet, Told, Aside}
use Rattle.pool_state.specs.Waiting.{copies_of}

-- what happens to the caller at a slot
pub data Event : Type 0 where
  -- it comes, and waits
  Came : (slot : ℕ) → Event
  -- it is told to look
  WasTold : (slot : ℕ) → Event
  -- it looked in vain, and waits to be told
  WaitsOn : (slot : ℕ) → Event
  -- it takes, where so many connections are idle
  Took : (slot idle : ℕ) → Event
  -- it was told, and is passed: its time is over
  Passed : (slot : ℕ) → Event
  -- it leaves the line
  Left : (slot : ℕ) → Event
  -- one that does not stand in line takes, where so many are idle
  TookAtOnce : (idle : ℕ) → Event

-- A HISTORY: what happened, the latest first

-- how the caller at a slot stands: as what happened to it last says; None where nobody does
abbrev pub standing_in : List Event → ℕ → Option Standing
standing_in [] s = None
standing_in (Came slot ∷ h) s = if slot == s then Some Quiet else standing_in h s
standing_in (WasTold slot ∷ h) s = if slot == s then Some Told else standing_in h s
standing_in (WaitsOn slot ∷ h) s = if slot == s then Some Quiet else standing_in h s
standing_in (Took slot idle ∷ h) s = if slot == s then Some Aside else standing_in h s
standing_in (Passed slot ∷ h) s = if slot == s then Some Aside else standing_in h s
standing_in (Left slot ∷ h) s = if slot == s then None else standing_in h s
standing_in (TookAtOnce idle ∷ h) s = standing_in h s

-- when it came: after how many events, its own included
abbrev pub came_in : List Event → ℕ → ℕ
came_in [] s = 0
came_in (Came slot ∷ h) s = if slot == s then length h + 1 else came_in h s
came_in (_ ∷ h) s = came_in h s

-- it stands in line
abbrev pub StandsIn : List Event → ℕ → Type 0
StandsIn h s = IsSome (standing_in h s)

-- it waits, and was told nothing since it came or looked
abbrev pub IsUntold : List Event → ℕ → Type 0
IsUntold h s = standing_in h s ≡ Some Quiet

-- one that stands so waits
abbrev pub is_waiting : Standing → Bool
is_waiting Quiet = true
is_waiting Told = true
is_waiting Aside = false

abbrev pub Waits : Option Standing → Type 0
Waits None = ⊥
Waits (Some standing) = IsTrue (is_waiting standing)

-- THE ORDER OF SERVICE

-- of those who wait and were told nothing it came first
abbrev pub IsFirstUntold : List Event → ℕ → Type 0
IsFirstUntold h s = IsUntold h s × ((t : ℕ) → IsUntold h t → came_in h s ≤ came_in h t)

-- so many slots or more do not all pass
abbrev pub AreFewer : ℕ → (ℕ → Type 0) → Type 0
AreFewer n P = (slots : List ℕ) → ((s : ℕ) → copies_of s slots ≤ 1) → AllByRecursion P slots
    → length slots < n

-- of those who wait fewer came before it than are idle: none did, where one is
abbrev pub IsInTurn : List Event → ℕ → ℕ → Type 0
IsInTurn h s idle = AreFewer idle (λ t. Waits (standing_in h t) × (came_in h t < came_in h s))

-- Who was told was the first of those who were not; who took had its turn, and was told; who took
-- without standing in line left enough for all who waited; and who was passed was told before.
abbrev pub IsInOrder : List Event → Type 0
IsInOrder [] = Unit {0}
IsInOrder (WasTold slot ∷ h) = IsFirstUntold h slot × IsInOrder h
IsInOrder (Took slot idle ∷ h) = IsInTurn h slot idle × ¬ IsUntold h slot × IsInOrder h
IsInOrder (TookAtOnce idle ∷ h) = AreFewer idle (λ t. Waits (standing_in h t)) × IsInOrder h
IsInOrder (Passed slot ∷ h) = (standing_in h slot ≡ Some Told) × IsInOrder h
IsInOrder (_ ∷ h) = IsInOrder h
