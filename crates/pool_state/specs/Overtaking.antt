-- Who overtakes a caller in line, and how often: only with what is not left for it.
use Rattle.std.specs.Prelude.{◌≡◌, ℕ, ◌+◌, ◌-◌, ◌≤◌, ◌==◌, ◌&&◌, if◌then◌else◌, nat_lt, max, Bool, false, IsTrue, List, [], ◌∷◌, Option, Some, None}
use Rattle.pool_state.specs.declared.line.place.Standing.{Standing}
use Rattle.pool_state.specs.Service.{Event, Came, Took, TookAtOnce, standing_in, came_in, is_waiting, IsInTurn}

abbrev pub waits : Option Standing → Bool
waits None = false
waits (Some standing) = is_waiting standing

-- What happens next, after this history, OVERTAKES the caller at slot s: that one waits, and one that
-- came later takes, or one that never came to stand in line.
abbrev pub overtakes : List Event → Event → ℕ → Bool
overtakes h (Took slot idle) s = waits (standing_in h s) && nat_lt (came_in h s) (came_in h slot)
overtakes h (TookAtOnce idle) s = waits (standing_in h s)
overtakes h _ s = false

-- how often it was overtaken since it came
abbrev pub overtakings : List Event → ℕ → ℕ
overtakings [] s = 0
overtakings (Came slot ∷ h) s = if slot == s then 0 else overtakings h s
overtakings (e ∷ h) s = (if overtakes h e s then 1 else 0) + overtakings h s

-- HOW MANY WERE IDLE

-- at a take
abbrev pub idle_at : Event → ℕ
idle_at (Took slot idle) = idle
idle_at (TookAtOnce idle) = idle
idle_at _ = 0

-- at most, at a take since it came
abbrev pub most_idle : List Event → ℕ → ℕ
most_idle [] s = 0
most_idle (Came slot ∷ h) s = if slot == s then 0 else most_idle h s
most_idle (e ∷ h) s = max (idle_at e) (most_idle h s)

-- Those beyond the first are SPARE, since the first is left for the caller. So many of them did the
-- last take since it came leave
abbrev pub spare_left : List Event → ℕ → ℕ
spare_left [] s = 0
spare_left (Came slot ∷ h) s = if slot == s then 0 else spare_left h s
spare_left (Took slot idle ∷ h) s = idle - 2
spare_left (TookAtOnce idle ∷ h) s = idle - 2
spare_left (_ ∷ h) s = spare_left h s

-- and so many were there since it came: at each take those beyond what the one before it left
abbrev pub spare_since : List Event → ℕ → ℕ
spare_since [] s = 0
spare_since (Came slot ∷ h) s = if slot == s then 0 else spare_since h s
spare_since (e ∷ h) s = (idle_at e - 1 - spare_left h s) + spare_since h s

-- WHAT FOLLOWS FROM THE ORDER OF SERVICE

-- who is overtaken has its turn even then: of those who wait fewer came before it than the take left
-- idle
abbrev pub LeavesEnough : List Event → Event → Type 0
LeavesEnough h e = (s : ℕ) → IsTrue (overtakes h e s) → IsInTurn (e ∷ h) s (idle_at e - 1)

abbrev pub EachLeavesEnough : List Event → Type 0
EachLeavesEnough [] = Unit {0}
EachLeavesEnough (e ∷ h) = LeavesEnough h e × EachLeavesEnough h

-- Nobody loses its turn to one that came later, nor to one that never came to stand in line. This is
-- proved of every history of a line, whoever gives up or is late in it, and whatever check fails; so
-- the clauses `history` of the steps of PoolState say it of what happens in them.
pub record KeepsTurns (h : List Event) : Type 0 where
  pub leaves_enough : EachLeavesEnough h
  -- a caller is overtaken at most as often as connections were spare since it came, and each counts
  -- once while it stays idle; so while none comes back, by fewer takes than were idle at once. (Where
  -- they come back, how many are idle at once bounds nothing: see the last row of the proofs' Rows.)
  pub at_most_by_spare : (s : ℕ) → overtakings h s ≤ spare_since h s
  -- and by nobody, where one was idle at each take since it came
  pub by_nobody : (s : ℕ) → most_idle h s ≤ 1 → overtakings h s ≡ 0
