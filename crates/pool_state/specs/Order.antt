-- The histories of a line: what happened at it, in the order of service, and who stands in it then.
use Rattle.std.specs.Prelude.{◌≡◌, ◌<◌, ℕ, ◌==◌, if◌then◌else◌, Bool, true, false}
use Rattle.std.specs.Prelude.{List, [], ◌∷◌, ◌++◌, map, Option, Some, None}
use Rattle.std.specs.List.{AllByRecursion}
use Rattle.pool_state.specs.declared.line.place.Place.{Place}
use Rattle.pool_state.specs.declared.line.place.Standing.{Standing}
use Rattle.pool_state.specs.Overtaking.{KeepsTurns}
pub use Rattle.pool_state.specs.Service.{Event, Came, WasTold, WaitsOn, Took, Passed, Left, TookAtOnce, standing_in, came_in}
pub use Rattle.pool_state.specs.Service.{StandsIn, IsUntold, is_waiting, Waits, IsFirstUntold, AreFewer, IsInTurn, IsInOrder}

-- ONE BY ONE

-- who came to stand in line, in the order of coming
abbrev pub comings : List Event → List ℕ
comings [] = []
comings (Came slot ∷ h) = comings h ++ slot ∷ []
comings (_ ∷ h) = comings h

-- who of them was served, in the order of service
abbrev pub services : List Event → List ℕ
services [] = []
services (Took slot idle ∷ h) = services h ++ slot ∷ []
services (_ ∷ h) = services h

-- one connection is idle at each take, nobody who waits gives up, and nobody who was served looks
-- again, as one does whose check failed
abbrev pub IsOneByOne : List Event → Type 0
IsOneByOne [] = Unit {0}
IsOneByOne (Took slot idle ∷ h) = (idle ≡ 1) × Waits (standing_in h slot) × IsOneByOne h
IsOneByOne (WaitsOn slot ∷ h) = Waits (standing_in h slot) × IsOneByOne h
IsOneByOne (Passed slot ∷ h) = ⊥
IsOneByOne (Left slot ∷ h) = ¬ Waits (standing_in h slot) × IsOneByOne h
IsOneByOne (_ ∷ h) = IsOneByOne h

-- WHO STANDS IN LINE AFTER IT

-- how the one with this slot stands
abbrev pub standing_at : ℕ → List Place → Option Standing
standing_at s [] = None
standing_at s (p ∷ ps) = if p.slot == s then Some p.standing else standing_at s ps

abbrev pub slots_of : List Place → List ℕ
slots_of ps = map (λ (p : Place). p.slot) ps

-- of those who wait
abbrev pub waiting_slots : List Place → List ℕ
waiting_slots [] = []
waiting_slots (p ∷ ps) =
    if is_waiting p.standing then p.slot ∷ waiting_slots ps else waiting_slots ps

-- each came before all that stand behind it
abbrev pub StandAsTheyCame : (ℕ → ℕ) → List ℕ → Type 0
StandAsTheyCame came [] = Unit {0}
StandAsTheyCame came (s ∷ slots) =
    AllByRecursion (λ t. came s < came t) slots × StandAsTheyCame came slots

-- the line is as the history leaves it, which was in order
pub record IsHistoryOf (h : List Event) (ps : List Place) : Type 0 where
  pub stand : (s : ℕ) → standing_at s ps ≡ standing_in h s
  pub as_they_came : StandAsTheyCame (came_in h) (slots_of ps)
  pub in_order : IsInOrder h
  -- so nobody loses its turn to one that came later
  pub keeps_turns : KeepsTurns h
  -- the order of service is that of coming: first those who were served, and then those who wait
  pub one_by_one : IsOneByOne h → comings h ≡ services h ++ waiting_slots ps

-- WHAT A CALL ADDS

-- the caller stands in line at this slot, or nowhere
abbrev pub IsPlaceIn : List Event → Option ℕ → Type 0
IsPlaceIn h None = Unit {0}
IsPlaceIn h (Some s) = StandsIn h s

-- the one at this slot is told, or nobody is
abbrev pub with_told : Option ℕ → List Event → List Event
with_told None h = h
with_told (Some s) h = WasTold s ∷ h

-- it takes, where so many are idle
abbrev pub with_take : Option ℕ → ℕ → List Event → List Event
with_take None idle h = TookAtOnce idle ∷ h
with_take (Some s) idle h = Took s idle ∷ h

-- it waits on, or comes, and has this slot then; nothing, where there is no room
abbrev pub with_wait : Option ℕ → Option ℕ → List Event → List Event
with_wait (Some s) new h = WaitsOn s ∷ h
with_wait None (Some s) h = Came s ∷ h
with_wait None None h = h

-- it is passed, if one is
abbrev pub with_pass : Option ℕ → List Event → List Event
with_pass None h = h
with_pass (Some s) h = Passed s ∷ h

-- it leaves, where it stands in line
abbrev pub with_leave : Option ℕ → List Event → List Event
with_leave None h = h
with_leave (Some s) h = Left s ∷ h

-- it looks: it takes, and keeps its place or leaves; or it waits
abbrev pub with_look : Bool → Bool → Option ℕ → Option ℕ → ℕ → List Event → List Event
with_look true true old new idle h = with_take old idle h
with_look true false old new idle h = with_leave old (with_take old idle h)
with_look false keeps_place old new idle h = with_wait old new h
