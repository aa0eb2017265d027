-- How far searches along a line came.
use Rattle.std.specs.Prelude.{◌≡◌, ◌≤◌, ℕ, List, Option, Some, None, IfSome, length, take, slice_get}
use Rattle.std.specs.declared.time.Duration.{Duration}
use Rattle.pool_state.specs.declared.line.place.Place.{Place}
use Rattle.pool_state.specs.declared.line.search.Search.{Search}
use Rattle.pool_state.specs.declared.line.search.LateSearch.{LateSearch}
use Rattle.pool_state.specs.Waiting.{first_quiet, first_late}
use Rattle.pool_state.specs.Order.{slots_of}

-- a search stands at the one behind so many, if there is one
abbrev pub StandsAt : Search → List Place → Type 0
StandsAt search ps = IfSome (slice_get (slots_of ps) search.gone) (λ slot. slot ≡ search.at)

-- it stopped at the one that it found; where it found none, it went by all
abbrev pub StopsAt : Option ℕ → Search → List Place → Type 0
StopsAt (Some slot) search ps = search.at ≡ slot
StopsAt None search ps = length ps ≤ search.gone

-- it stands there, and none of those so many was told nothing
pub record IsSearch (search : Search) (ps : List Place) : Type 0 where
  pub here : StandsAt search ps
  pub none_quiet : first_quiet (take search.gone ps) ≡ None

-- nor is one of them late
pub record IsLateSearch (t : ℕ) (ends : List Duration) (search : Search) (ps : List Place) : Type 0 where
  pub of_quiet : IsSearch search ps
  pub none_late : first_late t ends (take search.gone ps) ≡ None

-- the search for who is late, and that for who is told instead
pub record AreSearches (t : ℕ) (ends : List Duration) (search : LateSearch) (ps : List Place) : Type 0 where
  pub late : IsLateSearch t ends search.late ps
  pub quiet : IsSearch search.quiet ps
