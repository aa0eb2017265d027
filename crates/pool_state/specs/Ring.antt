-- The links between nodes, and the walk along them.
use Rattle.std.specs.Prelude.{◌≡◌, ℕ, zero, suc, ◌==◌, if◌then◌else◌, List, [], ◌∷◌, slice_index_or, Option, Some, None}
use Rattle.pool_state.specs.declared.line.links.Link.{Link}
use Rattle.pool_state.specs.declared.line.ring.Ring.{Ring}
use Rattle.pool_state.specs.declared.line.place.Place.{Place}
use Rattle.pool_state.specs.declared.line.place.Standing.{Standing}
use Rattle.pool_state.specs.declared.line.place.Standing.TheVariants.{Quiet}
use Rattle.pool_state.specs.Waiting.{place}

abbrev pub link : ℕ → ℕ → Link
link prev next = record { prev = prev; next = next }

-- what follows a node, and what is before it; past the end each is alone
abbrev pub next_of : List Link → ℕ → ℕ
next_of ls x = (slice_index_or ls x (link x x)).next

abbrev pub prev_of : List Link → ℕ → ℕ
prev_of ls x = (slice_index_or ls x (link x x)).prev

-- each undoes the other
abbrev pub AreInverse : (ℕ → ℕ) → (ℕ → ℕ) → Type 0
AreInverse next prev = ((x : ℕ) → prev (next x) ≡ x) × ((x : ℕ) → next (prev x) ≡ x)

-- the same step, but for that from one node
abbrev pub set_at : ℕ → ℕ → (ℕ → ℕ) → ℕ → ℕ
set_at at to step x = if x == at then to else step x

-- the same steps over a node, which is alone then
abbrev pub skipped : ℕ → (ℕ → ℕ) → ℕ → ℕ
skipped at step x = if x == at then at else if step x == at then step at else step x

-- the same steps, with a node before the end
abbrev pub before : ℕ → ℕ → (ℕ → ℕ) → ℕ → ℕ
before at end step x = if x == at then end else if step x == end then at else step x

abbrev pub after : ℕ → ℕ → (ℕ → ℕ) → ℕ → ℕ
after at end step x = if x == at then step end else if x == end then at else step x

-- so many nodes from this one on
abbrev pub walk : (ℕ → ℕ) → ℕ → ℕ → List ℕ
walk step zero at = []
walk step (suc n) at = at ∷ walk step n (step at)

-- and where it comes to then
abbrev pub reach : (ℕ → ℕ) → ℕ → ℕ → ℕ
reach step zero at = at
reach step (suc n) at = reach step n (step at)

-- the slots of a line of so many, in order
abbrev pub order : List Link → ℕ → ℕ → List ℕ
order ls end n = walk (next_of ls) n (next_of ls end)

-- how a slot's owner stands
abbrev pub standing_of : List (Option Standing) → ℕ → Option Standing
standing_of sts s = slice_index_or sts s None

abbrev pub or_quiet : Option Standing → Standing
or_quiet None = Quiet
or_quiet (Some t) = t

-- 1 if somebody stands there
abbrev pub one_if : Option Standing → ℕ
one_if None = 0
one_if (Some t) = 1

-- who stands at these slots
abbrev pub row_of : List (Option Standing) → List ℕ → List Place
row_of sts [] = []
row_of sts (s ∷ ss) = place s (or_quiet (standing_of sts s)) ∷ row_of sts ss

-- who stands in line, in the order in which they came
abbrev pub places_in : Ring → List Place
places_in r = row_of r.standings.items (order r.links.items r.end r.len)
