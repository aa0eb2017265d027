-- What extensions hold: entries of a kind and a value, of which no two have one kind.
use Rattle.std.specs.Prelude.{◌≡◌, ℕ, ◌<◌, length, Bool, cond, Option, List, ◌++◌, ◌∷◌, [], Some, None, remove, slice_set}
use Rattle.std.specs.List.{slice_index_or}
use Rattle.std.specs.Map.{lookup, set_value, remove_entry}

-- the entries with w under the kind that passes the test: in the place of the value there, else k and w at the end
abbrev pub with_entry : {K X : Type 0} → (K → Bool) → List (K × X) → K → X → List (K × X)
with_entry test es k w = elim (lookup test es) [ None ↦ es ++ (k, w) ∷ [] | Some _ ↦ set_value test es w ]

-- under k, and each kind equal to it, there is now w; under each other kind there is what was there
abbrev pub ChangesKind : {K X : Type 0} → (K → K → Bool) → K → Option X → List (K × X) → List (K × X) → Type 0
ChangesKind {K} eq k w old new = (kind : K) → lookup (eq kind) new ≡ cond (eq k kind) w (lookup (eq kind) old)

-- whatever is written in the place of the value under k changes that kind alone
abbrev pub IsChangeable : {K X : Type 0} → (K → K → Bool) → K → List (K × X) → Type 0
IsChangeable {K} {X} eq k es = (w : X) → ChangesKind eq k (Some w) es (set_value (eq k) es w)

-- the entry at i is the first whose kind passes the test
pub record IsPlaceOf {K X : Type 0} (test : K → Bool) (es : List (K × X)) (i : ℕ) : Type 0 where
  pub within : i < length es
  pub found : (d : K × X) → lookup test es ≡ Some (slice_index_or es i d).1
  pub removed : remove es i ≡ remove_entry test es
  pub replaced : (d : K × X) (w : X) → slice_set es i ((slice_index_or es i d).0, w) ≡ set_value test es w
