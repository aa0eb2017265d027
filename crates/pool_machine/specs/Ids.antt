-- Lists of things with ids.
use Rattle.std.specs.Prelude.{ℕ, ◌+◌, ◌-◌, ◌==◌, if◌then◌else◌, List, [], ◌∷◌, length, take, Option}
use Rattle.std.specs.Prelude.{None}
use Rattle.std.specs.List.{find, list_any, last_or}

-- the last of a list
abbrev pub last_of : {X : Type 0} → List X → Option X
last_of xs = last_or None xs

-- all but the last
abbrev pub front : {X : Type 0} → List X → List X
front xs = take (length xs - 1) xs

-- the first with the id, if there is one
abbrev pub found : {X : Type 0} → (X → ℕ) → ℕ → List X → Option X
found id_of i xs = find (λ x. id_of x == i) xs

-- all but the first with the id
abbrev pub without : {X : Type 0} → (X → ℕ) → ℕ → List X → List X
without id_of i [] = []
without id_of i (x ∷ xs) = if id_of x == i then xs else x ∷ without id_of i xs

-- those that no later one of the same id follows
abbrev pub latest : {X : Type 0} → (X → ℕ) → List X → List X
latest id_of [] = []
latest id_of (x ∷ later) =
    if list_any (λ y. id_of y == id_of x) later then latest id_of later else x ∷ latest id_of later

-- a number is its own id
abbrev pub same_id : ℕ → ℕ
same_id i = i

-- how often an id stands in a list
abbrev pub copies_of : ℕ → List ℕ → ℕ
copies_of i [] = 0
copies_of i (x ∷ xs) = (if x == i then 1 else 0) + copies_of i xs
