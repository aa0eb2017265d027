-- The latest of things with ids: what more of them do to it.
use Rattle.std.proofs.Common.{◌≡◌, ℕ, Bool, true, false, cond, ◌||◌, not, ◌==◌, List, [], ◌∷◌, ◌++◌, map, Option, None, refl, ◌∙◌, ap}
use Rattle.std.specs.Prelude.{filter, filter_map}
use Rattle.std.specs.List.{list_any, cons_option}
use Rattle.std.proofs.lemmas.List.Folds.{list_any-append}
use Rattle.std.proofs.lemmas.List.Elements.{filter_agree}
use Rattle.pool_machine.specs.Ids.{latest}

-- none of es has the id
abbrev pub is_other : {X : Type 0} → (X → ℕ) → List X → ℕ → Bool
is_other of es i = not (list_any (λ e. of e == i) es)

step : {X : Type 0} (b c : Bool) (x : X) (p : X → Bool) (L M N : List X) → p x ≡ not c → L ≡ filter p M ++ N
    → cond (b || c) L (x ∷ L) ≡ filter p (cond b M (x ∷ M)) ++ N
step true c x p L M N e ih = ih
step false true x p L M N e ih = rw e ih
step false false x p L M N e ih = rw e (ap (λ l. x ∷ l) ih)

-- later ones replace those of their ids
pub latest-append : {X : Type 0} (of : X → ℕ) (ds es : List X) → latest of (ds ++ es) ≡ filter (λ d. is_other of es (of d)) (latest of ds) ++ latest of es
latest-append of [] es = refl
latest-append of (x ∷ xs) es =
    let more = latest of (xs ++ es) in
    ap (λ b. cond b more (x ∷ more)) (list_any-append (λ e. of e == of x) xs es)
    ∙ step (list_any (λ e. of e == of x) xs) (list_any (λ e. of e == of x) es) x (λ d. is_other of es (of d)) more (latest of xs) (latest of es) refl
    (latest-append of xs es)

or_false : (b : Bool) → not (b || false) ≡ not b
or_false true = refl
or_false false = refl

-- the ids of one
pub one_other : {X Y : Type 0} (of : X → ℕ) (d : X) (id_of : Y → ℕ) (ys : List Y)
    → filter (λ y. is_other of (d ∷ []) (id_of y)) ys ≡ filter (λ y. not (of d == id_of y)) ys
one_other of d id_of ys = filter_agree (λ y. is_other of (d ∷ []) (id_of y)) (λ y. not (of d == id_of y)) (λ y. or_false (of d == id_of y)) ys

-- the ids of many
pub any_id : {X Y : Type 0} (of : X → ℕ) (f : Y → X) (i : ℕ) (cs : List Y) → list_any (λ d. of d == i) (map f cs) ≡ list_any (λ c. of (f c) == i) cs
any_id of f i [] = refl
any_id of f i (c ∷ cs) = ap (λ b. (of (f c) == i) || b) (any_id of f i cs)

left_step : {X Z : Type 0} (b : Bool) (g : X → Option Z) (d : X) (ds : List X) → g d ≡ None → filter_map g ds ≡ [] → filter_map g (cond b ds (d ∷ ds)) ≡ []
left_step true g d ds e ih = ih
left_step false g d ds e ih = ap (λ o. cons_option o (filter_map g ds)) e ∙ ih

-- where none of them leaves anything, their latest ones leave nothing
pub none_left : {X Y Z : Type 0} (of : X → ℕ) (g : X → Option Z) (f : Y → X) (cs : List Y) → ((c : Y) → g (f c) ≡ None)
    → filter_map g (latest of (map f cs)) ≡ []
none_left of g f [] e = refl
none_left of g f (c ∷ cs) e = left_step (list_any (λ d. of d == of (f c)) (map f cs)) g (f c) (latest of (map f cs)) (e c) (none_left of g f cs e)
