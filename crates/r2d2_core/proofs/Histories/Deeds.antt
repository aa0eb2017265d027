-- What one more deed does to the latest deeds, and so to what is idle and lent.
use Rattle.std.proofs.Common.{◌≡◌, ℕ, ◌+◌, ◌≤◌, Bool, true, false, cond, List, [], ◌∷◌, ◌++◌, map, Option, Some, None, refl, ◌∙◌, ap}
use Rattle.std.specs.Prelude.{filter, filter_map}
use Rattle.std.specs.List.{cons_option}
use Rattle.std.specs.Option.{MatchOption}
use Rattle.std.proofs.lemmas.List.{append-nil}
use Rattle.std.proofs.lemmas.List.Elements.{filter_map-append}
use Rattle.pool_machine.specs.declared.step.Step.{Step}
use Rattle.pool_machine.specs.Ids.{latest, copies_of}
use Rattle.pool_machine.specs.Connections.{id_of_idle, id_of_lent, idle_connection, lent_connection}
use Rattle.r2d2_core.specs.History.{History, Then, moment_of}
use Rattle.r2d2_core.specs.Deeds.{Deed, Admitted, Taken, Kept, Gone, deeds_of, deeds_in, id_of_deed, birth_of, admits, as_idle, as_lent}
use Rattle.r2d2_core.specs.Deeds.{idle_of, lent_of}
use Rattle.pool_machine.specs.Seen.{SeenAnswer}
use Rattle.pool_machine.proofs.Lists.Filters.{filter_true}
use Rattle.pool_machine.proofs.Facts.Latest.{is_other, latest-append}

-- no id stands twice among the idle and the lent ones
abbrev pub AreApart : {T : Type 0} → History T → Type 0
AreApart h = (i : ℕ) → copies_of i (map id_of_idle (idle_of h)) + copies_of i (map id_of_lent (lent_of h)) ≤ 1

keeps_step : {X Y : Type 0} (b : Bool) (o : Option Y) (q : Y → Bool) (f : X → Option Y) (x : X) (xs : List X) (ys zs : List Y)
    → f x ≡ o → MatchOption o (Unit {0}) (λ y. q y ≡ b) → filter_map f xs ≡ filter q ys
    → filter_map f (cond b (x ∷ xs) xs) ≡ filter q (cons_option o ys)
keeps_step true None q f x xs ys zs fx e ih = rw fx ih
keeps_step false None q f x xs ys zs fx e ih = ih
keeps_step true (Some y) q f x xs ys zs fx e ih = rw (fx, e) (ap (λ l. y ∷ l) ih)
keeps_step false (Some y) q f x xs ys zs fx e ih = rw e ih

-- a filter before or after
pub filter_map-filter : {X Y : Type 0} (f : X → Option Y) (p : X → Bool) (q : Y → Bool) → ((x : X) → MatchOption (f x) (Unit {0}) (λ y. q y ≡ p x))
    → (xs : List X) → filter_map f (filter p xs) ≡ filter q (filter_map f xs)
filter_map-filter f p q h [] = refl
filter_map-filter f p q h (x ∷ xs) = keeps_step (p x) (f x) q f x (filter p xs) (filter_map f xs) [] refl (h x) (filter_map-filter f p q h xs)

-- a test of ids sees what is shown as it sees the deed
pub idle_keeps : {T : Type 0} (q : ℕ → Bool) (birth : ℕ → ℕ) (d : Deed T) → MatchOption (as_idle birth d) (Unit {0}) (λ c. q c.id ≡ q (id_of_deed d))
idle_keeps q birth (Admitted id at v) = refl
idle_keeps q birth (Kept id at v) = refl
idle_keeps q birth (Taken id at) = tt
idle_keeps q birth (Gone id at) = tt

pub lent_keeps : {T : Type 0} (q : ℕ → Bool) (birth : ℕ → ℕ) (d : Deed T) → MatchOption (as_lent birth d) (Unit {0}) (λ c. q c.id ≡ q (id_of_deed d))
lent_keeps q birth (Admitted id at v) = tt
lent_keeps q birth (Kept id at v) = tt
lent_keeps q birth (Taken id at) = refl
lent_keeps q birth (Gone id at) = tt

-- what is shown of a deed is the same by births that are the same of its id
idle_agrees : {T : Type 0} (f g : ℕ → ℕ) (d : Deed T) → f (id_of_deed d) ≡ g (id_of_deed d) → as_idle f d ≡ as_idle g d
idle_agrees f g (Admitted id at v) e = ap (λ b. Some (idle_connection id b at v)) e
idle_agrees f g (Kept id at v) e = ap (λ b. Some (idle_connection id b at v)) e
idle_agrees f g (Taken id at) e = refl
idle_agrees f g (Gone id at) e = refl

lent_agrees : {T : Type 0} (f g : ℕ → ℕ) (d : Deed T) → f (id_of_deed d) ≡ g (id_of_deed d) → as_lent f d ≡ as_lent g d
lent_agrees f g (Admitted id at v) e = refl
lent_agrees f g (Kept id at v) e = refl
lent_agrees f g (Taken id at) e = ap (λ b. Some (lent_connection id b)) e
lent_agrees f g (Gone id at) e = refl

births_step : {X Y : Type 0} (b : Bool) (f g : X → Option Y) (x : X) (xs : List X) → (b ≡ true → f x ≡ g x) → filter_map f xs ≡ filter_map g xs
    → filter_map f (cond b (x ∷ xs) xs) ≡ filter_map g (cond b (x ∷ xs) xs)
births_step true f g x xs e ih = rw (e refl, ih) refl
births_step false f g x xs e ih = ih

-- two ways to show that agree on what passes
pub filter_map-agree : {X Y : Type 0} (p : X → Bool) (f g : X → Option Y) → ((x : X) → p x ≡ true → f x ≡ g x) → (xs : List X)
    → filter_map f (filter p xs) ≡ filter_map g (filter p xs)
filter_map-agree p f g e [] = refl
filter_map-agree p f g e (x ∷ xs) = births_step (p x) f g x (filter p xs) (e x) (filter_map-agree p f g e xs)

-- what is idle after a step: what was, but for the ids of its deeds, and what its deeds leave
pub idle_of-then : {T : Type 0} (h : History T) (s : Step T) (r : SeenAnswer T) (es : List (Deed T)) → deeds_in (moment_of h s) s r ≡ es
    → ((i : ℕ) → is_other id_of_deed es i ≡ true → admits s i ≡ false)
    → idle_of (Then h s r) ≡ filter (λ c. is_other id_of_deed es c.id) (idle_of h) ++ filter_map (as_idle (birth_of (Then h s r)))
    (latest id_of_deed es)
unfolding idle_of
idle_of-then h s r es e new =
    let now = as_idle (birth_of (Then h s r)) in
    ap (λ ds. filter_map now (latest id_of_deed (deeds_of h ++ ds))) e
    ∙ (ap (filter_map now) (latest-append id_of_deed (deeds_of h) es)
    ∙ (filter_map-append now (filter (λ d. is_other id_of_deed es (id_of_deed d)) (latest id_of_deed (deeds_of h))) (latest id_of_deed es)
    ∙ ap (λ l. l ++ filter_map now (latest id_of_deed es))
    (filter_map-agree (λ d. is_other id_of_deed es (id_of_deed d)) now (as_idle (birth_of h))
    (λ d other. idle_agrees (birth_of (Then h s r)) (birth_of h) d (ap (λ b. cond b (moment_of h s) (birth_of h (id_of_deed d))) (new (id_of_deed d) other))) (latest id_of_deed (deeds_of h))
    ∙ filter_map-filter (as_idle (birth_of h)) (λ d. is_other id_of_deed es (id_of_deed d)) (λ c. is_other id_of_deed es c.id)
    (idle_keeps (is_other id_of_deed es) (birth_of h)) (latest id_of_deed (deeds_of h)))))

-- the same of what is lent
pub lent_of-then : {T : Type 0} (h : History T) (s : Step T) (r : SeenAnswer T) (es : List (Deed T)) → deeds_in (moment_of h s) s r ≡ es
    → ((i : ℕ) → is_other id_of_deed es i ≡ true → admits s i ≡ false)
    → lent_of (Then h s r) ≡ filter (λ c. is_other id_of_deed es c.id) (lent_of h) ++ filter_map (as_lent (birth_of (Then h s r)))
    (latest id_of_deed es)
unfolding lent_of
lent_of-then h s r es e new =
    let now = as_lent (birth_of (Then h s r)) in
    ap (λ ds. filter_map now (latest id_of_deed (deeds_of h ++ ds))) e
    ∙ (ap (filter_map now) (latest-append id_of_deed (deeds_of h) es)
    ∙ (filter_map-append now (filter (λ d. is_other id_of_deed es (id_of_deed d)) (latest id_of_deed (deeds_of h))) (latest id_of_deed es)
    ∙ ap (λ l. l ++ filter_map now (latest id_of_deed es))
    (filter_map-agree (λ d. is_other id_of_deed es (id_of_deed d)) now (as_lent (birth_of h))
    (λ d other. lent_agrees (birth_of (Then h s r)) (birth_of h) d (ap (λ b. cond b (moment_of h s) (birth_of h (id_of_deed d))) (new (id_of_deed d) other))) (latest id_of_deed (deeds_of h))
    ∙ filter_map-filter (as_lent (birth_of h)) (λ d. is_other id_of_deed es (id_of_deed d)) (λ c. is_other id_of_deed es c.id)
    (lent_keeps (is_other id_of_deed es) (birth_of h)) (latest id_of_deed (deeds_of h)))))

-- a step with no deeds leaves what is idle and lent
pub idle_of-none : {T : Type 0} (h : History T) (s : Step T) (r : SeenAnswer T) → deeds_in (moment_of h s) s r ≡ [] → ((i : ℕ) → admits s i ≡ false)
    → idle_of (Then h s r) ≡ idle_of h
idle_of-none h s r e a = idle_of-then h s r [] e (λ i other. a i) ∙ (append-nil _ ∙ filter_true (idle_of h))

pub lent_of-none : {T : Type 0} (h : History T) (s : Step T) (r : SeenAnswer T) → deeds_in (moment_of h s) s r ≡ [] → ((i : ℕ) → admits s i ≡ false)
    → lent_of (Then h s r) ≡ lent_of h
lent_of-none h s r e a = lent_of-then h s r [] e (λ i other. a i) ∙ (append-nil _ ∙ filter_true (lent_of h))
