-- Leaving out ids by a test.
use Rattle.std.proofs.Common.{◌≡◌, ℕ, ◌+◌, ◌≤◌, Bool, true, false, cond, not, ◌==◌, ◌||◌, List, [], ◌∷◌, ◌++◌, map, refl, ◌∙◌, ap, arith}
use Rattle.std.specs.Prelude.{filter}
use Rattle.std.specs.List.{list_any}
use Rattle.std.proofs.lemmas.List.{append-nil}
use Rattle.std.proofs.lemmas.List.Elements.{filter-append}
use Rattle.std.proofs.lemmas.Bool.{eq-eqb}
use Rattle.std.proofs.lemmas.Bool.Decides.{nat_tests}
use Rattle.pool_machine.specs.Ids.{copies_of, without}

pub eqb-sym : (a b : ℕ) → (a == b) ≡ (b == a)
eqb-sym a b = grind (arith, nat_tests)

not_any_step : (b c : Bool) (n : ℕ) → cond b 1 0 + n ≡ 0 → (n ≡ 0 → c ≡ false) → (b || c) ≡ false
not_any_step true c n e ih = absurd (omega arith)
not_any_step false c n e ih = ih (omega arith)

head_absent : (b : Bool) (n : ℕ) → b ≡ true → cond b 1 0 + n ≤ 1 → n ≡ 0
head_absent true n is le = omega arith
head_absent false n is le = absurd cc

module _ {X : Type 0} where
  pub filter_true : (xs : List X) → filter (λ x. true) xs ≡ xs
  filter_true [] = refl
  filter_true (x ∷ xs) = ap (λ l. x ∷ l) (filter_true xs)

  absent_step : (b : Bool) (x : X) (n : ℕ) (xs ys : List X) → cond b 1 0 + n ≡ 0 → (n ≡ 0 → xs ≡ ys) → cond (not b) (x ∷ xs) xs ≡ x ∷ ys
  absent_step true x n xs ys e ih = absurd (omega arith)
  absent_step false x n xs ys e ih = ap (λ l. x ∷ l) (ih (omega arith))

  -- an id that is not there is not left out
  pub filter-absent : (id_of : X → ℕ) (i : ℕ) (xs : List X) → copies_of i (map id_of xs) ≡ 0 → filter (λ x. not (i == id_of x)) xs ≡ xs
  filter-absent id_of i [] e = refl
  filter-absent id_of i (x ∷ xs) e =
      ap (λ b. cond (not b) (x ∷ filter (λ y. not (i == id_of y)) xs) (filter (λ y. not (i == id_of y)) xs)) (eqb-sym i (id_of x))
      ∙ absent_step (id_of x == i) x (copies_of i (map id_of xs)) (filter (λ y. not (i == id_of y)) xs) xs e (filter-absent id_of i xs)

  -- the last is left out by its id
  pub filter-last : (id_of : X → ℕ) (xs : List X) (x : X) → copies_of (id_of x) (map id_of xs) ≡ 0 → filter (λ y. not (id_of x == id_of y)) (xs ++ x ∷ []) ≡ xs
  filter-last id_of xs x e =
      filter-append (λ y. not (id_of x == id_of y)) xs (x ∷ [])
      ∙ (ap (λ b. filter (λ y. not (id_of x == id_of y)) xs ++ cond (not b) (x ∷ []) []) (eq-eqb (id_of x) (id_of x) refl)
      ∙ (append-nil _ ∙ filter-absent id_of (id_of x) xs e))

  once_step : (b : Bool) (x : X) (n : ℕ) (xs fs ws : List X) → cond b 1 0 + n ≤ 1 → (n ≡ 0 → fs ≡ xs) → (n ≤ 1 → fs ≡ ws)
      → cond (not b) (x ∷ fs) fs ≡ cond b xs (x ∷ ws)
  once_step true x n xs fs ws le absent ih = absent (omega arith)
  once_step false x n xs fs ws le absent ih = ap (λ l. x ∷ l) (ih (omega arith))

  -- leaving out an id that stands once is leaving out the first that has it
  pub filter-once : (id_of : X → ℕ) (i : ℕ) (xs : List X) → copies_of i (map id_of xs) ≤ 1 → filter (λ x. not (i == id_of x)) xs ≡ without id_of i xs
  filter-once id_of i [] le = refl
  filter-once id_of i (x ∷ xs) le =
      ap (λ b. cond (not b) (x ∷ filter (λ y. not (i == id_of y)) xs) (filter (λ y. not (i == id_of y)) xs)) (eqb-sym i (id_of x))
      ∙ once_step (id_of x == i) x (copies_of i (map id_of xs)) xs (filter (λ y. not (i == id_of y)) xs) (without id_of i xs) le (filter-absent id_of i xs)
      (filter-once id_of i xs)

  both_step : (a b : Bool) (x : X) (q : X → Bool) (l : List X) → q x ≡ not a
      → cond (not (a || b)) (x ∷ filter q l) (filter q l) ≡ filter q (cond (not b) (x ∷ l) l)
  both_step true true x q l e = refl
  both_step true false x q l e = rw e
  both_step false true x q l e = refl
  both_step false false x q l e = rw e

  -- leaving out by two tests
  pub filter-both : (p q : X → Bool) (xs : List X) → filter (λ x. not (p x || q x)) xs ≡ filter (λ x. not (p x)) (filter (λ x. not (q x)) xs)
  filter-both p q [] = refl
  filter-both p q (x ∷ xs) =
      ap (λ l. cond (not (p x || q x)) (x ∷ l) l) (filter-both p q xs)
      ∙ both_step (p x) (q x) x (λ x. not (p x)) (filter (λ x. not (q x)) xs) refl

  -- BY MANY IDS

  copies-filter_step : (b : Bool) (id_of : X → ℕ) (i : ℕ) (x : X) (xs fs : List X) → copies_of i (map id_of fs) ≤ copies_of i (map id_of xs)
      → copies_of i (map id_of (cond b (x ∷ fs) fs)) ≤ cond (id_of x == i) 1 0 + copies_of i (map id_of xs)
  copies-filter_step true id_of i x xs fs le = omega (arith, le)
  copies-filter_step false id_of i x xs fs le = omega (arith, le)

  -- leaving some out makes no copies
  pub copies_of-filter : (p : X → Bool) (id_of : X → ℕ) (i : ℕ) (xs : List X) → copies_of i (map id_of (filter p xs)) ≤ copies_of i (map id_of xs)
  copies_of-filter p id_of i [] = omega arith
  copies_of-filter p id_of i (x ∷ xs) = copies-filter_step (p x) id_of i x xs (filter p xs) (copies_of-filter p id_of i xs)

  -- an id that is not there is not found
  pub list_any-absent : (id_of : X → ℕ) (i : ℕ) (xs : List X) → copies_of i (map id_of xs) ≡ 0 → list_any (λ x. id_of x == i) xs ≡ false
  list_any-absent id_of i [] e = refl
  list_any-absent id_of i (x ∷ xs) e = not_any_step (id_of x == i) (list_any (λ y. id_of y == i) xs) (copies_of i (map id_of xs)) e (list_any-absent id_of i xs)

  -- the first of those with ids apart does not stand again
  pub first_apart : (id_of : X → ℕ) (x : X) (xs : List X) → ((i : ℕ) → copies_of i (map id_of (x ∷ xs)) ≤ 1) → copies_of (id_of x) (map id_of xs) ≡ 0
  first_apart id_of x xs apart = head_absent (id_of x == id_of x) (copies_of (id_of x) (map id_of xs)) (eq-eqb (id_of x) (id_of x) refl) (apart (id_of x))

  outside_step : (p : X → Bool) (id_of : X → ℕ) (x : X) (xs : List X) (b : Bool) → copies_of (id_of x) (map id_of xs) ≡ 0
      → filter (λ y. not (list_any (λ c. id_of c == id_of y) (filter p xs))) xs ≡ filter (λ y. not (p y)) xs
      → filter (λ y. not (list_any (λ c. id_of c == id_of y) (cond b (x ∷ filter p xs) (filter p xs)))) (x ∷ xs) ≡ cond (not b) (x ∷ filter (λ y. not (p y)) xs)
      (filter (λ y. not (p y)) xs)
  outside_step p id_of x xs true once ih =
      let among = λ (y : X). list_any (λ c. id_of c == id_of y) (filter p xs) in
      let rest = filter (λ y. not (id_of x == id_of y || among y)) xs in
      ap (λ b. cond (not (b || among x)) (x ∷ rest) rest) (eq-eqb (id_of x) (id_of x) refl)
      ∙ (filter-both (λ y. id_of x == id_of y) among xs
      ∙ (ap (filter (λ y. not (id_of x == id_of y))) ih
      ∙ filter-absent id_of (id_of x) (filter (λ y. not (p y)) xs) (omega (arith, once, copies_of-filter (λ y. not (p y)) id_of (id_of x) xs))))
  outside_step p id_of x xs false once ih =
      let among = λ (y : X). list_any (λ c. id_of c == id_of y) (filter p xs) in
      let rest = filter (λ y. not (among y)) xs in
      ap (λ b. cond (not b) (x ∷ rest) rest) (list_any-absent id_of (id_of x) (filter p xs) (omega (arith, once, copies_of-filter p id_of (id_of x) xs)))
      ∙ ap (λ l. x ∷ l) ih

  -- with ids apart, those whose id is none of the ids that pass a test are those that do not pass it
  pub filter-outside : (p : X → Bool) (id_of : X → ℕ) (xs : List X) → ((i : ℕ) → copies_of i (map id_of xs) ≤ 1)
      → filter (λ x. not (list_any (λ c. id_of c == id_of x) (filter p xs))) xs ≡ filter (λ x. not (p x)) xs
  filter-outside p id_of [] apart = refl
  filter-outside p id_of (x ∷ xs) apart =
      outside_step p id_of x xs (p x) (first_apart id_of x xs apart) (filter-outside p id_of xs (λ i. omega (arith, apart i)))

-- all are left where no id is among the others
pub filter-apart : {X Y : Type 0} (of : Y → ℕ) (id_of : X → ℕ) (cs : List Y) (xs : List X)
    → ((i : ℕ) → copies_of i (map of cs) + copies_of i (map id_of xs) ≤ 1)
    → filter (λ x. not (list_any (λ c. of c == id_of x) cs)) xs ≡ xs
filter-apart of id_of cs [] apart = refl
filter-apart of id_of cs (x ∷ xs) apart =
    let outside = filter (λ x. not (list_any (λ c. of c == id_of x) cs)) xs in
    let one : ◌≡◌ {A = ℕ} (cond (id_of x == id_of x) 1 0) 1 = ap (λ b. cond b 1 0) (eq-eqb (id_of x) (id_of x) refl) in
    ap (λ b. cond (not b) (x ∷ outside) outside) (list_any-absent of (id_of x) cs (omega (arith, one, apart (id_of x))))
    ∙ ap (λ l. x ∷ l) (filter-apart of id_of cs xs (λ i. omega (arith, apart i)))
