-- Openings in order: which list has the same openings, and which opening is first.
use Rattle.std.proofs.Common.{◌≡◌, ℕ, ◌+◌, ◌<◌, List, [], ◌∷◌, ◌++◌, length, true, false, refl, sym, ap, ◌∙◌, inl, inr, arith, get_or, set, suc, zero}
use Rattle.std.proofs.Common.{cond, length-set, get_or-set_same, get_or-set_other}
use Rattle.std.specs.List.{swap, All}
use Rattle.std.specs.List.Sorted.{IsPermutation}
use Rattle.std.proofs.lemmas.List.Sorted.{IsPermutation-keeps, All-permutation}
use Rattle.std.proofs.lemmas.Bool.{cases_Bool, cases_eq, cond-true, cond-false}
use Rattle.std.proofs.lemmas.Bool.Decides.{nat_tests}
use Rattle.pool_machine.specs.Openings.{SeenOpening, is_before, with_opening, sorted, with_many}

abbrev opening : ℕ → ℕ → SeenOpening
opening d t = record { due = d; tries = t }

pub not_before_itself : (a : SeenOpening) → is_before a a ≡ false
unfolding is_before
not_before_itself a = grind (arith, nat_tests)

pub not_both_before : (a b : SeenOpening) → is_before a b ≡ true → is_before b a ≡ false
unfolding is_before
not_both_before a b p = grind (arith, nat_tests)

pub same_from_neither : (a b : SeenOpening) → is_before a b ≡ false → is_before b a ≡ false → a ≡ b
unfolding is_before
same_from_neither a b p q =
    let due : a.due ≡ b.due = grind (arith, nat_tests) in
    let tries : a.tries ≡ b.tries = grind (arith, nat_tests) in
    ap (λ (d : ℕ). opening d a.tries) due ∙ ap (λ (t : ℕ). opening b.due t) tries

-- what y comes before, when it does not come before b, b comes before
pub before_from : (y a b : SeenOpening) → is_before y a ≡ true → is_before y b ≡ false → is_before b a ≡ true
unfolding is_before
before_from y a b p q = grind (arith, nat_tests)

-- the two steps of `with_opening`
with_past : (x y : SeenOpening) (ys : List SeenOpening) → is_before y x ≡ true → with_opening x (y ∷ ys) ≡ y ∷ with_opening x ys
with_past x y ys p = cond-true (is_before y x) (y ∷ with_opening x ys) (x ∷ y ∷ ys) p

with_here : (x y : SeenOpening) (ys : List SeenOpening) → is_before y x ≡ false → with_opening x (y ∷ ys) ≡ x ∷ y ∷ ys
with_here x y ys p = cond-false (is_before y x) (y ∷ with_opening x ys) (x ∷ y ∷ ys) p

-- two that both go to the front
front_comm : (a b : SeenOpening) (t : List SeenOpening) → with_opening a t ≡ a ∷ t → with_opening b t ≡ b ∷ t
    → with_opening a (with_opening b t) ≡ with_opening b (with_opening a t)
front_comm a b t p q =
    elim (cases_Bool (is_before b a)) [
      | inl before ↦ let past = with_past a b t before in let here = with_here b a t (not_both_before b a before) in cc
      | inr not_before ↦ elim (cases_Bool (is_before a b)) [
        | inl before ↦ let here = with_here a b t not_before in let past = with_past b a t before in cc
        | inr neither ↦ let same = same_from_neither a b neither not_before in cc
      ]
    ]

pub with_comm : (a b : SeenOpening) (l : List SeenOpening) → with_opening a (with_opening b l) ≡ with_opening b (with_opening a l)
with_comm a b [] = front_comm a b [] refl refl
with_comm a b (y ∷ ys) =
    elim (cases_Bool (is_before y a)) [
      | inl p ↦ elim (cases_Bool (is_before y b)) [
        | inl q ↦
            let b_past = with_past b y ys q in
            let a_past = with_past a y ys p in
            let then_a = with_past a y (with_opening b ys) p in
            let then_b = with_past b y (with_opening a ys) q in
            let rest = with_comm a b ys in
            cc
        | inr q ↦
            let b_here = with_here b y ys q in
            let a_past = with_past a y ys p in
            let then_a = with_past a b (y ∷ ys) (before_from y a b p q) in
            let then_b = with_here b y (with_opening a ys) q in
            cc
      ]
      | inr p ↦ elim (cases_Bool (is_before y b)) [
        | inl q ↦
            let b_past = with_past b y ys q in
            let a_here = with_here a y ys p in
            let then_b = with_past b a (y ∷ ys) (before_from y b a q p) in
            let then_a = with_here a y (with_opening b ys) p in
            cc
        | inr q ↦ front_comm a b (y ∷ ys) (with_here a y ys p) (with_here b y ys q)
      ]
    ]

-- an opening that joins at the end
pub sorted-push : (xs : List SeenOpening) (x : SeenOpening) → sorted (xs ++ x ∷ []) ≡ with_opening x (sorted xs)
sorted-push [] x = refl
sorted-push (y ∷ ys) x = ap (with_opening y) (sorted-push ys x) ∙ with_comm y x (sorted ys)

-- one opening in another's place
sorted-set : (xs : List SeenOpening) (i : ℕ) (x d : SeenOpening) → i < length xs
    → with_opening (get_or xs i d) (sorted (set xs i x)) ≡ with_opening x (sorted xs)
sorted-set [] i x d h = absurd (omega arith)
sorted-set (y ∷ ys) zero x d h = with_comm y x (sorted ys)
sorted-set (y ∷ ys) (suc i) x d h =
    let rest = sorted-set ys i x d (omega arith) in
    with_comm (get_or ys i d) y (sorted (set ys i x)) ∙ ap (with_opening y) rest ∙ with_comm y x (sorted ys)

-- xs without the first of those that equal x
without : SeenOpening → List SeenOpening → List SeenOpening
without x [] = []
without x (y ∷ ys) = cond (is_before y x) (y ∷ without x ys) ys

without-with : (x : SeenOpening) (u : List SeenOpening) → without x (with_opening x u) ≡ u
unfolding without
without-with x [] = cond-false (is_before x x) (x ∷ []) [] (not_before_itself x)
without-with x (y ∷ ys) =
    elim (cases_Bool (is_before y x)) [
      | inl p ↦ ap (without x) (with_past x y ys p) ∙ cond-true (is_before y x) (y ∷ without x (with_opening x ys)) (with_opening x ys) p
          ∙ ap (λ (l : List SeenOpening). y ∷ l) (without-with x ys)
      | inr p ↦ ap (without x) (with_here x y ys p) ∙ cond-false (is_before x x) (x ∷ without x (y ∷ ys)) (y ∷ ys) (not_before_itself x)
    ]

with_cancel : (x : SeenOpening) (u v : List SeenOpening) → with_opening x u ≡ with_opening x v → u ≡ v
with_cancel x u v e = sym (without-with x u) ∙ ap (without x) e ∙ without-with x v

get_or-set_there : (l : List SeenOpening) (i j : ℕ) (b d : SeenOpening) → i < length l → j ≡ i → get_or (set l i b) j d ≡ b
get_or-set_there l i j b d p e = rw e (get_or-set_same l i b d p)

sorted-swapped : (l : List SeenOpening) (i j : ℕ) (d : SeenOpening) → i < length l → j < length l
    → sorted (set (set l i (get_or l j d)) j (get_or l i d)) ≡ sorted l
sorted-swapped l i j d p q =
    let a = get_or l i d in
    let b = get_or l j d in
    let first : with_opening a (sorted (set l i b)) ≡ with_opening b (sorted l) = sorted-set l i b d p in
    let fits : j < length (set l i b) = omega (arith, length-set l i b) in
    let second : with_opening (get_or (set l i b) j d) (sorted (set (set l i b) j a)) ≡ with_opening a (sorted (set l i b)) = sorted-set
    (set l i b) j a d fits in
    let there : get_or (set l i b) j d ≡ b = elim (cases_eq j i) [
      | inl e ↦ get_or-set_there l i j b d p e
      | inr ne ↦ get_or-set_other l i j b d ne
    ] in
    with_cancel b _ _ (ap (λ (x : SeenOpening). with_opening x (sorted (set (set l i b) j a))) (sym there) ∙ second ∙ first)

sorted-swap : (l : List SeenOpening) (i j : ℕ) → i < length l → j < length l → sorted (swap l i j) ≡ sorted l
sorted-swap [] i j p q = refl
sorted-swap (y ∷ ys) i j p q = sorted-swapped (y ∷ ys) i j y p q

-- two lists with the same openings are one in order
pub sorted-permutation : (xs ys : List SeenOpening) → IsPermutation xs ys → sorted ys ≡ sorted xs
sorted-permutation xs ys h =
    IsPermutation-keeps xs (λ (l : List SeenOpening). sorted l ≡ sorted xs) refl (λ l i j p q e. sorted-swap l i j p q ∙ e) ys h

-- ---- which opening is first

-- `All`, by recursion
abbrev Each : (SeenOpening → Type 0) → List SeenOpening → Type 0
Each P [] = Unit {0}
Each P (x ∷ xs) = P x × Each P xs

Each-from_All : (P : SeenOpening → Type 0) (l : List SeenOpening) → All P l → Each P l
Each-from_All P [] h = tt
Each-from_All P (x ∷ xs) h = (h 0 x (omega arith), Each-from_All P xs (λ k d q. h (suc k) d (omega arith)))

with_first : (m : SeenOpening) (l : List SeenOpening) → Each (λ y. is_before y m ≡ false) l → with_opening m l ≡ m ∷ l
with_first m [] h = refl
with_first m (y ∷ ys) h = with_here m y ys h.0

Each-with : (P : SeenOpening → Type 0) (x : SeenOpening) (l : List SeenOpening) → P x → Each P l → Each P (with_opening x l)
Each-with P x [] p h = (p, tt)
Each-with P x (y ∷ ys) p h =
    elim (cases_Bool (is_before y x)) [
      | inl q ↦ rw (with_past x y ys q) (h.0, Each-with P x ys p h.1)
      | inr q ↦ rw (with_here x y ys q) (p, h)
    ]

Each-sorted : (P : SeenOpening → Type 0) (l : List SeenOpening) → Each P l → Each P (sorted l)
Each-sorted P [] h = tt
Each-sorted P (x ∷ xs) h = Each-with P x (sorted xs) h.0 (Each-sorted P xs h.1)

-- the least of xs, and the rest
pub sorted-least : (xs ys : List SeenOpening) (m : SeenOpening) → IsPermutation xs (m ∷ ys) → All (λ y. is_before y m ≡ false) xs → sorted xs ≡ m ∷ sorted ys
sorted-least xs ys m h least =
    let P : SeenOpening → Type 0 = λ y. is_before y m ≡ false in
    let moved : Each P (m ∷ ys) = Each-from_All P (m ∷ ys) (All-permutation P xs (m ∷ ys) h least) in
    sym (sorted-permutation xs (m ∷ ys) h) ∙ with_first m (sorted ys) (Each-sorted P ys moved.1)

pub length-with : (x : SeenOpening) (l : List SeenOpening) → length (with_opening x l) ≡ length l + 1
length-with x [] = refl
length-with x (y ∷ ys) =
    elim (cases_Bool (is_before y x)) [
      | inl q ↦ rw (with_past x y ys q) (omega (arith, length-with x ys))
      | inr q ↦ rw (with_here x y ys q) (omega arith)
    ]

pub length-sorted : (xs : List SeenOpening) → length (sorted xs) ≡ length xs
length-sorted [] = refl
length-sorted (x ∷ xs) = omega (arith, length-with x (sorted xs), length-sorted xs)

-- a later least one still has nothing before it
pub not_before_through : (y p x : SeenOpening) → is_before y p ≡ false → is_before x p ≡ true → is_before y x ≡ false
unfolding is_before
not_before_through y p x q r = grind (arith, nat_tests)

pub not_before_trans : (x y z : SeenOpening) → is_before x y ≡ false → is_before y z ≡ false → is_before x z ≡ false
unfolding is_before
not_before_trans x y z p q = grind (arith, nat_tests)

pub length-with_many : (n : ℕ) (x : SeenOpening) (xs : List SeenOpening) → length (with_many n x xs) ≡ length xs + n
length-with_many zero x xs = omega arith
length-with_many (suc n) x xs = omega (arith, length-with x (with_many n x xs), length-with_many n x xs)
