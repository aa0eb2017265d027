-- The steps of a heap, over the opening at each place.
use Rattle.std.proofs.Common.{◌≡◌, ◌≢◌, ℕ, ◌+◌, ◌-◌, ◌*◌, ◌/◌, ◌^◌, ◌<◌, ◌≤◌, Bool, true, false, refl, sym, ap, ◌∙◌, inl, inr, arith, suc, zero, List, length}
use Rattle.std.proofs.Common.{get_or, set, take, drop, subst, ◌∷◌, length-set, get_or-set_same, get_or-set_other}
use Rattle.std.specs.Int.Digits.{digits_of}
use Rattle.std.proofs.lemmas.Int.Digits.{length-digits_of-le, number_lt, number_digits_of, all_below_base_digits_of}
use Rattle.std.proofs.lemmas.Bool.{cases_eq, cases_lt}
use Rattle.std.specs.List.{swap, swap_remove}
use Rattle.std.proofs.lemmas.List.{get_or_read, get_or-take, length-take-le, same_lists, get_or_default, take_more_set}
use Rattle.std.proofs.lemmas.List.Sorted.{IsPermutation-swap_remove}
use Rattle.std.specs.List.Sorted.{IsPermutation}
use Rattle.std.proofs.lemmas.List.Edits.{Swapped, swapped_from_swap, length-swap}
use lib.Pow.{pow_mono}
use native.Mathlib.Nat.{pow-suc, mul-le-mul_left, le_trans}
use Rattle.pool_machine.specs.Openings.{SeenOpening, is_before, sorted, with_opening}
use Rattle.pool_machine.specs.Heap.{binary_digits, parent, IsHeap, IsHeapButTheLast, IsHeapButTheFirst}
use Rattle.pool_machine.proofs.Scheduling.Openings.{not_both_before, not_before_through, not_before_trans, not_before_itself, sorted-least, sorted-permutation}
use Rattle.pool_machine.proofs.Scheduling.Openings.{sorted-push}

-- ---- how many binary digits

pub lt-binary_digits : (n : ℕ) → n < 2 ^ binary_digits n
unfolding binary_digits
lt-binary_digits n = subst (λ (m : ℕ). m < 2 ^ length (digits_of 2 n)) (number_digits_of 2 n (omega arith))
    (number_lt 2 (digits_of 2 n) (all_below_base_digits_of 2 n (omega arith)))

-- a power of two up to n has fewer doublings than n has digits
pub lt_digits_from_pow : (c n : ℕ) → 2 ^ c ≤ n → c < binary_digits n
lt_digits_from_pow c n h =
    elim (cases_lt c (binary_digits n)) [
      | inl l ↦ l
      | inr l ↦ let most : 2 ^ binary_digits n ≤ 2 ^ c = pow_mono {i = binary_digits n} {j = c} l in let above = lt-binary_digits n in absurd (omega arith)
    ]

pub binary_digits_mono : (m n : ℕ) → m ≤ n → binary_digits m ≤ binary_digits n
unfolding binary_digits
binary_digits_mono m n h = let above = lt-binary_digits n in length-digits_of-le 2 (length (digits_of 2 n)) m (omega arith) (omega arith)

pow_two : (k : ℕ) → 2 ^ suc k ≡ 2 * 2 ^ k
pow_two k = let e = pow-suc 2 k in omega arith

-- a comparison of two that were read
pub before_read : (xs : List SeenOpening) (i j : ℕ) (x y d : SeenOpening) (b : Bool) → i < length xs → j < length xs → x ≡ get_or xs i x → y ≡ get_or xs j y
    → is_before x y ≡ b → is_before (get_or xs i d) (get_or xs j d) ≡ b
before_read xs i j x y d b i_within j_within read_x read_y h = rw (← get_or_read xs i x i_within read_x d, ← get_or_read xs j y j_within read_y d) h

-- ---- going up

by_same : (x y a b : SeenOpening) → x ≡ a → y ≡ b → is_before a b ≡ false → is_before x y ≡ false
by_same x y a b p q h = ap (λ (o : SeenOpening). is_before o y) p ∙ ap (λ (o : SeenOpening). is_before a o) q ∙ h

-- a heap but for the one at `at`, whose children do not come before its parent
pub record UpTo (f : ℕ → SeenOpening) (n at : ℕ) : Type 0 where
  pub held : (k : ℕ) → 0 < k → k < n → k ≢ at → is_before (f k) (f (parent k)) ≡ false
  pub over : (k : ℕ) → 0 < k → k < n → parent k ≡ at → 0 < at → is_before (f k) (f (parent at)) ≡ false

up_held : (f g : ℕ → SeenOpening) (n at : ℕ) → UpTo f n at → 0 < at → at < n → Swapped f g at (parent at) → is_before (f at) (f (parent at)) ≡ true → (k : ℕ)
    → 0 < k → k < n → k ≢ parent at → is_before (g k) (g (parent k)) ≡ false
up_held f g n at u low high s before k k_low k_high ne =
    elim (cases_eq k at) [
      | inl e ↦ by_same (g k) (g (parent k)) (f (parent at)) (f at) (ap g e ∙ s.0) (ap (λ (j : ℕ). g (parent j)) e ∙ s.1)
          (not_both_before (f at) (f (parent at)) before)
      | inr ne_at ↦ elim (cases_eq (parent k) at) [
        | inl e ↦ by_same (g k) (g (parent k)) (f k) (f (parent at)) (s.2 k ne_at ne) (ap g e ∙ s.0) (u.over k k_low k_high e low)
        | inr ne_parent ↦ elim (cases_eq (parent k) (parent at)) [
          | inl e ↦
              let held : is_before (f k) (f (parent at)) ≡ false = subst (λ (j : ℕ). is_before (f k) (f j) ≡ false) e (u.held k k_low k_high ne_at) in
              by_same (g k) (g (parent k)) (f k) (f at) (s.2 k ne_at ne) (ap g e ∙ s.1) (not_before_through (f k) (f (parent at)) (f at) held before)
          | inr ne_both ↦ by_same (g k) (g (parent k)) (f k) (f (parent k)) (s.2 k ne_at ne) (s.2 (parent k) ne_parent ne_both) (u.held k k_low k_high ne_at)
        ]
      ]
    ]

up_over : (f g : ℕ → SeenOpening) (n at : ℕ) → UpTo f n at → 0 < at → at < n → Swapped f g at (parent at) → is_before (f at) (f (parent at)) ≡ true → (k : ℕ)
    → 0 < k → k < n → parent k ≡ parent at → 0 < parent at → is_before (g k) (g (parent (parent at))) ≡ false
up_over f g n at u low high s before k k_low k_high e p_low =
    let p = parent at in
    let p_high : p < n = omega arith in
    let p_ne : p ≢ at = omega arith in
    let held_p : is_before (f p) (f (parent p)) ≡ false = u.held p p_low p_high p_ne in
    let top : g (parent p) ≡ f (parent p) = s.2 (parent p) (omega arith) (omega arith) in
    elim (cases_eq k at) [
      | inl e_at ↦ by_same (g k) (g (parent p)) (f p) (f (parent p)) (ap g e_at ∙ s.0) top held_p
      | inr ne_at ↦
          let held : is_before (f k) (f p) ≡ false = subst (λ (j : ℕ). is_before (f k) (f j) ≡ false) e (u.held k k_low k_high ne_at) in
          by_same (g k) (g (parent p)) (f k) (f (parent p)) (s.2 k ne_at (omega arith)) top (not_before_trans (f k) (f p) (f (parent p)) held held_p)
    ]

pub up_more : (f g : ℕ → SeenOpening) (n at : ℕ) → UpTo f n at → 0 < at → at < n → Swapped f g at (parent at) → is_before (f at) (f (parent at)) ≡ true
    → UpTo g n (parent at)
up_more f g n at u low high s before = record { held = up_held f g n at u low high s before; over = up_over f g n at u low high s before }

pub up_done : (f : ℕ → SeenOpening) (n at : ℕ) → UpTo f n at → is_before (f at) (f (parent at)) ≡ false → (k : ℕ) → 0 < k → k < n
    → is_before (f k) (f (parent k)) ≡ false
up_done f n at u not_before k low high =
    elim (cases_eq k at) [
      | inl e ↦ subst (λ (j : ℕ). is_before (f j) (f (parent j)) ≡ false) (sym e) not_before
      | inr ne ↦ u.held k low high ne
    ]

-- ---- going down

-- a heap but for the children of the one at `at`, which do not come before its parent
pub record DownTo (f : ℕ → SeenOpening) (n at : ℕ) : Type 0 where
  pub held : (k : ℕ) → 0 < k → k < n → parent k ≢ at → is_before (f k) (f (parent k)) ≡ false
  pub over : (k : ℕ) → 0 < k → k < n → parent k ≡ at → 0 < at → is_before (f k) (f (parent at)) ≡ false

-- the child at `child` comes first among those of `at`
pub record IsFirstChild (f : ℕ → SeenOpening) (n at child : ℕ) : Type 0 where
  pub of : parent child ≡ at
  pub low : 0 < child
  pub high : child < n
  pub least : (k : ℕ) → 0 < k → k < n → parent k ≡ at → is_before (f k) (f child) ≡ false

down_held : (f g : ℕ → SeenOpening) (n at child : ℕ) → DownTo f n at → IsFirstChild f n at child → Swapped f g at child → is_before (f child) (f at) ≡ true
    → (k : ℕ) → 0 < k → k < n → parent k ≢ child → is_before (g k) (g (parent k)) ≡ false
down_held f g n at child u c s before k low high ne =
    elim (cases_eq k child) [
      | inl e ↦ by_same (g k) (g (parent k)) (f at) (f child) (ap g e ∙ s.1) (ap (λ (j : ℕ). g (parent j)) e ∙ ap g c.of ∙ s.0)
          (not_both_before (f child) (f at) before)
      | inr ne_child ↦ elim (cases_eq k at) [
        | inl e ↦
            let at_low : 0 < at = omega arith in
            let top : g (parent at) ≡ f (parent at) = s.2 (parent at) (omega arith) (omega (arith, c.of)) in
            by_same (g k) (g (parent k)) (f child) (f (parent at)) (ap g e ∙ s.0) (ap (λ (j : ℕ). g (parent j)) e ∙ top) (u.over child c.low c.high c.of at_low)
        | inr ne_at ↦ elim (cases_eq (parent k) at) [
          | inl e ↦ by_same (g k) (g (parent k)) (f k) (f child) (s.2 k ne_at ne_child) (ap g e ∙ s.0) (c.least k low high e)
          | inr ne_parent ↦ by_same (g k) (g (parent k)) (f k) (f (parent k)) (s.2 k ne_at ne_child) (s.2 (parent k) ne_parent ne) (u.held k low high ne_parent)
        ]
      ]
    ]

down_over : (f g : ℕ → SeenOpening) (n at child : ℕ) → DownTo f n at → IsFirstChild f n at child → Swapped f g at child → (k : ℕ) → 0 < k → k < n
    → parent k ≡ child → 0 < child → is_before (g k) (g (parent child)) ≡ false
down_over f g n at child u c s k low high e child_low =
    let below : at < child = omega (arith, c.of) in
    let held : is_before (f k) (f child) ≡ false = subst (λ (j : ℕ). is_before (f k) (f j) ≡ false) e (u.held k low high (omega arith)) in
    by_same (g k) (g (parent child)) (f k) (f child) (s.2 k (omega arith) (omega arith)) (ap g c.of ∙ s.0) held

pub down_more : (f g : ℕ → SeenOpening) (n at child : ℕ) → DownTo f n at → IsFirstChild f n at child → Swapped f g at child → is_before (f child) (f at) ≡ true
    → DownTo g n child
down_more f g n at child u c s before = record { held = down_held f g n at child u c s before; over = down_over f g n at child u c s }

pub down_done : (f : ℕ → SeenOpening) (n at child : ℕ) → DownTo f n at → IsFirstChild f n at child → is_before (f child) (f at) ≡ false → (k : ℕ) → 0 < k
    → k < n → is_before (f k) (f (parent k)) ≡ false
down_done f n at child u c not_before k low high =
    elim (cases_eq (parent k) at) [
      | inl e ↦ subst (λ (j : ℕ). is_before (f k) (f j) ≡ false) (sym e) (not_before_trans (f k) (f child) (f at) (c.least k low high e) not_before)
      | inr ne ↦ u.held k low high ne
    ]

-- one with no children
pub down_last : (f : ℕ → SeenOpening) (n at : ℕ) → DownTo f n at → n / 2 ≤ at → (k : ℕ) → 0 < k → k < n → is_before (f k) (f (parent k)) ≡ false
down_last f n at u last k low high = u.held k low high (omega arith)

-- ---- the comparisons so far: `at` is halved by each on the way up, and doubled by two on the way down

doubled : (p a b : ℕ) → 2 * a ≤ b → 2 * p * a ≤ p * b
doubled p a b h = let more : p * (2 * a) ≤ p * b = mul-le-mul_left p h in omega arith

pub up_cost_more : (s0 s at n : ℕ) → s0 ≤ s → 0 < at → 2 ^ (s - s0) * (at + 1) ≤ n → 2 ^ (s + 1 - s0) * (parent at + 1) ≤ n
up_cost_more s0 s at n from low h =
    let e : s + 1 - s0 ≡ suc (s - s0) = omega arith in
    let p = 2 ^ (s - s0) in
    let power : 2 ^ (s + 1 - s0) ≡ 2 * p = ap (λ (k : ℕ). 2 ^ k) e ∙ pow_two (s - s0) in
    let halved : 2 * p * (parent at + 1) ≤ p * (at + 1) = doubled p (parent at + 1) (at + 1) (omega arith) in
    rw power (le_trans halved h)

pub up_cost_done : (s0 s at n : ℕ) → s0 ≤ s → 0 < at → 2 ^ (s - s0) * (at + 1) ≤ n → s + 1 ≤ s0 + binary_digits n
up_cost_done s0 s at n from low h =
    let p = 2 ^ (s - s0) in
    let halved : 2 * p * 1 ≤ p * (at + 1) = doubled p 1 (at + 1) (omega arith) in
    let power : 2 ^ suc (s - s0) ≡ 2 * p = pow_two (s - s0) in
    let few = lt_digits_from_pow (suc (s - s0)) n (omega arith) in
    omega arith

pub up_cost_top : (s0 s n : ℕ) → s0 ≤ s → 2 ^ (s - s0) * (0 + 1) ≤ n → s ≤ s0 + binary_digits n
up_cost_top s0 s n from h =
    let few = lt_digits_from_pow (s - s0) n (omega arith) in
    omega arith

pub down_cost_more : (j at child : ℕ) → 2 ^ j ≤ at + 1 → 2 * at + 1 ≤ child → 2 ^ suc j ≤ child + 1
down_cost_more j at child h low = let power = pow_two j in omega arith

pub down_cost_done : (s0 s j at n : ℕ) → s ≤ s0 + 2 * j → 2 ^ j ≤ at + 1 → at < n / 2 → s + 2 ≤ s0 + 2 * binary_digits n
down_cost_done s0 s j at n h p low =
    let power = pow_two j in
    let few = lt_digits_from_pow (suc j) n (omega arith) in
    omega arith

pub down_cost_last : (s0 s j at n : ℕ) → s ≤ s0 + 2 * j → 2 ^ j ≤ at + 1 → at ≤ n - 1 → s ≤ s0 + 2 * binary_digits n
down_cost_last s0 s j at n h p within =
    elim (cases_lt 0 n) [
      | inl some ↦ let few = lt_digits_from_pow j n (omega arith) in omega arith
      | inr none ↦ elim (cases_lt 0 j) [
        | inl more ↦ let power : 2 ^ 1 ≤ 2 ^ j = pow_mono {i = 1} {j = j} more in absurd (omega arith)
        | inr none_yet ↦ omega arith
      ]
    ]

-- ---- the least opening

root_least : (xs : List SeenOpening) (d : SeenOpening) → IsHeap xs → (fuel k : ℕ) → k ≤ fuel → k < length xs → is_before (get_or xs k d) (get_or xs 0 d) ≡ false
root_least xs d heap zero k small within = let e : k ≡ 0 = omega arith in rw e (not_before_itself (get_or xs 0 d))
root_least xs d heap (suc fuel) k small within =
    elim (cases_eq k 0) [
      | inl e ↦ rw e (not_before_itself (get_or xs 0 d))
      | inr ne ↦ not_before_trans (get_or xs k d) (get_or xs (parent k) d) (get_or xs 0 d) (heap k d (omega arith) within)
          (root_least xs d heap fuel (parent k) (omega arith) (omega arith))
    ]

-- the first of a heap is the least, and the last takes its place
pub sorted-heap : (xs : List SeenOpening) (x : SeenOpening) → IsHeap xs → 0 < length xs → x ≡ get_or xs 0 x → sorted xs ≡ x ∷ sorted (swap_remove xs 0 x)
sorted-heap xs x heap some read =
    sorted-least xs (swap_remove xs 0 x) x (IsPermutation-swap_remove xs 0 x some read)
    (λ k d h. rw (get_or_read xs 0 x some read d) (root_least xs d heap k k (omega arith) h))

-- what is left of the first n, once the last of them and the first are swapped
first_gets_last : (xs : List SeenOpening) (n : ℕ) (d : SeenOpening) → 0 < n → n ≤ length xs
    → Swapped (λ i. get_or xs i d) (λ i. get_or (swap xs 0 (n - 1)) i d) 0 (n - 1)
first_gets_last xs n d some within = swapped_from_swap xs (swap xs 0 (n - 1)) 0 (n - 1) d (omega arith) (omega arith) refl

pub length-take_swapped : (xs : List SeenOpening) (n : ℕ) → 0 < n → n ≤ length xs → length (take (n - 1) (swap xs 0 (n - 1))) ≡ n - 1
length-take_swapped xs n some within = length-take-le (n - 1) (swap xs 0 (n - 1)) (omega (arith, length-swap xs 0 (n - 1)))

take-swapped_by_number : (xs : List SeenOpening) (n : ℕ) (x : SeenOpening) → 0 < n → n ≤ length xs
    → take (n - 1) (swap xs 0 (n - 1)) ≡ take (n - 1) (set (take n xs) 0 (get_or (take n xs) (n - 1) x))
take-swapped_by_number xs n x some within =
    let live = take n xs in
    let size : length live ≡ n = length-take-le n xs within in
    let left = length-take_swapped xs n some within in
    let v = get_or live (n - 1) x in
    let right : length (take (n - 1) (set live 0 v)) ≡ n - 1 = length-take-le (n - 1) (set live 0 v) (omega (arith, length-set live 0 v)) in
    same_lists (take (n - 1) (swap xs 0 (n - 1))) (take (n - 1) (set live 0 v)) (left ∙ sym right)
    (λ k d h.
    let low : k < n - 1 = omega arith in
    let s = first_gets_last xs n d some within in
    get_or-take (n - 1) (swap xs 0 (n - 1)) k d low
    ∙ elim (cases_eq k 0) as (λ _. get_or (swap xs 0 (n - 1)) k d ≡ get_or (set live 0 v) k d) [
      | inl e ↦
          let last : get_or xs (n - 1) d ≡ v = get_or_default xs (n - 1) d x (omega arith) ∙ sym (get_or-take n xs (n - 1) x (omega arith)) in
          ap (λ (j : ℕ). get_or (swap xs 0 (n - 1)) j d) e ∙ s.0 ∙ last ∙ sym (get_or-set_same live 0 v d (omega arith))
          ∙ ap (λ (j : ℕ). get_or (set live 0 v) j d) (sym e)
      | inr ne ↦ s.2 k ne (omega arith) ∙ sym (get_or-take n xs k d (omega arith)) ∙ sym (get_or-set_other live 0 k v d ne)
    ]
    ∙ sym (get_or-take (n - 1) (set live 0 v) k d low))

pub take-swapped : (xs : List SeenOpening) (n : ℕ) (x : SeenOpening) → 0 < n → n ≤ length xs → take (n - 1) (swap xs 0 (n - 1)) ≡ swap_remove (take n xs) 0 x
take-swapped xs n x some within =
    take-swapped_by_number xs n x some within
    ∙ ap (λ (m : ℕ). take (m - 1) (set (take n xs) 0 (get_or (take n xs) (m - 1) x))) (sym (length-take-le n xs within))

kept_at : (xs : List SeenOpening) (n k : ℕ) (d : SeenOpening) → n ≤ length xs → 0 < k → k < n - 1
    → get_or (take (n - 1) (swap xs 0 (n - 1))) k d ≡ get_or (take n xs) k d
kept_at xs n k d within low high =
    let s = first_gets_last xs n d (omega arith) within in
    get_or-take (n - 1) (swap xs 0 (n - 1)) k d high ∙ s.2 k (omega arith) (omega arith) ∙ sym (get_or-take n xs k d (omega arith))

pub heap_but_the_first : (xs : List SeenOpening) (n : ℕ) → 0 < n → n ≤ length xs → IsHeap (take n xs) → IsHeapButTheFirst (take (n - 1) (swap xs 0 (n - 1)))
heap_but_the_first xs n some within heap k d low high =
    let size = length-take_swapped xs n some within in
    let all = length-take-le n xs within in
    by_same _ _ (get_or (take n xs) k d) (get_or (take n xs) (parent k) d)
    (kept_at xs n k d within (omega arith) (omega arith)) (kept_at xs n (parent k) d within low (omega arith))
    (heap k d (omega arith) (omega arith))

-- the first n but the least, however they lie
pub sorted-removed : (xs ys : List SeenOpening) (n : ℕ) → 0 < n → n ≤ length xs → IsHeap (take n xs) → IsPermutation (take (n - 1) (swap xs 0 (n - 1))) ys
    → sorted ys ≡ drop 1 (sorted (take n xs))
sorted-removed xs ys n some within heap moved =
    let live = take n xs in
    let size : length live ≡ n = length-take-le n xs within in
    let x = get_or live 0 (record { due = 0; tries = 0 }) in
    let read : x ≡ get_or live 0 x = get_or_default live 0 _ x (omega arith) in
    let first = sorted-heap live x heap (omega arith) read in
    sorted-permutation (take (n - 1) (swap xs 0 (n - 1))) ys moved
    ∙ ap sorted (take-swapped xs n x some within)
    ∙ sym (ap (λ (l : List SeenOpening). drop 1 l) first)

-- ---- one joins at the end

before_end : (xs : List SeenOpening) (n k : ℕ) (x d : SeenOpening) → k < n → get_or (take (n + 1) (set xs n x)) k d ≡ get_or (take n xs) k d
before_end xs n k x d low = get_or-take (n + 1) (set xs n x) k d (omega arith) ∙ get_or-set_other xs n k x d (omega arith) ∙ sym (get_or-take n xs k d low)

pub heap_but_the_last : (xs : List SeenOpening) (n : ℕ) (x : SeenOpening) → n < length xs → IsHeap (take n xs) → IsHeapButTheLast (take (n + 1) (set xs n x))
heap_but_the_last xs n x within heap k d low high =
    let size : length (take (n + 1) (set xs n x)) ≡ n + 1 = length-take-le (n + 1) (set xs n x) (omega (arith, length-set xs n x)) in
    let all = length-take-le n xs (omega arith) in
    by_same _ _ (get_or (take n xs) k d) (get_or (take n xs) (parent k) d)
    (before_end xs n k x d (omega arith)) (before_end xs n (parent k) x d (omega arith))
    (heap k d low (omega arith))

pub sorted-added : (xs ys : List SeenOpening) (n : ℕ) (x : SeenOpening) → n < length xs → IsPermutation (take (n + 1) (set xs n x)) ys
    → sorted ys ≡ with_opening x (sorted (take n xs))
sorted-added xs ys n x within moved =
    sorted-permutation (take (n + 1) (set xs n x)) ys moved ∙ ap sorted (take_more_set xs n x within) ∙ sorted-push (take n xs) x
