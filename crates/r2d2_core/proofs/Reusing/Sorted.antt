-- A list in order, one moment at a time.
use Rattle.std.proofs.Common.{◌≡◌, ℕ, zero, suc, ◌+◌, ◌≤◌, ◌<◌, List, [], ◌∷◌, length, get_or, drop, subst, arith, sym}
use Rattle.std.specs.List.Sorted.{IsNonDecreasingBy}
use Rattle.std.specs.Duration.{as_nanos}
use Rattle.std.specs.declared.time.Duration.{Duration}
use Rattle.std.proofs.lemmas.List.{drop_more, drop_all}
use Rattle.r2d2_core.specs.Reuse.{IsSorted}

-- the moment 0
abbrev pub zero_moment : Duration
zero_moment = record { secs = 0; nanos = 0 }

rises_cons : (s : Duration) (xs : List Duration) → ((d : Duration) → 0 < length xs → as_nanos s ≤ as_nanos (get_or xs 0 d)) → IsNonDecreasingBy as_nanos xs
    → IsNonDecreasingBy as_nanos (s ∷ xs)
rises_cons s xs first rest zero zero d ij lt = omega arith
rises_cons s xs first rest zero (suc j) d ij lt = omega (arith, first d (omega arith), rest 0 j d (omega arith) (omega arith))
rises_cons s xs first rest (suc i) zero d ij lt = absurd (omega arith)
rises_cons s xs first rest (suc i) (suc j) d ij lt = rest i j d (omega arith) (omega arith)

pub sorted_cons : (s : Duration) (xs : List Duration) → ((d : Duration) → 0 < length xs → as_nanos s ≤ as_nanos (get_or xs 0 d)) → IsSorted xs
    → IsSorted (s ∷ xs)
sorted_cons s xs first rest = record { never_falls = rises_cons s xs first rest.never_falls }

pub sorted_tail : (s : Duration) (xs : List Duration) → IsSorted (s ∷ xs) → IsSorted xs
sorted_tail s xs h = record { never_falls = λ i j d ij lt. h.never_falls (suc i) (suc j) d (omega arith) (omega arith) }

pub sorted_start : (xs : List Duration) → IsSorted xs → IsSorted (zero_moment ∷ xs)
sorted_start xs h = sorted_cons zero_moment xs (λ d lt. omega arith) h

pub sorted_more : (s : Duration) (xs : List Duration) (i : ℕ) → i < length xs → as_nanos s ≤ as_nanos (get_or xs i zero_moment) → IsSorted (s ∷ drop i xs)
    → IsSorted (get_or xs i zero_moment ∷ drop (i + 1) xs)
sorted_more s xs i lt le h =
    let e : drop i xs ≡ get_or xs i zero_moment ∷ drop (i + 1) xs = drop_more xs i zero_moment lt in
    let P : List Duration → Type 0 = λ ys. IsSorted ys in
    subst P e (sorted_tail s (drop i xs) h)

pub sorted_less : (s : Duration) (xs : List Duration) (i : ℕ) → i < length xs → as_nanos s ≤ as_nanos (get_or xs i zero_moment)
    → IsSorted (get_or xs i zero_moment ∷ drop (i + 1) xs) → IsSorted (s ∷ drop i xs)
sorted_less s xs i lt le h =
    let e : drop i xs ≡ get_or xs i zero_moment ∷ drop (i + 1) xs = drop_more xs i zero_moment lt in
    let P : List Duration → Type 0 = λ ys. IsSorted (s ∷ ys) in
    subst P (sym e) (sorted_cons s (get_or xs i zero_moment ∷ drop (i + 1) xs) (λ d z. le) h)

pub sorted_falls : (s : Duration) (xs : List Duration) (i : ℕ) → i < length xs → as_nanos (get_or xs i zero_moment) < as_nanos s → IsSorted (s ∷ drop i xs) → ⊥
sorted_falls s xs i lt fall h =
    let e : drop i xs ≡ get_or xs i zero_moment ∷ drop (i + 1) xs = drop_more xs i zero_moment lt in
    let P : List Duration → Type 0 = λ ys. IsSorted (s ∷ ys) in
    let h' : IsSorted (s ∷ get_or xs i zero_moment ∷ drop (i + 1) xs) = subst P e h in
    omega (arith, h'.never_falls 0 1 s (omega arith) (omega arith))

pub sorted_end : (s : Duration) (xs : List Duration) (i : ℕ) → length xs ≤ i → IsSorted (s ∷ drop i xs)
sorted_end s xs i past =
    let e : drop i xs ≡ [] = drop_all i xs past in
    let P : List Duration → Type 0 = λ ys. IsSorted (s ∷ ys) in
    subst P (sym e) (sorted_cons s [] (λ d z. absurd (omega arith)) (record { never_falls = λ i j d ij lt. absurd (omega arith) }))
