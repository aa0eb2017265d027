-- A list whose places are set one after another.
use Rattle.std.proofs.Common.{◌≡◌, ◌≢◌, ℕ, ◌+◌, ◌<◌, ◌≤◌, inl, inr, List, length, get_or, set, sym, subst, arith}
use Rattle.std.proofs.Math.Nat.{eq-or-lt_of_le}
use Rattle.std.proofs.lemmas.Grind.{get_or-set_at}
use Rattle.std.proofs.lemmas.List.{get_or-set_other}

-- what is true at each place below i is true at each place up to i, once it is true of what is put there
pub set_below : {X : Type 0} (P : ℕ → X → Type 0) (xs : List X) (i : ℕ) (y : X) → i < length xs → P i y → ((k : ℕ) (d : X) → k < i → P k (get_or xs k d))
    → (k : ℕ) (d : X) → k < i + 1 → P k (get_or (set xs i y) k d)
set_below {X} P xs i y within here below k d upto =
    let most : k ≤ i = omega arith in
    elim (eq-or-lt_of_le most) [
      | inl is ↦
          let at : get_or (set xs i y) k d ≡ y = get_or-set_at xs i k y d is within in
          let there : P k y = subst (λ n. P n y) (sym is) here in
          subst (λ v. P k v) (sym at) there
      | inr less ↦
          let other : k ≢ i = omega arith in
          subst (λ v. P k v) (sym (get_or-set_other xs i k y d other)) (below k d less)
    ]

-- and what stands above i stays
pub set_above : {X : Type 0} (P : ℕ → X → Type 0) (xs : List X) (i : ℕ) (y : X) → ((k : ℕ) (d : X) → i ≤ k → k < 14 → P k (get_or xs k d)) → (k : ℕ) (d : X)
    → i + 1 ≤ k → k < 14 → P k (get_or (set xs i y) k d)
set_above {X} P xs i y above k d more within =
    let other : k ≢ i = omega arith in
    subst (λ v. P k v) (sym (get_or-set_other xs i k y d other)) (above k d (omega arith) within)
