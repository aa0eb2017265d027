-- The idle connection that is lent next, and the others, whatever the order.
use Rattle.std.proofs.Common.{◌≡◌, ℕ, suc, ◌+◌, ◌-◌, ◌≤◌, Bool, true, false, cond, not, ◌==◌, List, [], ◌∷◌, ◌++◌, map, length, Option, Some, None, refl, sym}
use Rattle.std.proofs.Common.{◌∙◌, ap, subst, arith}
use Rattle.std.specs.Prelude.{filter}
use Rattle.std.specs.List.{All}
use Rattle.std.specs.List.Sorted.{IsNonDecreasingBy}
use Rattle.std.proofs.lemmas.List.{map-append}
use Rattle.std.proofs.lemmas.List.Elements.{All-take}
use Rattle.std.proofs.lemmas.List.Sorted.{IsNonDecreasingBy-take, IsNonDecreasingBy-drop}
use Rattle.std.proofs.lemmas.Bool.{eq-eqb}
use Rattle.pool_machine.specs.declared.schedule.limits.LendingOrder.{LendingOrder}
use Rattle.pool_machine.specs.declared.schedule.limits.LendingOrder.TheVariants as lending
use Rattle.pool_machine.specs.Ids.{last_of, front, found, without, copies_of}
use Rattle.pool_machine.specs.Lending.{next_to_lend, still_idle}
use Rattle.pool_machine.proofs.Lists.Ids.{last_of-push, front-push, last_is, length-front, copies_of-last, All-last}
use Rattle.pool_machine.proofs.Lists.Filters.{filter-absent, filter-last, filter-once}

none_is_last : {X : Type 0} (xs : List X) → last_of xs ≡ None → xs ≡ []
none_is_last [] e = refl
none_is_last (x ∷ []) e = absurd cc
none_is_last (x ∷ y ∷ ys) e = absurd (cc (none_is_last (y ∷ ys) e))

copies_self : (i : ℕ) → copies_of i (i ∷ []) ≡ 1
copies_self i = ap (λ b. cond b 1 0 + 0) (eq-eqb i i refl)

module _ {X : Type 0} where
  -- none is lent next where none is idle, and there alone
  pub none_next : (o : LendingOrder) (xs : List X) (x : X) → xs ≡ [] → next_to_lend o xs ≡ Some x → ⊥
  none_next lending.NewestFirst xs x e is = cc (ap last_of e)
  none_next lending.OldestFirst [] x e is = cc
  none_next lending.OldestFirst (y ∷ ys) x e is = cc

  pub none_is_next : (o : LendingOrder) (xs : List X) → next_to_lend o xs ≡ None → xs ≡ []
  none_is_next lending.NewestFirst xs e = none_is_last xs e
  none_is_next lending.OldestFirst [] e = refl
  none_is_next lending.OldestFirst (x ∷ xs) e = absurd cc

  pub length-still_idle : (o : LendingOrder) (xs : List X) (c : X) → next_to_lend o xs ≡ Some c → length xs ≡ length (still_idle o xs) + 1
  length-still_idle lending.NewestFirst xs c e = length-front xs c e
  length-still_idle lending.OldestFirst [] c e = absurd cc
  length-still_idle lending.OldestFirst (x ∷ xs) c e = omega arith

  pub copies_of-next : (id_of : X → ℕ) (i : ℕ) (o : LendingOrder) (xs : List X) (c : X) → next_to_lend o xs ≡ Some c
      → copies_of i (map id_of xs) ≡ copies_of i (map id_of (still_idle o xs)) + copies_of i (id_of c ∷ [])
  copies_of-next id_of i lending.NewestFirst xs c e = copies_of-last id_of i xs c e
  copies_of-next id_of i lending.OldestFirst [] c e = absurd cc
  copies_of-next id_of i lending.OldestFirst (x ∷ xs) c e =
      let same : x ≡ c = cc in
      subst (λ y. cond (id_of x == i) 1 0 + copies_of i (map id_of xs) ≡ copies_of i (map id_of xs) + (cond (id_of y == i) 1 0 + 0)) same (omega arith)

  -- what holds of all holds of the one, and of the others
  pub All-next : (P : X → Type 0) (o : LendingOrder) (xs : List X) (c : X) → All P xs → next_to_lend o xs ≡ Some c → P c
  All-next P lending.NewestFirst xs c all e = All-last P xs c all e
  All-next P lending.OldestFirst [] c all e = absurd cc
  All-next P lending.OldestFirst (x ∷ xs) c all e = let same : x ≡ c = cc in subst P same (all 0 x (omega arith))

  pub All-still_idle : (P : X → Type 0) (o : LendingOrder) (xs : List X) → All P xs → All P (still_idle o xs)
  All-still_idle P lending.NewestFirst xs all = All-take P (length xs - 1) xs all
  All-still_idle P lending.OldestFirst [] all = all
  All-still_idle P lending.OldestFirst (x ∷ xs) all = λ k d lt. all (suc k) d (omega arith)

  pub IsNonDecreasingBy-still_idle : (f : X → ℕ) (o : LendingOrder) (xs : List X) → IsNonDecreasingBy f xs → IsNonDecreasingBy f (still_idle o xs)
  IsNonDecreasingBy-still_idle f lending.NewestFirst xs rises = IsNonDecreasingBy-take f (length xs - 1) xs rises
  IsNonDecreasingBy-still_idle f lending.OldestFirst xs rises = IsNonDecreasingBy-drop f 1 xs rises

  -- leaving out the id of the one leaves the others, where no other has it
  pub filter-next : (id_of : X → ℕ) (o : LendingOrder) (xs : List X) (c : X) → next_to_lend o xs ≡ Some c → copies_of (id_of c) (map id_of (still_idle o xs)) ≡ 0
      → filter (λ y. not (id_of c == id_of y)) xs ≡ still_idle o xs
  filter-next id_of lending.NewestFirst xs c e once = ap (filter (λ y. not (id_of c == id_of y))) (last_is xs c e) ∙ filter-last id_of (front xs) c once
  filter-next id_of lending.OldestFirst [] c e once = absurd cc
  filter-next id_of lending.OldestFirst (x ∷ xs) c e once =
      let same : x ≡ c = cc in
      ap (λ b. cond (not b) (x ∷ filter (λ y. not (id_of c == id_of y)) xs) (filter (λ y. not (id_of c == id_of y)) xs))
      (eq-eqb (id_of c) (id_of x) (ap id_of (sym same)))
      ∙ filter-absent id_of (id_of c) xs once

  found_push_step : (id_of : X → ℕ) (b : Bool) (x y : X) (n : ℕ) (o : Option X) → cond b 1 0 + n ≡ 0 → (n ≡ 0 → o ≡ Some y) → cond b (Some x) o ≡ Some y
  found_push_step id_of true x y n o e ih = absurd (omega arith)
  found_push_step id_of false x y n o e ih = ih (omega arith)

  found-push : (id_of : X → ℕ) (xs : List X) (x : X) → copies_of (id_of x) (map id_of xs) ≡ 0 → found id_of (id_of x) (xs ++ x ∷ []) ≡ Some x
  found-push id_of [] x e = ap (λ b. cond b (Some x) None) (eq-eqb (id_of x) (id_of x) refl)
  found-push id_of (y ∷ xs) x e = found_push_step id_of (id_of y == id_of x) y x (copies_of (id_of x) (map id_of xs)) (found id_of (id_of x) (xs ++ x ∷ [])) e
      (found-push id_of xs x)

  -- no other has the id of the one, where ids are apart
  once_next : (id_of : X → ℕ) (o : LendingOrder) (xs : List X) (c : X) → next_to_lend o xs ≡ Some c → ((i : ℕ) → copies_of i (map id_of xs) ≤ 1)
      → copies_of (id_of c) (map id_of (still_idle o xs)) ≡ 0
  once_next id_of o xs c e apart = omega (arith, apart (id_of c), copies_of-next id_of (id_of c) o xs c e, copies_self (id_of c))

  found_next_by : (id_of : X → ℕ) (o : LendingOrder) (xs : List X) (c : X) → next_to_lend o xs ≡ Some c → copies_of (id_of c) (map id_of (still_idle o xs)) ≡ 0
      → found id_of (id_of c) xs ≡ Some c
  found_next_by id_of lending.NewestFirst xs c e once = ap (found id_of (id_of c)) (last_is xs c e) ∙ found-push id_of (front xs) c once
  found_next_by id_of lending.OldestFirst [] c e once = absurd cc
  found_next_by id_of lending.OldestFirst (x ∷ xs) c e once =
      let same : x ≡ c = cc in
      ap (λ b. cond b (Some x) (found id_of (id_of c) xs)) (eq-eqb (id_of x) (id_of c) (ap id_of same)) ∙ ap Some same

  -- the one is found by its id, and leaves the others
  pub found-next : (id_of : X → ℕ) (o : LendingOrder) (xs : List X) (c : X) → next_to_lend o xs ≡ Some c → ((i : ℕ) → copies_of i (map id_of xs) ≤ 1)
      → found id_of (id_of c) xs ≡ Some c
  found-next id_of o xs c e apart = found_next_by id_of o xs c e (once_next id_of o xs c e apart)

  pub without-next : (id_of : X → ℕ) (o : LendingOrder) (xs : List X) (c : X) → next_to_lend o xs ≡ Some c → ((i : ℕ) → copies_of i (map id_of xs) ≤ 1)
      → without id_of (id_of c) xs ≡ still_idle o xs
  without-next id_of o xs c e apart = sym (filter-once id_of (id_of c) xs (apart (id_of c))) ∙ filter-next id_of o xs c e (once_next id_of o xs c e apart)

module _ {X Y : Type 0} where
  pub next-map : (f : X → Y) (o : LendingOrder) (xs : List X) (c : X) → next_to_lend o xs ≡ Some c → next_to_lend o (map f xs) ≡ Some (f c)
  next-map f lending.NewestFirst xs c e = ap last_of (ap (map f) (last_is xs c e) ∙ map-append f (front xs) (c ∷ [])) ∙ last_of-push (map f (front xs)) (f c)
  next-map f lending.OldestFirst [] c e = absurd cc
  next-map f lending.OldestFirst (x ∷ xs) c e = let same : x ≡ c = cc in ap (λ y. Some (f y)) same

  pub still_idle-map : (f : X → Y) (o : LendingOrder) (xs : List X) (c : X) → next_to_lend o xs ≡ Some c → still_idle o (map f xs) ≡ map f (still_idle o xs)
  still_idle-map f lending.NewestFirst xs c e = ap front (ap (map f) (last_is xs c e) ∙ map-append f (front xs) (c ∷ [])) ∙ front-push (map f (front xs)) (f c)
  still_idle-map f lending.OldestFirst [] c e = refl
  still_idle-map f lending.OldestFirst (x ∷ xs) c e = refl

  pub none_next-map : (f : X → Y) (o : LendingOrder) (xs : List X) → next_to_lend o xs ≡ None → next_to_lend o (map f xs) ≡ None
  none_next-map f lending.NewestFirst xs e = ap (λ l. last_of (map f l)) (none_is_last xs e)
  none_next-map f lending.OldestFirst [] e = refl
  none_next-map f lending.OldestFirst (x ∷ xs) e = absurd cc
