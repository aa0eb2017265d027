-- Slots that hold one thing each, or nothing: what they hold as the list grows, shrinks and loses its holes.
use Rattle.std.proofs.Common.{◌≡◌, ℕ, zero, suc, ◌+◌, ◌<◌, ◌≤◌, Bool, true, false, cond, List, [], ◌∷◌, ◌++◌, map, length, take, set, get_or, Option, Some}
use Rattle.std.proofs.Common.{None, refl, ◌∙◌, ap, arith}
use Rattle.std.specs.Prelude.{◌==◌, IfNone}
use Rattle.std.specs.Option.{is_some}
use Rattle.std.specs.List.{filter}
use Rattle.std.proofs.lemmas.List.{take_more, append-nil}
use Rattle.std.proofs.lemmas.Bool.{cond-true, cond-false}
use Rattle.pool_machine.specs.Ids.{found, without, copies_of}
use Rattle.pool_machine.specs.Slots.{held, holds, NoneHeldFrom}

one_copy : (b : Bool) (n : ℕ) → b ≡ true → 1 ≤ cond b 1 0 + n
one_copy true n e = omega arith
one_copy false n e = absurd cc

no_other : (b : Bool) (n : ℕ) → cond b 1 0 + n ≤ 1 → 1 ≤ n → b ≡ false
no_other true n apart one = absurd (omega arith)
no_other false n apart one = refl

module _ {X : Type 0} where
  pub held-append : (xs ys : List (Option X)) → held (xs ++ ys) ≡ held xs ++ held ys
  held-append [] ys = refl
  held-append (None ∷ xs) ys = held-append xs ys
  held-append (Some x ∷ xs) ys = ap (λ l. x ∷ l) (held-append xs ys)

  pub held-push : (xs : List (Option X)) (x : X) → held (xs ++ Some x ∷ []) ≡ held xs ++ x ∷ []
  held-push xs x = held-append xs (Some x ∷ [])

  pub held-filter : (xs : List (Option X)) → held (filter is_some xs) ≡ held xs
  held-filter [] = refl
  held-filter (None ∷ xs) = held-filter xs
  held-filter (Some x ∷ xs) = ap (λ l. x ∷ l) (held-filter xs)

  pub length-filter : (xs : List (Option X)) → length (filter is_some xs) ≡ length (held xs)
  length-filter [] = refl
  length-filter (None ∷ xs) = length-filter xs
  length-filter (Some x ∷ xs) = ap suc (length-filter xs)

  push_hole : (xs : List (Option X)) (slot : Option X) → is_some slot ≡ false → held (xs ++ slot ∷ []) ≡ held xs
  push_hole xs None e = held-append xs (None ∷ []) ∙ append-nil (held xs)
  push_hole xs (Some x) e = absurd cc

  -- a hole at the end may go
  pub held-take_less : (xs : List (Option X)) (n : ℕ) (d : Option X) → n < length xs → is_some (get_or xs n d) ≡ false
      → held (take (n + 1) xs) ≡ held (take n xs)
  held-take_less xs n d lt e = ap held (take_more xs n d lt) ∙ push_hole (take n xs) (get_or xs n d) e

  some_held : (id_of : X → ℕ) (i : ℕ) (slots : List (Option X)) (p : ℕ) → p < length slots → ((d : Option X) → holds id_of i (get_or slots p d) ≡ true)
      → 1 ≤ copies_of i (map id_of (held slots))
  some_held id_of i [] p lt here = absurd (omega arith)
  some_held id_of i (None ∷ slots) zero lt here = let no : false ≡ true = here None in absurd cc
  some_held id_of i (Some x ∷ slots) zero lt here = one_copy (id_of x == i) (copies_of i (map id_of (held slots))) (here None)
  some_held id_of i (None ∷ slots) (suc p) lt here = some_held id_of i slots p (omega arith) here
  some_held id_of i (Some x ∷ slots) (suc p) lt here = omega (arith, some_held id_of i slots p (omega arith) here)

  -- the one with the id, where it stands once, is the one in the slot that holds it
  pub found-held : (id_of : X → ℕ) (i : ℕ) (slots : List (Option X)) (p : ℕ) (d : Option X) → copies_of i (map id_of (held slots)) ≤ 1 → p < length slots
      → ((d : Option X) → holds id_of i (get_or slots p d) ≡ true) → found id_of i (held slots) ≡ get_or slots p d
  found-held id_of i [] p d apart lt here = absurd (omega arith)
  found-held id_of i (None ∷ slots) zero d apart lt here = let no : false ≡ true = here None in absurd cc
  found-held id_of i (Some x ∷ slots) zero d apart lt here = cond-true _ _ _ (here None)
  found-held id_of i (None ∷ slots) (suc p) d apart lt here = found-held id_of i slots p d apart (omega arith) here
  found-held id_of i (Some x ∷ slots) (suc p) d apart lt here =
      let one : 1 ≤ copies_of i (map id_of (held slots)) = some_held id_of i slots p (omega arith) here in
      let other = no_other (id_of x == i) (copies_of i (map id_of (held slots))) apart one in
      cond-false _ _ _ other ∙ found-held id_of i slots p d (omega arith) (omega arith) here

  pub without-held : (id_of : X → ℕ) (i : ℕ) (slots : List (Option X)) (p : ℕ) → copies_of i (map id_of (held slots)) ≤ 1 → p < length slots
      → ((d : Option X) → holds id_of i (get_or slots p d) ≡ true) → without id_of i (held slots) ≡ held (set slots p None)
  without-held id_of i [] p apart lt here = absurd (omega arith)
  without-held id_of i (None ∷ slots) zero apart lt here = let no : false ≡ true = here None in absurd cc
  without-held id_of i (Some x ∷ slots) zero apart lt here = cond-true _ _ _ (here None)
  without-held id_of i (None ∷ slots) (suc p) apart lt here = without-held id_of i slots p apart (omega arith) here
  without-held id_of i (Some x ∷ slots) (suc p) apart lt here =
      let one : 1 ≤ copies_of i (map id_of (held slots)) = some_held id_of i slots p (omega arith) here in
      let other = no_other (id_of x == i) (copies_of i (map id_of (held slots))) apart one in
      cond-false _ _ _ other ∙ ap (λ l. x ∷ l) (without-held id_of i slots p (omega arith) (omega arith) here)

  -- one less is held
  pub length-held : (id_of : X → ℕ) (i : ℕ) (slots : List (Option X)) (p : ℕ) → p < length slots → ((d : Option X) → holds id_of i (get_or slots p d) ≡ true)
      → length (held (set slots p None)) + 1 ≡ length (held slots)
  length-held id_of i [] p lt here = absurd (omega arith)
  length-held id_of i (None ∷ slots) zero lt here = let no : false ≡ true = here None in absurd cc
  length-held id_of i (Some x ∷ slots) zero lt here = omega arith
  length-held id_of i (None ∷ slots) (suc p) lt here = length-held id_of i slots p (omega arith) here
  length-held id_of i (Some x ∷ slots) (suc p) lt here = omega (arith, length-held id_of i slots p (omega arith) here)

  none_later : (id_of : X → ℕ) (i : ℕ) (slot : Option X) (slots : List (Option X)) → NoneHeldFrom id_of i (slot ∷ slots) 0 → NoneHeldFrom id_of i slots 0
  none_later id_of i slot slots none k d le lt = none (suc k) d (omega arith) (omega arith)

  pub found-none_held : (id_of : X → ℕ) (i : ℕ) (slots : List (Option X)) → NoneHeldFrom id_of i slots 0 → found id_of i (held slots) ≡ None
  found-none_held id_of i [] none = refl
  found-none_held id_of i (None ∷ slots) none = found-none_held id_of i slots (none_later id_of i None slots none)
  found-none_held id_of i (Some x ∷ slots) none = cond-false _ _ _ (none 0 None (omega arith) (omega arith))
      ∙ found-none_held id_of i slots (none_later id_of i (Some x) slots none)

  pub without-none_held : (id_of : X → ℕ) (i : ℕ) (slots : List (Option X)) → NoneHeldFrom id_of i slots 0 → without id_of i (held slots) ≡ held slots
  without-none_held id_of i [] none = refl
  without-none_held id_of i (None ∷ slots) none = without-none_held id_of i slots (none_later id_of i None slots none)
  without-none_held id_of i (Some x ∷ slots) none = cond-false _ _ _ (none 0 None (omega arith) (omega arith))
      ∙ ap (λ l. x ∷ l) (without-none_held id_of i slots (none_later id_of i (Some x) slots none))

  -- a slot that holds one is no hole
  pub full : (P : Type 0) (id_of : X → ℕ) (i : ℕ) (slot : Option X) → holds id_of i slot ≡ true → IfNone slot P
  full P id_of i None e = absurd cc
  full P id_of i (Some x) e = tt
