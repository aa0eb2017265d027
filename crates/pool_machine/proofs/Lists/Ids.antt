-- Lists of things with ids.
use Rattle.std.proofs.Common.{◌≡◌, ℕ, zero, suc, ◌+◌, ◌-◌, ◌≤◌, Bool, true, false, cond, List, [], ◌∷◌, ◌++◌, map, length, take, get_or, Option, Some, refl}
use Rattle.std.proofs.Common.{sym, ◌∙◌, ap, subst, arith}
use Rattle.std.specs.Prelude.{◌==◌}
use Rattle.std.specs.List.{slice_get, All}
use Rattle.std.specs.Option.{is_some}
use Rattle.circular_buffer.specs.Buffer.{last_item}
use Rattle.std.proofs.lemmas.List.{take_at, length_push, map-append}
use Rattle.std.proofs.lemmas.Bool.{ne_eqb, eqb-true}
use Rattle.std.proofs.lemmas.List.Elements.{All-append}
use Rattle.pool_machine.specs.Ids.{last_of, front, found, without, same_id, copies_of}

module _ {X : Type 0} where
  pub last_of-push : (xs : List X) (x : X) → last_of (xs ++ x ∷ []) ≡ Some x
  last_of-push [] x = refl
  last_of-push (y ∷ []) x = refl
  last_of-push (y ∷ z ∷ zs) x = last_of-push (z ∷ zs) x

  pub front-push : (xs : List X) (x : X) → front (xs ++ x ∷ []) ≡ xs
  front-push xs x = take_at xs (x ∷ []) (length (xs ++ x ∷ []) - 1) (omega (arith, length_push xs x))

  -- what a pop of the back of a ring gives
  pub last_item-last_of : (xs : List X) → last_item xs ≡ last_of xs
  last_item-last_of [] = refl
  last_item-last_of (x ∷ []) = refl
  last_item-last_of (x ∷ y ∷ ys) =
      let n : suc (suc (length ys)) - 1 ≡ suc (suc (length ys) - 1) = omega arith in
      ap (λ n. slice_get (x ∷ y ∷ ys) n) n ∙ last_item-last_of (y ∷ ys)

  pub last_is : (xs : List X) (c : X) → last_of xs ≡ Some c → xs ≡ front xs ++ c ∷ []
  last_is [] c e = absurd cc
  last_is (x ∷ []) c e = cc
  last_is (x ∷ y ∷ ys) c e =
      let n : suc (suc (length ys)) - 1 ≡ suc (suc (length ys) - 1) = omega arith in
      ap (λ l. x ∷ l) (last_is (y ∷ ys) c e) ∙ sym (ap (λ n. take n (x ∷ y ∷ ys) ++ c ∷ []) n)

  pub length-front : (xs : List X) (c : X) → last_of xs ≡ Some c → length xs ≡ length (front xs) + 1
  length-front xs c e = ap length (last_is xs c e) ∙ length_push (front xs) c

pub copies_of-append : (i : ℕ) (xs ys : List ℕ) → copies_of i (xs ++ ys) ≡ copies_of i xs + copies_of i ys
copies_of-append i [] ys = omega arith
copies_of-append i (x ∷ xs) ys = omega (arith, copies_of-append i xs ys)

-- in three lists
pub copies_of-append3 : (i : ℕ) (xs ys zs : List ℕ) → copies_of i (xs ++ (ys ++ zs)) ≡ copies_of i xs + (copies_of i ys + copies_of i zs)
copies_of-append3 i xs ys zs = omega (arith, copies_of-append i xs (ys ++ zs), copies_of-append i ys zs)

module _ {X : Type 0} where
  pub copies_of-push : (id_of : X → ℕ) (i : ℕ) (xs : List X) (x : X) → copies_of i (map id_of (xs ++ x ∷ [])) ≡ copies_of i (map id_of xs) + copies_of i
      (id_of x ∷ [])
  copies_of-push id_of i xs x = ap (copies_of i) (map-append id_of xs (x ∷ [])) ∙ copies_of-append i (map id_of xs) (id_of x ∷ [])

  pub copies_of-last : (id_of : X → ℕ) (i : ℕ) (xs : List X) (c : X) → last_of xs ≡ Some c
      → copies_of i (map id_of xs) ≡ copies_of i (map id_of (front xs)) + copies_of i (id_of c ∷ [])
  copies_of-last id_of i xs c e = ap (λ l. copies_of i (map id_of l)) (last_is xs c e) ∙ copies_of-push id_of i (front xs) c

  copies_step : (id_of : X → ℕ) (i j : ℕ) (b : Bool) (x y : X) (xs : List X) (rest : ℕ) → (id_of x == i) ≡ b → cond b (Some x) (found id_of i xs) ≡ Some y
      → (found id_of i xs ≡ Some y → copies_of j (map id_of (without id_of i xs)) + copies_of j (i ∷ []) ≡ copies_of j (map id_of xs))
      → copies_of j (map id_of (cond b xs (x ∷ without id_of i xs))) + copies_of j (i ∷ []) ≡ cond (id_of x == j) 1 0 + copies_of j (map id_of xs)
  copies_step id_of i j true x y xs rest is e ih =
      let same : copies_of j (i ∷ []) ≡ cond (id_of x == j) 1 0 + 0 = ap (λ k. cond (k == j) 1 0 + 0) (sym (eqb-true (id_of x) i is)) in
      omega (arith, same)
  copies_step id_of i j false x y xs rest is e ih = omega (arith, ih e)

  -- the one that is found is taken out, and no other
  pub copies_of-without : (id_of : X → ℕ) (i j : ℕ) (xs : List X) (y : X) → found id_of i xs ≡ Some y
      → copies_of j (map id_of (without id_of i xs)) + copies_of j (i ∷ []) ≡ copies_of j (map id_of xs)
  copies_of-without id_of i j [] y e = absurd cc
  copies_of-without id_of i j (x ∷ xs) y e = copies_step id_of i j (id_of x == i) x y xs 0 refl e (copies_of-without id_of i j xs y)

  length_step : (b : Bool) (x y : X) (xs ws : List X) (o : Option X) → cond b (Some x) o ≡ Some y → (o ≡ Some y → length ws + 1 ≡ length xs)
      → length (cond b xs (x ∷ ws)) + 1 ≡ suc (length xs)
  length_step true x y xs ws o e ih = omega arith
  length_step false x y xs ws o e ih = omega (arith, ih e)

  pub length-without : (id_of : X → ℕ) (i : ℕ) (xs : List X) (y : X) → found id_of i xs ≡ Some y → length (without id_of i xs) + 1 ≡ length xs
  length-without id_of i [] y e = absurd cc
  length-without id_of i (x ∷ xs) y e = length_step (id_of x == i) x y xs (without id_of i xs) (found id_of i xs) e (length-without id_of i xs y)

  all_cons : (P : X → Type 0) (x : X) (xs : List X) → P x → All P xs → All P (x ∷ xs)
  all_cons P x xs p all zero d lt = p
  all_cons P x xs p all (suc k) d lt = all k d (omega arith)

  all_tail : (P : X → Type 0) (x : X) (xs : List X) → All P (x ∷ xs) → All P xs
  all_tail P x xs all k d lt = all (suc k) d (omega arith)

  without_step : (P : X → Type 0) (b : Bool) (x : X) (xs ws : List X) → All P (x ∷ xs) → All P ws → All P (cond b xs (x ∷ ws))
  without_step P true x xs ws all rest = all_tail P x xs all
  without_step P false x xs ws all rest = all_cons P x ws (all 0 x (omega arith)) rest

  pub All-without : (P : X → Type 0) (id_of : X → ℕ) (i : ℕ) (xs : List X) → All P xs → All P (without id_of i xs)
  All-without P id_of i [] all = all
  All-without P id_of i (x ∷ xs) all = without_step P (id_of x == i) x xs (without id_of i xs) all (All-without P id_of i xs (all_tail P x xs all))

  found_step : (P : X → Type 0) (b : Bool) (x y : X) (o : Option X) → P x → cond b (Some x) o ≡ Some y → (o ≡ Some y → P y) → P y
  found_step P true x y o p e ih = let same : x ≡ y = cc in subst P same p
  found_step P false x y o p e ih = ih e

  -- what holds of all holds of the one that is found
  pub All-found : (P : X → Type 0) (id_of : X → ℕ) (i : ℕ) (xs : List X) (y : X) → All P xs → found id_of i xs ≡ Some y → P y
  All-found P id_of i [] y all e = absurd cc
  All-found P id_of i (x ∷ xs) y all e = found_step P (id_of x == i) x y (found id_of i xs) (all 0 x (omega arith)) e
      (All-found P id_of i xs y (all_tail P x xs all))

  one_step : (P : X → Type 0) (x : X) → P x → All P (x ∷ [])
  one_step P x p zero d lt = p
  one_step P x p (suc k) d lt = absurd (omega arith)

  pub All-push : (P : X → Type 0) (xs : List X) (x : X) → All P xs → P x → All P (xs ++ x ∷ [])
  All-push P xs x all p = All-append P xs (x ∷ []) all (one_step P x p)

  pub All-last : (P : X → Type 0) (xs : List X) (c : X) → All P xs → last_of xs ≡ Some c → P c
  All-last P [] c all e = absurd cc
  All-last P (x ∷ []) c all e = let same : x ≡ c = cc in subst P same (all 0 x (omega arith))
  All-last P (x ∷ y ∷ ys) c all e = All-last P (y ∷ ys) c (all_tail P x (y ∷ ys) all) e

  pub All-weaker : (P Q : X → Type 0) (xs : List X) → ((x : X) → P x → Q x) → All P xs → All Q xs
  All-weaker P Q xs f all k d lt = f (get_or xs k d) (all k d lt)

pub copies_of-one : (i n : ℕ) → copies_of i (n ∷ []) ≤ 1
copies_of-one i n = by (n == i) where
  by : (b : Bool) → cond b 1 0 + 0 ≤ 1
  by true = omega arith
  by false = omega arith

pub copies_of-other : (i n : ℕ) → (i ≡ n → ⊥) → copies_of i (n ∷ []) ≡ 0
copies_of-other i n ne = ap (λ b. cond b 1 0 + 0) (ne_eqb n i (λ e. ne (sym e)))

found_self_step : (b : Bool) (x i : ℕ) (o : Option ℕ) → (x == i) ≡ b → (is_some o ≡ true → o ≡ Some i) → is_some (cond b (Some x) o) ≡ true
    → cond b (Some x) o ≡ Some i
found_self_step true x i o e ih is = ap Some (eqb-true x i e)
found_self_step false x i o e ih is = ih is

-- an id that is found is the one that was looked for
pub found_self : (i : ℕ) (xs : List ℕ) → is_some (found same_id i xs) ≡ true → found same_id i xs ≡ Some i
found_self i [] is = absurd cc
found_self i (x ∷ xs) is = found_self_step (x == i) x i (found same_id i xs) refl (found_self i xs) is
