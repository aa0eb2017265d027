-- How a list is copied, place by place.
use Rattle.std.proofs.Common.{◌≡◌, ℕ, zero, suc, ◌+◌, ◌<◌, List, [], ◌∷◌, ◌++◌, map, length, take, Some, None, sym, ◌∙◌, ap, subst, arith, add-one}
use Rattle.std.specs.Prelude.{option_map, slice_get}
use Rattle.std.proofs.lemmas.List.{take_all, map-append}

module _ {X Y : Type 0} where
  -- after so many places
  pub record IsListed (f : X → Y) (xs : List X) (places : ℕ) (ids : List Y) : Type 0 where
    pub is : ids ≡ map f (take places xs)

  next : (f : X → Y) (xs : List X) (place : ℕ) (id : Y) → option_map f (slice_get xs place) ≡ Some id
      → map f (take place xs) ++ id ∷ [] ≡ map f (take (suc place) xs)
  next f [] place id e = absurd cc
  next f (x ∷ xs) zero id e = cc
  next f (x ∷ xs) (suc place) id e = ap (λ l. f x ∷ l) (next f xs place id e)

  pub listed_more : (f : X → Y) (xs : List X) (place : ℕ) (id : Y) (ids : List Y) → option_map f (slice_get xs place) ≡ Some id → IsListed f xs place ids
      → IsListed f xs (place + 1) (ids ++ id ∷ [])
  listed_more f xs place id ids e h = record { is = ap (λ l. l ++ id ∷ []) h.is ∙ next f xs place id e ∙ ap (λ n. map f (take n xs)) (sym (add-one place)) }

  pub there_is_one : (f : X → Y) (xs : List X) (place : ℕ) → place < length xs → option_map f (slice_get xs place) ≡ None → ⊥
  there_is_one f [] place lt e = omega arith
  there_is_one f (x ∷ xs) zero lt e = cc
  there_is_one f (x ∷ xs) (suc place) lt e = there_is_one f xs place (omega arith) e

  pub listed_all : (f : X → Y) (xs : List X) (places : ℕ) (ids : List Y) → places ≡ length xs → IsListed f xs places ids → ids ≡ map f xs
  listed_all f xs places ids e h = h.is ∙ ap (map f) (take_all places xs (omega arith))

-- one more is copied
pub copied_more : {P X Y : Type 0} (seen : P → Y) (f : X → Y) (xs : List X) (place : ℕ) (items : List P) (p : P)
    → option_map f (slice_get xs place) ≡ Some (seen p) → IsListed f xs place (map seen items)
    → IsListed f xs (place + 1) (map seen (items ++ p ∷ []))
copied_more {P} {X} {Y} seen f xs place items p e h = subst (IsListed f xs (place + 1)) (sym (map-append seen items (p ∷ [])))
    (listed_more f xs place (seen p) (map seen items) e h)
