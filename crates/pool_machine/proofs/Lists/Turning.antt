-- Going through a ring from its front: once round, and as far as the first that stays.
use Rattle.std.proofs.Common.{◌≡◌, ℕ, zero, suc, ◌+◌, ◌-◌, ◌≤◌, ◌<◌, Bool, true, false, not, cond, List, [], ◌∷◌, ◌++◌, length, get_or, take, drop, map, Some}
use Rattle.std.proofs.Common.{None, refl, sym, ap, ◌∙◌, arith, length-append, length-take, length-drop, append_assoc, add-one}
use Rattle.std.specs.List.{filter, slice_get}
use Rattle.std.specs.List.Sorted.{IsNonDecreasingBy}
use Rattle.std.proofs.lemmas.List.{append-nil, take-append-drop, take_all, drop_all, length-map, map-append}
use Rattle.std.proofs.lemmas.List.Filters.{length-filter_both}
use Rattle.std.proofs.lemmas.List.Elements.{filter-append}
use Rattle.std.proofs.lemmas.List.Sorted.{IsNonDecreasingBy-drop}

module _ {X : Type 0} where
  filter_one : (p : X → Bool) (xs : List X) (e : X) (b : Bool) → p e ≡ b → filter p (xs ++ e ∷ []) ≡ filter p xs ++ cond b (e ∷ []) []
  filter_one p xs e b is = rw (filter-append p xs (e ∷ []), is) refl

  -- the front of the ring is the next one
  front_is : (xs : List X) (k : ℕ) (ys : List X) (e : X) → k < length xs → slice_get (drop k xs ++ ys) 0 ≡ Some e
      → (drop 1 (drop k xs ++ ys) ≡ drop (suc k) xs ++ ys) × (take (suc k) xs ≡ take k xs ++ e ∷ [])
  front_is [] k ys e lt is = absurd (omega arith)
  front_is (x ∷ xs) zero ys e lt is = let same : x ≡ e = cc in (refl, ap (λ (z : X). z ∷ []) same)
  front_is (x ∷ xs) (suc k) ys e lt is =
      let h : (drop 1 (drop k xs ++ ys) ≡ drop (suc k) xs ++ ys) × (take (suc k) xs ≡ take k xs ++ e ∷ []) = front_is xs k ys e (omega arith) is in
      (h.0, ap (λ (zs : List X). x ∷ zs) h.1)

  front_there : (xs : List X) (k : ℕ) (ys : List X) → k < length xs → slice_get (drop k xs ++ ys) 0 ≡ None → ⊥
  front_there [] k ys lt is = omega arith
  front_there (x ∷ xs) zero ys lt is = cc
  front_there (x ∷ xs) (suc k) ys lt is = front_there xs k ys (omega arith) is

  filter_none : (p : X → Bool) (xs : List X) → ((k : ℕ) (d : X) → k < length xs → p (get_or xs k d) ≡ false) → (filter p xs ≡ [])
      × (filter (λ x. not (p x)) xs ≡ xs)
  filter_none p [] h = (refl, refl)
  filter_none p (x ∷ xs) h =
      let here : p x ≡ false = h 0 x (omega arith) in
      let rest : (filter p xs ≡ []) × (filter (λ x. not (p x)) xs ≡ xs) = filter_none p xs (λ k d lt. h (suc k) d (omega arith)) in
      (rw here rest.0, rw here (ap (λ (zs : List X). x ∷ zs) rest.1))

  -- a test that none passes
  pub none_passes : (p : X → Bool) → ((e : X) → p e ≡ false) → (xs : List X) → (filter p xs ≡ []) × (filter (λ x. not (p x)) xs ≡ xs)
  none_passes p h xs = filter_none p xs (λ k d lt. h (get_or xs k d))

  -- the smaller the key of an entry, the sooner it passes
  pub record IsForEarlier (key : X → ℕ) (p : X → Bool) : Type 0 where
    pub holds : (a b : X) → key a ≤ key b → p b ≡ true → p a ≡ true

module _ {X R S : Type 0} where
  out_grows : (f : X → S) (sh : R → S) (es : List X) (rs : List R) (e : X) (r : R) → map sh rs ≡ map f es → sh r ≡ f e
      → map sh (rs ++ r ∷ []) ≡ map f (es ++ e ∷ [])
  out_grows f sh es rs e r is made =
      map-append sh rs (r ∷ []) ∙ (ap (λ l. l ++ sh r ∷ []) is ∙ (ap (λ s. map f es ++ s ∷ []) made ∙ sym (map-append f es (e ∷ []))))

  -- after k of the entries xs: the others, and behind them those kept, are in the ring, and those closed in the list
  pub record Turned (p : X → Bool) (f : X → S) (sh : R → S) (xs : List X) (k : ℕ) (ring : List X) (out : List R) : Type 0 where
    pub ring_is : ring ≡ drop k xs ++ filter (λ e. not (p e)) (take k xs)
    pub out_is : map sh out ≡ map f (filter p (take k xs))

  pub turned_there : {p : X → Bool} {f : X → S} {sh : R → S} {xs : List X} {k : ℕ} {ring : List X} {out : List R} → Turned p f sh xs k ring out → k < length xs
      → slice_get ring 0 ≡ None → ⊥
  turned_there {p} {f} {sh} {xs} {k} {ring} {out} h lt none = front_there xs k (filter (λ e. not (p e)) (take k xs)) lt
      (ap (λ (ys : List X). slice_get ys 0) (sym h.ring_is) ∙ none)

  pub turned_closed : {p : X → Bool} {f : X → S} {sh : R → S} {xs : List X} {k : ℕ} {ring : List X} {out : List R} (e : X) (r : R) → Turned p f sh xs k ring out
      → k < length xs → slice_get ring 0 ≡ Some e → p e ≡ true → sh r ≡ f e → Turned p f sh xs (k + 1) (drop 1 ring) (out ++ r ∷ [])
  turned_closed {p} {f} {sh} {xs} {k} {ring} {out} e r h lt first is made =
      let kept : List X = filter (λ e. not (p e)) (take k xs) in
      let step : (drop 1 (drop k xs ++ kept) ≡ drop (suc k) xs ++ kept) × (take (suc k) xs ≡ take k xs ++ e ∷ []) =
      front_is xs k kept e lt (ap (λ (ys : List X). slice_get ys 0) (sym h.ring_is) ∙ first) in
      let isnt : not (p e) ≡ false = ap not is in
      let same : filter (λ e. not (p e)) (take (suc k) xs) ≡ kept = rw step.1 (filter_one (λ e. not (p e)) (take k xs) e false isnt ∙ append-nil kept) in
      let more : filter p (take (suc k) xs) ≡ filter p (take k xs) ++ e ∷ [] = rw step.1 (filter_one p (take k xs) e true is) in
      record {
        ring_is = rw (h.ring_is, add-one, same) step.0;
        out_is = rw (add-one, more) (out_grows f sh (filter p (take k xs)) out e r h.out_is made);
      }

  pub turned_kept : {p : X → Bool} {f : X → S} {sh : R → S} {xs : List X} {k : ℕ} {ring : List X} {out : List R} (e : X) → Turned p f sh xs k ring out
      → k < length xs → slice_get ring 0 ≡ Some e → p e ≡ false → Turned p f sh xs (k + 1) (drop 1 ring ++ e ∷ []) out
  turned_kept {p} {f} {sh} {xs} {k} {ring} {out} e h lt first isnt =
      let kept : List X = filter (λ e. not (p e)) (take k xs) in
      let step : (drop 1 (drop k xs ++ kept) ≡ drop (suc k) xs ++ kept) × (take (suc k) xs ≡ take k xs ++ e ∷ []) =
      front_is xs k kept e lt (ap (λ (ys : List X). slice_get ys 0) (sym h.ring_is) ∙ first) in
      let is : not (p e) ≡ true = ap not isnt in
      let more : filter (λ e. not (p e)) (take (suc k) xs) ≡ kept ++ e ∷ [] = rw step.1 (filter_one (λ e. not (p e)) (take k xs) e true is) in
      let same : filter p (take (suc k) xs) ≡ filter p (take k xs) = rw step.1 (filter_one p (take k xs) e false isnt ∙ append-nil (filter p (take k xs))) in
      record {
        ring_is = rw (h.ring_is, add-one, more, step.0) (append_assoc (drop (suc k) xs) kept (e ∷ []));
        out_is = rw (add-one, same) h.out_is;
      }

  pub turned_all : {p : X → Bool} {f : X → S} {sh : R → S} {xs : List X} {k : ℕ} {ring : List X} {out : List R} → Turned p f sh xs k ring out → length xs ≤ k
      → (ring ≡ filter (λ e. not (p e)) xs) × (map sh out ≡ map f (filter p xs))
  turned_all {p} {f} {sh} {xs} {k} {ring} {out} h past =
      let whole : take k xs ≡ xs = take_all k xs past in
      let over : drop k xs ≡ [] = drop_all k xs past in
      (rw (h.ring_is, whole, over) refl, rw (← whole) h.out_is)

  pub turned_fits : {p : X → Bool} {f : X → S} {sh : R → S} {xs : List X} {k : ℕ} {ring : List X} {out : List R} → Turned p f sh xs k ring out → k ≤ length xs
      → (length out ≤ k) × (length ring + length out ≡ length xs)
  turned_fits {p} {f} {sh} {xs} {k} {ring} {out} h le =
      let whole : length (filter p (take k xs)) + length (filter (λ e. not (p e)) (take k xs)) ≡ length (take k xs) = length-filter_both p (λ e. not (p e))
      (λ e. refl) (take k xs) in
      let same : length out ≡ length (filter p (take k xs)) = sym (length-map out sh) ∙ ap length h.out_is ∙ length-map (filter p (take k xs)) f in
      let front : length (take k xs) ≡ k = rw length-take (omega arith) in
      let ring_len : length ring ≡ (length xs - k) + length (filter (λ e. not (p e)) (take k xs)) = rw (h.ring_is, length-append, length-drop) refl in
      (omega arith, omega arith)

  -- the first k of the entries xs are closed, and the others are in the ring
  pub record Fronted (p : X → Bool) (f : X → S) (sh : R → S) (xs : List X) (k : ℕ) (ring : List X) (out : List R) : Type 0 where
    pub ring_is : ring ≡ drop k xs
    pub out_is : map sh out ≡ map f (take k xs)
    pub closed : filter p (take k xs) ≡ take k xs
    pub kept : filter (λ e. not (p e)) (take k xs) ≡ []

  pub fronted_there : {p : X → Bool} {f : X → S} {sh : R → S} {xs : List X} {k : ℕ} {ring : List X} {out : List R} → Fronted p f sh xs k ring out
      → k < length xs → slice_get ring 0 ≡ None → ⊥
  fronted_there {p} {f} {sh} {xs} {k} {ring} {out} h lt none =
      front_there xs k [] lt (ap (λ (ys : List X). slice_get ys 0) (append-nil (drop k xs) ∙ sym h.ring_is) ∙ none)

  pub fronted_more : {p : X → Bool} {f : X → S} {sh : R → S} {xs : List X} {k : ℕ} {ring : List X} {out : List R} (e : X) (r : R) → Fronted p f sh xs k ring out
      → k < length xs → slice_get ring 0 ≡ Some e → p e ≡ true → sh r ≡ f e → Fronted p f sh xs (k + 1) (drop 1 ring) (out ++ r ∷ [])
  fronted_more {p} {f} {sh} {xs} {k} {ring} {out} e r h lt first is made =
      let nil : drop k xs ++ [] ≡ drop k xs = append-nil (drop k xs) in
      let at : slice_get (drop k xs ++ []) 0 ≡ Some e = rw (nil, ← h.ring_is) first in
      let step : (drop 1 (drop k xs ++ []) ≡ drop (suc k) xs ++ []) × (take (suc k) xs ≡ take k xs ++ e ∷ []) = front_is xs k [] e lt at in
      let isnt : not (p e) ≡ false = ap not is in
      record {
        ring_is = rw (h.ring_is, add-one, ← nil, step.0) (append-nil (drop (suc k) xs));
        out_is = rw (add-one, step.1) (out_grows f sh (take k xs) out e r h.out_is made);
        closed = rw (add-one, step.1) (filter_one p (take k xs) e true is ∙ ap (λ (zs : List X). zs ++ e ∷ []) h.closed);
        kept = rw (add-one, step.1) (filter_one (λ e. not (p e)) (take k xs) e false isnt ∙ (append-nil (filter (λ e. not (p e)) (take k xs)) ∙ h.kept));
      }

  -- where the next one does not pass, none behind it does
  pub fronted_stop : {p : X → Bool} {f : X → S} {sh : R → S} {xs : List X} {k : ℕ} {ring : List X} {out : List R} (key : X → ℕ) → IsForEarlier key p
      → IsNonDecreasingBy key xs → Fronted p f sh xs k ring out → ((d : X) → 0 < length ring → p (get_or ring 0 d) ≡ false)
      → (ring ≡ filter (λ e. not (p e)) xs) × (map sh out ≡ map f (filter p xs))
  fronted_stop {p} {f} {sh} {xs} {k} {ring} {out} key earlier order h first =
      let order' : IsNonDecreasingBy key (drop k xs) = IsNonDecreasingBy-drop key k xs order in
      let later : (i : ℕ) (d : X) → i < length (drop k xs) → p (get_or (drop k xs) i d) ≡ false =
      λ i d lt.
      let zeroth : p (get_or (drop k xs) 0 d) ≡ false = rw (← h.ring_is) (first d (rw h.ring_is (omega arith))) in
      let up : key (get_or (drop k xs) 0 d) ≤ key (get_or (drop k xs) i d) = order' 0 i d (omega arith) lt in
      let go : (b : Bool) → p (get_or (drop k xs) i d) ≡ b → b ≡ false =
      λ b is. elim b as (λ b. p (get_or (drop k xs) i d) ≡ b → b ≡ false) [
        | true ↦ λ is. let hit : p (get_or (drop k xs) 0 d) ≡ true = earlier.holds (get_or (drop k xs) 0 d) (get_or (drop k xs) i d) up is in cc
        | false ↦ λ is. refl
      ] is in
      go (p (get_or (drop k xs) i d)) refl in
      let rest : (filter p (drop k xs) ≡ []) × (filter (λ x. not (p x)) (drop k xs) ≡ drop k xs) = filter_none p (drop k xs) later in
      let split : take k xs ++ drop k xs ≡ xs = take-append-drop k xs in
      let closed : filter p xs ≡ take k xs = ap (filter p) (sym split) ∙ (filter-append p (take k xs) (drop k xs)
      ∙ rw (h.closed, rest.0) (append-nil (take k xs))) in
      let kept : filter (λ e. not (p e)) xs ≡ drop k xs = ap (filter (λ e. not (p e))) (sym split)
      ∙ (filter-append (λ e. not (p e)) (take k xs) (drop k xs) ∙ rw (h.kept, rest.1) refl) in
      (rw (h.ring_is, kept) refl, rw closed h.out_is)

  pub fronted_all : {p : X → Bool} {f : X → S} {sh : R → S} {xs : List X} {k : ℕ} {ring : List X} {out : List R} → Fronted p f sh xs k ring out → length xs ≤ k
      → (ring ≡ filter (λ e. not (p e)) xs) × (map sh out ≡ map f (filter p xs))
  fronted_all {p} {f} {sh} {xs} {k} {ring} {out} h past =
      let whole : take k xs ≡ xs = take_all k xs past in
      let over : drop k xs ≡ [] = drop_all k xs past in
      (rw (h.ring_is, over, ← whole) (sym h.kept), rw (← whole) (h.out_is ∙ ap (map f) (sym h.closed)))
