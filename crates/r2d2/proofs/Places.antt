use Rattle.std.proofs.Common.{◌≡◌, ℕ, ◌+◌, ◌<◌, Bool, true, false, cond, not, List, [], ◌∷◌, ◌++◌, Option, Some, None, IfSome, IfNone, length, arith, refl}
use Rattle.std.proofs.Common.{subst, sym, nat_lt, ap, ◌⊎◌, inl, ◌∙◌}
use Rattle.std.specs.Cmp.{IsEquivalence}
use Rattle.std.specs.List.{AllByRecursion, position, position_or_len, slice_index_or, slice_set, remove, IsDistinct, list_any}
use Rattle.std.specs.Map.{lookup, remove_entry, set_value, keys_of}
use Rattle.std.proofs.lemmas.Grind.{common_steps}
use Rattle.std.proofs.lemmas.Map.{keys-set_value}
use Rattle.std.proofs.lemmas.Map.Keys.{IsDistinct-push, IsDistinct-head, IsDistinct-tail, IsDistinct-cons}
use Rattle.r2d2.specs.Entries.{IsPlaceOf}

-- the first place whose kind passes, or the length
abbrev pub place : {K X : Type 0} → (K → Bool) → List (K × X) → ℕ
place test es = position_or_len (λ e. test e.0) es

-- no entry passes where the place is past the end
pub lookup_past : {K X : Type 0} (test : K → Bool) (es : List (K × X)) → nat_lt (place test es) (length es) ≡ false → lookup test es ≡ None
lookup_past test [] h = refl
lookup_past test (e ∷ es) h = let ih = lookup_past test es in grind (arith, common_steps, ih)

-- the entry at the place is the one that a look-up finds
pub lookup_at : {K X : Type 0} (test : K → Bool) (es : List (K × X)) (d : K × X) → place test es < length es
    → lookup test es ≡ Some (slice_index_or es (place test es) d).1
lookup_at test [] d h = absurd (omega arith)
lookup_at test (e ∷ es) d h = let ih = lookup_at test es d in grind (arith, common_steps, ih)

pub remove_at : {K X : Type 0} (test : K → Bool) (es : List (K × X)) → place test es < length es → remove es (place test es) ≡ remove_entry test es
remove_at test [] h = absurd (omega arith)
remove_at test (e ∷ es) h =
    elim (test e.0) as (λ b. cond (not b) (1 + place test es) 0 < length (e ∷ es)
    → remove (e ∷ es) (cond (not b) (1 + place test es) 0) ≡ cond b es (e ∷ remove_entry test es)) [
      | true ↦ λ h. grind (arith, common_steps)
      | false ↦ λ h. let ih = remove_at test es (omega arith) in grind (arith, common_steps, ih)
    ] h

pub set_at : {K X : Type 0} (test : K → Bool) (es : List (K × X)) (d : K × X) (w : X) → place test es < length es
    → slice_set es (place test es) ((slice_index_or es (place test es) d).0, w) ≡ set_value test es w
set_at test [] d w h = absurd (omega arith)
set_at test (e ∷ es) d w h = let ih = set_at test es d w in grind (arith, common_steps, ih)

by_test_some : {K X : Type 0} (test : K → Bool) (es : List (K × X)) (b : Bool) → nat_lt (place test es) (length es) ≡ b
    → IfSome (cond b (Some (place test es)) None) (IsPlaceOf test es)
by_test_some test es false h = tt
by_test_some test es true h =
    let lt : place test es < length es = grind (arith, h) in
    record { within = lt; found = λ d. lookup_at test es d lt; removed = remove_at test es lt; replaced = λ d w. set_at test es d w lt }

by_test_none : {K X : Type 0} (test : K → Bool) (es : List (K × X)) (b : Bool) → nat_lt (place test es) (length es) ≡ b
    → IfNone (cond b (Some (place test es)) None) (lookup test es ≡ None)
by_test_none test es false h = lookup_past test es h
by_test_none test es true h = tt

pub place_some : {K X : Type 0} (test : K → Bool) (es : List (K × X)) (r : Option ℕ) → r ≡ position (λ e. test e.0) es → IfSome r (IsPlaceOf test es)
place_some test es r e = subst (λ o. IfSome o (IsPlaceOf test es)) (sym e) (by_test_some test es (nat_lt (place test es) (length es)) refl)

pub place_none : {K X : Type 0} (test : K → Bool) (es : List (K × X)) (r : Option ℕ) → r ≡ position (λ e. test e.0) es → IfNone r (lookup test es ≡ None)
place_none test es r e = subst (λ o. IfNone o (lookup test es ≡ None)) (sym e) (by_test_none test es (nat_lt (place test es) (length es)) refl)

removed_none : {K X : Type 0} (test : K → Bool) (es : List (K × X)) → lookup test es ≡ None → remove_entry test es ≡ es
removed_none test [] h = refl
removed_none test (e ∷ es) h = let ih = removed_none test es in grind (arith, common_steps, ih)

removes_none_if : {K X : Type 0} (test : K → Bool) (es : List (K × X)) (r : Option ℕ) → IfNone r (lookup test es ≡ None)
    → IfNone r (remove_entry test es ≡ es)
removes_none_if test es None none = removed_none test es none
removes_none_if test es (Some _) none = tt

pub place_removes_none : {K X : Type 0} (test : K → Bool) (es : List (K × X)) (r : Option ℕ) → r ≡ position (λ e. test e.0) es
    → IfNone r (remove_entry test es ≡ es)
place_removes_none test es r e = removes_none_if test es r (place_none test es r e)

-- ---- that no two entries have one kind
pub distinct_empty : {K X : Type 0} (eq : K → K → Bool) (es : List (K × X)) → es ≡ [] → IsDistinct eq (keys_of es)
unfolding IsDistinct
distinct_empty eq es e = subst (λ xs. IsDistinct eq (keys_of xs)) (sym e) tt

pub distinct_set : {K X : Type 0} (eq : K → K → Bool) (test : K → Bool) (es : List (K × X)) (w : X) → IsDistinct eq (keys_of es)
    → IsDistinct eq (keys_of (set_value test es w))
distinct_set eq test es w h = subst (λ ks. IsDistinct eq ks) (sym (keys-set_value test es w)) h

pub no_key : {K X : Type 0} (test : K → Bool) (es : List (K × X)) → lookup test es ≡ None → list_any test (keys_of es) ≡ false
no_key test [] h = refl
no_key test (e ∷ es) h = let ih = no_key test es in grind (arith, common_steps, ih)

pub keys_pushed : {K X : Type 0} (es : List (K × X)) (k : K) (w : X) → keys_of (es ++ (k, w) ∷ []) ≡ keys_of es ++ k ∷ []
keys_pushed [] k w = refl
keys_pushed (e ∷ es) k w = let ih = keys_pushed es k w in grind (arith, common_steps, ih)

pub distinct_pushed : {K X : Type 0} {eq : K → K → Bool} (laws : IsEquivalence eq) (es : List (K × X)) (k : K) (w : X) → lookup (eq k) es ≡ None
    → IsDistinct eq (keys_of es) → IsDistinct eq (keys_of (es ++ (k, w) ∷ []))
distinct_pushed {eq = eq} laws es k w none h =
    subst (λ ks. IsDistinct eq ks) (sym (keys_pushed es k w)) (IsDistinct-push laws (keys_of es) k h (no_key (eq k) es none))

-- the entries after a push that may have been refused
pub distinct_grown : {K X : Type 0} {eq : K → K → Bool} (laws : IsEquivalence eq) (es grown : List (K × X)) (k : K) (w : X) (pushed : Bool)
    → grown ≡ cond pushed (es ++ (k, w) ∷ []) es → lookup (eq k) es ≡ None → IsDistinct eq (keys_of es) → IsDistinct eq (keys_of grown)
distinct_grown {eq = eq} laws es grown k w pushed e none h =
    subst (λ xs. IsDistinct eq (keys_of xs)) (sym e) (
    elim pushed as (λ b. IsDistinct eq (keys_of (cond b (es ++ (k, w) ∷ []) es))) [
      | true ↦ distinct_pushed laws es k w none h
      | false ↦ h
    ]
    )

all_removed : {K X : Type 0} (P : K → Type 0) (test : K → Bool) (es : List (K × X)) → AllByRecursion P (keys_of es)
    → AllByRecursion P (keys_of (remove_entry test es))
all_removed P test [] h = h
all_removed P test (e ∷ es) h = elim (test e.0) as (λ b. AllByRecursion P (keys_of (cond b es (e ∷ remove_entry test es)))) [
  | true ↦ h.1
  | false
      ↦ (h.0, all_removed P test es h.1)
]

pub distinct_removed : {K X : Type 0} (eq : K → K → Bool) (test : K → Bool) (es : List (K × X)) → IsDistinct eq (keys_of es)
    → IsDistinct eq (keys_of (remove_entry test es))
distinct_removed eq test [] h = h
distinct_removed eq test (e ∷ es) h =
    let tail = IsDistinct-tail eq e.0 (keys_of es) h in
    elim (test e.0) as (λ b. IsDistinct eq (keys_of (cond b es (e ∷ remove_entry test es)))) [
      | true ↦ tail
      | false ↦ IsDistinct-cons eq e.0 (keys_of (remove_entry test es)) (all_removed _ test es (IsDistinct-head eq e.0 (keys_of es) h))
          (distinct_removed eq test es tail)
    ]

-- a write through the entry at the place
pub set_through : {K X : Type 0} (test : K → Bool) (es : List (K × X)) (i : ℕ) (e : K × X) → e ≡ slice_index_or es i e → IsPlaceOf test es i → (w : X)
    → slice_set es i (e.0, w) ≡ set_value test es w
set_through test es i e is at w = ap (λ x. slice_set es i (x.0, w)) is ∙ at.replaced e w

pub distinct_through : {K X : Type 0} (eq test : K → K → Bool) (q : K) (es : List (K × X)) (i : ℕ) (e : K × X) → e ≡ slice_index_or es i e
    → IsPlaceOf (test q) es i → IsDistinct eq (keys_of es) → (w : X) → IsDistinct eq (keys_of (slice_set es i (e.0, w)))
distinct_through eq test q es i e is at h w =
    subst (λ xs. IsDistinct eq (keys_of xs)) (sym (set_through (test q) es i e is at w)) (distinct_set eq (test q) es w h)

-- two ways to end a loan are one where they agree on each value written
pub same_end : {N X B C : Type 0} (n : N) (f h : X → B) → ((w : X) → f w ≡ h w) → ◌≡◌ {A = (N × (X → B)) ⊎ C} (inl (n, f)) (inl (n, h))
same_end n f h e = ap (λ k. inl (n, k)) (λ i w. e w i)
