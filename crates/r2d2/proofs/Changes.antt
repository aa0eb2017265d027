-- What a change of one entry does to the map that the entries stand for.
use Rattle.std.proofs.Common.{◌≡◌, ℕ, Bool, List, [], ◌∷◌, ◌++◌, Option, Some, None, length, refl, subst, sym, ap, ◌∙◌}
use Rattle.std.specs.Cmp.{IsEquivalence}
use Rattle.std.specs.List.{IsDistinct, slice_index_or, slice_set, remove}
use Rattle.std.specs.Option.{IsSome}
use Rattle.std.specs.Map.{lookup, set_value, keys_of}
use Rattle.std.proofs.lemmas.List.Edits.{insert_end}
use Rattle.std.proofs.lemmas.Map.{lookup-insert, lookup-set_value, lookup-remove_entry, none_passes_from_lookup}
use Rattle.r2d2.specs.Entries.{ChangesKind, IsChangeable, IsPlaceOf}
use Rattle.r2d2.proofs.Places.{set_through}

-- the entries and the kind under other names
changed_from : {K X : Type 0} (eq : K → K → Bool) (es old new : List (K × X)) (named k : K) (w : Option X) → es ≡ old → named ≡ k
    → ChangesKind eq named w es new → ChangesKind eq k w old new
changed_from eq es old new named k w from is h =
    subst (λ kind. ChangesKind eq kind w old new) is (subst (λ before. ChangesKind eq named w before new) from h)

module _ {K X : Type 0} {eq : K → K → Bool} (laws : IsEquivalence eq) where
  -- a write in the place of the value under k
  pub changed_by_set : (es : List (K × X)) (k : K) (w : X) → IsSome (lookup (eq k) es) → ChangesKind eq k (Some w) es (set_value (eq k) es w)
  changed_by_set es k w some kind = lookup-set_value laws (eq k) (laws.congr k) kind w es some

  found_some : (es : List (K × X)) (k : K) (i : ℕ) (e : K × X) → IsPlaceOf (eq k) es i → IsSome (lookup (eq k) es)
  found_some es k i e at = subst IsSome (sym (at.found e)) refl

  pub changed_in_place : (es old : List (K × X)) (named k : K) (i : ℕ) (e : K × X) (written w : X) → es ≡ old → named ≡ k → written ≡ w
      → e ≡ slice_index_or es i e → IsPlaceOf (eq named) es i → ChangesKind eq k (Some w) old (slice_set es i (e.0, written))
  changed_in_place es old named k i e written w from is value there at =
      let set : ChangesKind eq named (Some written) es (slice_set es i (e.0, written)) =
      subst (λ new. ChangesKind eq named (Some written) es new) (sym (set_through (eq named) es i e there at written))
      (changed_by_set es named written (found_some es named i e at)) in
      changed_from eq es old _ named k (Some w) from is (subst (λ x. ChangesKind eq named (Some x) es (slice_set es i (e.0, written))) value set)

  pub changeable_in_place : (es old : List (K × X)) (k : K) (i : ℕ) (e : K × X) → es ≡ old → IsPlaceOf (eq k) es i → IsChangeable eq k old
  changeable_in_place es old k i e from at = subst (λ before. IsChangeable eq k before) from (λ w. changed_by_set es k w (found_some es k i e at))

  -- a push of a kind that was not there
  pub changed_by_push : (es old new : List (K × X)) (named k : K) (w : X) → es ≡ old → named ≡ k → new ≡ es ++ (named, w) ∷ [] → lookup (eq named) es ≡ None
      → ChangesKind eq k (Some w) old new
  changed_by_push es old new named k w from is pushed none =
      let at_end : new ≡ _ = pushed ∙ sym (insert_end es (named, w)) in
      changed_from eq es old new named k (Some w) from is (λ kind. ap (λ xs. lookup (eq kind) xs) at_end
      ∙ lookup-insert laws named w kind es (length es) (none_passes_from_lookup (eq named) es none))

  -- the entry of k is taken out
  pub changed_by_remove : (es old new : List (K × X)) (k : K) (i : ℕ) → es ≡ old → new ≡ remove es i → IsPlaceOf (eq k) es i → IsDistinct eq (keys_of es)
      → ChangesKind eq k None old new
  changed_by_remove es old new k i from removed at apart =
      changed_from eq es old new k k None from refl (λ kind. ap (λ xs. lookup (eq kind) xs) (removed ∙ at.removed)
      ∙ lookup-remove_entry laws (eq k) (laws.congr k) kind es apart)
