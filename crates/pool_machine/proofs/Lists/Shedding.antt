-- Going through a ring from its front, where nothing is handed out.
use Rattle.std.proofs.Common.{◌≡◌, ℕ, ◌+◌, ◌<◌, ◌≤◌, Bool, true, false, not, List, [], ◌∷◌, ◌++◌, length, take, drop, Some, None, refl, arith}
use Rattle.std.specs.List.{filter, slice_get}
use Rattle.pool_machine.proofs.Lists.Turning.{Turned, Fronted, turned_closed, turned_kept, turned_there, turned_fits, turned_all, fronted_more}

module _ {X : Type 0} where
  -- after k of the entries xs: the others, and behind them those kept, are in the ring
  pub record Sifted (p : X → Bool) (xs : List X) (k : ℕ) (ring : List X) : Type 0 where
    pub ring_is : ring ≡ drop k xs ++ filter (λ e. not (p e)) (take k xs)

  abbrev same : X → X
  same x = x

  turned : (p : X → Bool) (xs : List X) (k : ℕ) (ring : List X) → Sifted p xs k ring → Turned p same same xs k ring (filter p (take k xs))
  turned p xs k ring h = record { ring_is = h.ring_is; out_is = refl }

  pub sifted_there : (p : X → Bool) (xs : List X) (k : ℕ) (ring : List X) → Sifted p xs k ring → k < length xs → slice_get ring 0 ≡ None → ⊥
  sifted_there p xs k ring h lt none = turned_there (turned p xs k ring h) lt none

  pub sifted_gone : (p : X → Bool) (xs : List X) (k : ℕ) (ring : List X) (e : X) → Sifted p xs k ring → k < length xs → slice_get ring 0 ≡ Some e → p e ≡ true
      → Sifted p xs (k + 1) (drop 1 ring)
  sifted_gone p xs k ring e h lt first is = let t = turned_closed e e (turned p xs k ring h) lt first is refl in record { ring_is = t.ring_is }

  pub sifted_kept : (p : X → Bool) (xs : List X) (k : ℕ) (ring : List X) (e : X) → Sifted p xs k ring → k < length xs → slice_get ring 0 ≡ Some e → p e ≡ false
      → Sifted p xs (k + 1) (drop 1 ring ++ e ∷ [])
  sifted_kept p xs k ring e h lt first isnt = let t = turned_kept e (turned p xs k ring h) lt first isnt in record { ring_is = t.ring_is }

  pub sifted_fits : (p : X → Bool) (xs : List X) (k : ℕ) (ring : List X) → Sifted p xs k ring → k ≤ length xs → length ring ≤ length xs
  sifted_fits p xs k ring h le = let f = turned_fits (turned p xs k ring h) le in omega (arith, f.1)

  pub sifted_all : (p : X → Bool) (xs : List X) (k : ℕ) (ring : List X) → Sifted p xs k ring → length xs ≤ k → ring ≡ filter (λ e. not (p e)) xs
  sifted_all p xs k ring h past = (turned_all (turned p xs k ring h) past).0

  -- the first k of the entries are gone
  abbrev pub IsFronted : (p : X → Bool) (xs : List X) (k : ℕ) (ring : List X) → Type 0
  IsFronted p xs k ring = Fronted p (λ (x : X). x) (λ (x : X). x) xs k ring (take k xs)

  pub fronted_gone : (p : X → Bool) (xs : List X) (k : ℕ) (ring : List X) (e : X) → IsFronted p xs k ring → k < length xs → slice_get ring 0 ≡ Some e
      → p e ≡ true → IsFronted p xs (k + 1) (drop 1 ring)
  fronted_gone p xs k ring e h lt first is = let t = fronted_more e e h lt first is refl in
      record { ring_is = t.ring_is; out_is = refl; closed = t.closed; kept = t.kept }

  pub some_there : (xs : List X) (x : X) → slice_get xs 0 ≡ Some x → 1 ≤ length xs
  some_there [] x e = absurd cc
  some_there (y ∷ ys) x e = omega arith
