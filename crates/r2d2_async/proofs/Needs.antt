-- What a worker waits for that has nothing in work and nothing that is due.
use Rattle.std.proofs.Common.{◌≡◌, Option, Some, None, ◌⊎◌, inl, inr}
use Rattle.std.specs.Prelude.{IsSomeAnd}

rest : {S : Type 0} (sleep : Option S) (L : S → Type 0) (H here : Type 0) → sleep ≡ None → (here → H) → here ⊎ IsSomeAnd sleep L → H
rest None L H here none goes (inl h) = goes h
rest None L H here none goes (inr x) = absurd x
rest (Some y) L H here none goes w = absurd cc

pub covered : {O S : Type 0} (opening : Option O) (sleep : Option S) (N : O → Type 0) (L : S → Type 0) (H here : Type 0) → opening ≡ None → sleep ≡ None
    → (here → H) → IsSomeAnd opening N ⊎ ((opening ≡ None) × (here ⊎ IsSomeAnd sleep L)) → H
covered None sleep N L H here none due goes (inl x) = absurd x
covered None sleep N L H here none due goes (inr p) = rest sleep L H here due goes p.1
covered (Some y) sleep N L H here none due goes w = absurd cc
