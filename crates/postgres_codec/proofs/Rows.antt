-- The values of a row, one by one.
use Rattle.std.proofs.Common.{◌≡◌, ℕ, zero, suc, ◌<◌, List, [], ◌∷◌, ◌++◌, length, Option, refl, ap, ◌∙◌, arith}
use Rattle.std.specs.Global.{Vec}
use Rattle.postgres_codec.specs.declared.error.CodecError.{CodecError}
use Rattle.postgres_codec.specs.declared.error.CodecError.TheVariants as error
use Rattle.postgres_codec.specs.declared.error.Fault.TheVariants.{Malformed}
use Rattle.postgres_codec.specs.Frames.{Read, Faulty, Found, ◌>>=◌, Fails}
use Rattle.postgres_codec.specs.Messages.{seen_value, seen_values, value_at, values_after}

pub seen_values-append : (xs : List (Option (Vec ℕ))) (v : Option (Vec ℕ)) → seen_values (xs ++ v ∷ []) ≡ seen_values xs ++ seen_value v ∷ []
seen_values-append [] v = refl
seen_values-append (x ∷ xs) v = ap (λ (z : List (Option (List ℕ))). seen_value x ∷ z) (seen_values-append xs v)

fails_then : {X Y : Type 0} (e : CodecError) (r : Read X) (k : X → Read Y) → Fails e r → Fails e (r >>= k)
fails_then error.Memory r k h = tt
fails_then {X} {Y} (error.Fault why) r k h = ap (λ (z : Read X). z >>= k) h
fails_then error.Unasked r k h = h

pub row_stops : (vs : List (Option (List ℕ))) (n : ℕ) (bytes : List ℕ) (e : CodecError) → 0 < n → Fails e (value_at bytes) → Fails e (values_after vs n bytes)
unfolding values_after
row_stops vs zero bytes e some h = absurd (omega arith)
row_stops vs (suc n) bytes e some h = fails_then e (value_at bytes) (λ v. values_after (vs ++ v.0 ∷ []) n v.1) h

pub row_goes : (vs : List (Option (List ℕ))) (n m : ℕ) (bytes : List ℕ) (v : Option (List ℕ)) (rest : List ℕ) → n ≡ suc m → value_at bytes ≡ Found (v, rest) →
    values_after vs n bytes ≡ values_after (vs ++ v ∷ []) m rest
unfolding values_after
row_goes vs n m bytes v rest some h =
    ap (λ (k : ℕ). values_after vs k bytes) some ∙ ap (λ (z : Read (Option (List ℕ) × List ℕ)). z >>= λ w. values_after (vs ++ w.0 ∷ []) m w.1) h

pub row_ends : (vs : List (Option (List ℕ))) (n : ℕ) (bytes : List ℕ) → n ≡ 0 → length bytes ≡ 0 → values_after vs n bytes ≡ Found vs
unfolding values_after
row_ends vs zero [] n e = refl
row_ends vs zero (b ∷ bytes) n e = absurd (omega arith)
row_ends vs (suc k) bytes n e = absurd (omega arith)

pub row_goes_on : (vs : List (Option (List ℕ))) (n : ℕ) (bytes : List ℕ) → n ≡ 0 → 0 < length bytes → values_after vs n bytes ≡ Faulty Malformed
unfolding values_after
row_goes_on vs zero [] n e = absurd (omega arith)
row_goes_on vs zero (b ∷ bytes) n e = refl
row_goes_on vs (suc k) bytes n e = absurd (omega arith)
