-- An answer is no larger than the limits allow, and the bytes after it are the rest of what came.
use Rattle.std.proofs.Common.{◌≡◌, ℕ, zero, suc, ◌+◌, ◌≤◌, Bool, true, false, cond, List, [], ◌∷◌, ◌++◌, length, refl, ◌∙◌, arith}
use Rattle.std.specs.Prelude.{nat_lt}
use Rattle.std.proofs.lemmas.Bool.{ltb-false}
use Rattle.std.proofs.lemmas.List.{length-append}
use Rattle.redis_codec.specs.declared.item.Fault.TheVariants.{TooMuch}
use Rattle.redis_codec.specs.declared.decoder.Limits.{Limits}
use Rattle.redis_codec.specs.Resp.{Part, Read, Short, Faulty, Found, ◌>>=◌, part_at}
use Rattle.redis_codec.specs.Answers.{weight, weights, count_of, Reading, is_too_deep, with_part, step, if_lacking, whole, begin, answer_at, Ends, IsWithin}
use Rattle.redis_codec.proofs.Again.{IfFound, found_then, found_at, part_at-ends, ends_same, ends_then}

found_if : {X : Type 0} (P : X → Type 0) (b : Bool) (r s : Read X) → (b ≡ true → IfFound P r) → (b ≡ false → IfFound P s) → IfFound P (cond b r s)
found_if P true r s p q = p refl
found_if P false r s p q = q refl

found_weaker : {X : Type 0} (P Q : X → Type 0) (r : Read X) → ((x : X) → P x → Q x) → IfFound P r → IfFound Q r
found_weaker P Q Short w h = tt
found_weaker P Q (Faulty why) w h = tt
found_weaker P Q (Found x) w h = w x h

found_lacking : {X : Type 0} (P : X → Type 0) (lacking : List ℕ) (r s : Read X) → IfFound P r → IfFound P s → IfFound P (if_lacking lacking r s)
found_lacking P [] r s p q = p
found_lacking P (n ∷ lacking) r s p q = q

weights-append : (xs : List Part) (p : Part) → weights (xs ++ p ∷ []) ≡ weights xs + weight p
weights-append [] p = omega arith
weights-append (x ∷ xs) p = let e = weights-append xs p in omega arith

plus_one : (n : ℕ) → n + 1 ≡ suc n
plus_one n = omega arith

-- a reading goes on from another
record Goes (r s : Reading) : Type 0 where
  weights : weights s.parts + s.room ≡ weights r.parts + r.room
  count : length s.parts ≡ suc (length r.parts)
  ends : Ends s.rest r.rest

with_part-goes : (depth : ℕ) (r : Reading) (p : Part × List ℕ) → Ends p.1 r.rest → IfFound (Goes r) (with_part depth r p)
unfolding with_part
with_part-goes depth r p e =
    found_if (Goes r) (nat_lt r.room (weight p.0)) _ _ (λ t. tt)
    (λ light. found_if (Goes r) (is_too_deep depth (length r.lacking) (count_of p.0)) _ _ (λ t. tt)
    (λ f.
    let fits : weight p.0 ≤ r.room = ltb-false r.room (weight p.0) light in
    record { weights = omega (arith, weights-append r.parts p.0); count = length-append r.parts (p.0 ∷ []) ∙ plus_one (length r.parts); ends = e }))

step-goes : (depth : ℕ) (r : Reading) → IfFound (Goes r) (step depth r)
unfolding step
step-goes depth r = found_then (λ p. Ends p.1 r.rest) (Goes r) (part_at r.room r.rest) (with_part depth r) (part_at-ends r.room r.rest) (λ p e. with_part-goes depth r p e)

-- what is found in the end
record Bounded (left : ℕ) (r : Reading) (it : List Part × List ℕ) : Type 0 where
  weights : weights it.0 ≤ weights r.parts + r.room
  count : length it.0 ≤ length r.parts + left
  ends : Ends it.1 r.rest

bounded_now : (left : ℕ) (r : Reading) → Bounded left r (r.parts, r.rest)
bounded_now left r = record { weights = omega arith; count = omega arith; ends = ends_same r.rest }

bounded_then : (left : ℕ) (r s : Reading) (it : List Part × List ℕ) → Goes r s → Bounded left s it → Bounded (suc left) r it
bounded_then left r s it g b = record {
  weights = let p = g.weights in let q = b.weights in omega arith;
  count = let p = g.count in let q = b.count in omega arith;
  ends = ends_then it.1 s.rest r.rest b.ends g.ends;
}

whole-bounded : (depth left : ℕ) (r : Reading) → IfFound (Bounded left r) (whole depth left r)
unfolding whole
whole-bounded depth zero r = found_lacking (Bounded 0 r) r.lacking (Found (r.parts, r.rest)) (Faulty TooMuch) (bounded_now 0 r) tt
whole-bounded depth (suc left) r =
    found_lacking (Bounded (suc left) r) r.lacking (Found (r.parts, r.rest)) (step depth r >>= whole depth left) (bounded_now (suc left) r)
    (found_then (Goes r) (Bounded (suc left) r) (step depth r) (whole depth left) (step-goes depth r)
    (λ s g. found_weaker (Bounded left s) (Bounded (suc left) r) (whole depth left s) (λ it b. bounded_then left r s it g b) (whole-bounded depth left s)))

pub answer_at-within : (limits : Limits) (bytes : List ℕ) (parts : List Part) (rest : List ℕ) → answer_at limits bytes ≡ Found (parts, rest) → IsWithin limits parts rest bytes
unfolding answer_at
answer_at-within limits bytes parts rest e =
    let b = found_at (Bounded limits.parts (begin limits bytes)) (whole limits.depth limits.parts (begin limits bytes)) (parts, rest) e (whole-bounded limits.depth limits.parts (begin limits bytes)) in
    record { size = let w = b.weights in omega arith; count = let n = b.count in omega arith; ends = b.ends }
