-- While an answer is not whole, no more bytes of it are there than the limits allow.
use Rattle.std.proofs.Common.{◌≡◌, ℕ, zero, suc, ◌+◌, ◌*◌, ◌-◌, ◌≤◌, Bool, true, false, cond, List, [], ◌∷◌, length, take, drop, Option, None, Some, refl, sym, subst, arith}
use Rattle.std.specs.Prelude.{nat_lt, ◌==◌, ◌&&◌, ◌||◌}
use Rattle.std.proofs.lemmas.Bool.{ltb-false, ltb-true}
use Rattle.std.proofs.lemmas.List.{length-drop, length-take-le}
use Rattle.redis_codec.specs.declared.item.Fault.TheVariants.{Malformed, TooMuch}
use Rattle.redis_codec.specs.declared.decoder.Limits.{Limits}
use Rattle.redis_codec.specs.Resp.{Part, Value, Nothing, Group, Read, Short, Faulty, Found, ◌>>=◌, end_at, text_len, line_at, is_null, number_in, at_most, length_in, value_of, value_at, group_at, part_of, longest_line, part_at}
use Rattle.redis_codec.specs.Answers.{weight, count_of, Reading, is_too_deep, with_part, step, if_lacking, whole, begin, answer_at, most_kept}

-- what holds where a reading goes on later, and what holds of what it finds
abbrev On : {X : Type 0} → Type 0 → (X → Type 0) → Read X → Type 0
On P Q Short = P
On P Q (Faulty why) = Unit {0}
On P Q (Found x) = Q x

on_then : {X Y : Type 0} (P : Type 0) (Q : X → Type 0) (R : Type 0) (S : Y → Type 0) (r : Read X) (k : X → Read Y) → On P Q r → (P → R) → ((x : X) → Q x → On R S (k x)) → On R S (r >>= k)
on_then P Q R S Short k h f g = f h
on_then P Q R S (Faulty why) k h f g = tt
on_then P Q R S (Found x) k h f g = g x h

on_if : {X : Type 0} (P : Type 0) (Q : X → Type 0) (b : Bool) (r s : Read X) → (b ≡ true → On P Q r) → (b ≡ false → On P Q s) → On P Q (cond b r s)
on_if P Q true r s p q = p refl
on_if P Q false r s p q = q refl

on_lacking : {X : Type 0} (P : Type 0) (Q : X → Type 0) (lacking : List ℕ) (r s : Read X) → On P Q r → On P Q s → On P Q (if_lacking lacking r s)
on_lacking P Q [] r s p q = p
on_lacking P Q (n ∷ lacking) r s p q = q

on_short : {X : Type 0} (P : Type 0) (Q : X → Type 0) (r : Read X) → r ≡ Short → On P Q r → P
on_short {X} P Q r e h = subst (λ (z : Read X). On P Q z) e h

-- LINES AND VALUES

end_at-takes : (bytes : List ℕ) → On (length bytes ≤ 1) (λ rest. length bytes ≡ 2 + length rest) (end_at bytes)
end_at-takes [] = omega arith
end_at-takes (a ∷ []) = on_if _ _ (a == 13) Short (Faulty Malformed) (λ t. omega arith) (λ f. tt)
end_at-takes (a ∷ b ∷ rest) = on_if _ _ ((a == 13) && (b == 10)) (Found rest) (Faulty Malformed) (λ t. omega arith) (λ f. tt)

record Text (most : ℕ) (bytes : List ℕ) (n : ℕ) : Type 0 where
  short : n ≤ most
  there : n ≤ length bytes

text_len-takes : (most : ℕ) (bytes : List ℕ) → On (length bytes ≤ most) (Text most bytes) (text_len most bytes)
unfolding text_len
text_len-takes most [] = omega arith
text_len-takes zero (b ∷ bytes) = on_if _ (Text zero (b ∷ bytes)) (b == 13) (Found 0) (Faulty TooMuch) (λ t. record { short = omega arith; there = omega arith }) (λ f. tt)
text_len-takes (suc most) (b ∷ bytes) =
    on_if (length (b ∷ bytes) ≤ suc most) (Text (suc most) (b ∷ bytes)) (b == 13) (Found 0) (text_len most bytes >>= λ n. Found (suc n)) (λ t. record { short = omega arith; there = omega arith })
    (λ f. on_then (length bytes ≤ most) (Text most bytes) (length (b ∷ bytes) ≤ suc most) (Text (suc most) (b ∷ bytes)) (text_len most bytes) (λ n. Found (suc n)) (text_len-takes most bytes)
    (λ h. omega arith) (λ n h. record { short = (let s = h.short in omega arith); there = (let t = h.there in omega arith) }))

cut_by : (n : ℕ) (bytes : List ℕ) (r : Read (List ℕ)) → n ≤ length bytes → On (length (drop n bytes) ≤ 1) (λ rest. length (drop n bytes) ≡ 2 + length rest) r →
    On (length bytes ≤ n + 1) (λ rest. length bytes ≡ length (take n bytes) + 2 + length rest) r
cut_by n bytes Short h e = let d = length-drop n bytes in omega arith
cut_by n bytes (Faulty why) h e = tt
cut_by n bytes (Found rest) h e = let d = length-drop n bytes in let t = length-take-le n bytes h in omega arith

-- what a text or a value takes that is cut off in front
cut : (n : ℕ) (bytes : List ℕ) → n ≤ length bytes → On (length bytes ≤ n + 1) (λ rest. length bytes ≡ length (take n bytes) + 2 + length rest) (end_at (drop n bytes))
cut n bytes h = cut_by n bytes (end_at (drop n bytes)) h (end_at-takes (drop n bytes))

record Line (most : ℕ) (bytes : List ℕ) (line : List ℕ × List ℕ) : Type 0 where
  short : length line.0 ≤ most
  all : length bytes ≡ length line.0 + 2 + length line.1

line_at-takes : (most : ℕ) (bytes : List ℕ) → On (length bytes ≤ most + 1) (Line most bytes) (line_at most bytes)
unfolding line_at
line_at-takes most bytes =
    on_then (length bytes ≤ most) (Text most bytes) (length bytes ≤ most + 1) (Line most bytes) (text_len most bytes) (λ n. end_at (drop n bytes) >>= λ rest. Found (take n bytes, rest)) (text_len-takes most bytes) (λ h. omega arith)
    (λ n h. on_then (length bytes ≤ n + 1) (λ rest. length bytes ≡ length (take n bytes) + 2 + length rest) (length bytes ≤ most + 1) (Line most bytes) (end_at (drop n bytes)) (λ rest. Found (take n bytes, rest)) (cut n bytes h.there)
    (λ l. let s = h.short in omega arith) (λ rest e. record { short = (let s = h.short in let t = length-take-le n bytes h.there in omega arith); all = e }))

value_of-takes : (n : ℕ) (bytes : List ℕ) → On (length bytes ≤ n + 1) (λ it. length bytes ≤ weight it.0 + 2 + length it.1) (value_of n bytes)
unfolding value_of
value_of-takes n bytes =
    on_if (length bytes ≤ n + 1) (λ it. length bytes ≤ weight it.0 + 2 + length it.1) (nat_lt (length bytes) n) Short (end_at (drop n bytes) >>= λ rest. Found (Value (take n bytes), rest))
    (λ t. let l : suc (length bytes) ≤ n = ltb-true (length bytes) n t in omega arith)
    (λ f. on_then (length bytes ≤ n + 1) (λ rest. length bytes ≡ length (take n bytes) + 2 + length rest) (length bytes ≤ n + 1) (λ it. length bytes ≤ weight it.0 + 2 + length it.1) (end_at (drop n bytes)) (λ rest. Found (Value (take n bytes), rest))
    (cut n bytes (ltb-false (length bytes) n f)) (λ h. h) (λ rest e. omega arith))

at_most-within : (room : ℕ) (number : Option ℕ) → On ⊥ (λ n. n ≤ room) (at_most room number)
at_most-within room None = tt
at_most-within room (Some n) = on_if ⊥ (λ m. m ≤ room) (nat_lt room n) (Faulty TooMuch) (Found n) (λ t. tt) (λ f. ltb-false room n f)

length_in-within : (room : ℕ) (text : List ℕ) → On ⊥ (λ n. n ≤ room) (length_in room text)
unfolding length_in
length_in-within room text = at_most-within room (number_in text)

-- PARTS

-- what a part takes beside its line
abbrev Taken : List ℕ → Part × List ℕ → Type 0
Taken bytes it = length bytes ≤ weight it.0 + 2 + length it.1

nearer : (n room : ℕ) (bytes : List ℕ) → n ≤ room → (r : Read (Part × List ℕ)) → On (length bytes ≤ n + 1) (Taken bytes) r → On (length bytes ≤ room + 1) (Taken bytes) r
nearer n room bytes h Short e = omega arith
nearer n room bytes h (Faulty why) e = tt
nearer n room bytes h (Found it) e = e

value_at-takes : (room : ℕ) (text bytes : List ℕ) → On (length bytes ≤ room + 1) (Taken bytes) (value_at room text bytes)
unfolding value_at
value_at-takes room text bytes =
    on_if (length bytes ≤ room + 1) (Taken bytes) (is_null text) (Found (Nothing, bytes)) (length_in room text >>= λ n. value_of n bytes) (λ t. omega arith)
    (λ f. on_then ⊥ (λ n. n ≤ room) (length bytes ≤ room + 1) (Taken bytes) (length_in room text) (λ n. value_of n bytes) (length_in-within room text) (λ h. absurd h)
    (λ n h. nearer n room bytes h (value_of n bytes) (value_of-takes n bytes)))

group_at-takes : (P : Type 0) (times room : ℕ) (text bytes : List ℕ) → On P (Taken bytes) (group_at times room text bytes)
unfolding group_at
group_at-takes P times room text bytes =
    on_if P (Taken bytes) (is_null text) (Found (Nothing, bytes)) (length_in room text >>= λ n. Found (Group (times * n), bytes)) (λ t. omega arith)
    (λ f. on_then ⊥ (λ n. n ≤ room) P (Taken bytes) (length_in room text) (λ n. Found (Group (times * n), bytes)) (length_in-within room text) (λ h. absurd h) (λ n h. omega arith))

-- with a line that may be as long as its kind allows
record Unread (room : ℕ) (text bytes : List ℕ) : Type 0 where
  line : length text ≤ 18
  value : length bytes ≤ room + 1

abbrev Whole : List ℕ → List ℕ → Part × List ℕ → Type 0
Whole text bytes it = length text + length bytes ≤ weight it.0 + 20 + length it.1

lined : (room : ℕ) (text bytes : List ℕ) → length text ≤ 18 → (r : Read (Part × List ℕ)) → On (length bytes ≤ room + 1) (Taken bytes) r → On (Unread room text bytes) (Whole text bytes) r
lined room text bytes h Short e = record { line = h; value = e }
lined room text bytes h (Faulty why) e = tt
lined room text bytes h (Found it) e = omega arith

is_short : (room n : ℕ) (b : Bool) → b ≡ true → n ≤ cond b 18 room → n ≤ 18
is_short room n true e h = h
is_short room n false e h = absurd cc

is_no_longer : (room n : ℕ) (b : Bool) → n ≤ cond b 18 room → n ≤ room + 18
is_no_longer room n true h = omega arith
is_no_longer room n false h = omega arith

first : (a b c d e : Bool) → a ≡ true → (a || b || c || d || e) ≡ true
first true b c d e h = refl
first false b c d e h = absurd cc

second : (a b c d e : Bool) → b ≡ true → (a || b || c || d || e) ≡ true
second true b c d e h = refl
second false true c d e h = refl
second false false c d e h = absurd cc

third : (a b c d e : Bool) → (c || e) ≡ true → (a || b || c || d || e) ≡ true
third true b c d e h = refl
third false true c d e h = refl
third false false true d e h = refl
third false false false true e h = refl
third false false false false e h = h

fourth : (a b c d e : Bool) → d ≡ true → (a || b || c || d || e) ≡ true
fourth true b c d e h = refl
fourth false true c d e h = refl
fourth false false true d e h = refl
fourth false false false true e h = refl
fourth false false false false e h = absurd cc

part_of-takes : (room kind : ℕ) (text bytes : List ℕ) → length text ≤ longest_line room kind → On (Unread room text bytes) (Whole text bytes) (part_of room kind text bytes)
unfolding part_of
part_of-takes room kind text bytes h =
    let five : Bool = (kind == 36) || (kind == 37) || (kind == 42) || (kind == 95) || (kind == 126) in
    let P : Type 0 = Unread room text bytes in
    let Q : Part × List ℕ → Type 0 = Whole text bytes in
    on_if P Q (kind == 43) _ _ (λ t. omega arith)
    (λ f. on_if P Q (kind == 45) _ _ (λ t. omega arith)
    (λ f. on_if P Q (kind == 58) _ _ (λ t. omega arith)
    (λ f. on_if P Q (kind == 36) _ _ (λ t. lined room text bytes (is_short room (length text) five (first (kind == 36) (kind == 37) (kind == 42) (kind == 95) (kind == 126) t) h) (value_at room text bytes) (value_at-takes room text bytes))
    (λ f. on_if P Q ((kind == 42) || (kind == 126)) _ _ (λ t. lined room text bytes (is_short room (length text) five (third (kind == 36) (kind == 37) (kind == 42) (kind == 95) (kind == 126) t) h) (group_at 1 room text bytes) (group_at-takes (length bytes ≤ room + 1) 1 room text bytes))
    (λ f. on_if P Q (kind == 37) _ _ (λ t. lined room text bytes (is_short room (length text) five (second (kind == 36) (kind == 37) (kind == 42) (kind == 95) (kind == 126) t) h) (group_at 2 room text bytes) (group_at-takes (length bytes ≤ room + 1) 2 room text bytes))
    (λ f. on_if P Q (kind == 95) _ _ (λ t. let s = is_short room (length text) five (fourth (kind == 36) (kind == 37) (kind == 42) (kind == 95) (kind == 126) t) h in omega arith) (λ f. tt)))))))

behind : (kind room : ℕ) (bytes : List ℕ) (line : List ℕ × List ℕ) → Line (longest_line room kind) bytes line → (r : Read (Part × List ℕ)) → On (Unread room line.0 line.1) (Whole line.0 line.1) r →
    On (length (kind ∷ bytes) ≤ room + 22) (λ it. length (kind ∷ bytes) ≤ weight it.0 + 23 + length it.1) r
behind kind room bytes line h Short e = let a = h.all in let l = e.line in let v = e.value in omega arith
behind kind room bytes line h (Faulty why) e = tt
behind kind room bytes line h (Found it) e = let a = h.all in omega arith

part_at-takes : (room : ℕ) (bytes : List ℕ) → On (length bytes ≤ room + 22) (λ it. length bytes ≤ weight it.0 + 23 + length it.1) (part_at room bytes)
unfolding part_at
part_at-takes room [] = omega arith
part_at-takes room (kind ∷ bytes) =
    let most : ℕ = longest_line room kind in
    on_then (length bytes ≤ most + 1) (Line most bytes) (length (kind ∷ bytes) ≤ room + 22) (λ it. length (kind ∷ bytes) ≤ weight it.0 + 23 + length it.1) (line_at most bytes) (λ line. part_of room kind line.0 line.1) (line_at-takes most bytes)
    (λ h. let m : most ≤ room + 18 = is_no_longer room most ((kind == 36) || (kind == 37) || (kind == 42) || (kind == 95) || (kind == 126)) (omega arith) in omega arith)
    (λ line h. behind kind room bytes line h (part_of room kind line.0 line.1) (part_of-takes room kind line.0 line.1 h.short))

-- ANSWERS

abbrev Stepped : Reading → Reading → Type 0
Stepped r s = length r.rest + s.room ≤ r.room + 23 + length s.rest

with_part-takes : (P : Type 0) (depth : ℕ) (r : Reading) (it : Part × List ℕ) → length r.rest ≤ weight it.0 + 23 + length it.1 → On P (Stepped r) (with_part depth r it)
unfolding with_part
with_part-takes P depth r it h =
    on_if P (Stepped r) (nat_lt r.room (weight it.0)) _ _ (λ t. tt)
    (λ light. on_if P (Stepped r) (is_too_deep depth (length r.lacking) (count_of it.0)) _ _ (λ t. tt)
    (λ f. let fits : weight it.0 ≤ r.room = ltb-false r.room (weight it.0) light in omega arith))

step-takes : (depth : ℕ) (r : Reading) → On (length r.rest ≤ r.room + 22) (Stepped r) (step depth r)
unfolding step
step-takes depth r =
    on_then (length r.rest ≤ r.room + 22) (λ it. length r.rest ≤ weight it.0 + 23 + length it.1) (length r.rest ≤ r.room + 22) (Stepped r) (part_at r.room r.rest) (with_part depth r) (part_at-takes r.room r.rest) (λ h. h)
    (λ it h. with_part-takes (length r.rest ≤ r.room + 22) depth r it h)

later : (left : ℕ) (r s : Reading) → Stepped r s → (w : Read (List Part × List ℕ)) → On (length s.rest ≤ s.room + 23 * left) (λ it. Unit {0}) w → On (length r.rest ≤ r.room + 23 * suc left) (λ it. Unit {0}) w
later left r s g Short e = omega arith
later left r s g (Faulty why) e = tt
later left r s g (Found it) e = tt

whole-takes : (depth left : ℕ) (r : Reading) → On (length r.rest ≤ r.room + 23 * left) (λ it. Unit {0}) (whole depth left r)
unfolding whole
whole-takes depth zero r = on_lacking _ (λ it. Unit {0}) r.lacking (Found (r.parts, r.rest)) (Faulty TooMuch) tt tt
whole-takes depth (suc left) r =
    on_lacking (length r.rest ≤ r.room + 23 * suc left) (λ it. Unit {0}) r.lacking (Found (r.parts, r.rest)) (step depth r >>= whole depth left) tt
    (on_then (length r.rest ≤ r.room + 22) (Stepped r) (length r.rest ≤ r.room + 23 * suc left) (λ it. Unit {0}) (step depth r) (whole depth left) (step-takes depth r) (λ h. omega arith)
    (λ s g. later left r s g (whole depth left s) (whole-takes depth left s)))

pub answer_at-kept : (limits : Limits) (bytes : List ℕ) → answer_at limits bytes ≡ Short → length bytes ≤ most_kept limits
unfolding answer_at
answer_at-kept limits bytes e =
    on_short (length bytes ≤ limits.bytes + 23 * limits.parts) (λ (it : List Part × List ℕ). Unit {0}) (whole limits.depth limits.parts (begin limits bytes)) e (whole-takes limits.depth limits.parts (begin limits bytes))
