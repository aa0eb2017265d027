-- What is read of bytes is read of those bytes and more, and what comes after it is the rest of them.
use Rattle.std.proofs.Common.{◌≡◌, ℕ, zero, suc, ◌+◌, ◌*◌, ◌-◌, ◌<◌, ◌≤◌, Bool, true, false, cond, ◌&&◌, List, [], ◌∷◌, ◌++◌, length, take, drop, Option, None, Some, Ok, refl, sym, ap, subst, ◌∙◌, append_assoc, arith, get_or}
use Rattle.std.specs.Prelude.{nat_lt, ◌==◌, ◌||◌, unwrap_or}
use Rattle.std.proofs.lemmas.Bool.{ltb-false, le-ltb, eq-eqb, eqb-true, ne_eqb}
use Rattle.memchr.specs.Find.{IsFirstByte, is_byte}
use Rattle.std.proofs.lemmas.List.{take-append-drop, take-append-le, drop-append-le, length-append, drop_at}
use Rattle.redis_codec.specs.declared.item.Fault.TheVariants.{Malformed, TooMuch}
use Rattle.redis_codec.specs.Resp.{Value, Nothing, Group, Read, Short, Faulty, Found, ◌>>=◌, IsReadAgain, Gives, end_at, text_len, line_at, is_null, length_in, value_of, value_at, group_at, part_of, longest_line, part_at}
use Rattle.redis_codec.specs.Answers.{Ends}

-- READ AGAIN

pub again_same : {X : Type 0} (r : Read X) → IsReadAgain (λ x. x) r r
again_same Short = tt
again_same (Faulty why) = refl
again_same (Found x) = refl

pub again_then : {X Y : Type 0} (f : X → X) (g : Y → Y) (r s : Read X) (k l : X → Read Y) → IsReadAgain f r s →
    ((x : X) → r ≡ Found x → IsReadAgain g (k x) (l (f x))) → IsReadAgain g (r >>= k) (s >>= l)
again_then f g Short s k l e h = tt
again_then {X} f g (Faulty why) s k l e h = ap (λ (z : Read X). z >>= l) e
again_then {X} f g (Found x) s k l e h = subst (λ (z : Read X). IsReadAgain g (k x) (z >>= l)) (sym e) (h x refl)

pub again_cond : {X : Type 0} (f : X → X) (b : Bool) (r s r' s' : Read X) → IsReadAgain f r r' → IsReadAgain f s s' → IsReadAgain f (cond b r s) (cond b r' s')
again_cond f true r s r' s' p q = p
again_cond f false r s r' s' p q = q

abbrev longer : List ℕ → List ℕ → List ℕ
longer more rest = rest ++ more

abbrev pub behind : {X : Type 0} → List ℕ → X × List ℕ → X × List ℕ
behind more it = (it.0, it.1 ++ more)

one_byte : (t u : Bool) (rest : List ℕ) (more : List ℕ) → IsReadAgain (longer more) (cond t Short (Faulty Malformed)) (cond (t && u) (Found rest) (Faulty Malformed))
one_byte true u rest more = tt
one_byte false u rest more = refl

no_byte : (t : Bool) (more : List ℕ) → IsReadAgain (longer more) (cond t Short (Faulty Malformed)) (cond t Short (Faulty Malformed))
no_byte true more = tt
no_byte false more = refl

pub end_at-again : (bytes more : List ℕ) → IsReadAgain (longer more) (end_at bytes) (end_at (bytes ++ more))
end_at-again [] more = tt
end_at-again (a ∷ []) [] = no_byte (a == 13) []
end_at-again (a ∷ []) (b ∷ more) = one_byte (a == 13) (b == 10) more (b ∷ more)
end_at-again (a ∷ b ∷ rest) more = again_cond (longer more) ((a == 13) && (b == 10)) (Found rest) (Faulty Malformed) (Found (rest ++ more)) (Faulty Malformed) refl refl

pub text_len-again : (most : ℕ) (bytes more : List ℕ) → IsReadAgain (λ n. n) (text_len most bytes) (text_len most (bytes ++ more))
unfolding text_len
text_len-again most [] more = tt
text_len-again zero (b ∷ bytes) more = again_same (cond (b == 13) (Found 0) (Faulty TooMuch))
text_len-again (suc most) (b ∷ bytes) more =
    again_cond (λ n. n) (b == 13) (Found 0) (text_len most bytes >>= λ n. Found (suc n)) (Found 0) (text_len most (bytes ++ more) >>= λ n. Found (suc n)) refl
    (again_then (λ n. n) (λ n. n) (text_len most bytes) (text_len most (bytes ++ more)) (λ n. Found (suc n)) (λ n. Found (suc n)) (text_len-again most bytes more) (λ n e. refl))

-- FOUND

abbrev pub IfFound : {X : Type 0} → (X → Type 0) → Read X → Type 0
IfFound P Short = Unit {0}
IfFound P (Faulty why) = Unit {0}
IfFound P (Found x) = P x

pub found_at : {X : Type 0} (P : X → Type 0) (r : Read X) (x : X) → r ≡ Found x → IfFound P r → P x
found_at {X} P r x e h = subst (λ (z : Read X). IfFound P z) e h

pub found_then : {X Y : Type 0} (P : X → Type 0) (Q : Y → Type 0) (r : Read X) (k : X → Read Y) → IfFound P r → ((x : X) → P x → IfFound Q (k x)) → IfFound Q (r >>= k)
found_then P Q Short k h step = tt
found_then P Q (Faulty why) k h step = tt
found_then P Q (Found x) k h step = step x h

pub found_cond : {X : Type 0} (P : X → Type 0) (b : Bool) (r s : Read X) → IfFound P r → IfFound P s → IfFound P (cond b r s)
found_cond P true r s p q = p
found_cond P false r s p q = q

any : {X : Type 0} (r : Read X) → IfFound (λ x. Unit {0}) r
any Short = tt
any (Faulty why) = tt
any (Found x) = tt

pub text_len-within : (most : ℕ) (bytes : List ℕ) → IfFound (λ n. n ≤ length bytes) (text_len most bytes)
unfolding text_len
text_len-within most [] = tt
text_len-within zero (b ∷ bytes) = found_cond (λ n. n ≤ length (b ∷ bytes)) (b == 13) (Found 0) (Faulty TooMuch) (omega arith) tt
text_len-within (suc most) (b ∷ bytes) =
    found_cond (λ n. n ≤ length (b ∷ bytes)) (b == 13) (Found 0) (text_len most bytes >>= λ n. Found (suc n)) (omega arith)
    (found_then (λ n. n ≤ length bytes) (λ n. n ≤ length (b ∷ bytes)) (text_len most bytes) (λ n. Found (suc n)) (text_len-within most bytes) (λ n h. omega arith))

-- LINES AND VALUES AGAIN

cut_again : (n : ℕ) (bytes more : List ℕ) → n ≤ length bytes →
    IsReadAgain (behind more) (end_at (drop n bytes) >>= λ rest. Found (take n bytes, rest)) (end_at (drop n (bytes ++ more)) >>= λ rest. Found (take n (bytes ++ more), rest))
cut_again n bytes more h =
    rw (drop-append-le n bytes more h, take-append-le n bytes more h)
    (again_then (longer more) (behind more) (end_at (drop n bytes)) (end_at (drop n bytes ++ more)) (λ rest. Found (take n bytes, rest)) (λ rest. Found (take n bytes, rest)) (end_at-again (drop n bytes) more) (λ rest e. refl))

pub line_at-again : (most : ℕ) (bytes more : List ℕ) → IsReadAgain (behind more) (line_at most bytes) (line_at most (bytes ++ more))
unfolding line_at
line_at-again most bytes more =
    again_then (λ n. n) (behind more) (text_len most bytes) (text_len most (bytes ++ more)) (λ n. end_at (drop n bytes) >>= λ rest. Found (take n bytes, rest))
    (λ n. end_at (drop n (bytes ++ more)) >>= λ rest. Found (take n (bytes ++ more), rest)) (text_len-again most bytes more)
    (λ n e. cut_again n bytes more (found_at (λ (m : ℕ). m ≤ length bytes) (text_len most bytes) n e (text_len-within most bytes)))

value_by : (t : Bool) (n : ℕ) (bytes more : List ℕ) → nat_lt (length bytes) n ≡ t →
    IsReadAgain (behind more) (cond t Short (end_at (drop n bytes) >>= λ rest. Found (Value (take n bytes), rest))) (value_of n (bytes ++ more))
unfolding value_of
value_by true n bytes more e = tt
value_by false n bytes more e =
    let h : n ≤ length bytes = ltb-false (length bytes) n e in
    let long : nat_lt (length (bytes ++ more)) n ≡ false = le-ltb (length (bytes ++ more)) n (omega (arith, length-append bytes more)) in
    rw (long, drop-append-le n bytes more h, take-append-le n bytes more h)
    (again_then (longer more) (behind more) (end_at (drop n bytes)) (end_at (drop n bytes ++ more)) (λ rest. Found (Value (take n bytes), rest)) (λ rest. Found (Value (take n bytes), rest)) (end_at-again (drop n bytes) more) (λ rest e. refl))

pub value_of-again : (n : ℕ) (bytes more : List ℕ) → IsReadAgain (behind more) (value_of n bytes) (value_of n (bytes ++ more))
unfolding value_of
value_of-again n bytes more = value_by (nat_lt (length bytes) n) n bytes more refl

value_at-again : (room : ℕ) (text bytes more : List ℕ) → IsReadAgain (behind more) (value_at room text bytes) (value_at room text (bytes ++ more))
unfolding value_at
value_at-again room text bytes more =
    again_cond (behind more) (is_null text) (Found (Nothing, bytes)) (length_in room text >>= λ n. value_of n bytes) (Found (Nothing, bytes ++ more)) (length_in room text >>= λ n. value_of n (bytes ++ more)) refl
    (again_then (λ n. n) (behind more) (length_in room text) (length_in room text) (λ n. value_of n bytes) (λ n. value_of n (bytes ++ more)) (again_same (length_in room text)) (λ n e. value_of-again n bytes more))

group_at-again : (times room : ℕ) (text bytes more : List ℕ) → IsReadAgain (behind more) (group_at times room text bytes) (group_at times room text (bytes ++ more))
unfolding group_at
group_at-again times room text bytes more =
    again_cond (behind more) (is_null text) (Found (Nothing, bytes)) (length_in room text >>= λ n. Found (Group (times * n), bytes)) (Found (Nothing, bytes ++ more)) (length_in room text >>= λ n. Found (Group (times * n), bytes ++ more)) refl
    (again_then (λ n. n) (behind more) (length_in room text) (length_in room text) (λ n. Found (Group (times * n), bytes)) (λ n. Found (Group (times * n), bytes ++ more)) (again_same (length_in room text)) (λ n e. refl))

part_of-again : (room kind : ℕ) (text bytes more : List ℕ) → IsReadAgain (behind more) (part_of room kind text bytes) (part_of room kind text (bytes ++ more))
unfolding part_of
part_of-again room kind text bytes more =
    again_cond (behind more) (kind == 43) _ _ _ _ refl
    (again_cond (behind more) (kind == 45) _ _ _ _ refl
    (again_cond (behind more) (kind == 58) _ _ _ _ refl
    (again_cond (behind more) (kind == 36) _ _ _ _ (value_at-again room text bytes more)
    (again_cond (behind more) ((kind == 42) || (kind == 126)) _ _ _ _ (group_at-again 1 room text bytes more)
    (again_cond (behind more) (kind == 37) _ _ _ _ (group_at-again 2 room text bytes more)
    (again_cond (behind more) (kind == 95) _ _ _ _ refl refl))))))

pub part_at-again : (room : ℕ) (bytes more : List ℕ) → IsReadAgain (behind more) (part_at room bytes) (part_at room (bytes ++ more))
unfolding part_at
part_at-again room [] more = tt
part_at-again room (kind ∷ bytes) more =
    again_then (behind more) (behind more) (line_at (longest_line room kind) bytes) (line_at (longest_line room kind) (bytes ++ more)) (λ line. part_of room kind line.0 line.1) (λ line. part_of room kind line.0 line.1)
    (line_at-again (longest_line room kind) bytes more) (λ line e. part_of-again room kind line.0 line.1 more)

-- THE REST

pub ends_same : (bytes : List ℕ) → Ends bytes bytes
ends_same bytes = ([], refl)

pub ends_drop : (n : ℕ) (rest bytes : List ℕ) → Ends rest (drop n bytes) → Ends rest bytes
ends_drop n rest bytes h =
    (take n bytes ++ h.0, sym (take-append-drop n bytes) ∙ ap (λ (z : List ℕ). take n bytes ++ z) h.1 ∙ sym (append_assoc (take n bytes) h.0 rest))

ends_cons : (b : ℕ) (rest bytes : List ℕ) → Ends rest bytes → Ends rest (b ∷ bytes)
ends_cons b rest bytes h = (b ∷ h.0, ap (λ (z : List ℕ). b ∷ z) h.1)

pub ends_then : (a b c : List ℕ) → Ends a b → Ends b c → Ends a c
ends_then a b c p q = (q.0 ++ p.0, q.1 ∙ ap (λ (z : List ℕ). q.0 ++ z) p.1 ∙ sym (append_assoc q.0 p.0 a))

end_at-ends : (bytes : List ℕ) → IfFound (λ rest. Ends rest bytes) (end_at bytes)
end_at-ends [] = tt
end_at-ends (a ∷ []) = found_cond (λ rest. Ends rest (a ∷ [])) (a == 13) Short (Faulty Malformed) tt tt
end_at-ends (a ∷ b ∷ rest) = found_cond (λ rest'. Ends rest' (a ∷ b ∷ rest)) ((a == 13) && (b == 10)) (Found rest) (Faulty Malformed) (a ∷ b ∷ [], refl) tt

abbrev AtEnd : {X : Type 0} → List ℕ → X × List ℕ → Type 0
AtEnd bytes it = Ends it.1 bytes

line_at-ends : (most : ℕ) (bytes : List ℕ) → IfFound (AtEnd bytes) (line_at most bytes)
unfolding line_at
line_at-ends most bytes =
    found_then (λ n. Unit {0}) (AtEnd bytes) (text_len most bytes) (λ n. end_at (drop n bytes) >>= λ rest. Found (take n bytes, rest)) (any (text_len most bytes))
    (λ n u. found_then (λ rest. Ends rest (drop n bytes)) (AtEnd bytes) (end_at (drop n bytes)) (λ rest. Found (take n bytes, rest)) (end_at-ends (drop n bytes)) (λ rest h. ends_drop n rest bytes h))

value_of-ends : (n : ℕ) (bytes : List ℕ) → IfFound (AtEnd bytes) (value_of n bytes)
unfolding value_of
value_of-ends n bytes =
    found_cond (AtEnd bytes) (nat_lt (length bytes) n) Short (end_at (drop n bytes) >>= λ rest. Found (Value (take n bytes), rest)) tt
    (found_then (λ rest. Ends rest (drop n bytes)) (AtEnd bytes) (end_at (drop n bytes)) (λ rest. Found (Value (take n bytes), rest)) (end_at-ends (drop n bytes)) (λ rest h. ends_drop n rest bytes h))

value_at-ends : (room : ℕ) (text bytes : List ℕ) → IfFound (AtEnd bytes) (value_at room text bytes)
unfolding value_at
value_at-ends room text bytes =
    found_cond (AtEnd bytes) (is_null text) (Found (Nothing, bytes)) (length_in room text >>= λ n. value_of n bytes) (ends_same bytes)
    (found_then (λ n. Unit {0}) (AtEnd bytes) (length_in room text) (λ n. value_of n bytes) (any (length_in room text)) (λ n u. value_of-ends n bytes))

group_at-ends : (times room : ℕ) (text bytes : List ℕ) → IfFound (AtEnd bytes) (group_at times room text bytes)
unfolding group_at
group_at-ends times room text bytes =
    found_cond (AtEnd bytes) (is_null text) (Found (Nothing, bytes)) (length_in room text >>= λ n. Found (Group (times * n), bytes)) (ends_same bytes)
    (found_then (λ n. Unit {0}) (AtEnd bytes) (length_in room text) (λ n. Found (Group (times * n), bytes)) (any (length_in room text)) (λ n u. ends_same bytes))

part_of-ends : (room kind : ℕ) (text bytes : List ℕ) → IfFound (AtEnd bytes) (part_of room kind text bytes)
unfolding part_of
part_of-ends room kind text bytes =
    found_cond (AtEnd bytes) (kind == 43) _ _ (ends_same bytes)
    (found_cond (AtEnd bytes) (kind == 45) _ _ (ends_same bytes)
    (found_cond (AtEnd bytes) (kind == 58) _ _ (ends_same bytes)
    (found_cond (AtEnd bytes) (kind == 36) _ _ (value_at-ends room text bytes)
    (found_cond (AtEnd bytes) ((kind == 42) || (kind == 126)) _ _ (group_at-ends 1 room text bytes)
    (found_cond (AtEnd bytes) (kind == 37) _ _ (group_at-ends 2 room text bytes)
    (found_cond (AtEnd bytes) (kind == 95) _ _ (ends_same bytes) tt))))))

further : {X : Type 0} (b : ℕ) (mid bytes : List ℕ) → Ends mid bytes → (r : Read (X × List ℕ)) → IfFound (AtEnd mid) r → IfFound (AtEnd (b ∷ bytes)) r
further b mid bytes h Short e = tt
further b mid bytes h (Faulty why) e = tt
further b mid bytes h (Found it) e = ends_cons b it.1 bytes (ends_then it.1 mid bytes e h)

pub part_at-ends : (room : ℕ) (bytes : List ℕ) → IfFound (λ it. Ends it.1 bytes) (part_at room bytes)
unfolding part_at
part_at-ends room [] = tt
part_at-ends room (kind ∷ bytes) =
    found_then (AtEnd bytes) (AtEnd (kind ∷ bytes)) (line_at (longest_line room kind) bytes) (λ line. part_of room kind line.0 line.1) (line_at-ends (longest_line room kind) bytes)
    (λ line h. further kind line.1 bytes h (part_of room kind line.0 line.1) (part_of-ends room kind line.0 line.1))

-- where the rest begins
pub at_rest : (rest bytes : List ℕ) → Ends rest bytes → drop (length bytes - length rest) bytes ≡ rest
at_rest rest bytes h =
    let len : length bytes ≡ length h.0 + length rest = ap length h.1 ∙ length-append h.0 rest in
    let front : length bytes - length rest ≡ length h.0 = omega arith in
    rw front (ap (drop (length h.0)) h.1 ∙ drop_at h.0 rest (length h.0) refl)

pub rest_within : (rest bytes : List ℕ) → Ends rest bytes → length rest ≤ length bytes
rest_within rest bytes h = let len : length bytes ≡ length h.0 + length rest = ap length h.1 ∙ length-append h.0 rest in omega arith

-- THE END OF A TEXT

pub text_len-none : (most : ℕ) (bytes : List ℕ) → ((j : ℕ) → j < length bytes → get_or bytes j 0 ≡ 13 → ⊥) → length bytes ≤ most → text_len most bytes ≡ Short
unfolding text_len
text_len-none most [] free h = refl
text_len-none zero (b ∷ bytes) free h = absurd (omega arith)
text_len-none (suc most) (b ∷ bytes) free h =
    let other : (b == 13) ≡ false = ne_eqb b 13 (free 0 (omega arith)) in
    rw (other, text_len-none most bytes (λ j lt e. free (suc j) (omega arith) e) (omega arith)) refl

pub text_len-long : (most : ℕ) (bytes : List ℕ) → ((j : ℕ) → j ≤ most → get_or bytes j 0 ≡ 13 → ⊥) → most < length bytes → text_len most bytes ≡ Faulty TooMuch
unfolding text_len
text_len-long most [] free h = absurd (omega arith)
text_len-long zero (b ∷ bytes) free h = let other : (b == 13) ≡ false = ne_eqb b 13 (free 0 (omega arith)) in rw other refl
text_len-long (suc most) (b ∷ bytes) free h =
    let other : (b == 13) ≡ false = ne_eqb b 13 (free 0 (omega arith)) in
    rw (other, text_len-long most bytes (λ j le e. free (suc j) (omega arith) e) (omega arith)) refl

pub text_len-found : (most : ℕ) (bytes : List ℕ) (k : ℕ) → k ≤ most → k < length bytes → get_or bytes k 0 ≡ 13 → ((j : ℕ) → j < k → get_or bytes j 0 ≡ 13 → ⊥) → text_len most bytes ≡ Found k
unfolding text_len
text_len-found most [] k le lt is free = absurd (omega arith)
text_len-found zero (b ∷ bytes) zero le lt is free = let one : (b == 13) ≡ true = eq-eqb b 13 is in rw one refl
text_len-found zero (b ∷ bytes) (suc k) le lt is free = absurd (omega arith)
text_len-found (suc most) (b ∷ bytes) zero le lt is free = let one : (b == 13) ≡ true = eq-eqb b 13 is in rw one refl
text_len-found (suc most) (b ∷ bytes) (suc k) le lt is free =
    let other : (b == 13) ≡ false = ne_eqb b 13 (free 0 (omega arith)) in
    rw (other, text_len-found most bytes k (omega arith) (omega arith) is (λ j l e. free (suc j) (omega arith) e)) refl

pub text_len-far : (most : ℕ) (bytes : List ℕ) (found : Option ℕ) → IsFirstByte (is_byte 13) bytes found → most < unwrap_or found (length bytes) → text_len most bytes ≡ Faulty TooMuch
text_len-far most bytes None h lt = text_len-long most bytes (λ j le e. h j (omega arith) (omega arith) (eq-eqb (get_or bytes j 0) 13 e)) lt
text_len-far most bytes (Some k) h lt =
    let high : k < length bytes = h.0.high in
    text_len-long most bytes (λ j le e. h.0.before j (omega arith) (omega arith) (eq-eqb (get_or bytes j 0) 13 e)) (omega arith)

pub text_len-near : (most : ℕ) (bytes : List ℕ) (found : Option ℕ) → IsFirstByte (is_byte 13) bytes found → unwrap_or found (length bytes) ≤ most → Gives (λ n. n) (Ok found) (text_len most bytes)
text_len-near most bytes None h le = text_len-none most bytes (λ j lt e. h j (omega arith) lt (eq-eqb (get_or bytes j 0) 13 e)) le
text_len-near most bytes (Some k) h le =
    text_len-found most bytes k le h.0.high (eqb-true (get_or bytes k 0) 13 h.1) (λ j lt e. h.0.before j (omega arith) lt (eq-eqb (get_or bytes j 0) 13 e))

-- WHAT A FUNCTION GAVE

pub gives_none : {X Y : Type 0} (view : X → Y) (o : Option X) (read : Read Y) → Gives view (Ok o) read → o ≡ None → read ≡ Short
gives_none {X} {Y} view o read g e = subst (λ (z : Option X). Gives view (Ok z) read) e g

pub gives_some : {X Y : Type 0} (view : X → Y) (o : Option X) (x : X) (read : Read Y) → Gives view (Ok o) read → o ≡ Some x → read ≡ Found (view x)
gives_some {X} {Y} view o x read g e = subst (λ (z : Option X). Gives view (Ok z) read) e g
