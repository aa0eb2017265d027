-- While a message is not whole, fewer bytes of it are there than room is left for; and no message has more of them, and values, than that.
use Rattle.std.proofs.Common.{◌≡◌, ℕ, zero, suc, ◌+◌, ◌*◌, ◌-◌, ◌≤◌, ◌<◌, max, Bool, true, false, cond, List, [], ◌∷◌, ◌++◌, length, take, drop, Option, refl, subst, arith, length-append}
use Rattle.std.specs.Prelude.{nat_lt, ◌==◌, ◌||◌, bytes_eq, codes}
use Rattle.std.proofs.lemmas.Bool.{ltb-false, ltb-true}
use Rattle.std.proofs.lemmas.List.{length-drop, length-take-le}
use Rattle.postgres_codec.specs.Frames.{Read, Short, Faulty, Found, ◌>>=◌, Frame, number2, number4, body_at, frame_at}
use Rattle.postgres_codec.specs.Messages.{Said, Row, bytes_at, value_at, values_after, row_of, line_of, complete_of, ready_of, login_of, message_of, message_at}
use Rattle.postgres_codec.specs.Talks.{count_in}

-- what holds where bytes go on later, and what holds of what is found
abbrev On : {X : Type 0} → Type 0 → (X → Type 0) → Read X → Type 0
On P Q Short = P
On P Q (Faulty why) = Unit {0}
On P Q (Found x) = Q x

on_then : {X Y : Type 0} (P : Type 0) (Q : X → Type 0) (S : Y → Type 0) (r : Read X) (k : X → Read Y) → On P Q r → ((x : X) → Q x → On P S (k x)) → On P S (r >>= k)
on_then P Q S Short k h g = h
on_then P Q S (Faulty why) k h g = tt
on_then P Q S (Found x) k h g = g x h

on_if : {X : Type 0} (P : Type 0) (Q : X → Type 0) (b : Bool) (r s : Read X) → (b ≡ true → On P Q r) → (b ≡ false → On P Q s) → On P Q (cond b r s)
on_if P Q true r s p q = p refl
on_if P Q false r s p q = q refl

-- VALUES: none is waited for, and a row has as many as it says

abbrev Any : {X : Type 0} → X → Type 0
Any x = Unit {0}

bytes_at-whole : (P : Type 0) (n : ℕ) (bytes : List ℕ) → On P Any (bytes_at n bytes)
unfolding bytes_at
bytes_at-whole P n bytes = on_if P Any (n == 4_294_967_295) _ _ (λ t. tt) (λ f. on_if P Any (nat_lt (length bytes) n) _ _ (λ t. tt) (λ f. tt))

value_at-whole : (P : Type 0) (bytes : List ℕ) → On P Any (value_at bytes)
unfolding value_at
value_at-whole P [] = tt
value_at-whole P (a ∷ []) = tt
value_at-whole P (a ∷ b ∷ []) = tt
value_at-whole P (a ∷ b ∷ c ∷ []) = tt
value_at-whole P (a ∷ b ∷ c ∷ d ∷ bytes) = bytes_at-whole P (number4 a b c d) bytes

abbrev Has : ℕ → List (Option (List ℕ)) → Type 0
Has n values = length values ≡ n

values_after-has : (P : Type 0) (values : List (Option (List ℕ))) (n : ℕ) (bytes : List ℕ) → On P (Has (length values + n)) (values_after values n bytes)
unfolding values_after
values_after-has P values zero [] = omega arith
values_after-has P values zero (b ∷ bytes) = tt
values_after-has P values (suc n) bytes =
    on_then P Any (Has (length values + suc n)) (value_at bytes) (λ v. values_after (values ++ v.0 ∷ []) n v.1) (value_at-whole P bytes)
    (λ v h. subst (λ (m : ℕ). On P (Has m) (values_after (values ++ v.0 ∷ []) n v.1)) (omega (arith, length-append values (v.0 ∷ []))) (values_after-has P (values ++ v.0 ∷ []) n v.1))

-- so many fit into what room is left for
abbrev Fits : ℕ → List (Option (List ℕ)) → Type 0
Fits room values = 32 * length values ≤ room

few : (P : Type 0) (room n : ℕ) (r : Read (List (Option (List ℕ)))) → 32 * n ≤ room → On P (Has n) r → On P (Fits room) r
few P room n Short h p = p
few P room n (Faulty why) h p = tt
few P room n (Found values) h p = omega (arith, p)

row_of-fits : (P : Type 0) (room : ℕ) (body : List ℕ) → On P (Fits room) (row_of room body)
unfolding row_of
row_of-fits P room [] = tt
row_of-fits P room (a ∷ []) = tt
row_of-fits P room (a ∷ b ∷ bytes) =
    on_if P (Fits room) (nat_lt room (32 * number2 a b)) _ _ (λ t. tt)
    (λ f. few P room (number2 a b) (values_after [] (number2 a b) bytes) (ltb-false room (32 * number2 a b) f) (subst (λ (m : ℕ). On P (Has m) (values_after [] (number2 a b) bytes)) (omega arith) (values_after-has P [] (number2 a b) bytes)))

line_of-fits : (P : Type 0) (room : ℕ) (body : List ℕ) → On P (Fits room) (line_of room body)
unfolding line_of
line_of-fits P room body = on_if P (Fits room) (nat_lt room 32) _ _ (λ t. tt) (λ f. let h : 32 ≤ room = ltb-false room 32 f in omega arith)

-- MESSAGES

abbrev SaidFits : ℕ → Said → Type 0
SaidFits room said = 32 * count_in said ≤ room

row-fits : (P : Type 0) (room : ℕ) (r : Read (List (Option (List ℕ)))) → On P (Fits room) r → On P (SaidFits room) (r >>= λ values. Found (Row values))
row-fits P room r h = on_then P (Fits room) (SaidFits room) r (λ values. Found (Row values)) h (λ values fits. fits)

ready_of-fits : (P : Type 0) (room : ℕ) (body : List ℕ) → On P (SaidFits room) (ready_of body)
unfolding ready_of
ready_of-fits P room body =
    on_if P (SaidFits room) (bytes_eq body (codes "I")) _ _ (λ t. omega arith)
    (λ f. on_if P (SaidFits room) (bytes_eq body (codes "T")) _ _ (λ t. omega arith) (λ f. on_if P (SaidFits room) (bytes_eq body (codes "E")) _ _ (λ t. omega arith) (λ f. tt)))

complete_of-fits : (P : Type 0) (room : ℕ) (body : List ℕ) → On P (SaidFits room) (complete_of body)
unfolding complete_of
complete_of-fits P room body = on_if P (SaidFits room) (bytes_eq (drop (length body - 1) body) (0 ∷ [])) _ _ (λ t. omega arith) (λ f. tt)

login_of-fits : (P : Type 0) (room : ℕ) (body : List ℕ) → On P (SaidFits room) (login_of body)
unfolding login_of
login_of-fits P room [] = tt
login_of-fits P room (a ∷ []) = tt
login_of-fits P room (a ∷ b ∷ []) = tt
login_of-fits P room (a ∷ b ∷ c ∷ []) = tt
login_of-fits P room (a ∷ b ∷ c ∷ d ∷ text) = omega arith

message_of-fits : (P : Type 0) (room kind : ℕ) (body : List ℕ) → On P (SaidFits room) (message_of room kind body)
unfolding message_of
message_of-fits P room kind body =
    on_if P (SaidFits room) (kind == 90) _ _ (λ t. ready_of-fits P room body)
    (λ f. on_if P (SaidFits room) (kind == 68) _ _ (λ t. row-fits P room (row_of room body) (row_of-fits P room body))
    (λ f. on_if P (SaidFits room) (kind == 100) _ _ (λ t. row-fits P room (line_of room body) (line_of-fits P room body))
    (λ f. on_if P (SaidFits room) (kind == 67) _ _ (λ t. complete_of-fits P room body)
    (λ f. on_if P (SaidFits room) (kind == 69) _ _ (λ t. omega arith)
    (λ f. on_if P (SaidFits room) (kind == 82) _ _ (λ t. login_of-fits P room body)
    (λ f. on_if P (SaidFits room) (kind == 75) _ _ (λ t. omega arith)
    (λ f. on_if P (SaidFits room) (kind == 83) _ _ (λ t. omega arith)
    (λ f. on_if P (SaidFits room) (kind == 65) _ _ (λ t. omega arith)
    (λ f. on_if P (SaidFits room) (kind == 78) _ _ (λ t. omega arith)
    (λ f. on_if P (SaidFits room) ((kind == 84) || (kind == 73) || (kind == 49) || (kind == 50) || (kind == 51) || (kind == 72) || (kind == 99)) _ _ (λ t. omega arith) (λ f. tt)))))))))))

-- FRAMES

-- a frame, and what is behind it, are all the bytes, and it is within what room is left for
record FrameFits (room : ℕ) (bytes : List ℕ) (it : Frame × List ℕ) : Type 0 where
  all : length bytes ≡ 5 + length it.0.body + length it.1
  short : 5 + length it.0.body ≤ room

cut_by : (room kind n k a b c d : ℕ) (bytes : List ℕ) → 4 ≤ n → n + 1 ≤ room → n - 4 ≤ length bytes →
    FrameFits room (k ∷ a ∷ b ∷ c ∷ d ∷ bytes) (record { kind = kind; body = take (n - 4) bytes }, drop (n - 4) bytes)
cut_by room kind n k a b c d bytes four short there =
    let t = length-take-le (n - 4) bytes there in let e = length-drop (n - 4) bytes in record { all = omega arith; short = omega arith }

frame_at-fits : (room : ℕ) (bytes : List ℕ) → On (length bytes < max room 5) (FrameFits room bytes) (frame_at room bytes)
unfolding frame_at body_at
frame_at-fits room [] = omega arith
frame_at-fits room (k ∷ []) = omega arith
frame_at-fits room (k ∷ a ∷ []) = omega arith
frame_at-fits room (k ∷ a ∷ b ∷ []) = omega arith
frame_at-fits room (k ∷ a ∷ b ∷ c ∷ []) = omega arith
frame_at-fits room (k ∷ a ∷ b ∷ c ∷ d ∷ bytes) =
    let n = number4 a b c d in let P = length (k ∷ a ∷ b ∷ c ∷ d ∷ bytes) < max room 5 in let Q = FrameFits room (k ∷ a ∷ b ∷ c ∷ d ∷ bytes) in
    on_if P Q (nat_lt n 4) _ _ (λ t. tt)
    (λ four. on_if P Q (nat_lt room (n + 1)) _ _ (λ t. tt)
    (λ short. on_if P Q (nat_lt (length bytes) (n - 4)) _ _
    (λ t. let s : suc (length bytes) ≤ n - 4 = ltb-true (length bytes) (n - 4) t in let h : n + 1 ≤ room = ltb-false room (n + 1) short in omega arith)
    (λ f. cut_by room k n k a b c d bytes (ltb-false n 4 four) (ltb-false room (n + 1) short) (ltb-false (length bytes) (n - 4) f))))

-- THE MESSAGE

-- its bytes, and 32 for each value
abbrev pub IsWithin : ℕ → List ℕ → Said × List ℕ → Type 0
IsWithin room bytes it = length bytes - length it.1 + 32 * count_in it.0 ≤ room

said-within : (room : ℕ) (bytes : List ℕ) (it : Frame × List ℕ) (r : Read Said) → FrameFits room bytes it → On (length bytes < max room 5) (SaidFits (room - (5 + length it.0.body))) r →
    On (length bytes < max room 5) (IsWithin room bytes) (r >>= λ said. Found (said, it.1))
said-within room bytes it Short fits h = h
said-within room bytes it (Faulty why) fits h = tt
said-within room bytes it (Found said) fits h = let a = fits.all in let s = fits.short in omega (arith, h)

message_at-on : (room : ℕ) (bytes : List ℕ) → On (length bytes < max room 5) (IsWithin room bytes) (message_at room bytes)
unfolding message_at
message_at-on room bytes =
    on_then (length bytes < max room 5) (FrameFits room bytes) (IsWithin room bytes) (frame_at room bytes) (λ it. message_of (room - (5 + length it.0.body)) it.0.kind it.0.body >>= λ said. Found (said, it.1))
    (frame_at-fits room bytes)
    (λ it fits. said-within room bytes it (message_of (room - (5 + length it.0.body)) it.0.kind it.0.body) fits
    (message_of-fits (length bytes < max room 5) (room - (5 + length it.0.body)) it.0.kind it.0.body))

pub message_at-kept : (room : ℕ) (bytes : List ℕ) → message_at room bytes ≡ Short → length bytes < max room 5
message_at-kept room bytes e = subst (λ (z : Read (Said × List ℕ)). On (length bytes < max room 5) (IsWithin room bytes) z) e (message_at-on room bytes)

pub message_at-within : (room : ℕ) (bytes : List ℕ) (said : Said) (rest : List ℕ) → message_at room bytes ≡ Found (said, rest) → IsWithin room bytes (said, rest)
message_at-within room bytes said rest e = subst (λ (z : Read (Said × List ℕ)). On (length bytes < max room 5) (IsWithin room bytes) z) e (message_at-on room bytes)
