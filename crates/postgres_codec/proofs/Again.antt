-- What is read of bytes is read of those bytes and more, and what comes after it is the rest of them.
use Rattle.std.proofs.Common.{◌≡◌, ℕ, suc, ◌+◌, ◌-◌, ◌≤◌, Bool, true, false, cond, List, [], ◌∷◌, ◌++◌, length, take, drop, Option, None, Some, Ok, refl, sym, ap, subst, ◌∙◌, arith, length-append}
use Rattle.std.specs.Global.{Vec}
use Rattle.std.specs.Prelude.{nat_lt}
use Rattle.std.proofs.lemmas.Bool.{ltb-false, le-ltb}
use Rattle.std.proofs.lemmas.List.{take-append-drop, take-append-le, drop-append-le}
use Rattle.postgres_codec.specs.declared.error.Fault.TheVariants.{Malformed, TooMuch}
use Rattle.postgres_codec.specs.Frames.{Read, Short, Faulty, Found, ◌>>=◌, Lasts, Gives, Frame, number4, body_at, frame_at}
use Rattle.postgres_codec.specs.Messages.{Said, Ready, Row, Complete, Refusal, Login, Key, Setting, Notification, Notice, Passed, seen_values, message_of, message_at}
use Rattle.postgres_codec.specs.Talks.{Talk, told}

pub seen_values-length : (values : List (Option (Vec ℕ))) → length (seen_values values) ≡ length values
seen_values-length [] = refl
seen_values-length (v ∷ values) = ap suc (seen_values-length values)

pub gives_some : {X Y : Type 0} (view : X → Y) (found : Option X) (x : X) (read : Read Y) → Gives view (Ok found) read → found ≡ Some x → read ≡ Found (view x)
gives_some {X} view found x read h e = subst (λ (o : Option X). Gives view (Ok o) read) e h

pub gives_none : {X Y : Type 0} (view : X → Y) (found : Option X) (read : Read Y) → Gives view (Ok found) read → found ≡ None → read ≡ Short
gives_none {X} view found read h e = subst (λ (o : Option X). Gives view (Ok o) read) e h

-- READ AGAIN

lasts_same : {X : Type 0} (more : List ℕ) (b : Bool) (why : Read (X × List ℕ)) (r s : Read (X × List ℕ)) → Lasts more why why → Lasts more r s → Lasts more (cond b why r) (cond b why s)
lasts_same more true why r s p q = p
lasts_same more false why r s p q = q

lasts_then : {X Y : Type 0} (more : List ℕ) (r s : Read (X × List ℕ)) (k l : X × List ℕ → Read (Y × List ℕ)) → Lasts more r s →
    ((x : X × List ℕ) → Lasts more (k x) (l (x.0, x.1 ++ more))) → Lasts more (r >>= k) (s >>= l)
lasts_then more Short s k l e h = tt
lasts_then {X} {Y} more (Faulty why) s k l e h = ap (λ (z : Read (X × List ℕ)). z >>= l) e
lasts_then {X} {Y} more (Found x) s k l e h = subst (λ (z : Read (X × List ℕ)). Lasts more (k x) (z >>= l)) (sym e) (h x)

lasts_said : (more rest : List ℕ) (r : Read Said) → Lasts more (r >>= λ said. Found (said, rest)) (r >>= λ said. Found (said, rest ++ more))
lasts_said more rest Short = tt
lasts_said more rest (Faulty why) = refl
lasts_said more rest (Found said) = refl

cut_by : (t : Bool) (kind m : ℕ) (bytes more : List ℕ) → nat_lt (length bytes) m ≡ t →
    Lasts {X = Frame} more (cond t Short (Found (record { kind = kind; body = take m bytes }, drop m bytes)))
    (cond (nat_lt (length (bytes ++ more)) m) Short (Found (record { kind = kind; body = take m (bytes ++ more) }, drop m (bytes ++ more))))
cut_by true kind m bytes more e = tt
cut_by false kind m bytes more e =
    let h : m ≤ length bytes = ltb-false (length bytes) m e in
    let long : nat_lt (length (bytes ++ more)) m ≡ false = le-ltb (length (bytes ++ more)) m (omega (arith, length-append bytes more)) in
    rw (long, drop-append-le m bytes more h, take-append-le m bytes more h) refl

body_at-again : (room kind n : ℕ) (bytes more : List ℕ) → Lasts more (body_at room kind n bytes) (body_at room kind n (bytes ++ more))
unfolding body_at
body_at-again room kind n bytes more =
    lasts_same more (nat_lt n 4) (Faulty Malformed) _ _ refl
    (lasts_same more (nat_lt room (n + 1)) (Faulty TooMuch) _ _ refl (cut_by (nat_lt (length bytes) (n - 4)) kind (n - 4) bytes more refl))

frame_at-again : (room : ℕ) (bytes more : List ℕ) → Lasts more (frame_at room bytes) (frame_at room (bytes ++ more))
unfolding frame_at
frame_at-again room [] more = tt
frame_at-again room (k ∷ []) more = tt
frame_at-again room (k ∷ a ∷ []) more = tt
frame_at-again room (k ∷ a ∷ b ∷ []) more = tt
frame_at-again room (k ∷ a ∷ b ∷ c ∷ []) more = tt
frame_at-again room (k ∷ a ∷ b ∷ c ∷ d ∷ bytes) more = body_at-again room k (number4 a b c d) bytes more

pub message_at-again : (room : ℕ) (bytes more : List ℕ) → Lasts more (message_at room bytes) (message_at room (bytes ++ more))
unfolding message_at
message_at-again room bytes more =
    lasts_then more (frame_at room bytes) (frame_at room (bytes ++ more)) (λ it. message_of (room - (5 + length it.0.body)) it.0.kind it.0.body >>= λ said. Found (said, it.1))
    (λ it. message_of (room - (5 + length it.0.body)) it.0.kind it.0.body >>= λ said. Found (said, it.1)) (frame_at-again room bytes more)
    (λ it. lasts_said more it.1 (message_of (room - (5 + length it.0.body)) it.0.kind it.0.body))

-- THE REST

abbrev Ends : List ℕ → List ℕ → Type 0
Ends rest bytes = (front : List ℕ) × (bytes ≡ front ++ rest)

abbrev IfFound : {X : Type 0} → (X → Type 0) → Read X → Type 0
IfFound P Short = Unit {0}
IfFound P (Faulty why) = Unit {0}
IfFound P (Found x) = P x

found_at : {X : Type 0} (P : X → Type 0) (r : Read X) (x : X) → r ≡ Found x → IfFound P r → P x
found_at {X} P r x e h = subst (λ (z : Read X). IfFound P z) e h

found_then : {X Y : Type 0} (P : X → Type 0) (Q : Y → Type 0) (r : Read X) (k : X → Read Y) → IfFound P r → ((x : X) → P x → IfFound Q (k x)) → IfFound Q (r >>= k)
found_then P Q Short k h step = tt
found_then P Q (Faulty why) k h step = tt
found_then P Q (Found x) k h step = step x h

found_cond : {X : Type 0} (P : X → Type 0) (b : Bool) (r s : Read X) → IfFound P r → IfFound P s → IfFound P (cond b r s)
found_cond P true r s p q = p
found_cond P false r s p q = q

abbrev IsRest : List ℕ → Frame × List ℕ → Type 0
IsRest bytes it = Ends it.1 bytes

body_at-ends : (room kind n : ℕ) (bytes : List ℕ) → IfFound (IsRest bytes) (body_at room kind n bytes)
unfolding body_at
body_at-ends room kind n bytes =
    found_cond (IsRest bytes) (nat_lt n 4) (Faulty Malformed) _ tt
    (found_cond (IsRest bytes) (nat_lt room (n + 1)) (Faulty TooMuch) _ tt
    (found_cond (IsRest bytes) (nat_lt (length bytes) (n - 4)) Short _ tt (take (n - 4) bytes, sym (take-append-drop (n - 4) bytes))))

behind_head : (k a b c d : ℕ) (bytes : List ℕ) (r : Read (Frame × List ℕ)) → IfFound (IsRest bytes) r → IfFound (IsRest (k ∷ a ∷ b ∷ c ∷ d ∷ bytes)) r
behind_head k a b c d bytes Short h = tt
behind_head k a b c d bytes (Faulty why) h = tt
behind_head k a b c d bytes (Found it) h = (k ∷ a ∷ b ∷ c ∷ d ∷ h.0, ap (λ (z : List ℕ). k ∷ a ∷ b ∷ c ∷ d ∷ z) h.1)

frame_at-ends : (room : ℕ) (bytes : List ℕ) → IfFound (IsRest bytes) (frame_at room bytes)
unfolding frame_at
frame_at-ends room [] = tt
frame_at-ends room (k ∷ []) = tt
frame_at-ends room (k ∷ a ∷ []) = tt
frame_at-ends room (k ∷ a ∷ b ∷ []) = tt
frame_at-ends room (k ∷ a ∷ b ∷ c ∷ []) = tt
frame_at-ends room (k ∷ a ∷ b ∷ c ∷ d ∷ bytes) = behind_head k a b c d bytes (body_at room k (number4 a b c d) bytes) (body_at-ends room k (number4 a b c d) bytes)

abbrev IsBehind : List ℕ → Said × List ℕ → Type 0
IsBehind bytes it = Ends it.1 bytes

said_ends : (bytes rest : List ℕ) (r : Read Said) → Ends rest bytes → IfFound (IsBehind bytes) (r >>= λ said. Found (said, rest))
said_ends bytes rest Short h = tt
said_ends bytes rest (Faulty why) h = tt
said_ends bytes rest (Found said) h = h

message_at-ends : (room : ℕ) (bytes : List ℕ) → IfFound (IsBehind bytes) (message_at room bytes)
unfolding message_at
message_at-ends room bytes =
    found_then (IsRest bytes) (IsBehind bytes) (frame_at room bytes) (λ it. message_of (room - (5 + length it.0.body)) it.0.kind it.0.body >>= λ said. Found (said, it.1))
    (frame_at-ends room bytes) (λ it h. said_ends bytes it.1 (message_of (room - (5 + length it.0.body)) it.0.kind it.0.body) h)

drop_front : (front rest : List ℕ) → drop (length front) (front ++ rest) ≡ rest
drop_front [] rest = refl
drop_front (b ∷ front) rest = drop_front front rest

-- what is left of bytes
pub record IsLeft (rest bytes : List ℕ) : Type 0 where
  pub within : length rest ≤ length bytes
  pub dropped : drop (length bytes - length rest) bytes ≡ rest

left_of : (rest bytes : List ℕ) → Ends rest bytes → IsLeft rest bytes
left_of rest bytes h = record {
  within = omega (arith, ap (length {A = ℕ}) h.1, length-append h.0 rest);
  dropped =
      (let count : length bytes - length rest ≡ length h.0 = omega (arith, ap (length {A = ℕ}) h.1, length-append h.0 rest) in
      (λ i. drop (count i) (h.1 i)) ∙ drop_front h.0 rest);
}

pub message_left : (room : ℕ) (bytes : List ℕ) (said : Said) (rest : List ℕ) → message_at room bytes ≡ Found (said, rest) → IsLeft rest bytes
message_left room bytes said rest e = left_of rest bytes (found_at (IsBehind bytes) (message_at room bytes) (said, rest) e (message_at-ends room bytes))

pub told_bytes : (said : Said) (t : Talk) → (told said t).bytes ≡ t.bytes
told_bytes (Ready status) t = refl
told_bytes (Row values) t = refl
told_bytes (Complete done) t = refl
told_bytes (Refusal severity state text) t = refl
told_bytes (Login asked text) t = refl
told_bytes (Key key) t = refl
told_bytes Setting t = refl
told_bytes Notification t = refl
told_bytes Notice t = refl
told_bytes Passed t = refl
