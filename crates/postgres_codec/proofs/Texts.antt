-- Texts, byte by byte.
use Rattle.std.proofs.Common.{◌≡◌, ℕ, zero, suc, ◌+◌, ◌<◌, ◌≤◌, ◌⊎◌, inl, inr, Bool, true, false, cond, ◌&&◌, List, [], ◌∷◌, ◌++◌, length, take, drop, get_or, Option, refl, sym, ap, ◌∙◌, arith, add-one, drop-cons}
use Rattle.std.specs.Prelude.{nat_le, ◌==◌}
use Rattle.std.proofs.lemmas.Bool.{le-leb, lt-leb, and_from, and_left, and_right, eq-eqb}
use Rattle.postgres_codec.specs.Messages.{is_between, until, field_from, number_with, number_after}

abbrev pub IsOutside : ℕ → ℕ → ℕ → Type 0
IsOutside low high b = (b < low) ⊎ (high < b)

within : (low high b : ℕ) → low ≤ b → b ≤ high → is_between low high b ≡ true
within low high b l h = and_from (nat_le low b) (nat_le b high) (le-leb low b l) (le-leb b high h)

outside : (low high b : ℕ) → IsOutside low high b → is_between low high b ≡ false
outside low high b (inl l) = and_left (nat_le low b) (nat_le b high) (lt-leb low b l)
outside low high b (inr h) = and_right (nat_le low b) (nat_le b high) (lt-leb b high h)

drop_all : (bytes : List ℕ) → drop (length bytes) bytes ≡ []
drop_all [] = refl
drop_all (b ∷ bytes) = drop_all bytes

one_more : (i : ℕ) (bytes rest : List ℕ) → i < length bytes → take i bytes ++ get_or bytes i 0 ∷ rest ≡ take (suc i) bytes ++ rest
one_more i [] rest h = absurd (omega arith)
one_more zero (b ∷ bytes) rest h = refl
one_more (suc i) (b ∷ bytes) rest h = ap (λ (z : List ℕ). b ∷ z) (one_more i bytes rest (omega arith))

take_all : (bytes : List ℕ) → take (length bytes) bytes ++ [] ≡ bytes
take_all [] = refl
take_all (b ∷ bytes) = ap (λ (z : List ℕ). b ∷ z) (take_all bytes)

no_more : (bytes : List ℕ) → take (length bytes) bytes ≡ bytes
no_more [] = refl
no_more (b ∷ bytes) = ap (λ (z : List ℕ). b ∷ z) (no_more bytes)

append_none : (bytes : List ℕ) → bytes ++ [] ≡ bytes
append_none [] = refl
append_none (b ∷ bytes) = ap (λ (z : List ℕ). b ∷ z) (append_none bytes)

-- UNTIL

until_here : (low high b : ℕ) (bytes : List ℕ) → low ≤ b → b ≤ high → until low high (b ∷ bytes) ≡ []
unfolding until
until_here low high b bytes l h = ap (λ (t : Bool). cond t [] (b ∷ until low high bytes)) (within low high b l h)

until_later : (low high b : ℕ) (bytes : List ℕ) → IsOutside low high b → until low high (b ∷ bytes) ≡ b ∷ until low high bytes
unfolding until
until_later low high b bytes o = ap (λ (t : Bool). cond t [] (b ∷ until low high bytes)) (outside low high b o)

until_none : (low high : ℕ) → until low high [] ≡ []
unfolding until
until_none low high = refl

pub until_stops : (low high i : ℕ) (bytes : List ℕ) → i < length bytes → low ≤ get_or bytes i 0 → get_or bytes i 0 ≤ high → take i bytes ++ until low high (drop i bytes) ≡ take i bytes
until_stops low high i bytes lt l h =
    ap (λ (z : List ℕ). take i bytes ++ until low high z) (drop-cons bytes i 0 lt)
    ∙ ap (λ (z : List ℕ). take i bytes ++ z) (until_here low high (get_or bytes i 0) (drop (suc i) bytes) l h)
    ∙ append_none (take i bytes)

pub until_goes : (low high i : ℕ) (bytes : List ℕ) → i < length bytes → IsOutside low high (get_or bytes i 0) →
    take i bytes ++ until low high (drop i bytes) ≡ take (i + 1) bytes ++ until low high (drop (i + 1) bytes)
until_goes low high i bytes lt o =
    ap (λ (z : List ℕ). take i bytes ++ until low high z) (drop-cons bytes i 0 lt)
    ∙ ap (λ (z : List ℕ). take i bytes ++ z) (until_later low high (get_or bytes i 0) (drop (suc i) bytes) o)
    ∙ one_more i bytes (until low high (drop (suc i) bytes)) lt
    ∙ ap (λ (k : ℕ). take k bytes ++ until low high (drop k bytes)) (sym (add-one i))

pub until_ends : (low high i : ℕ) (bytes : List ℕ) → i ≡ length bytes → take i bytes ++ until low high (drop i bytes) ≡ bytes
until_ends low high i bytes e =
    ap (λ (k : ℕ). take k bytes ++ until low high (drop k bytes)) e
    ∙ ap (λ (z : List ℕ). take (length bytes) bytes ++ until low high z) (drop_all bytes)
    ∙ ap (λ (z : List ℕ). take (length bytes) bytes ++ z) (until_none low high)
    ∙ take_all bytes

-- FIELDS

field_step : (begins t : Bool) (letter b : ℕ) (bytes : List ℕ) → (begins && (b == letter)) ≡ t → field_from begins letter (b ∷ bytes) ≡ cond t (until 0 0 bytes) (field_from (b == 0) letter bytes)
unfolding field_from
field_step begins t letter b bytes e = ap (λ (u : Bool). cond u (until 0 0 bytes) (field_from (b == 0) letter bytes)) e

field_none : (begins : Bool) (letter : ℕ) → field_from begins letter [] ≡ []
unfolding field_from
field_none begins letter = refl

pub field_found : (begins : Bool) (letter i : ℕ) (bytes : List ℕ) → i < length bytes → begins ≡ true → get_or bytes i 0 ≡ letter →
    field_from begins letter (drop i bytes) ≡ until 0 0 (drop (i + 1) bytes)
field_found begins letter i bytes lt t e =
    ap (field_from begins letter) (drop-cons bytes i 0 lt)
    ∙ field_step begins true letter (get_or bytes i 0) (drop (suc i) bytes) (and_from begins (get_or bytes i 0 == letter) t (eq-eqb (get_or bytes i 0) letter e))
    ∙ ap (λ (k : ℕ). until 0 0 (drop k bytes)) (sym (add-one i))

pub field_goes : (begins : Bool) (letter i : ℕ) (bytes : List ℕ) → i < length bytes → (begins && (get_or bytes i 0 == letter)) ≡ false →
    field_from begins letter (drop i bytes) ≡ field_from (get_or bytes i 0 == 0) letter (drop (i + 1) bytes)
field_goes begins letter i bytes lt f =
    ap (field_from begins letter) (drop-cons bytes i 0 lt)
    ∙ field_step begins false letter (get_or bytes i 0) (drop (suc i) bytes) f
    ∙ ap (λ (k : ℕ). field_from (get_or bytes i 0 == 0) letter (drop k bytes)) (sym (add-one i))

pub field_ends : (begins : Bool) (letter i : ℕ) (bytes : List ℕ) → i ≡ length bytes → field_from begins letter (drop i bytes) ≡ []
field_ends begins letter i bytes e = ap (λ (k : ℕ). field_from begins letter (drop k bytes)) e ∙ ap (field_from begins letter) (drop_all bytes) ∙ field_none begins letter

-- NUMBERS

number_step : (n : Option ℕ) (b : ℕ) (text : List ℕ) → number_after n (b ∷ text) ≡ number_after (number_with n b) text
unfolding number_after
number_step n b text = refl

number_none : (n : Option ℕ) → number_after n [] ≡ n
unfolding number_after
number_none n = refl

pub number_goes : (n : Option ℕ) (i : ℕ) (text : List ℕ) → i < length text → number_after n (drop i text) ≡ number_after (number_with n (get_or text i 0)) (drop (i + 1) text)
number_goes n i text lt =
    ap (number_after n) (drop-cons text i 0 lt) ∙ number_step n (get_or text i 0) (drop (suc i) text)
    ∙ ap (λ (k : ℕ). number_after (number_with n (get_or text i 0)) (drop k text)) (sym (add-one i))

pub number_ends : (n : Option ℕ) (i : ℕ) (text : List ℕ) → i ≡ length text → number_after n (drop i text) ≡ n
number_ends n i text e = ap (λ (k : ℕ). number_after n (drop k text)) e ∙ ap (number_after n) (drop_all text) ∙ number_none n
