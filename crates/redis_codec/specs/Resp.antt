-- RESP, in which Redis answers: parts, one after the other, each a line, and behind some lines a value.
use Rattle.std.specs.Prelude.{◌≡◌, ℕ, zero, suc, ◌+◌, ◌*◌, ◌-◌, Bool, nat_lt, nat_le, ◌==◌, ◌&&◌, ◌||◌, if◌then◌else◌, List, [], ◌∷◌, ◌++◌, length, take, drop, codes, bytes_eq, Option, None, Some, Result, Ok, Err}
use Rattle.redis_codec.specs.declared.item.Fault.{Fault}
use Rattle.redis_codec.specs.declared.item.Fault.TheVariants.{Malformed, TooMuch}
use Rattle.redis_codec.specs.declared.item.CodecError.{CodecError}
use Rattle.redis_codec.specs.declared.item.CodecError.TheVariants as error
use Rattle.redis_codec.specs.declared.item.Item.{Item}
use Rattle.redis_codec.specs.declared.item.Item.TheVariants as item

-- what a part says; a text has no carriage return in it
pub data Part : Type 0 where
  Word : (text : List ℕ) → Part
  Refusal : (text : List ℕ) → Part
  Number : (text : List ℕ) → Part
  Value : (bytes : List ℕ) → Part
  Nothing : Part
  -- a list: so many answers follow, which are its own
  Group : (count : ℕ) → Part

abbrev pub seen : Item → Part
seen (item.Word text) = Word text.items
seen (item.Refusal text) = Refusal text.items
seen (item.Number text) = Number text.items
seen (item.Value bytes) = Value bytes.items
seen item.Nothing = Nothing
seen (item.List count) = Group count

abbrev pub seen_all : List Item → List Part
seen_all [] = []
seen_all (i ∷ is) = seen i ∷ seen_all is

-- what is read at the front of bytes
pub data Read (X : Type 0) : Type 0 where
  -- it goes on in bytes that are still to come
  Short : Read X
  -- there is none, however the bytes go on
  Faulty : (why : Fault) → Read X
  Found : (it : X) → Read X

infixl 10 ◌>>=◌
abbrev pub ◌>>=◌ : {X Y : Type 0} → Read X → (X → Read Y) → Read Y
Short >>= f = Short
(Faulty why) >>= f = Faulty why
(Found it) >>= f = f it

-- what a function returned, seen by view, is what is read, unless memory ran out
abbrev pub Fails : {Y : Type 0} → CodecError → Read Y → Type 0
Fails error.Memory read = Unit {0}
Fails (error.Fault why) read = read ≡ Faulty why
Fails error.Unasked read = ⊥

abbrev pub Gives : {X Y : Type 0} → (X → Y) → Result (Option X) CodecError → Read Y → Type 0
Gives view (Ok None) read = read ≡ Short
Gives view (Ok (Some x)) read = read ≡ Found (view x)
Gives view (Err e) read = Fails e read

abbrev pub GivesNumber : Result ℕ CodecError → Read ℕ → Type 0
GivesNumber (Ok n) read = read ≡ Found n
GivesNumber (Err e) read = Fails e read

-- What was found is found again, as f makes it, and what is faulty stays so.
abbrev pub IsReadAgain : {X : Type 0} → (X → X) → Read X → Read X → Type 0
IsReadAgain f Short later = Unit {0}
IsReadAgain f (Faulty why) later = later ≡ Faulty why
IsReadAgain f (Found it) later = later ≡ Found (f it)

-- The same of what stands in front of a rest, where more follows that.
abbrev pub Lasts : {X : Type 0} → List ℕ → Read (X × List ℕ) → Read (X × List ℕ) → Type 0
Lasts more now later = IsReadAgain (λ it. (it.0, it.1 ++ more)) now later

-- LINES

-- the bytes after the end of a line or of a value
abbrev pub end_at : List ℕ → Read (List ℕ)
end_at [] = Short
end_at (a ∷ []) = if a == 13 then Short else Faulty Malformed
end_at (a ∷ b ∷ rest) = if (a == 13) && (b == 10) then Found rest else Faulty Malformed

-- how long a text is: it ends before the first carriage return, and has at most so many bytes
unfoldable pub text_len : ℕ → List ℕ → Read ℕ
text_len most [] = Short
text_len zero (b ∷ bytes) = if b == 13 then Found 0 else Faulty TooMuch
text_len (suc most) (b ∷ bytes) = if b == 13 then Found 0 else (text_len most bytes >>= λ n. Found (suc n))

-- a text, and what comes after its line
unfoldable pub line_at : ℕ → List ℕ → Read (List ℕ × List ℕ)
line_at most bytes = text_len most bytes >>= λ n. end_at (drop n bytes) >>= λ rest. Found (take n bytes, rest)

-- NUMBERS

abbrev pub is_digit : ℕ → Bool
is_digit b = nat_le 48 b && nat_le b 57

-- the number that digits write behind those of n: below ten to the 18th
unfoldable pub number_after : ℕ → List ℕ → Option ℕ
number_after n [] = Some n
number_after n (b ∷ text) = if is_digit b && nat_lt n 100_000_000_000_000_000 then number_after (n * 10 + (b - 48)) text else None

unfoldable pub number_in : List ℕ → Option ℕ
number_in [] = None
number_in (b ∷ text) = number_after 0 (b ∷ text)

-- a length, or a count
abbrev pub at_most : ℕ → Option ℕ → Read ℕ
at_most room None = Faulty Malformed
at_most room (Some n) = if nat_lt room n then Faulty TooMuch else Found n

unfoldable pub length_in : ℕ → List ℕ → Read ℕ
length_in room text = at_most room (number_in text)

-- PARTS, with at most so many bytes in a text or a value

-- what stands for a value or a list that there is none of
unfoldable pub is_null : List ℕ → Bool
is_null text = bytes_eq text (codes "-1")

unfoldable pub value_of : ℕ → List ℕ → Read (Part × List ℕ)
value_of n bytes = if nat_lt (length bytes) n then Short else (end_at (drop n bytes) >>= λ rest. Found (Value (take n bytes), rest))

unfoldable pub value_at : ℕ → List ℕ → List ℕ → Read (Part × List ℕ)
value_at room text bytes = if is_null text then Found (Nothing, bytes) else (length_in room text >>= λ n. value_of n bytes)

unfoldable pub group_at : ℕ → ℕ → List ℕ → List ℕ → Read (Part × List ℕ)
group_at times room text bytes = if is_null text then Found (Nothing, bytes) else (length_in room text >>= λ n. Found (Group (times * n), bytes))

-- a part by its kind: + - : are texts, $ a value, * and ~ lists, % one of pairs, _ nothing
unfoldable pub part_of : ℕ → ℕ → List ℕ → List ℕ → Read (Part × List ℕ)
part_of room kind text bytes =
    if kind == 43 then Found (Word text, bytes)
    else if kind == 45 then Found (Refusal text, bytes)
    else if kind == 58 then Found (Number text, bytes)
    else if kind == 36 then value_at room text bytes
    else if (kind == 42) || (kind == 126) then group_at 1 room text bytes
    else if kind == 37 then group_at 2 room text bytes
    else if kind == 95 then Found (Nothing, bytes)
    else Faulty Malformed

-- how long the line of a part may be: one of a length or of nothing no longer than a number below ten to the 18th, any other as there is room
abbrev pub longest_line : ℕ → ℕ → ℕ
longest_line room kind = if (kind == 36) || (kind == 37) || (kind == 42) || (kind == 95) || (kind == 126) then 18 else room

unfoldable pub part_at : ℕ → List ℕ → Read (Part × List ℕ)
part_at room [] = Short
part_at room (kind ∷ bytes) = line_at (longest_line room kind) bytes >>= λ line. part_of room kind line.0 line.1
