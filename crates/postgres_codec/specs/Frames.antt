-- What a server sends: messages, each a kind, the length of the rest with its own four bytes, and a body.
use Rattle.std.specs.Prelude.{◌≡◌, ℕ, ◌-◌, ◌+◌, nat_lt, if◌then◌else◌, List, [], ◌∷◌, ◌++◌, length, take, drop, Option, None, Some, Result, Ok, Err}
use Rattle.std.specs.Int.{w16, w32, from_be_bytes}
use Rattle.postgres_codec.specs.declared.error.Fault.{Fault}
use Rattle.postgres_codec.specs.declared.error.Fault.TheVariants.{Malformed, TooMuch}
use Rattle.postgres_codec.specs.declared.error.CodecError.{CodecError}
use Rattle.postgres_codec.specs.declared.error.CodecError.TheVariants as error

-- what is read at the front of bytes
pub data Read (X : Type 0) : Type 0 where
  -- it goes on in bytes that are still to come
  Short : Read X
  -- there is none, however the bytes go on
  Faulty : (why : Fault) → Read X
  Found : (it : X) → Read X

infixl 10 ◌>>=◌
abbrev pub ◌>>=◌ : {X Y : Type 0} → Read X → (X → Read Y) → Read Y
Short >>= f = Short
(Faulty why) >>= f = Faulty why
(Found it) >>= f = f it

-- what a function returned, seen by view, is what is read, unless memory ran out
abbrev pub Fails : {Y : Type 0} → CodecError → Read Y → Type 0
Fails error.Memory read = Unit {0}
Fails (error.Fault why) read = read ≡ Faulty why
Fails error.Unasked read = ⊥

abbrev pub Gives : {X Y : Type 0} → (X → Y) → Result (Option X) CodecError → Read Y → Type 0
Gives view (Ok None) read = read ≡ Short
Gives view (Ok (Some x)) read = read ≡ Found (view x)
Gives view (Err e) read = Fails e read

abbrev pub GivesWhole : {X Y : Type 0} → (X → Y) → Result X CodecError → Read Y → Type 0
GivesWhole view (Ok x) read = read ≡ Found (view x)
GivesWhole view (Err e) read = Fails e read

-- What was found is found again where more bytes follow, with those behind its rest, and what is faulty stays so.
abbrev pub Lasts : {X : Type 0} → List ℕ → Read (X × List ℕ) → Read (X × List ℕ) → Type 0
Lasts more Short later = Unit {0}
Lasts more (Faulty why) later = later ≡ Faulty why
Lasts more (Found it) later = later ≡ Found (it.0, it.1 ++ more)

-- NUMBERS, the greatest byte first

abbrev pub number2 : ℕ → ℕ → ℕ
number2 a b = from_be_bytes w16 (a ∷ b ∷ [])

abbrev pub number4 : ℕ → ℕ → ℕ → ℕ → ℕ
number4 a b c d = from_be_bytes w32 (a ∷ b ∷ c ∷ d ∷ [])

-- FRAMES

-- a kind and a body
pub record Frame : Type 0 where
  pub kind : ℕ
  pub body : List ℕ

-- the rest of a message whose length is n, where room is left for so many bytes of it and its kind
unfoldable pub body_at : ℕ → ℕ → ℕ → List ℕ → Read (Frame × List ℕ)
body_at room kind n bytes =
    if nat_lt n 4 then Faulty Malformed
    else if nat_lt room (n + 1) then Faulty TooMuch
    else if nat_lt (length bytes) (n - 4) then Short
    else Found (record { kind = kind; body = take (n - 4) bytes }, drop (n - 4) bytes)

-- THE MESSAGE at the front of bytes
unfoldable pub frame_at : ℕ → List ℕ → Read (Frame × List ℕ)
frame_at room (kind ∷ a ∷ b ∷ c ∷ d ∷ bytes) = body_at room kind (number4 a b c d) bytes
frame_at room _ = Short
