-- What a client sends. A value stands in it as it is, behind its length: it is never quoted.
use Rattle.std.specs.Prelude.{◌≡◌, ℕ, ◌+◌, Bool, true, nat_lt, ◌==◌, ◌||◌, if◌then◌else◌, List, [], ◌∷◌, ◌++◌, length, codes, Option, None, Some, Result, Ok, Err}
use Rattle.std.specs.List.{list_any}
use Rattle.std.specs.Int.{w16, w32, to_be_bytes}
use Rattle.std.specs.Borrow.{Bor}
use Rattle.std.specs.Global.{Vec}
use Rattle.postgres_codec.specs.declared.requests.RequestError.{RequestError}
use Rattle.postgres_codec.specs.declared.requests.RequestError.TheVariants.{Memory, ZeroByte, TooManyValues, TooMuch}

-- THE BYTES

-- a kind, the length of the rest with its own four bytes, and a body
abbrev pub message : ℕ → List ℕ → List ℕ
message kind body = kind ∷ to_be_bytes w32 (length body + 4) ++ body

-- a text that a zero ends
abbrev pub text : List ℕ → List ℕ
text bytes = bytes ++ 0 ∷ []

-- Q
abbrev pub query : List ℕ → List ℕ
query words = message 81 (text words)

-- a statement of a name, whose parameters have no types
abbrev pub parse_body : List ℕ → List ℕ → List ℕ
parse_body name words = text name ++ text words ++ 0 ∷ 0 ∷ []

-- a length of 255 each stands for NULL
abbrev pub value : Option (List ℕ) → List ℕ
value None = 255 ∷ 255 ∷ 255 ∷ 255 ∷ []
value (Some bytes) = to_be_bytes w32 (length bytes) ++ bytes

abbrev pub all_values : List (Option (List ℕ)) → List ℕ
all_values [] = []
all_values (v ∷ vs) = value v ++ all_values vs

-- no name of its own, that of the statement, and no formats, so that all is text; how many values, and those; and text is wanted
abbrev pub bind_body : List ℕ → List (Option (List ℕ)) → List ℕ
bind_body name values = text [] ++ text name ++ 0 ∷ 0 ∷ [] ++ to_be_bytes w16 (length values) ++ all_values values ++ 0 ∷ 0 ∷ []

-- no name, and all rows
abbrev pub execute_body : List ℕ
execute_body = 0 ∷ 0 ∷ 0 ∷ 0 ∷ 0 ∷ []

-- B, E and S, by the body of the first
abbrev pub bound : List ℕ → List ℕ
bound bind = message 66 bind ++ message 69 execute_body ++ message 83 []

-- P, B, E and S, by the bodies of the first two
abbrev pub statement : List ℕ → List ℕ → List ℕ
statement parse bind = message 80 parse ++ bound bind

-- S and the name of a statement, which is to be forgotten
abbrev pub close_body : List ℕ → List ℕ
close_body name = 83 ∷ text name

-- a name and its value
unfoldable pub setting : List ℕ → List ℕ → List ℕ
setting name value = text name ++ text value

-- version 3.0, and settings
abbrev pub start_body : List ℕ → List ℕ → List ℕ
start_body user database =
    to_be_bytes w32 196_608 ++ setting (codes "user") user ++ setting (codes "database") database ++ setting (codes "client_encoding") (codes "UTF8") ++ 0 ∷ []

-- what has no kind: the length of all, and a body
abbrev pub first_message : List ℕ → List ℕ
first_message body = to_be_bytes w32 (length body + 4) ++ body

-- what asks for the end of another connection's query
abbrev pub cancel_body : List ℕ → List ℕ
cancel_body key = to_be_bytes w32 80_877_102 ++ key

-- the first message of a login by SASL: its way, and its text
abbrev pub sasl_body : List ℕ → List ℕ → List ℕ
sasl_body way words = text way ++ to_be_bytes w32 (length words) ++ words

-- WHAT IS REFUSED

-- the longest body that a server takes
abbrev pub longest : ℕ
longest = 1_073_741_823

abbrev pub has_zero : List ℕ → Bool
has_zero bytes = list_any (λ b. b == 0) bytes

-- a request: its bytes, or why there are none
pub data Made : Type 0 where
  Bytes : (bytes : List ℕ) → Made
  Refused : (why : RequestError) → Made

-- what a function returned is what is made, unless memory ran out
abbrev pub Makes : Result (Vec ℕ) RequestError → Made → Type 0
Makes (Ok bytes) made = made ≡ Bytes bytes.items
Makes (Err Memory) made = Unit {0}
Makes (Err ZeroByte) made = made ≡ Refused ZeroByte
Makes (Err TooManyValues) made = made ≡ Refused TooManyValues
Makes (Err TooMuch) made = made ≡ Refused TooMuch

abbrev pub is_long : List ℕ → Bool
is_long body = nat_lt longest (length body)

-- why a body was refused that is long, or is not
abbrev pub IsWhy : RequestError → Bool → Type 0
IsWhy Memory long = Unit {0}
IsWhy ZeroByte long = ⊥
IsWhy TooManyValues long = ⊥
IsWhy TooMuch long = long ≡ true

unfoldable pub query_made : List ℕ → Made
query_made words = if has_zero words then Refused ZeroByte else if is_long (text words) then Refused TooMuch else Bytes (query words)

unfoldable pub statement_made : List ℕ → List ℕ → Made
statement_made parse bind = if is_long parse then Refused TooMuch else if is_long bind then Refused TooMuch else Bytes (statement parse bind)

unfoldable pub named_made : List ℕ → List ℕ → List (Option (List ℕ)) → Made
named_made name words values =
    if has_zero words then Refused ZeroByte
    else if nat_lt 65_535 (length values) then Refused TooManyValues
    else statement_made (parse_body name words) (bind_body name values)

-- that of no name
abbrev pub query_with_made : List ℕ → List (Option (List ℕ)) → Made
query_with_made words values = named_made [] words values

unfoldable pub prepare_made : List ℕ → List ℕ → List (Option (List ℕ)) → Made
prepare_made name words values = if has_zero name then Refused ZeroByte else named_made name words values

unfoldable pub bound_made : List ℕ → Made
bound_made bind = if is_long bind then Refused TooMuch else Bytes (bound bind)

unfoldable pub prepared_made : List ℕ → List (Option (List ℕ)) → Made
prepared_made name values =
    if has_zero name then Refused ZeroByte
    else if nat_lt 65_535 (length values) then Refused TooManyValues
    else bound_made (bind_body name values)

-- C
unfoldable pub close_made : List ℕ → Made
close_made name =
    if has_zero name then Refused ZeroByte
    else if is_long (close_body name) then Refused TooMuch
    else Bytes (message 67 (close_body name))

unfoldable pub start_made : List ℕ → List ℕ → Made
start_made user database =
    if has_zero user || has_zero database then Refused ZeroByte
    else if is_long (start_body user database) then Refused TooMuch
    else Bytes (first_message (start_body user database))

unfoldable pub cancel_made : List ℕ → Made
cancel_made key = if is_long (cancel_body key) then Refused TooMuch else Bytes (first_message (cancel_body key))

-- p
unfoldable pub login_made : List ℕ → Made
login_made body = if is_long body then Refused TooMuch else Bytes (message 112 body)

-- lent values
abbrev pub bytes_of_value : Option (Bor (List ℕ)) → Option (List ℕ)
bytes_of_value None = None
bytes_of_value (Some lent) = Some lent.now

abbrev pub bytes_of : List (Option (Bor (List ℕ))) → List (Option (List ℕ))
bytes_of [] = []
bytes_of (v ∷ vs) = bytes_of_value v ∷ bytes_of vs
