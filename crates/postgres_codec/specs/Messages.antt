-- What the messages of a server say.
use Rattle.std.specs.Prelude.{ℕ, zero, suc, ◌+◌, ◌*◌, ◌-◌, Bool, true, nat_lt, nat_le, ◌==◌, ◌&&◌, ◌||◌, if◌then◌else◌, List, [], ◌∷◌, ◌++◌, length, take, drop, codes, bytes_eq, Option, None, Some, unwrap_or}
use Rattle.std.specs.Global.{Vec}
use Rattle.postgres_codec.specs.declared.error.Fault.TheVariants.{Malformed, TooMuch}
use Rattle.postgres_codec.specs.declared.message.Message.{Message}
use Rattle.postgres_codec.specs.declared.message.Message.TheVariants as message
use Rattle.postgres_codec.specs.declared.message.Status.{Status}
use Rattle.postgres_codec.specs.declared.message.Status.TheVariants.{Idle, InTransaction, InFailedTransaction}
use Rattle.postgres_codec.specs.declared.message.Asked.{Asked}
use Rattle.postgres_codec.specs.declared.message.Asked.TheVariants as asked
use Rattle.postgres_codec.specs.declared.message.Done.{Done}
use Rattle.postgres_codec.specs.declared.mark.Mark.{Mark}
use Rattle.postgres_codec.specs.declared.mark.Mark.TheVariants.{Plain, Marked, Lasting}
use Rattle.postgres_codec.specs.Frames.{Read, Faulty, Found, ◌>>=◌, number2, number4, frame_at}

-- what a message says
pub data Said : Type 0 where
  -- a request is done
  Ready : (status : Status) → Said
  -- a value is its bytes, and none where it is NULL
  Row : (values : List (Option (List ℕ))) → Said
  -- a statement is done
  Complete : (done : Done) → Said
  Refusal : (severity state text : List ℕ) → Said
  Login : (asked : Asked) (text : List ℕ) → Said
  Key : (key : List ℕ) → Said
  Setting : Said
  Notification : Said
  Notice : Said
  Passed : Said

abbrev pub seen_value : Option (Vec ℕ) → Option (List ℕ)
seen_value None = None
seen_value (Some bytes) = Some bytes.items

abbrev pub seen_values : List (Option (Vec ℕ)) → List (Option (List ℕ))
seen_values [] = []
seen_values (v ∷ vs) = seen_value v ∷ seen_values vs

abbrev pub seen : Message → Said
seen (message.Ready status) = Ready status
seen (message.Row values) = Row (seen_values values.items)
seen (message.Complete done) = Complete done
seen (message.Refusal refusal) = Refusal refusal.severity.items refusal.state.items refusal.text.items
seen (message.Login asked text) = Login asked text.items
seen (message.Key key) = Key key.items
seen message.Setting = Setting
seen message.Notification = Notification
seen message.Notice = Notice
seen message.Passed = Passed

-- ROWS

-- a value: its length in four bytes, of which 255 each stand for NULL, and so many bytes
unfoldable pub bytes_at : ℕ → List ℕ → Read (Option (List ℕ) × List ℕ)
bytes_at n bytes =
    if n == 4_294_967_295 then Found (None, bytes)
    else if nat_lt (length bytes) n then Faulty Malformed
    else Found (Some (take n bytes), drop n bytes)

unfoldable pub value_at : List ℕ → Read (Option (List ℕ) × List ℕ)
value_at (a ∷ b ∷ c ∷ d ∷ bytes) = bytes_at (number4 a b c d) bytes
value_at _ = Faulty Malformed

-- values, and behind them so many more, which are all there is
unfoldable pub values_after : List (Option (List ℕ)) → ℕ → List ℕ → Read (List (Option (List ℕ)))
values_after values zero [] = Found values
values_after values zero (b ∷ bytes) = Faulty Malformed
values_after values (suc n) bytes = value_at bytes >>= λ v. values_after (values ++ v.0 ∷ []) n v.1

-- how many values there are, in two bytes, and those; each takes 32 bytes of what there is room for
unfoldable pub row_of : ℕ → List ℕ → Read (List (Option (List ℕ)))
row_of room (a ∷ b ∷ bytes) = if nat_lt room (32 * number2 a b) then Faulty TooMuch else values_after [] (number2 a b) bytes
row_of room _ = Faulty Malformed

-- a line of a COPY: a row of one value
unfoldable pub line_of : ℕ → List ℕ → Read (List (Option (List ℕ)))
line_of room body = if nat_lt room 32 then Faulty TooMuch else Found (Some body ∷ [])

-- TEXTS

abbrev pub is_between : ℕ → ℕ → ℕ → Bool
is_between low high b = nat_le low b && nat_le b high

-- the bytes before the first that is one of these
unfoldable pub until : ℕ → ℕ → List ℕ → List ℕ
until low high [] = []
until low high (b ∷ bytes) = if is_between low high b then [] else b ∷ until low high bytes

-- the text of the first field with a letter: each has one, its text, and a zero
unfoldable pub field_from : Bool → ℕ → List ℕ → List ℕ
field_from begins letter [] = []
field_from begins letter (b ∷ bytes) = if begins && (b == letter) then until 0 0 bytes else field_from (b == 0) letter bytes

abbrev pub field : ℕ → List ℕ → List ℕ
field letter bytes = field_from true letter bytes

-- THE END OF A STATEMENT, as INSERT 0 5: its name, and at the end how many rows

-- the number that a byte more makes: a space begins one, and what is no digit ends it
unfoldable pub number_with : Option ℕ → ℕ → Option ℕ
number_with None b = if b == 32 then Some 0 else None
number_with (Some n) b = if b == 32 then Some 0 else if is_between 48 57 b && nat_lt n 1_000_000_000_000_000_000 then Some (n * 10 + (b - 48)) else None

unfoldable pub number_after : Option ℕ → List ℕ → Option ℕ
number_after n [] = n
number_after n (b ∷ tag) = number_after (number_with n b) tag

-- What stays when a statement with this name is over. (INSERT is not among the plain, since lastval shows what it inserted.)
unfoldable pub is_plain : List ℕ → Bool
is_plain name = bytes_eq name (codes "SELECT ") || bytes_eq name (codes "UPDATE ") || bytes_eq name (codes "DELETE ") || bytes_eq name (codes "BEGIN") || bytes_eq name (codes "START TRANSACTION")
    || bytes_eq name (codes "COMMIT") || bytes_eq name (codes "ROLLBACK") || bytes_eq name (codes "SAVEPOINT") || bytes_eq name (codes "RELEASE")

unfoldable pub mark_of : List ℕ → Mark
mark_of name = if bytes_eq name (codes "LOAD") then Lasting else if is_plain name then Plain else Marked

unfoldable pub done_of : List ℕ → Done
done_of tag = record { rows = unwrap_or (number_after None tag) 0; mark = mark_of (until 48 57 tag) }

-- A zero ends it.
unfoldable pub complete_of : List ℕ → Read Said
complete_of body = if bytes_eq (drop (length body - 1) body) (0 ∷ []) then Found (Complete (done_of (take (length body - 1) body))) else Faulty Malformed

-- THE OTHERS

unfoldable pub ready_of : List ℕ → Read Said
ready_of body =
    if bytes_eq body (codes "I") then Found (Ready Idle)
    else if bytes_eq body (codes "T") then Found (Ready InTransaction)
    else if bytes_eq body (codes "E") then Found (Ready InFailedTransaction)
    else Faulty Malformed

abbrev pub asked_of : ℕ → Asked
asked_of n =
    if n == 0 then asked.Nothing
    else if n == 5 then asked.Md5
    else if n == 10 then asked.Sasl
    else if n == 11 then asked.SaslGoesOn
    else if n == 12 then asked.SaslEnds
    else asked.Other

unfoldable pub login_of : List ℕ → Read Said
login_of (a ∷ b ∷ c ∷ d ∷ text) = Found (Login (asked_of (number4 a b c d)) text)
login_of _ = Faulty Malformed

-- by the kind: Z D d C E R K S A N, and T I 1 2 3 H c
unfoldable pub message_of : ℕ → ℕ → List ℕ → Read Said
message_of room kind body =
    if kind == 90 then ready_of body
    else if kind == 68 then (row_of room body >>= λ values. Found (Row values))
    else if kind == 100 then (line_of room body >>= λ values. Found (Row values))
    else if kind == 67 then complete_of body
    else if kind == 69 then Found (Refusal (field 86 body) (field 67 body) (field 77 body))
    else if kind == 82 then login_of body
    else if kind == 75 then Found (Key body)
    else if kind == 83 then Found Setting
    else if kind == 65 then Found Notification
    else if kind == 78 then Found Notice
    else if (kind == 84) || (kind == 73) || (kind == 49) || (kind == 50) || (kind == 51) || (kind == 72) || (kind == 99) then Found Passed
    else Faulty Malformed

-- THE MESSAGE at the front of bytes, read, and the bytes after it
unfoldable pub message_at : ℕ → List ℕ → Read (Said × List ℕ)
message_at room bytes = frame_at room bytes >>= λ it. message_of (room - (5 + length it.0.body)) it.0.kind it.0.body >>= λ said. Found (said, it.1)

-- whether the connection is of no more use after a refusal: the server ends it, or may not write
unfoldable pub ends : List ℕ → List ℕ → Bool
ends severity state =
    bytes_eq severity (codes "FATAL") || bytes_eq severity (codes "PANIC") || bytes_eq state (codes "25006") || bytes_eq state (codes "57P01")
    || bytes_eq state (codes "57P02") || bytes_eq state (codes "57P03") || bytes_eq (take 2 state) (codes "08")
