-- Worked rows: what is read of bytes, and which bytes are written.
use Rattle.std.proofs.Common.{◌≡◌, [], ◌∷◌, ◌++◌, None, Some, refl}
use Rattle.std.specs.Prelude.{codes}
use Rattle.postgres_codec.specs.declared.error.Fault.TheVariants.{Malformed, TooMuch}
use Rattle.postgres_codec.specs.declared.message.Status.TheVariants.{InTransaction}
use Rattle.postgres_codec.specs.declared.mark.Mark.TheVariants.{Plain, Marked, Lasting}
use Rattle.postgres_codec.specs.Frames.{Short, Faulty, Found, body_at, frame_at}
use Rattle.postgres_codec.specs.Messages.{Ready, Row, Complete, Refusal, bytes_at, value_at, values_after, row_of, line_of, until, field_from, number_with, number_after, is_plain, mark_of, done_of, complete_of, ready_of, message_of, message_at}
use Rattle.postgres_codec.specs.Talks.{told}
use Rattle.postgres_codec.specs.Requests.{Bytes, query_made}

-- the server is ready, and a byte more came
ready : message_at 64 (90 ∷ 0 ∷ 0 ∷ 0 ∷ 5 ∷ codes "TZ") ≡ Found (Ready InTransaction, codes "Z")
unfolding message_at frame_at body_at message_of ready_of
ready = refl

-- its last byte is still to come
late : message_at 64 (90 ∷ 0 ∷ 0 ∷ 0 ∷ 5 ∷ []) ≡ Short
unfolding message_at frame_at body_at
late = refl

-- a length is at least that of itself
small : message_at 64 (90 ∷ 0 ∷ 0 ∷ 0 ∷ 3 ∷ []) ≡ Faulty Malformed
unfolding message_at frame_at body_at
small = refl

-- a message of 65 bytes, where 64 may come, and where 65 may
large : message_at 64 (90 ∷ 0 ∷ 0 ∷ 0 ∷ 64 ∷ []) ≡ Faulty TooMuch
unfolding message_at frame_at body_at
large = refl

fitting : message_at 65 (90 ∷ 0 ∷ 0 ∷ 0 ∷ 64 ∷ []) ≡ Short
unfolding message_at frame_at body_at
fitting = refl

-- a, NULL, and the empty value
row : message_at 200 (68 ∷ 0 ∷ 0 ∷ 0 ∷ 19 ∷ 0 ∷ 3 ∷ 0 ∷ 0 ∷ 0 ∷ 1 ∷ 97 ∷ 255 ∷ 255 ∷ 255 ∷ 255 ∷ 0 ∷ 0 ∷ 0 ∷ 0 ∷ []) ≡ Found (Row (Some (codes "a") ∷ None ∷ Some [] ∷ []), [])
unfolding message_at frame_at body_at message_of row_of values_after value_at bytes_at
row = refl

-- a line of a COPY
line : message_at 200 (100 ∷ 0 ∷ 0 ∷ 0 ∷ 8 ∷ 49 ∷ 9 ∷ 97 ∷ 10 ∷ []) ≡ Found (Row (Some (49 ∷ 9 ∷ 97 ∷ 10 ∷ []) ∷ []), [])
unfolding message_at frame_at body_at message_of line_of
line = refl

-- what three statements told or changed, and leave
selected : complete_of (codes "SELECT 12" ++ 0 ∷ []) ≡ Found (Complete (record { rows = 12; mark = Plain }))
unfolding complete_of done_of number_after number_with until mark_of is_plain
selected = refl

inserted : complete_of (codes "INSERT 0 5" ++ 0 ∷ []) ≡ Found (Complete (record { rows = 5; mark = Marked }))
unfolding complete_of done_of number_after number_with until mark_of is_plain
inserted = refl

loaded : complete_of (codes "LOAD" ++ 0 ∷ []) ≡ Found (Complete (record { rows = 0; mark = Lasting }))
unfolding complete_of done_of number_after number_with until mark_of is_plain
loaded = refl

-- a refusal, by its fields
refusal : message_of 64 69 (codes "SERROR" ++ 0 ∷ codes "VERROR" ++ 0 ∷ codes "C42P01" ++ 0 ∷ codes "Mno" ++ 0 ∷ 0 ∷ []) ≡ Found (Refusal (codes "ERROR") (codes "42P01") (codes "no"))
unfolding message_of field_from until
refusal = refl

-- the bytes of a query, and why there are none
query_row : query_made (codes "BEGIN") ≡ Bytes (81 ∷ 0 ∷ 0 ∷ 0 ∷ 10 ∷ codes "BEGIN" ++ 0 ∷ [])
unfolding query_made
query_row = refl

-- two requests were sent: the server is ready once, and one of them lacks its end
ended : told (Ready InTransaction) (record { limit = 9; room = 2; bytes = []; owed = 2; mark = Plain }) ≡ record { limit = 9; room = 9; bytes = []; owed = 1; mark = Plain }
ended = refl
