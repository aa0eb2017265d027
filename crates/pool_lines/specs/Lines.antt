-- What a line says. A line is bytes without its line feed; moments and lengths of time are in nanoseconds.
use Rattle.std.specs.Prelude.{ℕ, ◌*◌, ◌^◌, Bool, true, false, nat_lt, ◌==◌, ◌&&◌, if◌then◌else◌, List, length, codes, bytes_eq, Option, Some, None, option_map}
use Rattle.std.specs.Prelude.{string_bytes}
use Rattle.std.specs.List.{position_or_len, before_first, after_first}
use Rattle.std.specs.Str.{is_utf8, all_ascii_digits}
use Rattle.std.specs.Str.Parse.{digits_value}
use Rattle.std.specs.Duration.{as_nanos}
use Rattle.pool_machine.specs.declared.step.Step.{Step}
use Rattle.pool_machine.specs.declared.step.Step.TheVariants as step
use Rattle.pool_machine.specs.declared.schedule.limits.LendingOrder.{LendingOrder}
use Rattle.pool_machine.specs.declared.schedule.limits.LendingOrder.TheVariants as lending
use Rattle.pool_machine.specs.declared.schedule.limits.LimitSettings.{LimitSettings}
use Rattle.pool_lines.specs.declared.program.line.Line.{Line}
use Rattle.pool_lines.specs.declared.program.line.Line.TheVariants as line

infixl 10 ◌>>=◌
-- what is read on from a value, where there is one
abbrev pub ◌>>=◌ : {X Y : Type 0} → Option X → (X → Option Y) → Option Y
None >>= f = None
(Some x) >>= f = f x

-- FIELDS

-- decimal digits alone, one or more, that write a number of so many bits
abbrev pub is_number : ℕ → List ℕ → Bool
is_number bits field = nat_lt 0 (length field) && (all_ascii_digits field && nat_lt (digits_value 10 field) (2 ^ bits))

-- the number that a field writes
unfoldable pub number_in : ℕ → List ℕ → Option ℕ
number_in bits field = if is_number bits field then Some (digits_value 10 field) else None

-- a field of milliseconds
unfoldable pub time_in : List ℕ → Option ℕ
time_in field = option_map (λ n. 1_000_000 * n) (number_in 64 field)

-- a field that `-` leaves out
unfoldable pub optional_in : {X : Type 0} → (List ℕ → Option X) → List ℕ → Option (Option X)
optional_in read field = if bytes_eq field (codes "-") then Some None else option_map (λ x. Some x) (read field)

abbrev pub is_space : ℕ → Bool
is_space b = b == 32

-- what stands before the first space, and what stands after it
unfoldable pub cut : List ℕ → Option (List ℕ × List ℕ)
cut text =
    if nat_lt (position_or_len is_space text) (length text) then Some (before_first is_space text, after_first is_space text) else None

-- THE FIRST LINE

pub record SeenLimitsLine : Type 0 where
  pub max_size : ℕ
  pub min_idle : Option ℕ
  pub max_lifetime : Option ℕ
  pub idle_timeout : Option ℕ
  pub connection_timeout : ℕ
  pub reap_every : ℕ
  pub order : LendingOrder

-- limits, with their lengths of time in nanoseconds
abbrev pub sizes_of : LimitSettings → SeenLimitsLine
sizes_of s = record {
  max_size = s.max_size;
  min_idle = s.min_idle;
  max_lifetime = option_map as_nanos s.max_lifetime;
  idle_timeout = option_map as_nanos s.idle_timeout;
  connection_timeout = as_nanos s.connection_timeout;
  reap_every = as_nanos s.reap_every;
  order = s.order;
}

abbrev pub sizes : ℕ → Option ℕ → Option ℕ × Option ℕ × ℕ × List ℕ → ℕ × LendingOrder → SeenLimitsLine
sizes size least l last = record {
  max_size = size;
  min_idle = least;
  max_lifetime = l.0;
  idle_timeout = l.1;
  connection_timeout = l.2;
  reap_every = last.0;
  order = last.1;
}

-- three lengths of time, of which the first two may be left out, and what stands after them
unfoldable pub lengths_in : List ℕ → Option (Option ℕ × Option ℕ × ℕ × List ℕ)
lengths_in fields = do
  life ← cut fields
  idle ← cut life.1
  timeout ← cut idle.1
  max_lifetime ← optional_in time_in life.0
  idle_timeout ← optional_in time_in idle.0
  connection_timeout ← time_in timeout.0
  Some (max_lifetime, idle_timeout, connection_timeout, timeout.1)

-- a lending order
abbrev pub order_in : List ℕ → Option LendingOrder
order_in word =
    if bytes_eq word (codes "newest") then Some lending.NewestFirst
    else if bytes_eq word (codes "oldest") then Some lending.OldestFirst
    else None

abbrev pub last_by : List ℕ → Option (List ℕ × List ℕ) → Option (ℕ × LendingOrder)
last_by field None = option_map (λ every. (every, lending.NewestFirst)) (time_in field)
last_by field (Some a) = time_in a.0 >>= (λ every. option_map (λ order. (every, order)) (order_in a.1))

-- the last length of time, and a lending order where one follows: where none does, the newest is lent first
unfoldable pub last_in : List ℕ → Option (ℕ × LendingOrder)
last_in fields = last_by fields (cut fields)

-- a size, how many are wanted idle, the lengths of time, and perhaps the lending order
unfoldable pub fields_in : List ℕ → Option SeenLimitsLine
fields_in fields = do
  size ← cut fields
  least ← cut size.1
  max_size ← number_in 32 size.0
  min_idle ← optional_in (number_in 32) least.0
  lengths ← lengths_in least.1
  last ← last_in lengths.3
  Some (sizes max_size min_idle lengths last)

-- `limits` and its fields
unfoldable pub sizes_in : List ℕ → Option SeenLimitsLine
sizes_in text = do
  first ← cut text
  if bytes_eq first.0 (codes "limits") then fields_in first.1 else None

-- THE LINES AFTER IT

-- a step, or a look at the state
pub data SeenLine : Type 0 where
  Take : (now : ℕ) (or_order : Bool) → SeenLine
  Begin : (now : ℕ) → SeenLine
  Number : (tries : ℕ) → SeenLine
  Admit : (now id value : ℕ) → SeenLine
  Fail : (now tries : ℕ) (text : Option (List ℕ)) → SeenLine
  FailCheck : (now id : ℕ) (text : Option (List ℕ)) → SeenLine
  PutBack : (now id value : ℕ) (broken : Bool) → SeenLine
  Reap : (now : ℕ) → SeenLine
  TakeError : SeenLine
  Close : SeenLine
  State : SeenLine

abbrev pub seen_step : Step ℕ → SeenLine
seen_step (step.Take now or_order) = Take (as_nanos now) or_order
seen_step (step.Begin now) = Begin (as_nanos now)
seen_step (step.Number tries) = Number tries
seen_step (step.Admit now id value) = Admit (as_nanos now) id value
seen_step (step.Fail now tries text) = Fail (as_nanos now) tries (option_map string_bytes text)
seen_step (step.FailCheck now id text) = FailCheck (as_nanos now) id (option_map string_bytes text)
seen_step (step.PutBack now id value broken) = PutBack (as_nanos now) id value broken
seen_step (step.Reap now) = Reap (as_nanos now)
seen_step step.TakeError = TakeError
seen_step step.Close = Close

abbrev pub seen_line : Line → SeenLine
seen_line (line.Step s) = seen_step s
seen_line line.State = State

-- a moment, an id and a payload
unfoldable pub connection_in : List ℕ → Option (ℕ × ℕ × ℕ)
connection_in fields = do
  first ← cut fields
  second ← cut first.1
  now ← time_in first.0
  id ← number_in 64 second.0
  value ← number_in 64 second.1
  Some (now, id, value)

-- a moment, the field of what failed, and the text that follows, if there is one
unfoldable pub failure_in : List ℕ → Option (ℕ × List ℕ × Option (List ℕ))
failure_in fields = do
  first ← cut fields
  now ← time_in first.0
  Some (now, before_first is_space first.1, option_map (λ what. what.1) (cut first.1))

abbrev pub failed_opening_in : List ℕ → Option SeenLine
failed_opening_in fields = failure_in fields >>= (λ f. option_map (λ tries. Fail f.0 tries f.2) (number_in 32 f.1))

abbrev pub failed_check_in : List ℕ → Option SeenLine
failed_check_in fields = failure_in fields >>= (λ f. option_map (λ id. FailCheck f.0 id f.2) (number_in 64 f.1))

-- a word that stands alone
abbrev pub said_alone : List ℕ → Option SeenLine
said_alone word =
    if bytes_eq word (codes "error") then Some TakeError
    else if bytes_eq word (codes "close") then Some Close
    else if bytes_eq word (codes "state") then Some State
    else None

-- a word, and a number or what failed
unfoldable pub said_of_outcome : List ℕ → List ℕ → Option SeenLine
said_of_outcome word fields =
    if bytes_eq word (codes "number") then option_map (λ tries. Number tries) (number_in 32 fields)
    else if bytes_eq word (codes "fail") then failed_opening_in fields
    else if bytes_eq word (codes "bad") then failed_check_in fields
    else None

-- a word and a connection
unfoldable pub said_of_connection : List ℕ → List ℕ → Option SeenLine
said_of_connection word fields =
    if bytes_eq word (codes "admit") then option_map (λ c. Admit c.0 c.1 c.2) (connection_in fields)
    else if bytes_eq word (codes "return") then option_map (λ c. PutBack c.0 c.1 c.2 false) (connection_in fields)
    else if bytes_eq word (codes "broken") then option_map (λ c. PutBack c.0 c.1 c.2 true) (connection_in fields)
    else said_of_outcome word fields

-- a word and its fields, which for these four are a moment
unfoldable pub said_with : List ℕ → List ℕ → Option SeenLine
said_with word fields =
    if bytes_eq word (codes "take") then option_map (λ now. Take now false) (time_in fields)
    else if bytes_eq word (codes "want") then option_map (λ now. Take now true) (time_in fields)
    else if bytes_eq word (codes "begin") then option_map (λ now. Begin now) (time_in fields)
    else if bytes_eq word (codes "reap") then option_map (λ now. Reap now) (time_in fields)
    else said_of_connection word fields

abbrev pub said_by : List ℕ → Option (List ℕ × List ℕ) → Option SeenLine
said_by text None = said_alone text
said_by text (Some a) = said_with a.0 a.1

-- what a text says, if it is a step
unfoldable pub said_in : List ℕ → Option SeenLine
said_in text = said_by text (cut text)

-- LINES

unfoldable pub text_in : List ℕ → Option (List ℕ)
text_in line = if is_utf8 line then Some line else None

-- what a line says, if it is a step
unfoldable pub step_in : List ℕ → Option SeenLine
step_in line = text_in line >>= said_in

-- the sizes that a line says, if it is of the form of `limits`
unfoldable pub limits_in : List ℕ → Option SeenLimitsLine
limits_in line = text_in line >>= sizes_in
