-- What a record says, as a contract sees it: its moment in nanoseconds.
use Rattle.std.specs.Prelude.{ℕ, Bool, true, false, List, count_by}
use Rattle.std.specs.Duration.{as_nanos}
use Rattle.r2d2_core.specs.declared.journal.record.Record.{Record}
use Rattle.r2d2_core.specs.declared.journal.record.Record.TheVariants as record_

-- a `Record`
pub data SeenRecord : Type 0 where
  -- a connection was lent
  Taken : (at id ordered : ℕ) → SeenRecord
  -- none was idle, and an opening was ordered
  Ordered : (at ordered : ℕ) → SeenRecord
  -- a connection came in
  Admitted : (at id : ℕ) → SeenRecord
  -- a lent one came back, and is idle
  Kept : (at id : ℕ) → SeenRecord
  -- a lent one is gone
  Closed : (at id ordered : ℕ) → SeenRecord
  -- the idle ones that were expired are gone
  Reaped : (at ordered : ℕ) → SeenRecord
  -- the pool was closed, and all idle ones are gone
  ClosedAll : (at : ℕ) → SeenRecord

-- whether a record tells of a take that found
abbrev pub is_take : SeenRecord → Bool
is_take (Taken at id ordered) = true
is_take _ = false

-- how many takes that found the records tell of
abbrev pub takes_in : List SeenRecord → ℕ
takes_in rs = count_by is_take rs

-- the moment of a record
abbrev pub moment_of_record : SeenRecord → ℕ
moment_of_record (Taken at id n) = at
moment_of_record (Ordered at n) = at
moment_of_record (Admitted at id) = at
moment_of_record (Kept at id) = at
moment_of_record (Closed at id n) = at
moment_of_record (Reaped at n) = at
moment_of_record (ClosedAll at) = at

abbrev pub seen_record : Record → SeenRecord
seen_record (record_.Taken at id ordered) = Taken (as_nanos at) id ordered
seen_record (record_.Ordered at ordered) = Ordered (as_nanos at) ordered
seen_record (record_.Admitted at id) = Admitted (as_nanos at) id
seen_record (record_.Kept at id) = Kept (as_nanos at) id
seen_record (record_.Closed at id ordered) = Closed (as_nanos at) id ordered
seen_record (record_.Reaped at ordered) = Reaped (as_nanos at) ordered
seen_record (record_.ClosedAll at) = ClosedAll (as_nanos at)
