-- What is wrong in a report that does not replay.
use Rattle.std.specs.Prelude.{◌≡◌, ℕ, ◌+◌, ◌<◌, ◌≤◌, length, take}
use Rattle.r2d2_core.specs.declared.journal.report.Report.{Report}
use Rattle.r2d2_core.specs.declared.journal.faults.Fault.{Fault}
use Rattle.r2d2_core.specs.declared.journal.faults.Fault.TheVariants as fault
use Rattle.r2d2_core.specs.declared.journal.replaying.Wrong.{Wrong}
use Rattle.r2d2_core.specs.declared.journal.replaying.Wrong.TheVariants as wrong
use Rattle.pool_machine.specs.Limits.{seen_limits}
use Rattle.pool_machine.specs.Ids.{copies_of}
use Rattle.r2d2_core.specs.Bases.{IsLegalBase}
use Rattle.r2d2_core.specs.Folding.{replay, known_in, AreLegalFrom}
use Rattle.r2d2_core.specs.Reports.{seen_base, seen_records, told_in}
use Rattle.r2d2_core.specs.Auditing.{ShowsCounts}

module _ {B : Type 0} where
  -- the base is none that a pool with the limits may come to
  abbrev pub HasWrongBase : Report B → Type 0
  HasWrongBase r = IsLegalBase (seen_limits r.limits) (seen_base r.base) → ⊥

  -- the records before a place are legal from the base, and with the one at the place they are not
  pub record IsFirstWrong (r : Report B) (place : ℕ) : Type 0 where
    pub base : IsLegalBase (seen_limits r.limits) (seen_base r.base)
    pub here : place < length r.records.items
    pub before : AreLegalFrom (seen_limits r.limits) (seen_base r.base)
        (take place (seen_records r))
    pub wrong : AreLegalFrom (seen_limits r.limits) (seen_base r.base)
        (take (place + 1) (seen_records r)) → ⊥

  -- all records are legal from the base, but what they come to is not what the report shows
  pub record ComesToOther (r : Report B) : Type 0 where
    pub base : IsLegalBase (seen_limits r.limits) (seen_base r.base)
    pub legal : AreLegalFrom (seen_limits r.limits) (seen_base r.base) (seen_records r)
    pub other : ShowsCounts (told_in r) r → ⊥

  -- what is wrong first
  abbrev pub IsWrong : Wrong → Report B → Type 0
  IsWrong wrong.Base r = HasWrongBase r
  IsWrong (wrong.Record place) r = IsFirstWrong r place
  IsWrong wrong.Counts r = ComesToOther r

  -- and what stood there: before the record at the place, or in the end
  abbrev pub IsFault : Fault B → Report B → Type 0
  IsFault fault.Base r = HasWrongBase r
  IsFault (fault.Record place before) r =
      IsFirstWrong r place × (seen_base before ≡ replay (seen_limits r.limits)
      (take place (seen_records r)) (seen_base r.base))
  IsFault (fault.Counts end) r = ComesToOther r × (seen_base end ≡ told_in r)

  -- so many records admit no id that was there before, and the next one does, if there is one
  pub record AreApartUpTo (r : Report B) (count : ℕ) : Type 0 where
    pub within : count ≤ length r.records.items
    pub apart : (i : ℕ) → copies_of i (known_in (seen_base r.base) (take count (seen_records r)))
        ≤ 1
    pub stops : count < length r.records.items
        → ((i : ℕ) → copies_of i (known_in (seen_base r.base) (take (count + 1) (seen_records r)))
        ≤ 1) → ⊥
