-- What a contract sees of the records that are kept.
use Rattle.std.specs.Prelude.{◌≡◌, ℕ, ◌+◌, ◌-◌, ◌^◌, min, nat_lt, List, [], ◌∷◌, ◌++◌, length, drop}
use Rattle.std.specs.Prelude.{Option, Some, None, if◌then◌else◌}
use Rattle.pool_machine.specs.declared.schedule.limits.LimitSettings.{LimitSettings}
use Rattle.r2d2_core.specs.Records.{SeenRecord, is_take, takes_in}
use Rattle.r2d2_core.specs.Bases.{SeenBase, first_base}
use Rattle.r2d2_core.specs.Folding.{folded}

pub record SeenJournal : Type 0 where
  pub limits : LimitSettings
  -- the moment of the making
  pub made : ℕ
  -- what stood before the oldest record
  pub base : SeenBase
  -- the newest records, the oldest of them first
  pub records : List SeenRecord
  -- how many of them there is room for
  pub room : ℕ
  -- how many were folded into the base
  pub lost : ℕ
  -- how many takes were noted
  pub takes : ℕ

-- one more; a count stops at the greatest number of 64 bits
abbrev pub next_count : ℕ → ℕ
next_count n = min (n + 1) (2 ^ 64 - 1)

-- the takes that were noted, with a record more
abbrev pub takes_with : SeenRecord → ℕ → ℕ
takes_with r n = if is_take r then next_count n else n

-- the takes that were noted are those that the records tell of, where none was folded in
abbrev pub CountsTakes : SeenJournal → Type 0
CountsTakes l = l.lost ≡ 0 → l.takes ≡ takes_in l.records

-- what stood before the records is what stood at the making, where none was folded in
abbrev pub BeginsAtTheMaking : SeenJournal → Type 0
BeginsAtTheMaking l = l.lost ≡ 0 → l.base ≡ first_base l.limits l.made

-- at the making, at a moment
abbrev pub first_journal : LimitSettings → ℕ → ℕ → SeenJournal
first_journal limits now room = record {
  limits = limits;
  made = now;
  base = first_base limits now;
  records = [];
  room = room;
  lost = 0;
  takes = 0;
}

-- the base with the oldest of some records
abbrev pub with_oldest : LimitSettings → List SeenRecord → SeenBase → SeenBase
with_oldest limits [] b = b
with_oldest limits (r ∷ rs) b = folded limits r b

-- one more record: where there is no room the oldest is folded into the base, which is the new one
-- itself where there is room for none
abbrev pub with_record : SeenRecord → SeenJournal → SeenJournal
with_record r l =
    let all = l.records ++ r ∷ [] in
    if nat_lt (length l.records) l.room
    then record l { records = all; takes = takes_with r l.takes }
    else record l {
      base = with_oldest l.limits all l.base;
      records = drop 1 all;
      lost = next_count l.lost;
      takes = takes_with r l.takes;
    }

-- some records with the one that a step made, if it made one
abbrev pub added : Option SeenRecord → List SeenRecord → List SeenRecord
added None rs = rs
added (Some r) rs = rs ++ r ∷ []

-- the journal with the record that a step made, if it made one
abbrev pub with_noted : Option SeenRecord → SeenJournal → SeenJournal
with_noted None l = l
with_noted (Some r) l = with_record r l
