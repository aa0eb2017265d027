-- What keeps of the fields of a journal.
use Rattle.std.specs.Prelude.{◌≡◌, ℕ, ◌≤◌, ◌<◌, ◌^◌, ◌==◌, length, map, Option, Some, None}
use Rattle.std.specs.Prelude.{if◌then◌else◌}
use Rattle.std.specs.Duration.{as_nanos}
use Rattle.r2d2_core.specs.declared.journal.bounded.Before.{Before}
use Rattle.r2d2_core.specs.declared.journal.bounded.Before.TheVariants as before
use Rattle.r2d2_core.specs.declared.journal.bounded.Journal.TheInside.{Inside}
use Rattle.pool_machine.specs.declared.schedule.limits.LimitSettings.{LimitSettings}
use Rattle.pool_machine.specs.Limits.{seen_limits}
use Rattle.r2d2_core.specs.Records.{SeenRecord, seen_record}
use Rattle.r2d2_core.specs.Bases.{SeenBase, IsLegalBase, first_base}
use Rattle.r2d2_core.specs.Records.{moment_of_record}
use Rattle.r2d2_core.specs.Folding.{AreLegalFrom}
use Rattle.r2d2_core.specs.RunningBase.{rooms}
use Rattle.r2d2_core.specs.Journal.{SeenJournal, CountsTakes, added, with_noted, next_count}
use Rattle.r2d2_core.specs.Journal.{takes_with}

module _ {A : Type 0} where
  -- the base of what was folded; where nothing is, the moment up to which a machine tells, and
  -- nothing else
  abbrev pub base_before : LimitSettings → Before A → SeenBase
  base_before limits (before.Shown at) = first_base limits (as_nanos at)
  base_before limits (before.Folded running_base) = running_base.base

  abbrev pub journal_in : Inside A → SeenJournal
  journal_in a = record {
    limits = seen_limits a.limits;
    made = as_nanos a.made;
    base = base_before (seen_limits a.limits) a.before;
    records = map seen_record a.records.items;
    room = a.records.capacity;
    lost = a.lost;
    takes = a.takes;
  }

  -- records are folded where there is room for one; the base has room then for all that it may come
  -- to
  abbrev pub BaseHasRoom : LimitSettings → ℕ → Before A → Type 0
  BaseHasRoom limits room (before.Shown at) = room ≡ 0
  BaseHasRoom limits room (before.Folded running_base) =
      (0 < room) × (running_base.room ≡ rooms limits.max_size limits.max_size)

  pub record IsKeptUp (a : Inside A) : Type 0 where
    pub within : length a.records.items ≤ a.records.capacity
    pub bounded : a.records.capacity < 2 ^ 64
    pub counted : CountsTakes (journal_in a)
    pub has_room : BaseHasRoom (seen_limits a.limits) a.records.capacity a.before

  -- what is before the records of a journal
  abbrev pub IsBefore : SeenJournal → Before A → Type 0
  IsBefore l (before.Shown at) = (l.room ≡ 0) × (l.base ≡ first_base l.limits (as_nanos at))
  IsBefore l (before.Folded running_base) = (0 < l.room) × (l.base ≡ running_base.base)

-- a journal where the record may be noted
pub record MayNote (made : Option SeenRecord) (l : SeenJournal) : Type 0 where
  pub legal : IsLegalBase l.limits l.base
  pub follow : AreLegalFrom l.limits l.base (added made l.records)

-- without room a record leaves its moment alone
abbrev pub passed : Option SeenRecord → SeenJournal → SeenJournal
passed None l = l
passed (Some r) l = record l {
  base = first_base l.limits (moment_of_record r);
  lost = next_count l.lost;
  takes = takes_with r l.takes;
}

abbrev pub kept_alone : Option SeenRecord → SeenJournal → SeenJournal
kept_alone made l = if l.room == 0 then passed made l else with_noted made l
