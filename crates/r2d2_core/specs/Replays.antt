-- How far a replay of a report came.
use Rattle.std.specs.Prelude.{◌≡◌, ℕ, ◌+◌, ◌≤◌, Bool, true, false, List, length, take, drop}
use Rattle.r2d2_core.specs.declared.journal.report.Report.{Report}
use Rattle.r2d2_core.specs.declared.journal.replay.Replay.{Replay}
use Rattle.r2d2_core.specs.declared.journal.replay.Standing.{Standing}
use Rattle.r2d2_core.specs.declared.journal.replay.Standing.TheVariants as standing
use Rattle.r2d2_core.specs.declared.journal.running_base.Rooms.{Rooms}
use Rattle.pool_machine.specs.declared.schedule.limits.LimitSettings.{LimitSettings}
use Rattle.pool_machine.specs.Limits.{seen_limits}
use Rattle.pool_machine.specs.Ids.{copies_of}
use Rattle.r2d2_core.specs.Records.{SeenRecord}
use Rattle.r2d2_core.specs.Bases.{SeenBase, IsLegalBase}
use Rattle.r2d2_core.specs.Folding.{replay, all_follow, known_in}
use Rattle.r2d2_core.specs.RunningBase.{SeenRunningBase, made_idle_in, made_lent_in}
use Rattle.r2d2_core.specs.Reports.{seen_base, seen_records}
use Rattle.r2d2_core.specs.Faults.{IsWrong, AreApartUpTo}

-- what stands after so many of some records, each of which may follow, with room for the others
pub record IsFollowing (limits : LimitSettings) (rs : List SeenRecord) (b : SeenBase) (k : ℕ)
    (now : SeenBase) (room : Rooms) : Type 0 where
  pub legal : IsLegalBase limits now
  pub apart : (i : ℕ) → copies_of i (known_in now (drop k rs)) ≤ 1
  pub idle_room : length now.idle + made_idle_in (drop k rs) ≤ room.idle
  pub lent_room : length now.lent + made_lent_in (drop k rs) ≤ room.lent
  pub may : all_follow limits (take k rs) b ≡ true
  pub folds : replay limits (take k rs) b ≡ now

module _ {B : Type 0} where
  -- so many records of a report were followed from its base, of those that admit no id twice
  pub record HasFollowed (r : Report B) (apart followed : ℕ) (s : SeenRunningBase) : Type 0 where
    pub base : IsLegalBase (seen_limits r.limits) (seen_base r.base)
    pub upto : AreApartUpTo r apart
    pub within : followed ≤ apart
    pub following : IsFollowing (seen_limits r.limits) (take apart (seen_records r))
        (seen_base r.base) followed s.base s.room

  abbrev pub is_legal : Standing B → Bool
  is_legal (standing.Legal s) = true
  is_legal (standing.Wrong w) = false

  -- what stands is what they come to, or what is wrong is so
  abbrev pub Stands : Standing B → Report B → ℕ → ℕ → Type 0
  Stands (standing.Legal s) r apart followed = HasFollowed r apart followed s
  Stands (standing.Wrong w) r apart followed = IsWrong w r

  abbrev pub IsReplayOf : Report B → Replay B → Type 0
  IsReplayOf r p = Stands p.standing r p.apart p.followed
