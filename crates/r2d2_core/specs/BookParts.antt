-- What keeps of the fields of a book.
use Rattle.std.specs.Prelude.{ℕ, ◌+◌, ◌==◌, ◌≤◌, ◌≡◌, List, [], map, if◌then◌else◌}
use Rattle.pool_machine.specs.declared.schedule.limits.LimitSettings.{LimitSettings}
use Rattle.pool_machine.specs.Ids.{copies_of}
use Rattle.pool_machine.specs.Picture.{Picture, IsSound}
use Rattle.r2d2_core.specs.Records.{SeenRecord}
use Rattle.r2d2_core.specs.Bases.{SeenBase, base_of}
use Rattle.r2d2_core.specs.Folding.{replay, known_in}
use Rattle.r2d2_core.specs.Journal.{SeenJournal, BeginsAtTheMaking}
use Rattle.r2d2_core.specs.Book.{SeenBook, bare, ReplayTo}

-- records replay to what a picture shows, and will with the next one
pub record KeepReplaying {T : Type 0} (limits : LimitSettings) (b : SeenBase) (rs : List SeenRecord)
    (p : Picture T) : Type 0 where
  pub same : limits ≡ p.on_order.limits
  pub replays : ReplayTo limits b rs p
  pub not_after : (let now = replay limits rs b in now.at) ≤ p.latest
  -- no id that they know is numbered, or will be
  pub fresh : (i : ℕ) → copies_of i (known_in b rs) + copies_of i p.on_order.numbered ≤ 1
  pub below_next : (i : ℕ) → p.on_order.next_id ≤ i → copies_of i (known_in b rs) ≡ 0

module _ {T : Type 0} where
  -- what a picture shows, as a base that tells up to a moment
  abbrev pub shown_at : ℕ → Picture T → SeenBase
  shown_at at p =
      base_of at (map bare p.idle) p.lent p.connections p.on_order.pending p.on_order.closed

  -- a journal beside its machine: where it has no room, what is before its records is what the
  -- machine shows
  abbrev pub beside : Picture T → SeenJournal → SeenJournal
  beside p l = record l { base = if l.room == 0 then shown_at l.base.at p else l.base }

  abbrev pub book_in : Picture T → SeenJournal → SeenBook T
  book_in p l = record { picture = p; journal = beside p l }

  abbrev pub IsRecorded : SeenBook T → Type 0
  IsRecorded a = KeepReplaying a.journal.limits a.journal.base a.journal.records a.picture

  -- what the type of a book keeps
  pub record IsFaithful (a : SeenBook T) : Type 0 where
    pub sound : IsSound a.picture
    pub recorded : IsRecorded a
    pub begins : BeginsAtTheMaking a.journal
    pub none_without_room : a.journal.room ≡ 0 → a.journal.records ≡ []
