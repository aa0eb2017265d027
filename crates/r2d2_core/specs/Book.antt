-- What a book shows, and what holds of each.
use Rattle.std.specs.Prelude.{◌≡◌, List, map}
use Rattle.pool_machine.specs.declared.schedule.limits.LimitSettings.{LimitSettings}
use Rattle.pool_machine.specs.Connections.{SeenIdleConnection, idle_connection}
use Rattle.pool_machine.specs.Picture.{Picture, IsSound}
use Rattle.r2d2_core.specs.Records.{SeenRecord}
use Rattle.r2d2_core.specs.Bases.{SeenBase, BareConnection, IsLegalBase}
use Rattle.r2d2_core.specs.Folding.{replay, AreLegalFrom}
use Rattle.r2d2_core.specs.Journal.{SeenJournal}

-- the picture of its machine, and its records
pub record SeenBook (T : Type 0) : Type 0 where
  pub picture : Picture T
  pub journal : SeenJournal

abbrev pub seen_book : {T : Type 0} → Picture T → SeenJournal → SeenBook T
seen_book picture journal = record { picture = picture; journal = journal }

-- an idle connection without its payload
abbrev pub bare : {T : Type 0} → SeenIdleConnection T → BareConnection
bare c = idle_connection c.id c.birth c.since tt

-- a base says what a picture shows
pub record ComesTo {T : Type 0} (b : SeenBase) (p : Picture T) : Type 0 where
  pub idle : b.idle ≡ map bare p.idle
  pub lent : b.lent ≡ p.lent
  pub connections : b.connections ≡ p.connections
  pub pending : b.pending ≡ p.on_order.pending
  pub closed : b.closed ≡ p.on_order.closed

-- records are legal from a legal base, and what they come to from there is what a picture shows
pub record ReplayTo {T : Type 0} (limits : LimitSettings) (b : SeenBase) (rs : List SeenRecord)
    (p : Picture T) : Type 0 where
  pub base : IsLegalBase limits b
  pub legal : AreLegalFrom limits b rs
  pub shows : ComesTo (replay limits rs b) p

module _ {T : Type 0} where
  -- the limits of a book
  abbrev pub limits_of_book : SeenBook T → LimitSettings
  limits_of_book a = a.picture.on_order.limits

  -- its records, from its base, replay to its picture
  abbrev pub IsReplayed : SeenBook T → Type 0
  IsReplayed a = ReplayTo (limits_of_book a) a.journal.base a.journal.records a.picture

  -- what holds of each book
  pub record HasFacts (a : SeenBook T) : Type 0 where
    pub sound : IsSound a.picture
    pub replayed : IsReplayed a
