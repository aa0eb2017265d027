-- What a report says.
use Rattle.std.specs.Prelude.{◌≡◌, ◌+◌, List, length, map}
use Rattle.std.specs.Duration.{as_nanos}
use Rattle.r2d2_core.specs.declared.journal.base.Base.{Base}
use Rattle.r2d2_core.specs.declared.journal.report.Report.{Report}
use Rattle.pool_machine.specs.Limits.{seen_limits, wanted_of}
use Rattle.pool_machine.specs.Sums.{FitsIn, IsReplenished}
use Rattle.r2d2_core.specs.Records.{SeenRecord, seen_record, takes_in}
use Rattle.pool_machine.specs.Connections.{id_of_idle, id_of_lent}
use Rattle.r2d2_core.specs.Bases.{SeenBase, base_of, seen_bare, seen_lent, IsLegalBase, first_base}
use Rattle.r2d2_core.specs.Folding.{replay, AreLegalFrom}
use Rattle.r2d2_core.specs.Book.{SeenBook, bare}
use Rattle.r2d2_core.specs.History.{History, limits_of, is_closed}
use Rattle.r2d2_core.specs.Deeds.{idle_of, lent_of, connections_of}
use Rattle.r2d2_core.specs.Pending.{pending_of}

module _ {B : Type 0} where
  -- a `Base`
  abbrev pub seen_base : Base B → SeenBase
  seen_base b = base_of (as_nanos b.at) (map seen_bare b.idle.items) (map seen_lent b.lent.items)
      b.connections b.pending b.closed

  -- the records of a `Report`
  abbrev pub seen_records : Report B → List SeenRecord
  seen_records r = map seen_record r.records.items

  -- what its records come to from its base
  abbrev pub told_in : Report B → SeenBase
  told_in r = replay (seen_limits r.limits) (seen_records r) (seen_base r.base)

  -- its base is legal, its records are legal from there, and come to its ids and counts
  pub record DoesReplay (r : Report B) : Type 0 where
    pub base : IsLegalBase (seen_limits r.limits) (seen_base r.base)
    pub legal : AreLegalFrom (seen_limits r.limits) (seen_base r.base) (seen_records r)
    pub idle : map id_of_idle (told_in r).idle ≡ r.idle.items
    pub lent : map id_of_lent (told_in r).lent ≡ r.lent.items
    pub connections : (told_in r).connections ≡ r.connections
    pub pending : (told_in r).pending ≡ r.pending
    pub closed : (told_in r).closed ≡ r.closed

  -- its takes are those that its records tell of, where none was folded into the base
  abbrev pub CountsItsTakes : Report B → Type 0
  CountsItsTakes r = r.lost ≡ 0 → r.takes ≡ takes_in (seen_records r)

  -- its base is that of a pool just made, where none was folded into it
  abbrev pub BeginsAtAMaking : Report B → Type 0
  BeginsAtAMaking r =
      r.lost ≡ 0 → seen_base r.base ≡ first_base (seen_limits r.limits) (as_nanos r.base.at)

  -- what keeps of the counts of each report of a book
  pub record HasSoundCounts (r : Report B) : Type 0 where
    pub counted : r.connections ≡ length r.idle.items + length r.lent.items
    pub fits : FitsIn (seen_limits r.limits).max_size r.connections r.pending
    pub replenished : IsReplenished (wanted_of (seen_limits r.limits))
        (seen_limits r.limits).max_size (length r.idle.items) r.connections r.pending r.closed

  -- all that a book, and a pool, promises of each of its reports
  pub record IsSoundReport (r : Report B) : Type 0 where
    pub replays : DoesReplay r
    pub begins : BeginsAtAMaking r
    pub counted : CountsItsTakes r
    pub sound : HasSoundCounts r

module _ {T B : Type 0} where
  -- it says what the book shows
  pub record IsReportOf (a : SeenBook T) (r : Report B) : Type 0 where
    pub limits : seen_limits r.limits ≡ a.picture.on_order.limits
    pub base : seen_base r.base ≡ a.journal.base
    pub records : seen_records r ≡ a.journal.records
    pub lost : r.lost ≡ a.journal.lost
    pub takes : r.takes ≡ a.journal.takes
    pub idle : r.idle.items ≡ map id_of_idle a.picture.idle
    pub lent : r.lent.items ≡ map id_of_lent a.picture.lent
    pub connections : r.connections ≡ a.picture.connections
    pub pending : r.pending ≡ a.picture.on_order.pending
    pub closed : r.closed ≡ a.picture.on_order.closed

  -- what its records come to is what a history comes to
  pub record IsReportAfter (h : History T) (r : Report B) : Type 0 where
    pub limits : seen_limits r.limits ≡ limits_of h
    pub idle : (told_in r).idle ≡ map bare (idle_of h)
    pub lent : (told_in r).lent ≡ lent_of h
    pub connections : (told_in r).connections ≡ connections_of h
    pub pending : (told_in r).pending ≡ pending_of h
    pub closed : (told_in r).closed ≡ is_closed h
