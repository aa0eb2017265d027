-- What a contract sees of a base that is kept in place, and what keeps of its fields.
use Rattle.std.specs.Prelude.{ℕ, ◌+◌, false, List, [], ◌∷◌, ◌++◌, length}
use Rattle.std.specs.Duration.{as_nanos}
use Rattle.r2d2_core.specs.declared.journal.running_base.Rooms.{Rooms}
use Rattle.r2d2_core.specs.declared.journal.running_base.RunningBase.TheInside.{Inside}
use Rattle.pool_machine.specs.Connections.{SeenLentConnection}
use Rattle.r2d2_core.specs.Records.{SeenRecord, Taken, Admitted, Kept}
use Rattle.r2d2_core.specs.Bases.{SeenBase, BareConnection, base_of}

-- how many may be idle, and how many lent
abbrev pub rooms : ℕ → ℕ → Rooms
rooms idle lent = record { idle = idle; lent = lent }

-- the base, and what it has room for
pub record SeenRunningBase : Type 0 where
  pub base : SeenBase
  pub room : Rooms

abbrev pub running_base : SeenBase → Rooms → SeenRunningBase
running_base b room = record { base = b; room = room }

-- what stands in a pool where nothing is idle or lent
abbrev pub empty_base : ℕ → ℕ → SeenBase
empty_base at pending = base_of at [] [] 0 pending false

module _ {A : Type 0} where
  abbrev pub base_in : Inside A → SeenBase
  base_in s = base_of (as_nanos s.at) s.idle.items s.lent.items
      (length s.idle.items + length s.lent.items) s.pending s.closed

-- how many come to be idle by a record, and how many come to be lent
abbrev pub made_idle_by : SeenRecord → ℕ
made_idle_by (Admitted at id) = 1
made_idle_by (Kept at id) = 1
made_idle_by r = 0

abbrev pub made_lent_by : SeenRecord → ℕ
made_lent_by (Taken at id n) = 1
made_lent_by r = 0

abbrev pub made_idle_in : List SeenRecord → ℕ
made_idle_in [] = 0
made_idle_in (r ∷ rs) = made_idle_by r + made_idle_in rs

abbrev pub made_lent_in : List SeenRecord → ℕ
made_lent_in [] = 0
made_lent_in (r ∷ rs) = made_lent_by r + made_lent_in rs

-- room for what a base has, and for what records bring
abbrev pub rooms_for : SeenBase → List SeenRecord → Rooms
rooms_for b rs = rooms (length b.idle + made_idle_in rs) (length b.lent + made_lent_in rs)

-- PARTS OF A BASE, with the connections that go with them

abbrev pub with_one_idle : BareConnection → SeenBase → SeenBase
with_one_idle c b = record b { idle = b.idle ++ c ∷ []; connections = b.connections + 1 }

abbrev pub with_idle : List BareConnection → SeenBase → SeenBase
with_idle idle b = record b { idle = idle; connections = length idle + length b.lent }

abbrev pub with_lent : List SeenLentConnection → SeenBase → SeenBase
with_lent lent b = record b { lent = lent; connections = length b.idle + length lent }
