-- What a report's audit looks at, test by test.
use Rattle.std.specs.Prelude.{◌≡◌, ℕ, ◌+◌, Bool, true, ◌==◌, ◌||◌, ◌&&◌, not, nat_le, List, [], ◌∷◌}
use Rattle.std.specs.Prelude.{length, map}
use Rattle.pool_machine.specs.declared.schedule.limits.LimitSettings.{LimitSettings}
use Rattle.pool_machine.specs.Connections.{SeenLentConnection, id_of_idle, id_of_lent}
use Rattle.r2d2_core.specs.Bases.{SeenBase, BareConnection}
use Rattle.r2d2_core.specs.declared.journal.report.Report.{Report}

-- connections are the idle ones and the lent ones, with the pending ones at most `max_size`; once
-- closed, nothing is idle or pending
abbrev pub counts_fit : LimitSettings → SeenBase → Bool
counts_fit limits b = (b.connections == length b.idle + length b.lent)
    && (nat_le (b.connections + b.pending) limits.max_size &&
    (not b.closed || ((length b.idle == 0) && (b.pending == 0))))

-- idle moments never fall, from one on, and none is after another; each was admitted before
abbrev pub are_in_order : ℕ → ℕ → List BareConnection → Bool
are_in_order at last [] = true
are_in_order at last (c ∷ cs) = (nat_le c.birth c.since
    && (nat_le last c.since && nat_le c.since at)) && are_in_order at c.since cs

-- each lent one was admitted before
abbrev pub are_born : ℕ → List SeenLentConnection → Bool
are_born at [] = true
are_born at (l ∷ ls) = nat_le l.birth at && are_born at ls

-- what stands is what a report shows
pub record ShowsCounts {B : Type 0} (b : SeenBase) (r : Report B) : Type 0 where
  pub idle : map id_of_idle b.idle ≡ r.idle.items
  pub lent : map id_of_lent b.lent ≡ r.lent.items
  pub connections : b.connections ≡ r.connections
  pub pending : b.pending ≡ r.pending
  pub closed : b.closed ≡ r.closed
