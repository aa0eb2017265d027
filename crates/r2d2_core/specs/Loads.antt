-- How much of a pool is in use.
use Rattle.std.specs.Prelude.{◌≡◌, ℕ, ◌+◌, ◌-◌, ◌^◌, min, nat_le, length, if◌then◌else◌}
use Rattle.std.specs.Prelude.{Bool, true, false, not, ◌&&◌}
use Rattle.std.specs.Duration.{as_nanos}
use Rattle.r2d2_core.specs.declared.journal.load.Load.{Load}
use Rattle.r2d2_core.specs.Records.{SeenRecord, Taken, Ordered, Admitted, Kept, Closed, Reaped, ClosedAll}
use Rattle.r2d2_core.specs.Bases.{SeenBase}
use Rattle.pool_machine.specs.Limits.{seen_limits, later_by}

-- it tells what a base does, but for which connections those are
pub record IsLoadOf (b : SeenBase) (load : Load) : Type 0 where
  pub at : as_nanos load.at ≡ b.at
  pub lent : load.lent ≡ length b.lent
  pub pending : load.pending ≡ b.pending
  pub closed : load.closed ≡ b.closed

-- all that there may be are lent or pending, and it is open: who comes has to wait
abbrev pub is_exhausted : Load → Bool
is_exhausted load = not load.closed
    && nat_le (seen_limits load.limits).max_size (load.lent + load.pending)

-- for how long it was so up to the moment t, where nothing changes before it
abbrev pub exhausted_until : ℕ → Load → ℕ
exhausted_until t load = if is_exhausted load
    then later_by (as_nanos load.exhausted) (t - as_nanos load.at)
    else as_nanos load.exhausted

-- how many a record leaves lent and pending, as far as the numbers of the program go, and whether
-- it closes the pool
abbrev pub lent_after : SeenRecord → ℕ → ℕ
lent_after (Taken at id n) lent = min (lent + 1) (2 ^ 64 - 1)
lent_after (Kept at id) lent = lent - 1
lent_after (Closed at id n) lent = lent - 1
lent_after r lent = lent

abbrev pub pending_after : SeenRecord → ℕ → ℕ
pending_after (Taken at id n) pending = min (pending + n) (2 ^ 32 - 1)
pending_after (Ordered at n) pending = min (pending + n) (2 ^ 32 - 1)
pending_after (Admitted at id) pending = pending - 1
pending_after (Kept at id) pending = pending
pending_after (Closed at id n) pending = min (pending + n) (2 ^ 32 - 1)
pending_after (Reaped at n) pending = min (pending + n) (2 ^ 32 - 1)
pending_after (ClosedAll at) pending = 0

abbrev pub is_close : SeenRecord → Bool
is_close (ClosedAll at) = true
is_close r = false
