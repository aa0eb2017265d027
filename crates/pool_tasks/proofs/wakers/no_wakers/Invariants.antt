use Rattle.std.proofs.Common.{◌≡◌, ℕ, None}
use Rattle.std.specs.Prelude.{length}
use Rattle.pool_tasks.specs.Wakers.{waker_at}
use Rattle.pool_tasks.proofs.wakers.no_wakers.Given as goal

-- nobody sleeps at any slot
abbrev pub invariant-loop : goal.invariant-loop
invariant-loop l = record {
  none : (slot : ℕ) → waker_at l.wakers slot ≡ None;
  slots : length l.wakers.items ≡ l.counter;
}
