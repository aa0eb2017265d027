use Rattle.std.proofs.Common.{◌≡◌, ◌<◌, ℕ, None}
use Rattle.std.specs.Prelude.{length}
use Rattle.pool_tasks.specs.Wakers.{waker_at}
use Rattle.pool_tasks.proofs.wakers.clear_all.Given as goal

-- nobody sleeps at a slot below
abbrev pub invariant-loop-slot : goal.invariant-loop-slot
invariant-loop-slot l = record {
  none : (slot : ℕ) → slot < l.slot → waker_at l.wakers slot ≡ None;
  slots : length l.wakers.items ≡ length l.fn.wakers.items;
}
