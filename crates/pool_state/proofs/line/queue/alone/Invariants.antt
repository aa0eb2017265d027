use Rattle.std.proofs.Common.{◌≡◌, ℕ, ◌+◌, ◌≤◌, length, vec_capacity}
use Rattle.pool_state.specs.Ring.{next_of, prev_of}
use Rattle.pool_state.proofs.line.queue.alone.Given as goal

abbrev pub invariant-loop-slot : goal.invariant-loop-slot
invariant-loop-slot l = record {
  len : length l.links.items ≡ l.slot;
  capacity : l.room + 1 ≤ vec_capacity l.links;
  nexts : (x : ℕ) → next_of l.links.items x ≡ x;
  prevs : (x : ℕ) → prev_of l.links.items x ≡ x;
}
