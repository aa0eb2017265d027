use Rattle.std.proofs.Common.{◌≡◌, ℕ, ◌≤◌, length, vec_capacity}
use Rattle.pool_state.specs.Waiting.{copies_of}
use Rattle.pool_state.proofs.line.queue.slots.Given as goal

abbrev pub invariant-loop-slot : goal.invariant-loop-slot
invariant-loop-slot l = record {
  len : length l.free.items ≡ l.slot;
  capacity : l.room ≤ vec_capacity l.free;
  apart : (s : ℕ) → copies_of s l.free.items ≤ 1;
  below : (s : ℕ) → l.slot ≤ s → copies_of s l.free.items ≡ 0;
}
