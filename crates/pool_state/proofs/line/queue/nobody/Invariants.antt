use Rattle.std.proofs.Common.{◌≡◌, ℕ, ◌≤◌, length, vec_capacity}
use Rattle.pool_state.specs.Ring.{standing_of, one_if}
use Rattle.pool_state.proofs.line.queue.nobody.Given as goal

abbrev pub invariant-loop : goal.invariant-loop
invariant-loop l = record {
  len : length l.standings.items ≡ l.counter;
  capacity : l.room ≤ vec_capacity l.standings;
  nobody : (s : ℕ) → one_if (standing_of l.standings.items s) ≡ 0;
}
