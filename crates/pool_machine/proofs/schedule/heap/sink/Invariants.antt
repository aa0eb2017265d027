use Rattle.std.proofs.Common.{◌≡◌, ℕ, ◌+◌, ◌-◌, ◌*◌, ◌^◌, ◌≤◌, length, get_or}
use Rattle.std.specs.Prelude.{IsPermutation}
use Rattle.pool_machine.specs.Openings.{SeenOpening}
use Rattle.pool_machine.proofs.Scheduling.Heaps.{DownTo}
use Rattle.pool_machine.proofs.schedule.heap.sink.Given as goal

abbrev pub invariant-down : goal.invariant-down
invariant-down g l = record {
  within : l.at ≤ length l.entries - 1;
  heap : (d : SeenOpening) → DownTo (λ k. get_or l.entries k d) (length l.fn.entries) l.at;
  size : length l.entries ≡ length l.fn.entries;
  permutation : IsPermutation l.fn.entries l.entries;
  cost : (j : ℕ) × (l.steps ≤ l.initial.steps + 2 * j) × (2 ^ j ≤ l.at + 1);
}

abbrev pub decreases-down : goal.decreases-down
decreases-down g l = length l.initial.entries - l.at
