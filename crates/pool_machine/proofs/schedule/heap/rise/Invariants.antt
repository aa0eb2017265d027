use Rattle.std.proofs.Common.{◌≡◌, ◌+◌, ◌-◌, ◌*◌, ◌^◌, ◌<◌, ◌≤◌, length, get_or}
use Rattle.std.specs.Prelude.{IsPermutation}
use Rattle.pool_machine.specs.Openings.{SeenOpening}
use Rattle.pool_machine.proofs.Scheduling.Heaps.{UpTo}
use Rattle.pool_machine.proofs.schedule.heap.rise.Given as goal

abbrev pub invariant-up : goal.invariant-up
invariant-up g l = record {
  within : l.at < length l.entries;
  heap : (d : SeenOpening) → UpTo (λ k. get_or l.entries k d) (length l.fn.entries) l.at;
  size : length l.entries ≡ length l.fn.entries;
  permutation : IsPermutation l.fn.entries l.entries;
  from : l.initial.steps ≤ l.steps;
  cost : 2 ^ (l.steps - l.initial.steps) * (l.at + 1) ≤ length l.fn.entries;
}

abbrev pub decreases-up : goal.decreases-up
decreases-up g l = l.at
