use Rattle.std.proofs.Common.{◌≡◌, length}
use Rattle.r2d2.proofs.pool.building.slots.Given as goal

-- as many as there were turns
abbrev pub invariant-loop : goal.invariant-loop
invariant-loop l = length l.slots.items ≡ l.counter
