use Rattle.std.proofs.Common.{◌≡◌, ◌+◌, ◌++◌, length, map, vec_capacity}
use Rattle.r2d2_core.specs.Bases.{seen_lent}
use Rattle.pool_machine.specs.Slots.{held}
use Rattle.r2d2_core.proofs.journal.base.copied_lent.Given as goal

abbrev pub invariant-loop-loan : goal.invariant-loop-loan
invariant-loop-loan g l = record {
  told : map seen_lent l.list.items ++ held l.loan-iterator.slots.now ≡ l.fn.lent.items;
  room : length l.list.items + length (held l.loan-iterator.slots.now) ≡ vec_capacity l.list;
}
