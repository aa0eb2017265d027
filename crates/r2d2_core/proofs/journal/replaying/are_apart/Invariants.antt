use Rattle.std.proofs.Common.{ℕ, ◌<◌, suc, get_or}
use Rattle.r2d2_core.proofs.journal.replaying.are_apart.Given as goal

abbrev pub invariant-loop-place : goal.invariant-loop-place
invariant-loop-place g l = record {
  rises : (j : ℕ) → suc j < l.place → get_or l.ids.items j 0 < get_or l.ids.items (suc j) 0;
}
