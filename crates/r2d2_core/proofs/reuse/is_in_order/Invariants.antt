use Rattle.std.proofs.Common.{drop, ◌∷◌}
use Rattle.r2d2_core.specs.Reuse.{IsSorted}
use Rattle.r2d2_core.proofs.reuse.is_in_order.Given as goal

abbrev pub invariant-loop-moment : goal.invariant-loop-moment
invariant-loop-moment l = record {
  onward : IsSorted l.idle → IsSorted (l.seen ∷ drop l.moment-index l.idle);
  back : IsSorted (l.seen ∷ drop l.moment-index l.idle) → IsSorted l.idle;
}
