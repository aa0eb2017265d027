use Rattle.std.proofs.Common.{◌≡◌, drop}
use Rattle.pool_machine.specs.declared.schedule.limits.LendingOrder.TheVariants as lending
use Rattle.r2d2_core.specs.Reuse.{first_seen, moments_of, last_seen, order_left, newest_list, oldest_list, other_left, other_list}
use Rattle.r2d2_core.proofs.reuse.compare.Given as goal

abbrev pub invariant-loop-step : goal.invariant-loop-step
invariant-loop-step l = record {
  newest : order_left lending.NewestFirst l.seen l.newest.items (drop l.step-index l.moves) ≡ newest_list l.idle l.moves;
  oldest : order_left lending.OldestFirst l.seen l.oldest.items (drop l.step-index l.moves) ≡ oldest_list l.idle l.moves;
  other : other_left l.seen l.other (drop l.step-index l.moves) ≡ other_list l.idle l.moves l.picks;
  seen : last_seen l.seen (drop l.step-index l.moves) ≡ last_seen (first_seen (moments_of l.idle)) l.moves;
}
