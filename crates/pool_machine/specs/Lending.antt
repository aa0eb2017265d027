-- Which of the idle connections is lent next. The list has the oldest first: the one that came to
-- be idle before the others.
use Rattle.std.specs.Prelude.{List, drop, slice_get, Option, None}
use Rattle.std.specs.List.{last_or}
use Rattle.pool_machine.specs.declared.schedule.limits.LendingOrder.{LendingOrder}
use Rattle.pool_machine.specs.declared.schedule.limits.LendingOrder.TheVariants as lending
use Rattle.pool_machine.specs.Ids.{front}

-- the idle one that is lent next: the last or the first
abbrev pub next_to_lend : {X : Type 0} → LendingOrder → List X → Option X
next_to_lend lending.NewestFirst idle = last_or None idle
next_to_lend lending.OldestFirst idle = slice_get idle 0

-- the others
abbrev pub still_idle : {X : Type 0} → LendingOrder → List X → List X
still_idle lending.NewestFirst idle = front idle
still_idle lending.OldestFirst idle = drop 1 idle
