use Rattle.std.proofs.Common.{◌≡◌}
use Rattle.std.specs.Duration.{as_nanos}
use Rattle.pool_machine.specs.Openings.{opening, with_many}
use Rattle.pool_machine.specs.Schedule.{with_openings}
use Rattle.pool_machine.proofs.schedule.Schedule.order_many.Given as goal

abbrev pub invariant-loop : goal.invariant-loop
invariant-loop g l = l.self ≡ with_openings (with_many l.counter (opening (as_nanos l.due) 0) l.fn.self.openings) l.fn.self
