use Rattle.std.proofs.Common.{arith}
use Rattle.std.specs.Duration.{as_nanos}
use Rattle.pool_machine.specs.Limits.{seen_limits}
use Rattle.r2d2_core.proofs.Recording.RunningBase.{sweeps}
use Rattle.r2d2_core.proofs.journal.running_base.RunningBase.sweep.Goals as goal

pub overflow_sub-result : goal.overflow_sub-result
overflow_sub-result g c = omega (arith, c.len.ensures, c.len-before.ensures, c.shed.ensures.count)

pub returns-clause-closed : goal.returns-clause-closed
returns-clause-closed g c =
    rw (← c.self.view_is) (omega (arith, c.len.ensures, c.len-before.ensures, c.shed.ensures.count))

pub returns-clause-swept : goal.returns-clause-swept
returns-clause-swept g c =
    rw (← c.self.view_is) (sweeps (seen_limits c.args.limits.now) (as_nanos c.self.inside.at) c.self.inside.pending c.self.inside.closed
    c.self.inside.idle.items c.self.inside.lent.items c.self.inside.idle.capacity c.self.inside.lent.capacity c.shed.new.self c.shed.ensures.kept
    c.shed.ensures.count)
