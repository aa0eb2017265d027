use Rattle.std.proofs.Common.{rules, arith}
use Rattle.std.proofs.lemmas.Grind.{common_steps}
use Rattle.std.specs.Duration.{as_nanos}
use Rattle.pool_machine.specs.Limits.{seen_limits}
use Rattle.pool_machine.specs.OnOrder.{first_on_order}
use Rattle.pool_machine.proofs.Facts.Accounted.{accounted_first}
use Rattle.pool_machine.proofs.Facts.Wholes.{keeping}
use Rattle.pool_machine.proofs.Facts.Legal.{legal}
use Rattle.pool_machine.proofs.machine.on_order.OnOrder.new.Goals as goal

pub invariant_of-result : goal.invariant_of-result
invariant_of-result g c =
    let le = legal c.args.limits in
    keeping (first_on_order (seen_limits c.args.limits) (as_nanos c.args.now) c.args.first_id) (grind (arith, common_steps))
    (accounted_first (seen_limits c.args.limits) (as_nanos c.args.now) c.args.first_id le) (search rules)
