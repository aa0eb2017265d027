use Rattle.std.proofs.Common.{rules, arith, subst}
use Rattle.std.proofs.lemmas.Grind.{common_steps}
use Rattle.std.specs.Duration.{as_nanos}
use Rattle.pool_machine.specs.Refusals.{unless_refused}
use Rattle.pool_machine.specs.OnOrder.{IsAccounted, fail_refusal, failed_one}
use Rattle.pool_machine.proofs.Facts.Accounted.{accounted_failed}
use Rattle.pool_machine.proofs.Facts.Wholes.{keeping}
use Rattle.pool_machine.proofs.machine.on_order.OnOrder.fail.Goals as goal

pub invariant_of-self-2 : goal.invariant_of-self-2
invariant_of-self-2 g c =
    let a : IsAccounted c.args.self.now = subst IsAccounted c.self.view_is c.self.invariant.accounted in
    keeping (unless_refused (fail_refusal c.args.tries c.args.self.now) (failed_one (as_nanos c.args.now) c.args.tries c.args.self.now) c.args.self.now)
    (grind (arith, common_steps)) (accounted_failed (as_nanos c.args.now) c.args.tries c.args.self.now a) (search rules)
