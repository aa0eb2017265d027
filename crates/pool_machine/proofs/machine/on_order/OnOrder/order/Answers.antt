use Rattle.std.proofs.Common.{rules, arith, subst}
use Rattle.std.proofs.lemmas.Grind.{common_steps}
use Rattle.std.specs.Duration.{as_nanos}
use Rattle.pool_machine.specs.OnOrder.{IsAccounted, with_orders}
use Rattle.pool_machine.proofs.Facts.Accounted.{accounted_orders}
use Rattle.pool_machine.proofs.Facts.Wholes.{keeping}
use Rattle.pool_machine.proofs.machine.on_order.OnOrder.order.Goals as goal

pub invariant_of-self : goal.invariant_of-self
invariant_of-self g c =
    let a : IsAccounted c.args.self.now = subst IsAccounted c.self.view_is c.self.invariant.accounted in
    keeping (with_orders c.args.count (as_nanos c.args.due) c.args.self.now) (grind (arith, common_steps))
    (accounted_orders c.args.count (as_nanos c.args.due) c.args.self.now c.requires.room c.requires.still_open a) (search rules)
