use Rattle.std.proofs.Common.{rules, arith, subst}
use Rattle.std.proofs.lemmas.Grind.{common_steps}
use Rattle.pool_machine.specs.OnOrder.{IsAccounted, after_numbering}
use Rattle.pool_machine.proofs.Facts.Accounted.{accounted_numbering}
use Rattle.pool_machine.proofs.Facts.Wholes.{keeping}
use Rattle.pool_machine.proofs.machine.on_order.OnOrder.number.Goals as goal

pub invariant_of-self : goal.invariant_of-self
invariant_of-self g c =
    let a : IsAccounted c.args.self.now = subst IsAccounted c.self.view_is c.self.invariant.accounted in
    keeping (after_numbering c.args.tries c.args.self.now) (grind (arith, common_steps)) (accounted_numbering c.args.tries c.args.self.now a) (search rules)
