use Rattle.std.proofs.Common.{rules, ◌≡◌, arith, subst}
use Rattle.std.proofs.lemmas.Grind.{common_steps}
use Rattle.std.specs.Duration.{as_nanos}
use Rattle.pool_machine.specs.Jobs.{Open, first_job}
use Rattle.pool_machine.specs.OnOrder.{IsAccounted, begun}
use Rattle.pool_machine.proofs.Facts.Accounted.{accounted_begun, begins_within}
use Rattle.pool_machine.proofs.Facts.Wholes.{keeping}
use Rattle.pool_machine.proofs.machine.on_order.OnOrder.begin.Goals as goal

pub invariant_of-self : goal.invariant_of-self
invariant_of-self g c =
    let a : IsAccounted c.args.self.now = subst IsAccounted c.self.view_is c.self.invariant.accounted in
    keeping (begun (as_nanos c.args.now) c.args.self.now) (grind (arith, common_steps)) (accounted_begun (as_nanos c.args.now) c.args.self.now a) (search rules)

pub add-requires-clause-within : goal.add-requires-clause-within
add-requires-clause-within g c =
    let a : IsAccounted c.args.self.now = subst IsAccounted c.self.view_is c.self.invariant.accounted in
    let is : Open c.in-Open.tries ≡ first_job (as_nanos c.args.now) c.args.self.now.scheduled c.args.self.now.next_reap = grind (arith, common_steps) in
    begins_within (as_nanos c.args.now) c.in-Open.tries c.args.self.now is a
