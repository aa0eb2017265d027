use Rattle.std.proofs.Common.{rules, arith, subst, sym, ◌≤◌}
use Rattle.std.proofs.lemmas.List.{map-id}
use Rattle.std.proofs.lemmas.Grind.{common_steps}
use Rattle.pool_machine.specs.Ids.{copies_of}
use Rattle.pool_machine.specs.Refusals.{unless_refused}
use Rattle.pool_machine.specs.OnOrder.{IsAccounted, admit_refusal, admitted_one}
use Rattle.pool_machine.proofs.Facts.Accounted.{accounted_admitted}
use Rattle.pool_machine.proofs.Facts.Wholes.{keeping}
use Rattle.pool_machine.proofs.machine.on_order.OnOrder.admit.Goals as goal

pub invariant_of-self : goal.invariant_of-self
invariant_of-self g c =
    let a : IsAccounted c.args.self.now = subst IsAccounted c.self.view_is c.self.invariant.accounted in
    keeping (unless_refused (admit_refusal c.args.id c.args.self.now) (admitted_one c.args.id c.args.self.now) c.args.self.now) (grind (arith, common_steps))
    (accounted_admitted c.args.id c.args.self.now a) (search rules)

pub remove-requires : goal.remove-requires
remove-requires g c =
    subst (λ xs. copies_of c.args.id xs ≤ 1) (sym (map-id c.self.inside.numbered.items))
    (subst (λ o. copies_of c.args.id o.numbered ≤ 1) (sym c.self.view_is) c.requires)
