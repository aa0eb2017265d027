use Rattle.std.proofs.Common.{rules, arith, subst, sym, map, ◌≤◌}
use Rattle.std.proofs.lemmas.Grind.{common_steps}
use Rattle.std.specs.Duration.{as_nanos}
use Rattle.pool_machine.specs.Ids.{copies_of}
use Rattle.pool_machine.specs.Connections.{id_of_lent}
use Rattle.pool_machine.specs.Picture.{IsSound}
use Rattle.pool_machine.specs.Table.{after_return}
use Rattle.pool_machine.proofs.Facts.Sounds.{sound_return}
use Rattle.pool_machine.proofs.Facts.Wholes.{whole}
use Rattle.pool_machine.proofs.Facts.Steps.{is_return}
use Rattle.pool_machine.proofs.Facts.Apart.{lent_once}
use Rattle.pool_machine.proofs.machine.Core.put_back.Goals as goal

pub invariant_of-self : goal.invariant_of-self
invariant_of-self g c =
    let s : IsSound c.args.self.now = subst IsSound c.self.view_is c.self.invariant.sound in
    whole (after_return (as_nanos c.args.now) c.args.id c.args.value c.args.broken c.args.self.now) (grind (arith, common_steps))
    (sound_return (as_nanos c.args.now) c.args.id c.args.value c.args.broken s) (search rules)

pub invariant_of-self-else-is_closed : goal.invariant_of-self-else-is_closed
invariant_of-self-else-is_closed g c =
    let s : IsSound c.args.self.now = subst IsSound c.self.view_is c.self.invariant.sound in
    whole (after_return (as_nanos c.args.now) c.args.id c.args.value c.args.broken c.args.self.now) (grind (arith, common_steps))
    (sound_return (as_nanos c.args.now) c.args.id c.args.value c.args.broken s) (search rules)

pub returns-then-is_closed : goal.returns-then-is_closed
returns-then-is_closed g c =
    is_return _ _ _ _ _ _ _ (subst IsSound c.self.view_is c.self.invariant.sound) (search rules) (search rules)

pub returns-else-is_closed : goal.returns-else-is_closed
returns-else-is_closed g c =
    is_return _ _ _ _ _ _ _ (subst IsSound c.self.view_is c.self.invariant.sound) (search rules) (grind (arith, common_steps))

pub remove-requires : goal.remove-requires
remove-requires g c =
    let s : IsSound c.args.self.now = subst IsSound c.self.view_is c.self.invariant.sound in
    subst (λ p. copies_of c.args.id (map id_of_lent p.lent) ≤ 1) (sym c.self.view_is) (lent_once c.args.id c.args.self.now s)
