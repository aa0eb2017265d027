use Rattle.std.proofs.Common.{rules, arith, subst, sym, map, ◌≤◌}
use Rattle.std.proofs.lemmas.Grind.{common_steps}
use Rattle.std.specs.Duration.{as_nanos}
use Rattle.pool_machine.specs.Ids.{copies_of}
use Rattle.pool_machine.specs.Connections.{id_of_lent}
use Rattle.pool_machine.specs.Picture.{IsSound}
use Rattle.pool_machine.specs.Table.{after_check}
use Rattle.pool_machine.proofs.Facts.Sounds.{sound_check}
use Rattle.pool_machine.proofs.Facts.Wholes.{whole}
use Rattle.pool_machine.proofs.Facts.Steps.{is_failed_check}
use Rattle.pool_machine.proofs.Facts.Apart.{lent_once}
use Rattle.pool_machine.proofs.machine.Core.fail_check.Goals as goal

pub invariant_of-self : goal.invariant_of-self
invariant_of-self g c =
    let s : IsSound c.args.self.now = subst IsSound c.self.view_is c.self.invariant.sound in
    whole (after_check (as_nanos c.args.now) c.args.id c.args.text c.args.self.now) (grind (arith, common_steps))
    (sound_check (as_nanos c.args.now) c.args.id c.args.text s) (search rules)

pub returns-in-Some : goal.returns-in-Some
returns-in-Some g c =
    is_failed_check _ _ _ _ _ _ (subst IsSound c.self.view_is c.self.invariant.sound) (search rules) (search rules)

pub remove-requires : goal.remove-requires
remove-requires g c =
    let s : IsSound c.args.self.now = subst IsSound c.self.view_is c.self.invariant.sound in
    subst (λ p. copies_of c.args.id (map id_of_lent p.lent) ≤ 1) (sym c.self.view_is) (lent_once c.args.id c.args.self.now s)
