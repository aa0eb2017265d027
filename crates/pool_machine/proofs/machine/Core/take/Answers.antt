use Rattle.std.proofs.Common.{rules, arith, subst}
use Rattle.std.proofs.lemmas.Grind.{common_steps}
use Rattle.std.specs.Duration.{as_nanos}
use Rattle.pool_machine.specs.Picture.{IsSound}
use Rattle.pool_machine.specs.Table.{after_take}
use Rattle.pool_machine.proofs.Facts.Sounds.{sound_take}
use Rattle.pool_machine.proofs.Facts.Wholes.{whole}
use Rattle.pool_machine.proofs.Facts.Steps.{is_take}
use Rattle.pool_machine.proofs.machine.Core.take.Goals as goal

pub invariant_of-self : goal.invariant_of-self
invariant_of-self g c =
    let s : IsSound c.args.self.now = subst IsSound c.self.view_is c.self.invariant.sound in
    whole (after_take (as_nanos c.args.now) c.args.or_order c.args.self.now) (grind (arith, common_steps)) (sound_take (as_nanos c.args.now) c.args.or_order s)
    (search rules)

pub invariant_of-self-in-None : goal.invariant_of-self-in-None
invariant_of-self-in-None g c =
    let s : IsSound c.args.self.now = subst IsSound c.self.view_is c.self.invariant.sound in
    whole (after_take (as_nanos c.args.now) c.args.or_order c.args.self.now) (grind (arith, common_steps)) (sound_take (as_nanos c.args.now) c.args.or_order s)
    (search rules)

pub returns-in-Some : goal.returns-in-Some
returns-in-Some g c =
    is_take _ _ _ _ _ (subst IsSound c.self.view_is c.self.invariant.sound) (grind (arith, common_steps)) (grind (arith, common_steps))

pub returns-in-None : goal.returns-in-None
returns-in-None g c =
    is_take _ _ _ _ _ (subst IsSound c.self.view_is c.self.invariant.sound) (grind (arith, common_steps)) (grind (arith, common_steps))
