use Rattle.std.proofs.Common.{rules, arith, subst}
use Rattle.std.proofs.lemmas.Grind.{common_steps}
use Rattle.std.specs.Duration.{as_nanos}
use Rattle.pool_machine.specs.Picture.{IsSound}
use Rattle.pool_machine.specs.Table.{after_fail}
use Rattle.pool_machine.proofs.Facts.Sounds.{sound_fail}
use Rattle.pool_machine.proofs.Facts.Wholes.{whole}
use Rattle.pool_machine.proofs.Facts.Steps.{is_failed_opening}
use Rattle.pool_machine.proofs.machine.Core.fail.Goals as goal

pub invariant_of-self : goal.invariant_of-self
invariant_of-self g c =
    let s : IsSound c.args.self.now = subst IsSound c.self.view_is c.self.invariant.sound in
    whole (after_fail (as_nanos c.args.now) c.args.tries c.args.text c.args.self.now) (grind (arith, common_steps))
    (sound_fail (as_nanos c.args.now) c.args.tries c.args.text s) (search rules)

pub invariant_of-self-in-Err : goal.invariant_of-self-in-Err
invariant_of-self-in-Err g c =
    let s : IsSound c.args.self.now = subst IsSound c.self.view_is c.self.invariant.sound in
    whole (after_fail (as_nanos c.args.now) c.args.tries c.args.text c.args.self.now) (grind (arith, common_steps))
    (sound_fail (as_nanos c.args.now) c.args.tries c.args.text s) (search rules)

pub invariant_of-self-in-Err-2 : goal.invariant_of-self-in-Err-2
invariant_of-self-in-Err-2 g c =
    let s : IsSound c.args.self.now = subst IsSound c.self.view_is c.self.invariant.sound in
    whole (after_fail (as_nanos c.args.now) c.args.tries c.args.text c.args.self.now) (grind (arith, common_steps))
    (sound_fail (as_nanos c.args.now) c.args.tries c.args.text s) (search rules)

pub returns-in-Ok : goal.returns-in-Ok
returns-in-Ok g c =
    is_failed_opening _ _ _ _ _ _ (subst IsSound c.self.view_is c.self.invariant.sound) (search rules) (search rules)

pub returns-in-Err : goal.returns-in-Err
returns-in-Err g c =
    is_failed_opening _ _ _ _ _ _ (subst IsSound c.self.view_is c.self.invariant.sound) (search rules) (search rules)
