use Rattle.std.proofs.Common.{rules, arith, subst}
use Rattle.std.proofs.lemmas.Grind.{common_steps}
use Rattle.pool_machine.specs.Picture.{IsSound}
use Rattle.pool_machine.specs.Table.{after_close}
use Rattle.pool_machine.proofs.Facts.Sounds.{sound_close}
use Rattle.pool_machine.proofs.Facts.Wholes.{whole, sound_as}
use Rattle.pool_machine.proofs.machine.Core.close.Goals as goal

pub invariant_of-self : goal.invariant_of-self
invariant_of-self g c =
    let s : IsSound c.args.self.now = subst IsSound c.self.view_is c.self.invariant.sound in
    whole (after_close c.args.self.now) (grind (arith, common_steps)) (sound_close s) (search rules)

pub returns : goal.returns
returns g c =
    let s : IsSound c.args.self.now = subst IsSound c.self.view_is c.self.invariant.sound in
    record {
      answer = search rules;
      after = search rules;
      sound = sound_as (after_close c.args.self.now)
          (grind (arith, common_steps)) (sound_close s);
    }
