use Rattle.std.proofs.Common.{rules, arith, subst}
use Rattle.std.proofs.lemmas.Grind.{common_steps}
use Rattle.std.specs.Duration.{as_nanos}
use Rattle.pool_machine.specs.Picture.{IsSound}
use Rattle.pool_machine.specs.Table.{after_begin}
use Rattle.pool_machine.proofs.Facts.Sounds.{sound_begin}
use Rattle.pool_machine.proofs.Facts.Wholes.{whole, sound_as}
use Rattle.pool_machine.proofs.machine.Core.begin.Goals as goal

pub invariant_of-self : goal.invariant_of-self
invariant_of-self g c =
    let s : IsSound c.args.self.now = subst IsSound c.self.view_is c.self.invariant.sound in
    whole (after_begin (as_nanos c.args.now) c.args.self.now) (grind (arith, common_steps)) (sound_begin (as_nanos c.args.now) s) (search rules)

pub returns : goal.returns
returns g c =
    let s : IsSound c.args.self.now = subst IsSound c.self.view_is c.self.invariant.sound in
    record {
      answer = search rules;
      after = search rules;
      sound = sound_as (after_begin (as_nanos c.args.now) c.args.self.now)
          (grind (arith, common_steps)) (sound_begin (as_nanos c.args.now) s);
    }
