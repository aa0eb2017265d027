use Rattle.std.proofs.Common.{rules, arith, subst}
use Rattle.std.proofs.lemmas.Grind.{common_steps}
use Rattle.std.specs.Duration.{as_nanos}
use Rattle.pool_machine.specs.Picture.{IsSound}
use Rattle.pool_machine.specs.Table.{after_reap}
use Rattle.pool_machine.proofs.Facts.Sounds.{sound_reap}
use Rattle.pool_machine.proofs.Facts.Wholes.{whole, sound_as}
use Rattle.pool_machine.proofs.machine.Core.reap.Goals as goal

pub invariant_of-self : goal.invariant_of-self
invariant_of-self g c =
    let s : IsSound c.args.self.now = subst IsSound c.self.view_is c.self.invariant.sound in
    whole (after_reap (as_nanos c.args.now) c.args.self.now) (grind (arith, common_steps)) (sound_reap (as_nanos c.args.now) s) (search rules)

pub returns-clause-step : goal.returns-clause-step
returns-clause-step g c =
    let s : IsSound c.args.self.now = subst IsSound c.self.view_is c.self.invariant.sound in
    record {
      released = search rules;
      answer = search rules;
      after = search rules;
      sound = sound_as (after_reap (as_nanos c.args.now) c.args.self.now)
          (grind (arith, common_steps)) (sound_reap (as_nanos c.args.now) s);
    }
