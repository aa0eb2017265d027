use Rattle.std.proofs.Common.{rules, arith, subst, sym, ◌≤◌}
use Rattle.std.proofs.lemmas.Grind.{common_steps}
use Rattle.std.specs.Duration.{as_nanos}
use Rattle.pool_machine.specs.Ids.{copies_of}
use Rattle.pool_machine.specs.Picture.{IsSound}
use Rattle.pool_machine.specs.Table.{after_admit}
use Rattle.pool_machine.proofs.Facts.Sounds.{sound_admit}
use Rattle.pool_machine.proofs.Facts.Wholes.{whole}
use Rattle.pool_machine.proofs.Facts.Steps.{is_admission}
use Rattle.pool_machine.proofs.Facts.Apart.{numbered_once}
use Rattle.pool_machine.proofs.machine.Core.admit.Goals as goal

pub invariant_of-self : goal.invariant_of-self
invariant_of-self g c =
    let s : IsSound c.args.self.now = subst IsSound c.self.view_is c.self.invariant.sound in
    whole (after_admit (as_nanos c.args.now) c.args.id c.args.value c.args.self.now) (grind (arith, common_steps))
    (sound_admit (as_nanos c.args.now) c.args.id c.args.value s) (search rules)

pub invariant_of-self-in-Err : goal.invariant_of-self-in-Err
invariant_of-self-in-Err g c =
    let s : IsSound c.args.self.now = subst IsSound c.self.view_is c.self.invariant.sound in
    whole (after_admit (as_nanos c.args.now) c.args.id c.args.value c.args.self.now) (grind (arith, common_steps))
    (sound_admit (as_nanos c.args.now) c.args.id c.args.value s) (search rules)

pub returns-in-Ok : goal.returns-in-Ok
returns-in-Ok g c =
    is_admission _ _ _ _ _ _ (subst IsSound c.self.view_is c.self.invariant.sound) (search rules) (grind (arith, common_steps))

pub returns-in-Err : goal.returns-in-Err
returns-in-Err g c =
    is_admission _ _ _ _ _ _ (subst IsSound c.self.view_is c.self.invariant.sound) (search rules) (search rules)

pub admit-requires : goal.admit-requires
admit-requires g c =
    let s : IsSound c.args.self.now = subst IsSound c.self.view_is c.self.invariant.sound in
    subst (λ p. copies_of c.args.id p.on_order.numbered ≤ 1) (sym c.self.view_is) (numbered_once c.args.id c.args.self.now s)
