use Rattle.std.proofs.Common.{rules, subst}
use Rattle.pool_machine.specs.Picture.{IsSound}
use Rattle.pool_machine.proofs.Facts.Steady.{holds_nothing}
use Rattle.pool_machine.proofs.machine.Core.is_closed.Goals as goal

pub returns : goal.returns
returns g c =
    let s : IsSound c.args.self.now = subst IsSound c.self.view_is c.self.invariant.sound in
    record {
      value = search rules;
      empty = λ closed. holds_nothing s.steady (search rules);
      sound = s;
    }
