use Rattle.std.proofs.Common.{◌≤◌, sym, subst, map}
use Rattle.pool_machine.specs.Ids.{copies_of}
use Rattle.pool_machine.specs.Connections.{id_of_lent}
use Rattle.pool_machine.specs.Picture.{IsSound}
use Rattle.pool_machine.proofs.Facts.Apart.{lent_once}
use Rattle.pool_machine.proofs.machine.Core.lent_birth.Goals as goal

pub get-requires : goal.get-requires
get-requires g c =
    let s : IsSound c.args.self.now = subst IsSound c.self.view_is c.self.invariant.sound in
    subst (λ p. copies_of c.args.id (map id_of_lent p.lent) ≤ 1) (sym c.self.view_is) (lent_once c.args.id c.args.self.now s)
