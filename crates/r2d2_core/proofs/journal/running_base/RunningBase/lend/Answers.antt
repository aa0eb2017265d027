use Rattle.std.proofs.Common.{◌≡◌, ◌≤◌, ℕ, sym, Some, subst, map, arith}
use Rattle.std.specs.Duration.{as_nanos}
use Rattle.pool_machine.specs.Ids.{copies_of}
use Rattle.pool_machine.specs.Lending.{next_to_lend}
use Rattle.pool_machine.specs.Connections.{id_of_idle}
use Rattle.r2d2_core.specs.RunningBase.{SeenRunningBase, rooms}
use Rattle.pool_machine.proofs.Lists.Lending.{length-still_idle}
use Rattle.r2d2_core.proofs.Recording.RunningBase.{lends, birth_of}
use Rattle.r2d2_core.proofs.journal.running_base.RunningBase.lend.Goals as goal

pub returns-else-id-clause-less : goal.returns-else-id-clause-less
returns-else-id-clause-less g c =
    λ _.
    let next : next_to_lend c.order.result c.self.inside.idle.items ≡ Some c.in-Some.entry = cc in
    rw (← c.self.view_is, c.take.ensures.others) (omega (arith, length-still_idle c.order.result c.self.inside.idle.items c.in-Some.entry next))

pub returns-else-id-clause-lent : goal.returns-else-id-clause-lent
returns-else-id-clause-lent g c =
    λ _.
    let s = c.self.inside in
    let next : next_to_lend c.order.result s.idle.items ≡ Some c.in-Some.entry = cc in
    let birth : as_nanos c.birth.result ≡ birth_of c.in-Some.entry = c.birth.ensures in
    let is : c.in-Some.entry.id ≡ c.args.id = cc in
    let apart : (i : ℕ) → copies_of i (map id_of_idle s.idle.items) ≤ 1 = subst (λ (v : SeenRunningBase). (i : ℕ)
    → copies_of i (map id_of_idle v.base.idle) ≤ 1) (sym c.self.view_is) c.requires.apart in
    rw (← c.self.view_is, c.take.ensures.others, c.add.ensures, c.new.ensures)
    (lends c.order.result (as_nanos s.at) s.pending s.closed s.idle.items s.lent.items (rooms s.idle.capacity s.lent.capacity) c.args.id
    (as_nanos c.birth.result) c.in-Some.entry apart next is birth)
