use Rattle.std.proofs.Common.{◌≤◌, ◌∙◌, sym, subst, map}
use Rattle.pool_machine.specs.Ids.{copies_of}
use Rattle.circular_buffer.specs.Buffer.{Buffer}
use Rattle.pool_machine.specs.Slots.{held, HeldAt, NoneHeldFrom}
use Rattle.pool_machine.proofs.Lists.Slots.{found-held, found-none_held}
use Rattle.pool_machine.proofs.machine.roster.Roster.get.Goals as goal

pub returns-in-Some : goal.returns-in-Some
returns-in-Some g c =
    let id_of = g.X.HasId.id_of in
    let xs = c.self.inside.slots.items in
    let there : HeldAt id_of c.args.id xs c.in-Some.place = rw c.deref.ensures.value at c.in-Some.ensures in
    let apart : copies_of c.args.id (map id_of (held xs)) ≤ 1 = subst (λ (r : Buffer _). copies_of c.args.id (map id_of r.items) ≤ 1)
    (sym c.self.view_is) c.requires in
    rw (← c.self.view_is) (c.as_ref.ensures.value
    ∙ c.index.ensures
    ∙ sym (found-held id_of c.args.id xs c.in-Some.place c.index.result.now apart there.within there.here))

pub returns-in-None : goal.returns-in-None
returns-in-None g c =
    let xs = c.self.inside.slots.items in
    let none : NoneHeldFrom g.X.HasId.id_of c.args.id xs 0 = rw c.deref.ensures.value at c.in-None.ensures in
    rw (← c.self.view_is) (sym (found-none_held g.X.HasId.id_of c.args.id xs none))
