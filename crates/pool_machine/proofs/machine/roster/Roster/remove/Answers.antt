use Rattle.std.proofs.Common.{◌≡◌, ◌≤◌, ◌∙◌, sym, ap, subst, map, length, set, None, refl, arith}
use Rattle.pool_machine.specs.Ids.{copies_of}
use Rattle.circular_buffer.specs.Buffer.{Buffer, buffer}
use Rattle.pool_machine.specs.Slots.{held, holds, HeldAt, NoneHeldFrom}
use Rattle.pool_machine.proofs.Lists.Slots.{found-held, without-held, length-held, found-none_held, without-none_held, full}
use Rattle.pool_machine.proofs.machine.roster.Roster.remove.Goals as goal

pub overflow_sub-self : goal.overflow_sub-self
overflow_sub-self g c =
    let id_of = g.X.HasId.id_of in
    let xs = c.self.inside.slots.items in
    let there : HeldAt id_of c.args.id xs c.in-Some.place = rw c.deref.ensures.value at c.in-Some.ensures in
    let less = length-held id_of c.args.id xs c.in-Some.place there.within there.here in
    omega (arith, less, c.self.invariant.0)

pub invariant_of-self : goal.invariant_of-self
invariant_of-self g c =
    let id_of = g.X.HasId.id_of in
    let xs = c.self.inside.slots.items in
    let there : HeldAt id_of c.args.id xs c.in-Some.place = rw c.deref.ensures.value at c.in-Some.ensures in
    let less = length-held id_of c.args.id xs c.in-Some.place there.within there.here in
    let rest : held c.shorten.new.slots.items ≡ held (set xs c.in-Some.place None) = c.shorten.ensures.held ∙ ap held c.take_at-gone.ensures.rest in
    (omega (arith, less, ap length rest, c.self.invariant.0), omega (arith, c.self.invariant.1, c.shorten.ensures.capacity, c.take_at-gone.ensures.capacity))

pub returns-in-Some-clause-gone : goal.returns-in-Some-clause-gone
returns-in-Some-clause-gone g c =
    let id_of = g.X.HasId.id_of in
    let xs = c.self.inside.slots.items in
    let there : HeldAt id_of c.args.id xs c.in-Some.place = rw c.deref.ensures.value at c.in-Some.ensures in
    let apart : copies_of c.args.id (map id_of (held xs)) ≤ 1 = subst (λ (r : Buffer _). copies_of c.args.id (map id_of r.items) ≤ 1)
    (sym c.self.view_is) c.requires in
    rw (← c.self.view_is) (c.take_at-gone.ensures.gone c.take_at-gone.result
    ∙ sym (found-held id_of c.args.id xs c.in-Some.place c.take_at-gone.result apart there.within there.here))

pub returns-in-Some-clause-rest : goal.returns-in-Some-clause-rest
returns-in-Some-clause-rest g c =
    let id_of = g.X.HasId.id_of in
    let xs = c.self.inside.slots.items in
    let there : HeldAt id_of c.args.id xs c.in-Some.place = rw c.deref.ensures.value at c.in-Some.ensures in
    let apart : copies_of c.args.id (map id_of (held xs)) ≤ 1 = subst (λ (r : Buffer _). copies_of c.args.id (map id_of r.items) ≤ 1)
    (sym c.self.view_is) c.requires in
    let rest : held c.shorten.new.slots.items ≡ held (set xs c.in-Some.place None) = c.shorten.ensures.held ∙ ap held c.take_at-gone.ensures.rest in
    rw (← c.self.view_is) (ap (λ l. buffer l c.self.inside.room) (rest ∙ sym (without-held id_of c.args.id xs c.in-Some.place apart there.within there.here)))

pub returns-in-Some-clause-same : goal.returns-in-Some-clause-same
returns-in-Some-clause-same g c =
    let id_of = g.X.HasId.id_of in
    let xs = c.self.inside.slots.items in
    let there : HeldAt id_of c.args.id xs c.in-Some.place = rw c.deref.ensures.value at c.in-Some.ensures in
    full _ id_of c.args.id c.take_at-gone.result (ap (holds id_of c.args.id) (c.take_at-gone.ensures.gone None) ∙ there.here None)

pub returns-in-Some-clause-len : goal.returns-in-Some-clause-len
returns-in-Some-clause-len g c =
    let id_of = g.X.HasId.id_of in
    let xs = c.self.inside.slots.items in
    let there : HeldAt id_of c.args.id xs c.in-Some.place = rw c.deref.ensures.value at c.in-Some.ensures in
    let less = length-held id_of c.args.id xs c.in-Some.place there.within there.here in
    let rest : held c.shorten.new.slots.items ≡ held (set xs c.in-Some.place None) = c.shorten.ensures.held ∙ ap held c.take_at-gone.ensures.rest in
    λ some. omega (arith, less, ap length rest, ap (λ (r : Buffer _). length r.items) c.self.view_is)

pub returns-in-None-clause-gone : goal.returns-in-None-clause-gone
returns-in-None-clause-gone g c =
    let xs = c.self.inside.slots.items in
    let none : NoneHeldFrom g.X.HasId.id_of c.args.id xs 0 = rw c.deref.ensures.value at c.in-None.ensures in
    rw (← c.self.view_is) (sym (found-none_held g.X.HasId.id_of c.args.id xs none))

pub returns-in-None-clause-rest : goal.returns-in-None-clause-rest
returns-in-None-clause-rest g c =
    let xs = c.self.inside.slots.items in
    let none : NoneHeldFrom g.X.HasId.id_of c.args.id xs 0 = rw c.deref.ensures.value at c.in-None.ensures in
    rw (← c.self.view_is, without-none_held g.X.HasId.id_of c.args.id xs none) refl
