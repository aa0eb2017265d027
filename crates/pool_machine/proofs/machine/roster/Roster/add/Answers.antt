use Rattle.std.proofs.Common.{◌≡◌, ◌++◌, ◌∷◌, [], ◌∙◌, ap, length, arith}
use Rattle.std.proofs.lemmas.List.{length_push}
use Rattle.circular_buffer.specs.Buffer.{buffer}
use Rattle.pool_machine.specs.Slots.{held}
use Rattle.pool_machine.proofs.Lists.Slots.{held-push}
use Rattle.pool_machine.proofs.machine.roster.Roster.add.Goals as goal

pub invariant_of-self : goal.invariant_of-self
invariant_of-self g c =
    let xs = c.self.inside.slots.items in
    let more : held c.push_reserved.new.self.items ≡ held xs ++ c.args.x ∷ [] =
    ap held c.push_reserved.ensures.items ∙ held-push c.make_room.new.slots.items c.args.x ∙ ap (λ l. l ++ c.args.x ∷ []) c.make_room.ensures.held in (
      omega (arith, ap length more, length_push (held xs) c.args.x, c.self.invariant.0),
      omega (arith, c.self.invariant.1, c.push_reserved.ensures.capacity, c.make_room.ensures.capacity),
    )

pub returns : goal.returns
returns g c =
    let xs = c.self.inside.slots.items in
    let more : held c.push_reserved.new.self.items ≡ held xs ++ c.args.x ∷ [] =
    ap held c.push_reserved.ensures.items ∙ held-push c.make_room.new.slots.items c.args.x ∙ ap (λ l. l ++ c.args.x ∷ []) c.make_room.ensures.held in
    rw (← c.self.view_is) (ap (λ l. buffer l c.self.inside.room) more)
