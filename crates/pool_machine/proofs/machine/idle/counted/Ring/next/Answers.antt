use Rattle.std.proofs.Common.{◌∙◌, ap}
use Rattle.circular_buffer.specs.Buffer.{Buffer}
use Rattle.pool_machine.specs.Ids.{last_of}
use Rattle.pool_machine.proofs.Lists.Ids.{last_item-last_of}
use Rattle.pool_machine.proofs.machine.idle.counted.Ring.next.Goals as goal

pub returns-in-NewestFirst : goal.returns-in-NewestFirst
returns-in-NewestFirst g c = rw c.in-NewestFirst.is (c.back.ensures
    ∙ (last_item-last_of c.self.inside.held.items ∙ ap (λ (b : Buffer _). last_of b.items) c.self.view_is))
