use Rattle.std.proofs.Common.{◌∙◌, ap}
use Rattle.circular_buffer.specs.Buffer.{Buffer}
use Rattle.pool_machine.specs.Ids.{last_of}
use Rattle.pool_machine.proofs.Lists.Ids.{last_item-last_of}
use Rattle.pool_machine.proofs.machine.idle.counted.Ring.pop_next.Goals as goal

pub returns-in-NewestFirst-clause-next : goal.returns-in-NewestFirst-clause-next
returns-in-NewestFirst-clause-next g c = rw c.in-NewestFirst.is (c.pop_back.ensures.value
    ∙ (last_item-last_of c.self.inside.held.items ∙ ap (λ (b : Buffer _). last_of b.items) c.self.view_is))
