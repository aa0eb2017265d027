use Rattle.std.proofs.Common.{arith}
use Rattle.pool_state.proofs.Rings.{next_read, within}
use Rattle.pool_state.proofs.line.queue.Line.after.Goals as goal

pub returns-clause-next : goal.returns-clause-next
returns-clause-next c = next_read c.args.self.now.ring.links.items c.args.at c.index.result.now c.requires c.index.ensures

pub returns-clause-inside : goal.returns-clause-inside
returns-clause-inside c =
    let me = c.args.self.now in
    omega (arith, returns-clause-next c, within me.ring.links.items c.args.at me.inverse c.requires)
