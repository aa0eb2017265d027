use Rattle.std.proofs.Common.{◌+◌, refl, arith}
use Rattle.pool_state.specs.Ring.{next_of}
use Rattle.pool_state.proofs.Rings.{within}
use Rattle.pool_state.proofs.Searches.{gone_on, within_line}
use Rattle.pool_state.proofs.line.queue.Line.behind.Goals as goal

pub after-requires : goal.after-requires
after-requires c =
    let me = c.args.self.now in
    let ls = me.ring.links.items in
    within_line ls me.ring.standings.items me.ring.len (next_of ls me.ring.end) c.args.search me.inverse
    (within ls me.ring.end me.inverse (omega (arith, me.nodes))) c.requires.inside c.requires.here

pub returns-clause-here : goal.returns-clause-here
returns-clause-here c =
    let me = c.args.self.now in
    let ls = me.ring.links.items in
    gone_on ls me.ring.standings.items me.ring.len (next_of ls me.ring.end) c.args.search (record { at = c.after.result; gone = c.args.search.gone + 1 })
    c.requires.inside c.requires.here refl c.after.ensures.next
