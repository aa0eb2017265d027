use Rattle.std.proofs.Common.{Some, sym, ◌∙◌, ap}
use Rattle.pool_state.specs.Ring.{next_of}
use Rattle.pool_state.proofs.Searches.{looked_at}
use Rattle.pool_state.proofs.line.queue.Line.look.Goals as goal

pub returns-clause-there : goal.returns-clause-there
returns-clause-there c =
    let me = c.args.self.now in
    let f = next_of me.ring.links.items in
    looked_at me.ring.standings.items f me.ring.len (f me.ring.end) c.args.search c.requires.inside c.requires.here ∙ ap Some (sym c.place.ensures)
