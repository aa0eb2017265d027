use Rattle.std.proofs.Common.{◌≤◌, length, Some, sym, ◌∙◌, ap, subst, arith}
use Rattle.pool_state.specs.Ring.{next_of, places_in}
use Rattle.pool_state.specs.Search.{StopsAt}
use Rattle.pool_state.proofs.Rows.{length-row}
use Rattle.pool_state.proofs.Searches.{quiet_on, quiet_found, quiet_nowhere}
use Rattle.pool_state.proofs.line.queue.Line.first_quiet.Goals as goal

pub loop-preserved : goal.loop-preserved
loop-preserved c = record {
  none = quiet_on c.loop.here c.behind-here.result (places_in c.args.self.now.ring) c.look-place.result c.loop.invariant.none c.look-place.ensures.there
      (sym c.is_quiet.ensures ∙ c.if-is_quiet.false) c.behind-here.ensures.here c.behind-here.ensures.gone;
  found = c.loop.invariant.found;
  gone = omega (arith, c.behind-here.ensures.gone, c.loop.invariant.gone);
}

pub returns-after-loop-clause-quiet : goal.returns-after-loop-clause-quiet
returns-after-loop-clause-quiet c =
    let me = c.args.self.now in
    let f = next_of me.ring.links.items in
    let all : length (places_in me.ring) ≤ c.loop.here.gone = omega (arith, length-row me.ring.standings.items f me.ring.len (f me.ring.end), c.loop-test.false, c.loop.invariant.gone) in
    c.loop.invariant.found ∙ sym (quiet_nowhere c.loop.here (places_in me.ring) c.loop.invariant.none all)

pub returns-then-is_quiet-clause-quiet : goal.returns-then-is_quiet-clause-quiet
returns-then-is_quiet-clause-quiet c =
    ap Some (sym c.look-place.ensures.slot) ∙ sym (quiet_found c.loop.here (places_in c.args.self.now.ring) c.look-place.result c.loop.invariant.none c.look-place.ensures.there
    (sym c.is_quiet.ensures ∙ c.if-is_quiet.true))

pub returns-after-loop-clause-stops : goal.returns-after-loop-clause-stops
returns-after-loop-clause-stops c =
    let me = c.args.self.now in
    let f = next_of me.ring.links.items in
    subst (λ o. StopsAt o c.loop.here (places_in me.ring)) (sym c.loop.invariant.found)
    (omega (arith, length-row me.ring.standings.items f me.ring.len (f me.ring.end), c.loop-test.false, c.loop.invariant.gone))
