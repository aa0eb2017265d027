use Rattle.std.proofs.Common.{◌≤◌, length, Some, sym, ◌∙◌, ap, arith}
use Rattle.std.specs.Duration.{as_nanos}
use Rattle.pool_state.specs.Ring.{next_of, places_in}
use Rattle.pool_state.proofs.Rows.{length-row}
use Rattle.pool_state.proofs.Searches.{late_on, late_found, late_nowhere, none_before_quiet}
use Rattle.pool_state.proofs.line.queue.Line.first_late.Goals as goal

pub loop-preserved : goal.loop-preserved
loop-preserved c = record {
  none = late_on (as_nanos c.args.now) c.args.ends.now c.loop.here c.behind-here.result (places_in c.args.self.now.ring) c.look-place.result c.loop.invariant.none c.look-place.ensures.there
      (sym c.is_quiet.ensures ∙ c.if-is_quiet.false) (sym c.is_late.ensures ∙ c.if-is_late.false) c.behind-here.ensures.here c.behind-here.ensures.gone;
  found = c.loop.invariant.found;
  gone = omega (arith, c.behind-here.ensures.gone, c.loop.invariant.gone);
}

pub returns-after-loop-clause-late : goal.returns-after-loop-clause-late
returns-after-loop-clause-late c =
    let me = c.args.self.now in
    let f = next_of me.ring.links.items in
    let all : length (places_in me.ring) ≤ c.loop.here.gone = omega (arith, length-row me.ring.standings.items f me.ring.len (f me.ring.end), c.loop-test.false, c.loop.invariant.gone) in
    c.loop.invariant.found ∙ sym (late_nowhere (as_nanos c.args.now) c.args.ends.now c.loop.here (places_in me.ring) c.loop.invariant.none all)

pub returns-then-is_quiet-clause-late : goal.returns-then-is_quiet-clause-late
returns-then-is_quiet-clause-late c =
    c.loop.invariant.found ∙ sym (none_before_quiet (as_nanos c.args.now) c.args.ends.now c.loop.here (places_in c.args.self.now.ring) c.look-place.result c.loop.invariant.none c.look-place.ensures.there
    (sym c.is_quiet.ensures ∙ c.if-is_quiet.true))

pub returns-then-is_late-clause-late : goal.returns-then-is_late-clause-late
returns-then-is_late-clause-late c =
    ap Some (sym c.look-place.ensures.slot) ∙ sym (late_found (as_nanos c.args.now) c.args.ends.now c.loop.here (places_in c.args.self.now.ring) c.look-place.result c.loop.invariant.none c.look-place.ensures.there
    (sym c.is_quiet.ensures ∙ c.if-is_quiet.false) (sym c.is_late.ensures ∙ c.if-is_late.true))
