use Rattle.std.proofs.Common.{◌≡◌, ◌-◌, ◌<◌, ◌∙◌, ap, arith}
use Rattle.std.proofs.lemmas.Bool.Decides.{nat_tests}
use Rattle.pool_state.specs.declared.line.place.Place.{Place}
use Rattle.pool_state.specs.Ring.{next_of, row_of, standing_of, or_quiet, walk}
use Rattle.pool_state.specs.Waiting.{weight as weight_of, ahead}
use Rattle.pool_state.proofs.Loops.{ahead_more, ahead_here, weight-le}
use Rattle.pool_state.proofs.line.queue.Line.ahead.Goals as goal

pub loop-init : goal.loop-init
loop-init c =
    let me = c.args.self.now in
    let f = next_of me.ring.links.items in
    let next : c.after-at.result ≡ f me.ring.end = c.after-at.ensures.next in
    let all : me.ring.len - 0 ≡ me.ring.len = omega arith in
    record {
      inside = c.after-at.ensures.inside;
      few = omega arith;
      most = omega arith;
      far = omega (arith, ap (λ x. ahead c.args.slot (row_of me.ring.standings.items (walk f (me.ring.len - 0) x))) next, ap (λ n. ahead c.args.slot (row_of me.ring.standings.items (walk f n (f me.ring.end)))) all);
    }

pub returns-then-at-slot : goal.returns-then-at-slot
returns-then-at-slot c =
    let me = c.args.self.now in
    let f = next_of me.ring.links.items in
    let lt : c.loop.counter < me.ring.len = grind (arith, nat_tests, c.loop-test.true) in
    omega (arith, ahead_here me.ring.standings.items f me.ring.len c.loop.counter c.loop.at lt c.args.slot c.if-at-slot.true, c.loop.invariant.far, c.loop.invariant.most)

pub returns-then-count-most : goal.returns-then-count-most
returns-then-count-most c = omega (arith, c.loop.invariant.far, c.if-count-most.true)

pub loop-preserved : goal.loop-preserved
loop-preserved c =
    let me = c.args.self.now in
    let sts = me.ring.standings.items in
    let f = next_of me.ring.links.items in
    let at = c.loop.at in
    let lt : c.loop.counter < me.ring.len = grind (arith, nat_tests, c.loop-test.true) in
    let next : c.after-at-in-loop.result ≡ f at = c.after-at-in-loop.ensures.next in
    let w : c.weight-count.result ≡ weight_of (or_quiet (standing_of sts at)) = c.weight-count.ensures ∙ ap (λ (p : Place). weight_of p.standing) c.place.ensures in
    record {
      inside = c.after-at-in-loop.ensures.inside;
      few = omega (arith, c.loop.invariant.few, w, weight-le (or_quiet (standing_of sts at)));
      most = omega (arith, c.if-count-most.false, w, weight-le (or_quiet (standing_of sts at)));
      far = omega (arith, w, c.loop.invariant.far, ahead_more sts f me.ring.len c.loop.counter at lt c.args.slot c.after-at-in-loop.result next c.if-at-slot.false);
    }
