use Rattle.std.proofs.Common.{◌∙◌, ap, refl, arith}
use Rattle.pool_state.specs.Ring.{next_of, prev_of, skipped}
use Rattle.pool_state.proofs.Rings.{within, within_prev, skip_step, skip_inverse, next_read, prev_read}
use Rattle.pool_state.proofs.line.links.skip.Goals as goal

pub set_next-requires : goal.set_next-requires
set_next-requires c =
    let ls = c.args.links.now.items in
    let p = prev_read ls c.args.at c.index.result.now c.requires.at c.index.ensures in
    omega (arith, p, within_prev ls c.args.at c.requires.inverse c.requires.at)

pub set_prev-requires : goal.set_prev-requires
set_prev-requires c =
    let ls = c.args.links.now.items in
    let n = next_read ls c.args.at c.index.result.now c.requires.at c.index.ensures in
    omega (arith, n, within ls c.args.at c.requires.inverse c.requires.at, c.set_next.ensures.len)

pub returns-clause-nexts : goal.returns-clause-nexts
returns-clause-nexts c = λ x.
    let ls = c.args.links.now.items in
    let at = c.args.at in
    let l = c.index.result.now in
    skip_step (next_of ls) (next_of c.set_next.new.links.items) (next_of c.set_prev.new.links.items) (next_of c.set_next-2.new.links.items) (next_of c.set_prev-2.new.links.items) (prev_of ls) at l.prev l.next x c.requires.inverse
    (prev_read ls at l c.requires.at c.index.ensures) (next_read ls at l c.requires.at c.index.ensures)
    (c.set_next.ensures.nexts x) (c.set_prev.ensures.nexts x) (c.set_next-2.ensures.nexts x) (c.set_prev-2.ensures.nexts x)

pub returns-clause-prevs : goal.returns-clause-prevs
returns-clause-prevs c = λ x.
    let ls = c.args.links.now.items in
    let at = c.args.at in
    let l = c.index.result.now in
    let before_third = c.set_prev.ensures.prevs x in
    skip_step (prev_of ls) (prev_of c.set_prev.new.links.items) (prev_of c.set_next-2.new.links.items) (prev_of c.set_prev-2.new.links.items) (prev_of c.set_prev-2.new.links.items) (next_of ls) at l.next l.prev x (c.requires.inverse.1, c.requires.inverse.0)
    (next_read ls at l c.requires.at c.index.ensures) (prev_read ls at l c.requires.at c.index.ensures)
    (grind (arith, c.set_prev.ensures.prevs x, c.set_next.ensures.prevs x)) (c.set_next-2.ensures.prevs x) (c.set_prev-2.ensures.prevs x) refl

pub returns-clause-inverse : goal.returns-clause-inverse
returns-clause-inverse c =
    let ls = c.args.links.now.items in
    let at = c.args.at in
    let f = next_of ls in
    let b = prev_of ls in
    let new = c.set_prev-2.new.links.items in
    let inv = c.requires.inverse in (
      λ x. returns-clause-prevs c (next_of new x) ∙ ap (skipped at b) (returns-clause-nexts c x) ∙ skip_inverse f b at x inv,
      λ x. returns-clause-nexts c (prev_of new x) ∙ ap (skipped at f) (returns-clause-prevs c x) ∙ skip_inverse b f at x (inv.1, inv.0),
    )
