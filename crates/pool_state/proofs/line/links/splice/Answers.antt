use Rattle.std.proofs.Common.{◌≡◌, ℕ, ◌∙◌, ap, arith}
use Rattle.std.proofs.lemmas.Bool.Decides.{nat_tests}
use Rattle.pool_state.specs.Ring.{next_of, prev_of, before, after}
use Rattle.pool_state.proofs.Rings.{within_prev, splice_step, splice_inverse, splice_inverse_back, prev_read}
use Rattle.pool_state.proofs.line.links.splice.Goals as goal

pub set_next-requires : goal.set_next-requires
set_next-requires c =
    let ls = c.args.links.now.items in
    let p = prev_read ls c.args.end c.index.result.now c.requires.end c.index.ensures in
    omega (arith, p, within_prev ls c.args.end c.requires.inverse c.requires.end)

pub returns-clause-nexts : goal.returns-clause-nexts
returns-clause-nexts c = λ x.
    let ls = c.args.links.now.items in
    let l = c.index.result.now in
    splice_step (next_of ls) (next_of c.set_next.new.links.items) (next_of c.set_prev.new.links.items) (next_of c.set_next-2.new.links.items) (next_of c.set_prev-2.new.links.items) (prev_of ls) c.args.at c.args.end l.prev x c.requires.inverse
    (prev_read ls c.args.end l c.requires.end c.index.ensures)
    (c.set_next.ensures.nexts x) (c.set_prev.ensures.nexts x) (c.set_next-2.ensures.nexts x) (c.set_prev-2.ensures.nexts x)

pub returns-clause-inverse : goal.returns-clause-inverse
returns-clause-inverse c =
    let ls = c.args.links.now.items in
    let at = c.args.at in
    let end = c.args.end in
    let f = next_of ls in
    let b = prev_of ls in
    let new = c.set_prev-2.new.links.items in
    let l = c.index.result.now in
    let inv = c.requires.inverse in
    let p = prev_read ls end l c.requires.end c.index.ensures in
    let prevs : (x : ℕ) → prev_of new x ≡ after at end b x = λ x.
    grind (arith, nat_tests, p, c.set_prev-2.ensures.prevs x, c.set_next-2.ensures.prevs x, c.set_prev.ensures.prevs x, c.set_next.ensures.prevs x) in (
      λ x. prevs (next_of new x) ∙ ap (after at end b) (returns-clause-nexts c x) ∙ splice_inverse f b at end x inv c.requires.apart c.requires.single,
      λ x. returns-clause-nexts c (prev_of new x) ∙ ap (before at end f) (prevs x) ∙ splice_inverse_back f b at end x inv c.requires.apart c.requires.single,
    )
