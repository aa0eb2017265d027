use Rattle.std.proofs.Common.{◌≡◌, ℕ, set, Some, sym, ◌∙◌, ap, arith}
use Rattle.std.proofs.lemmas.List.{length-set}
use Rattle.pool_state.specs.Ring.{next_of, order, row_of, standing_of, one_if, or_quiet}
use Rattle.pool_state.specs.Waiting.{weight as weight_of, waiting_in, copies_of, with_standing}
use Rattle.pool_state.proofs.Waiting.{waiting_in-standing, waiting_in-le, weight_at-le, length-standing}
use Rattle.pool_state.proofs.Rows.{row_of-mark, weight_at-row, copies_in-row, length-row, marks_none, stands_within, one_if-mark}
use Rattle.pool_state.proofs.line.queue.Line.mark.Goals as goal

pub returns-in_default-clause-places : goal.returns-in_default-clause-places
returns-in_default-clause-places c =
    let me = c.args.self.now in
    let s = c.args.slot in
    let ss = order me.ring.links.items me.ring.end me.ring.len in
    let none : copies_of s ss ≡ 0 = me.stand s ∙ ap one_if (sym c.standing.ensures ∙ c.in_default.is) in
    sym (marks_none s c.args.standing (row_of me.ring.standings.items ss) (copies_in-row me.ring.standings.items s ss ∙ none))

pub overflow_sub-self : goal.overflow_sub-self
overflow_sub-self c =
    let me = c.args.self.now in
    let sts = me.ring.standings.items in
    let s = c.args.slot in
    let ss = order me.ring.links.items me.ring.end me.ring.len in
    let st = sym c.standing.ensures ∙ c.in-Some.is in
    let one : copies_of s ss ≡ 1 = me.stand s ∙ ap one_if st in
    let w : weight_of (or_quiet (standing_of sts s)) ≡ weight_of c.in-Some.before = ap (λ o. weight_of (or_quiet o)) st in
    omega (arith, c.weight.ensures, w, weight_at-row sts s ss (omega (arith, one)), weight_at-le s (row_of sts ss), me.counted)

pub overflow_add-self : goal.overflow_add-self
overflow_add-self c =
    let me = c.args.self.now in
    let sts = me.ring.standings.items in
    let s = c.args.slot in
    let t = c.args.standing in
    let ss = order me.ring.links.items me.ring.end me.ring.len in
    let ps = row_of sts ss in
    let st = sym c.standing.ensures ∙ c.in-Some.is in
    let one : copies_of s ss ≡ 1 = me.stand s ∙ ap one_if st in
    let w : weight_of (or_quiet (standing_of sts s)) ≡ weight_of c.in-Some.before = ap (λ o. weight_of (or_quiet o)) st in
    omega (arith, c.weight.ensures, c.weight-2.ensures, w, weight_at-le s ps, weight_at-row sts s ss (omega (arith, one)), waiting_in-standing s t ps (omega (arith, one, copies_in-row sts s ss)), waiting_in-le (with_standing s t ps), length-standing s t ps, length-row sts (next_of me.ring.links.items) me.ring.len (next_of me.ring.links.items me.ring.end), me.counted, me.room, me.small)

pub returns-clause-places : goal.returns-clause-places
returns-clause-places c =
    let me = c.args.self.now in
    let sts = me.ring.standings.items in
    let s = c.args.slot in
    let ss = order me.ring.links.items me.ring.end me.ring.len in
    let one_at = ap one_if (sym c.standing.ensures ∙ c.in-Some.is) in
    let one : copies_of s ss ≡ 1 = me.stand s ∙ one_at in
    row_of-mark sts s c.args.standing (stands_within sts s one_at) ss (omega (arith, one))

pub invariant_of-self : goal.invariant_of-self
invariant_of-self c =
    let me = c.args.self.now in
    let sts = me.ring.standings.items in
    let s = c.args.slot in
    let t = c.args.standing in
    let ss = order me.ring.links.items me.ring.end me.ring.len in
    let ps = row_of sts ss in
    let st = sym c.standing.ensures ∙ c.in-Some.is in
    let one_at : one_if (standing_of sts s) ≡ 1 = ap one_if st in
    let one : copies_of s ss ≡ 1 = me.stand s ∙ one_at in
    let lt = stands_within sts s one_at in
    let w : weight_of (or_quiet (standing_of sts s)) ≡ weight_of c.in-Some.before = ap (λ o. weight_of (or_quiet o)) st in
    let same : (x : ℕ) → one_if (standing_of (set sts s (Some t)) x) ≡ one_if (standing_of sts x) = λ x. one_if-mark sts s t x lt one_at in
    let now : row_of (set sts s (Some t)) ss ≡ with_standing s t ps = row_of-mark sts s t lt ss (omega (arith, one)) in
    record {
      inverse = me.inverse;
      closed = me.closed;
      stand = λ x. me.stand x ∙ sym (same x);
      apart = λ x. omega (arith, me.apart x, same x);
      low = me.low;
      alone = λ x none ne. me.alone x (sym (same x) ∙ none) ne;
      counted = omega (arith, c.weight.ensures, c.weight-2.ensures, w, weight_at-row sts s ss (omega (arith, one)), waiting_in-standing s t ps (omega (arith, one, copies_in-row sts s ss)), weight_at-le s ps, ap waiting_in now, me.counted);
      nodes = me.nodes;
      slots = length-set sts s (Some t) ∙ me.slots;
      room = me.room;
      room_for_free = me.room_for_free;
      small = me.small;
    }
