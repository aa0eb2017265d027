use Rattle.std.proofs.Common.{◌≡◌, ◌≢◌, ℕ, ◌+◌, ◌<◌, ◌++◌, ◌∷◌, [], length, set, cond, Some, sym, ◌∙◌, ap, arith}
use Rattle.std.specs.Prelude.{◌==◌}
use Rattle.std.proofs.lemmas.Bool.Decides.{nat_tests}
use Rattle.std.proofs.lemmas.List.{length-set}
use Rattle.pool_state.specs.declared.line.place.Standing.TheVariants.{Quiet}
use Rattle.pool_state.specs.Ring.{next_of, order, places_in, row_of, standing_of, one_if}
use Rattle.pool_state.specs.Waiting.{waiting_in, copies_of, place}
use Rattle.pool_state.proofs.Waiting.{waiting_in-join, waiting_in-le, copies_of-push, copies_of-same}
use Rattle.pool_state.proofs.Walks.{order_joined, closed_joined}
use Rattle.pool_state.proofs.Rows.{copies_in-row, length-row, past_standing, one_if-joined, alone_joined, joined_row, below_end}
use Rattle.std.proofs.Common.{subst}
use Rattle.pool_state.specs.Order.{Came, IsHistoryOf}
use Rattle.pool_state.proofs.Order.{came}
use Rattle.pool_state.proofs.line.queue.Line.join.Goals as goal

pub splice-requires-clause-at : goal.splice-requires-clause-at
splice-requires-clause-at c =
    let me = c.args.self.now in
    let s = c.in_ok-slot.slot in
    let popped : copies_of s me.free.items ≡ copies_of s c.pop.new.self.items + 1 = ap (copies_of s) c.in_ok-slot.ensures.items ∙ copies_of-same c.pop.new.self.items s in
    omega (arith, below_end s me.ring.end (copies_of s me.free.items) (me.low s) (omega (arith, popped)), me.nodes)

pub splice-requires-clause-apart : goal.splice-requires-clause-apart
splice-requires-clause-apart c =
    let me = c.args.self.now in
    let s = c.in_ok-slot.slot in
    let popped : copies_of s me.free.items ≡ copies_of s c.pop.new.self.items + 1 = ap (copies_of s) c.in_ok-slot.ensures.items ∙ copies_of-same c.pop.new.self.items s in
    let lt = below_end s me.ring.end (copies_of s me.free.items) (me.low s) (omega (arith, popped)) in
    λ e. omega (arith, e, lt)

pub splice-requires-clause-single : goal.splice-requires-clause-single
splice-requires-clause-single c =
    let me = c.args.self.now in
    let s = c.in_ok-slot.slot in
    let popped : copies_of s me.free.items ≡ copies_of s c.pop.new.self.items + 1 = ap (copies_of s) c.in_ok-slot.ensures.items ∙ copies_of-same c.pop.new.self.items s in
    let lt = below_end s me.ring.end (copies_of s me.free.items) (me.low s) (omega (arith, popped)) in
    me.alone s (omega (arith, me.apart s, popped)) (λ e. omega (arith, e, lt))

pub index_mut-requires : goal.index_mut-requires
index_mut-requires c =
    let me = c.args.self.now in
    let s = c.in_ok-slot.slot in
    let popped : copies_of s me.free.items ≡ copies_of s c.pop.new.self.items + 1 = ap (copies_of s) c.in_ok-slot.ensures.items ∙ copies_of-same c.pop.new.self.items s in
    let lt = below_end s me.ring.end (copies_of s me.free.items) (me.low s) (omega (arith, popped)) in
    omega (arith, lt, me.slots)

pub overflow_add-self-2 : goal.overflow_add-self-2
overflow_add-self-2 c =
    let me = c.args.self.now in
    let sts = me.ring.standings.items in
    let f = next_of me.ring.links.items in
    omega (arith, waiting_in-le (places_in me.ring), length-row sts f me.ring.len (f me.ring.end), me.counted, me.room, me.small, ap length c.in_ok-slot.ensures.items, c.in_ok-slot.ensures)

pub invariant_of-self-2 : goal.invariant_of-self-2
invariant_of-self-2 c =
    let me = c.args.self.now in
    let sts = me.ring.standings.items in
    let s = c.in_ok-slot.slot in
    let f = next_of me.ring.links.items in
    let new = next_of c.splice.new.links.items in
    let h = c.splice.ensures.nexts in
    let ss = order me.ring.links.items me.ring.end me.ring.len in
    let ps = row_of sts ss in
    let popped : (x : ℕ) → copies_of x me.free.items ≡ copies_of x c.pop.new.self.items + (cond (s == x) 1 0) = λ x. ap (copies_of x) c.in_ok-slot.ensures.items ∙ copies_of-push c.pop.new.self.items s x in
    let here : copies_of s me.free.items ≡ copies_of s c.pop.new.self.items + 1 = ap (copies_of s) c.in_ok-slot.ensures.items ∙ copies_of-same c.pop.new.self.items s in
    let lt : s < me.ring.end = below_end s me.ring.end (copies_of s me.free.items) (me.low s) (omega (arith, here)) in
    let in_sts : s < length sts = omega (arith, lt, me.slots) in
    let ne : me.ring.end ≢ s = λ e. omega (arith, e, lt) in
    let none : one_if (standing_of sts s) ≡ 0 = omega (arith, me.apart s, here) in
    let apart : copies_of s ss ≡ 0 = me.stand s ∙ none in
    let inner : copies_of me.ring.end ss ≡ 0 = me.stand me.ring.end ∙ ap one_if (past_standing sts me.ring.end (omega (arith, me.slots))) in
    let joined : order c.splice.new.links.items me.ring.end (me.ring.len + 1) ≡ ss ++ s ∷ [] = order_joined f new s me.ring.end h ne me.ring.len apart inner me.closed in
    let more : (x : ℕ) → one_if (standing_of (set sts s (Some Quiet)) x) ≡ one_if (standing_of sts x) + (cond (s == x) 1 0) = λ x. one_if-joined sts s Quiet x in_sts none in
    let now : row_of (set sts s (Some Quiet)) (order c.splice.new.links.items me.ring.end (me.ring.len + 1)) ≡ ps ++ place s Quiet ∷ [] = joined_row sts s in_sts ss (order c.splice.new.links.items me.ring.end (me.ring.len + 1)) apart joined in
    record {
      inverse = c.splice.ensures.inverse;
      closed = closed_joined f new s me.ring.end h ne me.ring.len apart inner me.closed;
      stand = λ x. omega (arith, ap (copies_of x) joined, copies_of-push ss s x, me.stand x, more x);
      apart = λ x. omega (arith, me.apart x, more x, popped x);
      low = λ x le. omega (arith, me.low x le, popped x);
      alone = λ x nobody ne_end. alone_joined f new s me.ring.end x (h x) (me.alone x (omega (arith, more x, nobody)) ne_end) ne_end (λ e. grind (arith, nat_tests, e, more x, nobody));
      counted = omega (arith, ap waiting_in now, waiting_in-join ps s, me.counted);
      nodes = c.splice.ensures.len ∙ me.nodes;
      slots = length-set sts s (Some Quiet) ∙ me.slots;
      room = omega (arith, me.room, ap length c.in_ok-slot.ensures.items, c.in_ok-slot.ensures);
      room_for_free = omega (arith, me.room_for_free, c.pop.ensures);
      small = me.small;
    }

pub returns-clause-joined : goal.returns-clause-joined
returns-clause-joined c =
    let me = c.args.self.now in
    let sts = me.ring.standings.items in
    let s = c.in_ok-slot.slot in
    let f = next_of me.ring.links.items in
    let ss = order me.ring.links.items me.ring.end me.ring.len in
    let here : copies_of s me.free.items ≡ copies_of s c.pop.new.self.items + 1 = ap (copies_of s) c.in_ok-slot.ensures.items ∙ copies_of-same c.pop.new.self.items s in
    let lt : s < me.ring.end = below_end s me.ring.end (copies_of s me.free.items) (me.low s) (omega (arith, here)) in
    let in_sts : s < length sts = omega (arith, lt, me.slots) in
    let ne : me.ring.end ≢ s = λ e. omega (arith, e, lt) in
    let none : one_if (standing_of sts s) ≡ 0 = omega (arith, me.apart s, here) in
    let apart : copies_of s ss ≡ 0 = me.stand s ∙ none in
    let inner : copies_of me.ring.end ss ≡ 0 = me.stand me.ring.end ∙ ap one_if (past_standing sts me.ring.end (omega (arith, me.slots))) in
    joined_row sts s in_sts ss (order c.splice.new.links.items me.ring.end (me.ring.len + 1)) apart (order_joined f (next_of c.splice.new.links.items) s me.ring.end c.splice.ensures.nexts ne me.ring.len apart inner me.closed)

pub returns-clause-fresh : goal.returns-clause-fresh
returns-clause-fresh c =
    let me = c.args.self.now in
    let s = c.in_ok-slot.slot in
    let ss = order me.ring.links.items me.ring.end me.ring.len in
    let here : copies_of s me.free.items ≡ copies_of s c.pop.new.self.items + 1 = ap (copies_of s) c.in_ok-slot.ensures.items ∙ copies_of-same c.pop.new.self.items s in
    copies_in-row me.ring.standings.items s ss ∙ (me.stand s ∙ omega (arith, me.apart s, here))

pub returns-clause-history : goal.returns-clause-history
returns-clause-history c = λ h is.
    let me = c.args.self.now in
    let s = c.in_ok-slot.slot in
    subst (IsHistoryOf (Came s ∷ h)) (sym (returns-clause-joined c)) (came h s (places_in me.ring) (returns-clause-fresh c) is)
