use Rattle.std.proofs.Common.{◌≡◌, ◌≢◌, ℕ, ◌+◌, ◌-◌, ◌<◌, length, set, cond, None, sym, ◌∙◌, ap, arith}
use Rattle.std.specs.Prelude.{◌==◌}
use Rattle.std.proofs.lemmas.Bool.Decides.{nat_tests}
use Rattle.std.proofs.lemmas.List.{length-set}
use Rattle.pool_state.specs.Ring.{next_of, order, places_in, row_of, standing_of, one_if, or_quiet}
use Rattle.pool_state.specs.Waiting.{weight as weight_of, is_told, waiting_in, copies_of, without}
use Rattle.pool_state.proofs.Waiting.{waiting_in-without, weight_at-le, copies_of-push}
use Rattle.pool_state.proofs.Walks.{drop_slot, copies_of-drop, order_left, closed_left, more_than_none}
use Rattle.pool_state.proofs.Rows.{row_of-frame, row_of-drop, told_at-row, weight_at-row, copies_in-row, leaves_none, told_none, stands_within, one_if-left, alone_left}
use Rattle.std.proofs.Common.{subst, ◌∷◌}
use Rattle.pool_state.specs.Order.{Left, IsHistoryOf}
use Rattle.pool_state.proofs.Order.{left}
use Rattle.pool_state.proofs.line.queue.Line.leave.Goals as goal

pub returns-in_default-clause-places : goal.returns-in_default-clause-places
returns-in_default-clause-places c =
    let me = c.args.self.now in
    let s = c.args.slot in
    let ss = order me.ring.links.items me.ring.end me.ring.len in
    let none : copies_of s ss ≡ 0 = me.stand s ∙ ap one_if (sym c.standing.ensures ∙ c.in_default.is) in
    sym (leaves_none s (row_of me.ring.standings.items ss) (copies_in-row me.ring.standings.items s ss ∙ none))

pub returns-in_default-clause-told : goal.returns-in_default-clause-told
returns-in_default-clause-told c =
    let me = c.args.self.now in
    let s = c.args.slot in
    let ss = order me.ring.links.items me.ring.end me.ring.len in
    let none : copies_of s ss ≡ 0 = me.stand s ∙ ap one_if (sym c.standing.ensures ∙ c.in_default.is) in
    sym (told_none s (row_of me.ring.standings.items ss) (copies_in-row me.ring.standings.items s ss ∙ none))

pub overflow_sub-self-2 : goal.overflow_sub-self-2
overflow_sub-self-2 c =
    let me = c.args.self.now in
    let sts = me.ring.standings.items in
    let s = c.args.slot in
    let ss = order me.ring.links.items me.ring.end me.ring.len in
    let st = sym c.standing.ensures ∙ c.in-Some.is in
    let one : copies_of s ss ≡ 1 = me.stand s ∙ ap one_if st in
    let w : weight_of (or_quiet (standing_of sts s)) ≡ weight_of c.in-Some.standing = ap (λ o. weight_of (or_quiet o)) st in
    omega (arith, c.weight.ensures, w, weight_at-row sts s ss (omega (arith, one)), weight_at-le s (row_of sts ss), me.counted)

pub invariant_of-self : goal.invariant_of-self
invariant_of-self c =
    let me = c.args.self.now in
    let sts = me.ring.standings.items in
    let s = c.args.slot in
    let f = next_of me.ring.links.items in
    let new = next_of c.skip.new.links.items in
    let h = c.skip.ensures.nexts in
    let ss = order me.ring.links.items me.ring.end me.ring.len in
    let ps = row_of sts ss in
    let st = sym c.standing.ensures ∙ c.in-Some.is in
    let one_at : one_if (standing_of sts s) ≡ 1 = ap one_if st in
    let one : copies_of s ss ≡ 1 = me.stand s ∙ one_at in
    let some : 0 < copies_of s ss = omega (arith, one) in
    let lt : s < length sts = stands_within sts s one_at in
    let ne : me.ring.end ≢ s = λ e. omega (arith, e, lt, me.slots) in
    let left : order c.skip.new.links.items me.ring.end (me.ring.len - 1) ≡ drop_slot s ss = order_left f new s me.ring.end h ne me.ring.len one in
    let gone : copies_of s (drop_slot s ss) ≡ 0 = grind (arith, nat_tests, copies_of-drop s s ss some, one) in
    let now : row_of (set sts s None) (order c.skip.new.links.items me.ring.end (me.ring.len - 1)) ≡ without s ps = ap (row_of (set sts s None)) left ∙ (row_of-frame sts s None lt (drop_slot s ss) gone ∙ row_of-drop sts s ss) in
    let less : (x : ℕ) → one_if (standing_of (set sts s None) x) + (cond (s == x) 1 0) ≡ one_if (standing_of sts x) = λ x. one_if-left sts s x lt one_at in
    let w : weight_of (or_quiet (standing_of sts s)) ≡ weight_of c.in-Some.standing = ap (λ o. weight_of (or_quiet o)) st in
    let freed : (x : ℕ) → copies_of x c.push_reserved.new.self.items ≡ copies_of x me.free.items + (cond (s == x) 1 0) = λ x. ap (copies_of x) c.push_reserved.ensures.items ∙ copies_of-push me.free.items s x in
    record {
      inverse = c.skip.ensures.inverse;
      closed = closed_left f new s me.ring.end h ne me.ring.len one me.closed;
      stand = λ x. omega (arith, ap (copies_of x) left, copies_of-drop s x ss some, me.stand x, less x);
      apart = λ x. omega (arith, me.apart x, less x, freed x);
      low = λ x le. grind (arith, nat_tests, freed x, me.low x le, lt, me.slots);
      alone = λ x none ne_end. alone_left f new s x (h x) (λ other. me.alone x (grind (arith, nat_tests, less x, none, other)) ne_end);
      counted = omega (arith, c.weight.ensures, w, weight_at-row sts s ss some, waiting_in-without s ps, ap waiting_in now, weight_at-le s ps, me.counted);
      nodes = c.skip.ensures.len ∙ me.nodes;
      slots = length-set sts s None ∙ me.slots;
      room = omega (arith, me.room, c.push_reserved.ensures.len, ap length left, one, ap length c.push_reserved.ensures.items, more_than_none f me.ring.len (f me.ring.end) s some);
      room_for_free = omega (arith, me.room_for_free, c.push_reserved.ensures.capacity);
      small = me.small;
    }

pub returns-clause-places : goal.returns-clause-places
returns-clause-places c =
    let me = c.args.self.now in
    let sts = me.ring.standings.items in
    let s = c.args.slot in
    let ss = order me.ring.links.items me.ring.end me.ring.len in
    let one_at : one_if (standing_of sts s) ≡ 1 = ap one_if (sym c.standing.ensures ∙ c.in-Some.is) in
    let one : copies_of s ss ≡ 1 = me.stand s ∙ one_at in
    let some : 0 < copies_of s ss = omega (arith, one) in
    let lt : s < length sts = stands_within sts s one_at in
    let ne : me.ring.end ≢ s = λ e. omega (arith, e, lt, me.slots) in
    let left = order_left (next_of me.ring.links.items) (next_of c.skip.new.links.items) s me.ring.end c.skip.ensures.nexts ne me.ring.len one in
    let gone : copies_of s (drop_slot s ss) ≡ 0 = grind (arith, nat_tests, copies_of-drop s s ss some, one) in
    ap (row_of (set sts s None)) left ∙ (row_of-frame sts s None lt (drop_slot s ss) gone ∙ row_of-drop sts s ss)

pub returns-clause-told : goal.returns-clause-told
returns-clause-told c =
    let me = c.args.self.now in
    let sts = me.ring.standings.items in
    let s = c.args.slot in
    let ss = order me.ring.links.items me.ring.end me.ring.len in
    let st = sym c.standing.ensures ∙ c.in-Some.is in
    let one : copies_of s ss ≡ 1 = me.stand s ∙ ap one_if st in
    c.was_told.ensures ∙ sym (told_at-row sts s ss (omega (arith, one)) ∙ ap (λ o. is_told (or_quiet o)) st)

pub returns-in_default-clause-history : goal.returns-in_default-clause-history
returns-in_default-clause-history c = λ h is.
    let me = c.args.self.now in
    subst (IsHistoryOf (Left c.args.slot ∷ h)) (sym (returns-in_default-clause-places c)) (left h c.args.slot (places_in me.ring) is)

pub returns-clause-history : goal.returns-clause-history
returns-clause-history c = λ h is.
    let me = c.args.self.now in
    subst (IsHistoryOf (Left c.args.slot ∷ h)) (sym (returns-clause-places c)) (left h c.args.slot (places_in me.ring) is)
