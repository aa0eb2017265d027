use Rattle.std.proofs.Common.{◌≡◌, ℕ, true, false, ◌∙◌, sym, ap, arith, map, get_or, ◌++◌, ◌∷◌, []}
use Rattle.std.specs.Prelude.{nat_le, ◌&&◌}
use Rattle.std.specs.Duration.{as_nanos}
use Rattle.std.specs.declared.time.Duration.{Duration}
use Rattle.r2d2_core.specs.Bases.{BareConnection, seen_bare}
use Rattle.r2d2_core.specs.Auditing.{are_in_order}
use Rattle.circular_buffer.specs.Buffer.{Buffer}
use Rattle.r2d2_core.proofs.Recording.Auditing.{seen_next, seen_taken, order_more, order_stops}
use Rattle.r2d2_core.proofs.journal.running_base.RunningBase.put_idle.Goals as goal

pub returns-then-not-are_in_a_row-clause-is : goal.returns-then-not-are_in_a_row-clause-is
returns-then-not-are_in_a_row-clause-is g c =
    let all = c.args.idle.now in
    let k = c.loop-entry.entry-index in
    let none : ℕ × Duration × Duration = (0, record { secs = 0; nanos = 0 }, record { secs = 0; nanos = 0 }) in
    let e = seen_bare (get_or all k none) in
    let at = as_nanos c.loop-entry.self-inside.at in
    let fits : (nat_le e.birth e.since && (nat_le (as_nanos c.loop-entry.last) e.since && nat_le e.since at)) ≡ false = cc in
    order_stops at (as_nanos c.loop-entry.last) k (map seen_bare all) e (are_in_order at 0 (map seen_bare all))
    (seen_next seen_bare all k none (omega arith)) fits c.loop-entry.invariant.order
    ∙ ap (λ n. are_in_order n 0 (map seen_bare all)) c.loop-entry.invariant.at

pub loop-entry-preserved : goal.loop-entry-preserved
loop-entry-preserved g c =
    let all = c.args.idle.now in
    let k = c.loop-entry.entry-index in
    let none : ℕ × Duration × Duration = (0, record { secs = 0; nanos = 0 }, record { secs = 0; nanos = 0 }) in
    let e = seen_bare (get_or all k none) in
    let at = as_nanos c.loop-entry.self-inside.at in
    let fits : (nat_le e.birth e.since && (nat_le (as_nanos c.loop-entry.last) e.since && nat_le e.since at)) ≡ true = cc in
    let made : c.new.result ≡ e = c.new.ensures in
    record {
      order = order_more at (as_nanos c.loop-entry.last) k (map seen_bare all) e (are_in_order at 0 (map seen_bare all))
          (seen_next seen_bare all k none (omega arith)) fits c.loop-entry.invariant.order;
      put = ap (λ (r : Buffer BareConnection). r.items) c.add.ensures ∙ rw made (ap (λ l. l ++ e ∷ []) c.loop-entry.invariant.put
          ∙ sym (seen_taken seen_bare all k none (omega arith)));
      room = ap (λ (r : Buffer BareConnection). r.capacity) c.add.ensures ∙ c.loop-entry.invariant.room;
      lent_room = c.loop-entry.invariant.lent_room;
      at = c.loop-entry.invariant.at;
      lent = c.loop-entry.invariant.lent;
      pending = c.loop-entry.invariant.pending;
      closed = c.loop-entry.invariant.closed;
    }
