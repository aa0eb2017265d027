use Rattle.std.proofs.Common.{◌≡◌, ℕ, true, false, ◌∙◌, sym, ap, arith, map, take, get_or, ◌++◌, ◌∷◌, []}
use Rattle.std.specs.Prelude.{nat_le}
use Rattle.std.specs.Duration.{as_nanos}
use Rattle.std.specs.declared.time.Duration.{Duration}
use Rattle.std.proofs.lemmas.Bool.Decides.{nat_tests}
use Rattle.pool_machine.specs.Connections.{SeenLentConnection}
use Rattle.r2d2_core.specs.Bases.{seen_lent}
use Rattle.r2d2_core.specs.Auditing.{are_born}
use Rattle.circular_buffer.specs.Buffer.{Buffer}
use Rattle.r2d2_core.proofs.Recording.Auditing.{seen_next, seen_taken, born_more, born_stops}
use Rattle.r2d2_core.proofs.journal.running_base.RunningBase.put_lent.Goals as goal

pub loop-entry-preserved : goal.loop-entry-preserved
loop-entry-preserved g c =
    let all = c.args.lent.now in
    let k = c.loop-entry.entry-index in
    let none : ℕ × Duration = (0, record { secs = 0; nanos = 0 }) in
    let e = seen_lent (get_or all k none) in
    let at = as_nanos c.loop-entry.self-inside.at in
    let fits : nat_le e.birth at ≡ true = grind (arith, nat_tests) in
    let same : c.new.result ≡ e = c.new.ensures in
    record {
      order = born_more at k (map seen_lent all) e (are_born at (map seen_lent all)) (seen_next seen_lent all k none
          (omega arith)) fits c.loop-entry.invariant.order;
      put = ap (λ (r : Buffer SeenLentConnection). r.items) c.add.ensures
          ∙ (ap (λ l. l ++ c.new.result ∷ []) c.loop-entry.invariant.put ∙ (ap (λ x. take k (map seen_lent all) ++ x ∷ []) same
          ∙ sym (seen_taken seen_lent all k none (omega arith))));
      room = c.loop-entry.invariant.room;
      lent_room = ap (λ (r : Buffer SeenLentConnection). r.capacity) c.add.ensures ∙ c.loop-entry.invariant.lent_room;
      at = c.loop-entry.invariant.at;
      idle = c.loop-entry.invariant.idle;
      pending = c.loop-entry.invariant.pending;
      closed = c.loop-entry.invariant.closed;
    }

pub returns-then-as_nanos-clause-is : goal.returns-then-as_nanos-clause-is
returns-then-as_nanos-clause-is g c =
    let all = c.args.lent.now in
    let k = c.loop-entry.entry-index in
    let none : ℕ × Duration = (0, record { secs = 0; nanos = 0 }) in
    let e = seen_lent (get_or all k none) in
    let at = as_nanos c.loop-entry.self-inside.at in
    let fits : nat_le e.birth at ≡ false = grind (arith, nat_tests) in
    born_stops at k (map seen_lent all) e (are_born at (map seen_lent all)) (seen_next seen_lent all k none (omega arith)) fits c.loop-entry.invariant.order
    ∙ ap (λ n. are_born n (map seen_lent all)) c.loop-entry.invariant.at
