use Rattle.std.proofs.Common.{◌≡◌, ◌<◌, List, ◌∷◌, true, false, length, arith, refl, sym, ap, ◌∙◌, subst}
use Rattle.r2d2_core.specs.Book.{SeenBook}
use Rattle.pool_machine.specs.Seen.{seen_take}
use Rattle.pool_state.specs.Order.{Event, TookAtOnce, IsHistoryOf}
use Rattle.pool_state.specs.Waiting.{is_kept}
use Rattle.pool_state.specs.Waits.{found_in_turn}
use Rattle.pool_state.proofs.Order.{took_at_once, more_than_wait}
use Rattle.pool_state.proofs.Waits.{turn_found}
use Rattle.pool_state.specs.declared.waiters.Waiters.{Waiters}
use Rattle.pool_state.specs.Waits.{IsTokenOf, waiting_if, one_if, IsLook}
use Rattle.pool_machine.specs.Picture.{IsSound}
use Rattle.pool_state.specs.Ring.{places_in}
use Rattle.pool_state.proofs.Guarded.{turned, looked_by, in_line}
use Rattle.pool_state.proofs.Lined.{still_told, one_taken}
use Rattle.pool_state.proofs.Waits.{looked, others_sleep_quiet, goes_take, noted_token, woken_as_before, sleep_as_before}
use Rattle.pool_state.proofs.state.PoolState.look.Goals as goal

pub invariant_of-self : goal.invariant_of-self
invariant_of-self g c =
    let old = c.self.inside in
    let step = c.lend-taken in
    let p = old.book.book.picture in
    let q = step.new.self.book.picture in
    let turn = c.of-turn.result in
    let waits = c.begin_if in
    let sound = subst (λ (b : SeenBook _). IsSound b.picture) c.book.ensures.value c.is_closed-closed.ensures.facts.sound in
    let is = turned c.args.now step.result.0 turn c.is_closed-closed.result old.book.book step.new.self.book step.ensures.step c.of-turn.ensures.turn
    (c.is_closed-closed.ensures.value ∙ ap (λ (b : SeenBook _). b.picture.on_order.closed) c.book.ensures.value) in
    let v = old.waiting in
    let w = waits.new.self in
    let less = one_taken c.args.now true step.result.0 p q step.ensures.step.of_core in
    record {
      told = still_told (length p.idle) (length q.idle) (places_in old.line.ring) c.self.invariant.told (omega (arith, less));
      in_line = in_line p q (places_in old.line.ring) old.owed old.waiting c.self.invariant (omega (arith, less)) (goes_take c.args.now true step.result.0 p q step.ensures.step.of_core);
      none_lost = woken_as_before q v w v.woken waits.ensures.rest refl
          (looked c.args.now step.result.0 p q turn v.callers w.callers v.woken step.ensures.step.of_core sound is c.self.invariant.none_lost
          (omega (arith, waits.ensures.at_most, ap one_if c.waits.ensures)) waits.ensures.at_least);
      others = sleep_as_before q v w waits.ensures.rest
          (others_sleep_quiet v.maker_sleeps v.drain_sleeps p q (goes_take c.args.now true step.result.0 p q step.ensures.step.of_core) c.self.invariant.others);
    }

pub returns-clause-token : goal.returns-clause-token
returns-clause-token g c =
    let turn = c.of-turn.result in
    let since = c.since_with-since.result in
    let noted = c.begin_if.ensures.after ∙ ap (λ b. waiting_if b since c.self.inside.waiting) c.waits.ensures in
    subst (λ (w : Waiters). IsTokenOf turn w.since) (sym noted) (noted_token turn since c.self.inside.waiting c.of-turn.ensures.token)

pub returns-clause-step : goal.returns-clause-step
returns-clause-step g c =
    let old = c.self.inside in
    let step = c.lend-taken in
    let turn = c.of-turn.result in
    subst (λ v. IsLook c.args.now turn step.result.1.workers v.book step.new.self.book) c.self.view_is
    (looked_by c.args.now step.result.0 turn c.is_closed-closed.result step.result.1 old.book.book step.new.self.book step.ensures.step c.of-turn.ensures.turn
    (c.is_closed-closed.ensures.value ∙ ap (λ (b : SeenBook _). b.picture.on_order.closed) c.book.ensures.value) step.ensures.wakes)

pub returns-clause-history : goal.returns-clause-history
returns-clause-history g c =
    let ps = places_in c.self.inside.line.ring in
    let p = c.self.inside.book.book.picture in
    let step = c.lend-taken in
    let turn = c.of-turn.result in
    let less = one_taken c.args.now true step.result.0 p step.new.self.book.picture step.ensures.step.of_core in
    let found = turn_found (seen_take step.result.0) c.is_closed-closed.result turn c.of-turn.ensures.turn in
    let at_once : (h : List Event) → IsHistoryOf h ps → is_kept p ps ≡ false → 0 < found_in_turn turn → IsHistoryOf (TookAtOnce (length p.idle) ∷ h) ps =
    λ h is free some. took_at_once h (length p.idle) ps (more_than_wait p ps free (omega (arith, less, found, some))) is in
    subst (λ v. (h : List Event) → IsHistoryOf h v.places → is_kept v.book.picture v.places ≡ false → 0 < found_in_turn turn
    → IsHistoryOf (TookAtOnce (length v.book.picture.idle) ∷ h) ps) c.self.view_is at_once
