use Rattle.std.proofs.Common.{◌≡◌, ◌<◌, List, ◌∷◌, length, false, sym, ◌∙◌, subst, arith}
use Rattle.pool_machine.specs.Seen.{seen_take}
use Rattle.pool_state.specs.Counted.{found_by}
use Rattle.pool_state.specs.Order.{Event, TookAtOnce, IsHistoryOf}
use Rattle.pool_state.specs.Ring.{places_in}
use Rattle.pool_state.specs.Waiting.{is_kept}
use Rattle.pool_state.proofs.Lined.{one_taken}
use Rattle.pool_state.proofs.Order.{took_at_once, more_than_wait}
use Rattle.pool_state.proofs.Guarded.{kept_quiet}
use Rattle.pool_state.proofs.Waits.{goes_take}
use Rattle.pool_state.proofs.state.PoolState.look_once.Goals as goal

pub invariant_of-self : goal.invariant_of-self
invariant_of-self g c =
    let state = c.self.inside in
    let step = c.lend-taken in
    let p = state.book.book.picture in
    let q = step.new.self.book.picture in
    let less = one_taken c.args.now false step.result.0 p q step.ensures.step.of_core in
    kept_quiet p q (places_in state.line.ring) state.owed state.waiting c.self.invariant (omega (arith, less)) (goes_take c.args.now false step.result.0 p q step.ensures.step.of_core)

pub returns-clause-history : goal.returns-clause-history
returns-clause-history g c =
    let ps = places_in c.self.inside.line.ring in
    let p = c.self.inside.book.book.picture in
    let step = c.lend-taken in
    let found = found_by (seen_take step.result.0) in
    let less = one_taken c.args.now false step.result.0 p step.new.self.book.picture step.ensures.step.of_core in
    let at_once : (h : List Event) → IsHistoryOf h ps → is_kept p ps ≡ false → 0 < found → IsHistoryOf (TookAtOnce (length p.idle) ∷ h) ps =
    λ h is free some. took_at_once h (length p.idle) ps (more_than_wait p ps free (omega (arith, less, some))) is in
    let of_view = subst (λ v. (h : List Event) → IsHistoryOf h v.places → is_kept v.book.picture v.places ≡ false → 0 < found
    → IsHistoryOf (TookAtOnce (length v.book.picture.idle) ∷ h) ps) c.self.view_is at_once in
    λ h is some. of_view h is (sym c.is_kept.ensures ∙ c.if-is_kept.false) some
