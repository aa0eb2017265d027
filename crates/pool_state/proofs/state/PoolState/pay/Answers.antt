use Rattle.std.proofs.Common.{◌≡◌, length, sym, ap, subst, arith}
use Rattle.std.specs.Prelude.{min}
use Rattle.std.specs.Duration.{as_nanos}
use Rattle.r2d2_core.specs.Book.{SeenBook}
use Rattle.pool_machine.specs.Picture.{IsSound}
use Rattle.pool_state.specs.Guarded.{SeenState, NoneInLineIsLost}
use Rattle.pool_state.specs.Lined.{book_asked}
use Rattle.pool_state.specs.Ring.{places_in}
use Rattle.pool_state.specs.Waiting.{waiting_in}
use Rattle.pool_state.proofs.Guarded.{kept_told, none_lost-paid}
use Rattle.pool_state.proofs.Waits.{Asked, asked}
use Rattle.pool_state.proofs.state.PoolState.pay.Goals as goal

-- what is owed was ordered, and is forgotten
pub invariant_of-self : goal.invariant_of-self
invariant_of-self g c =
    let t = as_nanos c.args.now in
    let v = c.args.self.now in
    let l = c.loop.self in
    let now = c.self-2.inside in
    let ps = places_in now.line.ring in
    let sound = subst (λ (b : SeenBook _). IsSound b.picture) c.book.ensures.value c.idle.ensures.facts.sound in
    let none : length c.self.inside.book.book.picture.idle ≡ 0 = omega (arith, c.if-idle-gt0.false, c.idle.ensures.value, ap (λ (b : SeenBook _). length b.picture.idle) c.book.ensures.value) in
    let here = asked t c.loop.counter c.self.inside.book.book none (omega (arith, none, sound.steady.counted)) in
    let there = subst (λ (s : SeenState _ _). Asked c.loop.counter s.book.picture (book_asked t c.loop.counter s.book).picture) c.self.view_is here in
    let came = subst (λ (b : SeenBook _). Asked c.loop.counter v.book.picture b.picture) (sym c.loop.invariant.book) there in
    let was = subst (λ (s : SeenState _ _). NoneInLineIsLost s.book.picture s.places s.owed) c.self.view_is c.self.invariant.in_line in
    let many : c.loop.counter ≡ min (waiting_in v.places) v.owed = omega (arith, c.loop-test.false, c.loop.auto.counter-end, c.min-owed.ensures, c.in_line.ensures, ap (λ (s : SeenState _ _). s.owed) c.self.view_is) in
    let paid = none_lost-paid v.book.picture l.book.picture v.places v.owed c.loop.counter came many was in
    let same = subst (λ qs. NoneInLineIsLost l.book.picture qs 0) (sym (ap (λ (s : SeenState _ _). s.places) c.loop.invariant.same)) paid in
    kept_told now.book.book.picture ps ps now.owed 0 now.waiting c.self-2.invariant c.self-2.invariant.told
    (subst (λ (s : SeenState _ _). NoneInLineIsLost s.book.picture s.places 0) (sym c.self-2.view_is) same)
