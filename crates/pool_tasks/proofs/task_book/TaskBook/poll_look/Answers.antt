use Rattle.r2d2_core.specs.Book.{SeenBook}
use Rattle.std.specs.Duration.{as_nanos}
use Rattle.pool_state.specs.Waiting.{waiting_in, told_by}
use Rattle.pool_state.specs.Order.{IsHistoryOf, with_wait}
use Rattle.pool_tasks.specs.History.{is_asleep}
use Rattle.std.proofs.Common.{ap, ◌∙◌, ◌≡◌, sym, subst, length, true, false}
use Rattle.pool_state.specs.Lined.{is_found}
use Rattle.pool_state.specs.Guarded.{SeenState}
use Rattle.pool_tasks.specs.Wakers.{AreAwake}
use Rattle.pool_tasks.proofs.Awake.{awake_look, awake_registered, awake_same, look_keeps}
use Rattle.pool_tasks.proofs.Drained.{drained_kept, drained_looked}
use Rattle.pool_tasks.proofs.Closed.{up_open, looked_same}
use Rattle.pool_tasks.proofs.InTime.{same_order, same_times, step_in_time}
use Rattle.pool_tasks.proofs.Ordering.{looked_in_order, looked_quiet}
use Rattle.pool_state.proofs.Waits.{nobody_as_before, nobody_since}
use Rattle.pool_tasks.proofs.History.{looked_history, waited, awake_at}
use Rattle.pool_tasks.proofs.task_book.TaskBook.poll_look.Goals as goal

pub invariant_of-self-in-Found-1 : goal.invariant_of-self-in-Found-1
invariant_of-self-in-Found-1 g c =
    let old = c.args.self.now in
    let look = c.look_in_line-look in
    let is_open : old.guarded.book.picture.on_order.closed ≡ false = let a = c.if-is_closed.ensures.value in let b = c.book.ensures.value in cc in
    record {
      awake = awake_look (is_found look.result.0) c.args.keeps_place c.args.place.now look.new.place old.guarded.places look.new.self.places
          old.wakers c.wake.new.wakers look.ensures.line old.awake c.in_default.ensures.awake c.wake.ensures.others;
      drained = drained_looked (as_nanos c.args.now) look.result.0 (waiting_in look.new.self.places) old.guarded.owed old.guarded.book look.new.self.book old.drains look.ensures.book old.drained;
      up = up_open look.new.self.book.picture.on_order.closed c.wake.new.wakers c.wake.new.workers
          (ap (λ (b : SeenBook _). b.picture.on_order.closed) look.ensures.book
          ∙ (looked_same (as_nanos c.args.now) look.result.0 (waiting_in look.new.self.places) old.guarded.owed old.guarded.book ∙ is_open));
      in_order = looked_in_order (as_nanos c.args.now) look.result.0 (waiting_in look.new.self.places) old.guarded.owed old.guarded.book look.new.self.book look.ensures.book old.in_order;
      in_time = step_in_time look.result.1.workers old.guarded.book.picture.on_order look.new.self.book.picture.on_order old.workers c.wake.new.workers
          c.wake.ensures.workers c.wake.ensures.rest
          (looked_quiet (as_nanos c.args.now) look.result.0 (waiting_in look.new.self.places) old.guarded.owed look.result.1.workers old.guarded.book look.new.self.book
          look.ensures.book look.ensures.workers) old.in_time;
      elsewhere = nobody_as_before old.guarded.waiting look.new.self.waiting (ap (λ (s : SeenState _ _). s.waiting) look.ensures.same) old.elsewhere;
    }

pub invariant_of-self-in-Full : goal.invariant_of-self-in-Full
invariant_of-self-in-Full g c =
    let old = c.args.self.now in
    let look = c.look_in_line-look in
    let is_open : old.guarded.book.picture.on_order.closed ≡ false = let a = c.if-is_closed.ensures.value in let b = c.book.ensures.value in cc in
    let awake : AreAwake look.new.self.places c.wake.new.wakers =
    awake_look (is_found look.result.0) c.args.keeps_place c.args.place.now look.new.place old.guarded.places look.new.self.places
    old.wakers c.wake.new.wakers look.ensures.line old.awake c.in_default.ensures.awake c.wake.ensures.others in
    record {
      awake = awake_same look.new.self.places c.refuse.new.self.places c.wake.new.wakers
          (ap (λ (b : SeenState _ _). b.places) c.refuse.ensures.same) awake;
      drained = drained_kept look.new.self.book.picture.lent c.refuse.new.self.book.picture.lent old.drains
          (ap (λ (b : SeenState _ _). b.book.picture.lent) c.refuse.ensures.same)
          (drained_looked (as_nanos c.args.now) look.result.0 (waiting_in look.new.self.places) old.guarded.owed old.guarded.book look.new.self.book old.drains look.ensures.book old.drained);
      up = up_open c.refuse.new.self.book.picture.on_order.closed c.wake.new.wakers c.wake.new.workers
          (ap (λ (b : SeenState _ _). b.book.picture.on_order.closed) c.refuse.ensures.same
          ∙ (ap (λ (b : SeenBook _). b.picture.on_order.closed) look.ensures.book
          ∙ (looked_same (as_nanos c.args.now) look.result.0 (waiting_in look.new.self.places) old.guarded.owed old.guarded.book ∙ is_open)));
      in_order = same_order look.new.self.book.picture.on_order c.refuse.new.self.book.picture.on_order (ap (λ (b : SeenState _ _). b.book.picture.on_order) c.refuse.ensures.same)
          (looked_in_order (as_nanos c.args.now) look.result.0 (waiting_in look.new.self.places) old.guarded.owed old.guarded.book look.new.self.book look.ensures.book old.in_order);
      in_time = same_times look.new.self.book.picture.on_order c.refuse.new.self.book.picture.on_order c.wake.new.workers (ap (λ (b : SeenState _ _). b.book.picture.on_order) c.refuse.ensures.same)
          (step_in_time look.result.1.workers old.guarded.book.picture.on_order look.new.self.book.picture.on_order old.workers c.wake.new.workers
          c.wake.ensures.workers c.wake.ensures.rest
          (looked_quiet (as_nanos c.args.now) look.result.0 (waiting_in look.new.self.places) old.guarded.owed look.result.1.workers old.guarded.book look.new.self.book
          look.ensures.book look.ensures.workers) old.in_time);
      elsewhere = nobody_as_before look.new.self.waiting c.refuse.new.self.waiting (ap (λ (s : SeenState _ _). s.waiting) c.refuse.ensures.same) (nobody_as_before old.guarded.waiting look.new.self.waiting (ap (λ (s : SeenState _ _). s.waiting) look.ensures.same) old.elsewhere);
    }

pub invariant_of-self-in-Stands : goal.invariant_of-self-in-Stands
invariant_of-self-in-Stands g c =
    let old = c.args.self.now in
    let look = c.look_in_line-look in
    let is_open : old.guarded.book.picture.on_order.closed ≡ false = let a = c.if-is_closed.ensures.value in let b = c.book.ensures.value in cc in
    let untold = rw c.in-Stands.is at look.ensures.untold in
    let awake : AreAwake look.new.self.places c.wake.new.wakers =
    awake_look (is_found look.result.0) c.args.keeps_place c.args.place.now look.new.place old.guarded.places look.new.self.places
    old.wakers c.wake.new.wakers look.ensures.line old.awake c.in_default.ensures.awake c.wake.ensures.others in
    let registered : AreAwake look.new.self.places c.register-in-Stands.new.wakers =
    awake_registered c.in-Stands.slot look.new.self.places c.wake.new.wakers c.register-in-Stands.new.wakers untold.1
    c.register-in-Stands.ensures.others awake in
    record {
      awake = awake_same look.new.self.places c.wait_in_line.new.self.places c.register-in-Stands.new.wakers
          (ap (λ (b : SeenState _ _). b.places) c.wait_in_line.ensures.same) registered;
      drained = drained_kept look.new.self.book.picture.lent c.wait_in_line.new.self.book.picture.lent old.drains
          (ap (λ (b : SeenState _ _). b.book.picture.lent) c.wait_in_line.ensures.same)
          (drained_looked (as_nanos c.args.now) look.result.0 (waiting_in look.new.self.places) old.guarded.owed old.guarded.book look.new.self.book old.drains look.ensures.book old.drained);
      up = up_open c.wait_in_line.new.self.book.picture.on_order.closed c.register-in-Stands.new.wakers c.wake.new.workers
          (ap (λ (b : SeenState _ _). b.book.picture.on_order.closed) c.wait_in_line.ensures.same
          ∙ (ap (λ (b : SeenBook _). b.picture.on_order.closed) look.ensures.book
          ∙ (looked_same (as_nanos c.args.now) look.result.0 (waiting_in look.new.self.places) old.guarded.owed old.guarded.book ∙ is_open)));
      in_order = same_order look.new.self.book.picture.on_order c.wait_in_line.new.self.book.picture.on_order (ap (λ (b : SeenState _ _). b.book.picture.on_order) c.wait_in_line.ensures.same)
          (looked_in_order (as_nanos c.args.now) look.result.0 (waiting_in look.new.self.places) old.guarded.owed old.guarded.book look.new.self.book look.ensures.book old.in_order);
      in_time = same_times look.new.self.book.picture.on_order c.wait_in_line.new.self.book.picture.on_order c.wake.new.workers (ap (λ (b : SeenState _ _). b.book.picture.on_order) c.wait_in_line.ensures.same)
          (step_in_time look.result.1.workers old.guarded.book.picture.on_order look.new.self.book.picture.on_order old.workers c.wake.new.workers
          c.wake.ensures.workers c.wake.ensures.rest
          (looked_quiet (as_nanos c.args.now) look.result.0 (waiting_in look.new.self.places) old.guarded.owed look.result.1.workers old.guarded.book look.new.self.book
          look.ensures.book look.ensures.workers) old.in_time);
      elsewhere = nobody_since look.new.self.waiting c.wait_in_line.new.self.waiting (ap (λ (s : SeenState _ _). s.waiting.callers) c.wait_in_line.ensures.same) (ap (λ (s : SeenState _ _). s.waiting.maker_sleeps) c.wait_in_line.ensures.same) (ap (λ (s : SeenState _ _). s.waiting.drain_sleeps) c.wait_in_line.ensures.same)
          (nobody_as_before old.guarded.waiting look.new.self.waiting (ap (λ (s : SeenState _ _). s.waiting) look.ensures.same) old.elsewhere);
    }

-- one who takes has a connection, and passes nothing on
pub returns-in-Found-clause-alone : goal.returns-in-Found-clause-alone
returns-in-Found-clause-alone g c is_open slot own =
    let old = c.args.self.now in
    let look = c.look_in_line-look in
    look_keeps (is_found look.result.0) c.args.keeps_place c.args.place.now look.result.1.told old.guarded.places old.wakers c.wake.new.wakers
    look.ensures.told (c.wake.ensures.alone look.ensures.nobody_else.1) slot

pub returns-in-Found-clause-history : goal.returns-in-Found-clause-history
returns-in-Found-clause-history g c =
    let old = c.args.self.now in
    let look = c.look_in_line-look in
    looked_history (is_found look.result.0) true c.args.keeps_place c.args.place.now look.new.place look.result.1.told (length old.guarded.book.picture.idle)
    old.guarded.places look.new.self.places (ap is_found c.in-Found.is) look.ensures.told look.ensures.history

pub returns-in-Full-clause-history : goal.returns-in-Full-clause-history
returns-in-Full-clause-history g c =
    let old = c.args.self.now in
    let look = c.look_in_line-look in
    let waits = looked_history (is_found look.result.0) false c.args.keeps_place c.args.place.now look.new.place look.result.1.told (length old.guarded.book.picture.idle)
    old.guarded.places look.new.self.places (ap is_found c.in-Full.is) look.ensures.told look.ensures.history in
    λ h is stands. subst (IsHistoryOf (with_wait c.args.place.now look.new.place h)) (sym (ap (λ (b : SeenState _ _). b.places) c.refuse.ensures.same)) (waits h is stands)

pub returns-in-Stands-clause-history : goal.returns-in-Stands-clause-history
returns-in-Stands-clause-history g c =
    let old = c.args.self.now in
    let look = c.look_in_line-look in
    waited c.register-in-Stands.result (is_asleep old.wakers c.args.place.now) c.args.keeps_place c.args.place.now look.new.place (length old.guarded.book.picture.idle)
    (told_by c.args.place.now old.guarded.places) old.guarded.places look.new.self.places c.wait_in_line.new.self.places c.register-in-Stands.ensures.pending
    (awake_at old.wakers c.args.place.now c.in_default.ensures.awake) (ap (λ (b : SeenState _ _). b.places) c.wait_in_line.ensures.same)
    (looked_history (is_found look.result.0) false c.args.keeps_place c.args.place.now look.new.place look.result.1.told (length old.guarded.book.picture.idle)
    old.guarded.places look.new.self.places (ap is_found c.in-Stands.is) look.ensures.told look.ensures.history)
