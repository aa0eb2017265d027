-- In a closed pool nobody lies down again, since no step but the close changes whether it is closed.
use Rattle.std.proofs.Common.{◌≡◌, ℕ, zero, suc, Bool, true, false, Option, Some, None, refl, sym, ◌∙◌, ap}
use Rattle.std.specs.Prelude.{max, Vec}
use Rattle.futures.specs.WaitList.{WaitList, IsQueued}
use Rattle.futures.specs.declared.task.waker.Waker.{Waker}
use Rattle.pool_machine.specs.declared.machine.answers.Refusal.{Refusal}
use Rattle.pool_machine.specs.Refusals.{unless_refused}
use Rattle.pool_machine.specs.Connections.{SeenIdleConnection}
use Rattle.pool_machine.specs.Jobs.{SeenJob, Open, Reap, Wait, Nothing, Closed}
use Rattle.pool_machine.specs.OnOrder.{SeenOnOrder, begun_by, job_at, number_refusal, admit_refusal, fail_refusal, numbered_one}
use Rattle.pool_machine.specs.Picture.{Picture}
use Rattle.r2d2_core.specs.Book.{SeenBook}
use Rattle.pool_machine.specs.Table.{taken, next_of, raised_to, after_take, after_begin, after_number, after_return, lent_refusal, lent_birth, is_closing, returned_by, returned}
use Rattle.pool_state.specs.declared.engine.Outcome.{Outcome}
use Rattle.pool_state.specs.declared.engine.Outcome.TheVariants as outcome
use Rattle.pool_state.specs.declared.state.serving.Look.{Look}
use Rattle.pool_state.specs.declared.state.serving.Look.TheVariants as look
use Rattle.pool_state.specs.Evicted.{book_taken}
use Rattle.pool_state.specs.Settled.{after_settle}
use Rattle.pool_state.specs.Lined.{book_asked, book_looked, paid_of, one_more_owed}
use Rattle.pool_tasks.specs.Wakers.{waker_at, AreUpOnceClosed}

begun_same : (j : SeenJob) (o : SeenOnOrder) → (begun_by j o).closed ≡ o.closed
begun_same (Open tries) o = refl
begun_same Reap o = refl
begun_same (Wait due) o = refl
begun_same Nothing o = refl
begun_same Closed o = refl

numbered_by : (r : Option Refusal) (new o : SeenOnOrder) → new.closed ≡ o.closed → (unless_refused r new o).closed ≡ o.closed
numbered_by None new o same = same
numbered_by (Some why) new o same = refl

module _ {T : Type 0} where
  abbrev shut : Picture T → Bool
  shut p = p.on_order.closed

  pub begin_same : (t : ℕ) (p : Picture T) → shut (after_begin t p) ≡ shut p
  begin_same t p = begun_same (job_at (max p.latest t) p.on_order) p.on_order

  pub number_same : (tries : ℕ) (p : Picture T) → shut (after_number tries p) ≡ shut p
  number_same tries p = numbered_by (number_refusal tries p.on_order) (numbered_one tries p.on_order) p.on_order refl

  taken_one : (o : Option (SeenIdleConnection T)) (b : Bool) (p : Picture T) → shut (taken o b p) ≡ shut p
  taken_one None b p = refl
  taken_one (Some c) b p = refl

  pub taken_same : (t : ℕ) (b : Bool) (p : Picture T) → shut (after_take t b p) ≡ shut p
  taken_same t b p = taken_one (next_of p) b (raised_to t p)

  asked_same : (t n : ℕ) (book : SeenBook T) → shut (book_asked t n book).picture ≡ shut book.picture
  asked_same t zero book = refl
  asked_same t (suc n) book = taken_same t true (book_asked t n book).picture ∙ asked_same t n book

  pub looked_same : (t : ℕ) (l : Look T) (w o : ℕ) (book : SeenBook T) → shut (book_looked t l w o book).picture ≡ shut book.picture
  looked_same t (look.Found id value) w o book =
      asked_same t (paid_of w o (book_taken t false book)) (book_taken t false book) ∙ taken_same t false book.picture
  looked_same t (look.Stands slot) w o book = asked_same t (paid_of w (one_more_owed o) book) book
  looked_same t look.Full w o book = refl

  unless_same : (r : Option Refusal) (new old : Picture T) → shut new ≡ shut old → shut (unless_refused r new old) ≡ shut old
  unless_same None new old same = same
  unless_same (Some why) new old same = refl

  returned_one : (b : Bool) (id birth : ℕ) (value : T) (p : Picture T) → shut (returned_by b id birth value p) ≡ shut p
  returned_one true id birth value p = refl
  returned_one false id birth value p = refl

  pub returned_same : (t id : ℕ) (value : T) (broken : Bool) (p : Picture T) → shut (after_return t id value broken p) ≡ shut p
  returned_same t id value broken p = unless_same (lent_refusal id p) (returned id (lent_birth id p) value broken (raised_to t p)) p
      (returned_one (is_closing (lent_birth id p) broken (raised_to t p)) id (lent_birth id p) value (raised_to t p))

  pub settled_same : (t : ℕ) (o : Outcome T) (p : Picture T) → shut (after_settle t o p) ≡ shut p
  settled_same t (outcome.Opened id value) p = unless_same (admit_refusal id p.on_order) _ p refl
  settled_same t (outcome.Failed tries text) p = unless_same (fail_refusal tries p.on_order) _ p refl
  settled_same t (outcome.Unsound id text) p = unless_same (lent_refusal id p) _ p refl

  pub lent_same : (t : ℕ) (kept : Bool) (old new : SeenBook T) → (kept ≡ true → new ≡ old) → (kept ≡ false → new.picture ≡ after_take t false old.picture)
      → shut new.picture ≡ shut old.picture
  lent_same t true old new stays takes = ap (λ (b : SeenBook T). shut b.picture) (stays refl)
  lent_same t false old new stays takes = ap shut (takes refl) ∙ taken_same t false old.picture

module _ {A W : Type 0} where
  -- a step after which the pool is closed only if it was, and by which nobody lies down
  pub up_kept : (was is : Bool) (old new : Vec (Option Waker) A) (list after : WaitList W) → is ≡ was
      → ((s : ℕ) → waker_at old s ≡ None → waker_at new s ≡ None) → ((key : ℕ) → IsQueued after key → IsQueued list key)
      → AreUpOnceClosed was old list → AreUpOnceClosed is new after
  up_kept was is old new list after same stay fewer up closed =
      let all = up (sym same ∙ closed) in (λ s. stay s (all.0 s), λ key queued. all.1 key (fewer key queued))

  -- one in an open pool
  pub up_open : (is : Bool) (wakers : Vec (Option Waker) A) (list : WaitList W) → is ≡ false → AreUpOnceClosed is wakers list
  up_open is wakers list is_open closed = let both : true ≡ false = sym closed ∙ is_open in absurd cc
