-- No drain sleeps once nothing is lent, after each step that wakes none: it takes nothing back.
use Rattle.std.proofs.Common.{◌≡◌, ℕ, zero, suc, Bool, true, false, List, [], ◌∷◌, ◌++◌, Option, Some, None, refl, sym, ◌∙◌, ap}
use Rattle.std.specs.Prelude.{length, String}
use Rattle.futures.specs.WaitList.{WaitList}
use Rattle.pool_machine.specs.Connections.{SeenIdleConnection}
use Rattle.pool_machine.specs.Picture.{Picture}
use Rattle.r2d2_core.specs.Book.{SeenBook}
use Rattle.pool_machine.specs.declared.machine.answers.Refusal.{Refusal}
use Rattle.pool_machine.specs.Refusals.{unless_refused}
use Rattle.pool_machine.specs.OnOrder.{fail_refusal}
use Rattle.pool_machine.specs.Table.{taken, next_of, raised_to, failed, after_take, after_fail}
use Rattle.pool_state.specs.declared.state.serving.Look.{Look}
use Rattle.pool_state.specs.declared.state.serving.Look.TheVariants as look
use Rattle.pool_state.specs.Evicted.{book_taken}
use Rattle.pool_state.specs.Lined.{book_asked, book_looked, paid_of, one_more_owed}
use Rattle.pool_tasks.specs.Wakers.{AreDrained}

none_before : {L : Type 0} (xs : List L) (x : L) → length (xs ++ x ∷ []) ≡ 0 → length xs ≡ 0
none_before [] x e = refl
none_before (y ∷ ys) x e = absurd cc

module _ {T : Type 0} where
  taken_one : (o : Option (SeenIdleConnection T)) (b : Bool) (p : Picture T) → length (taken o b p).lent ≡ 0 → length p.lent ≡ 0
  taken_one None b p e = e
  taken_one (Some c) b p e = none_before p.lent _ e

  pub taken_none : (t : ℕ) (b : Bool) (book : SeenBook T) → length (book_taken t b book).picture.lent ≡ 0 → length book.picture.lent ≡ 0
  taken_none t b book e = taken_one (next_of book.picture) b (raised_to t book.picture) e

  asked_none : (t n : ℕ) (book : SeenBook T) → length (book_asked t n book).picture.lent ≡ 0 → length book.picture.lent ≡ 0
  asked_none t zero book e = e
  asked_none t (suc n) book e = asked_none t n book (taken_none t true (book_asked t n book) e)

  pub looked_none : (t : ℕ) (l : Look T) (w o : ℕ) (book : SeenBook T) → length (book_looked t l w o book).picture.lent ≡ 0 → length book.picture.lent ≡ 0
  looked_none t (look.Found id value) w o book e =
      taken_none t false book (asked_none t (paid_of w o (book_taken t false book)) (book_taken t false book) e)
  looked_none t (look.Stands slot) w o book e = asked_none t (paid_of w (one_more_owed o) book) book e
  looked_none t look.Full w o book e = e

  lent_none : (t : ℕ) (kept : Bool) (old new : SeenBook T) → (kept ≡ true → new ≡ old) → (kept ≡ false → new.picture ≡ after_take t false old.picture)
      → length new.picture.lent ≡ 0 → length old.picture.lent ≡ 0
  lent_none t true old new stays takes none = ap (λ (b : SeenBook T). length b.picture.lent) (sym (stays refl)) ∙ none
  lent_none t false old new stays takes none =
      taken_none t false old (ap (λ (p : Picture T). length p.lent) (sym (takes refl)) ∙ none)

  refused_same : (r : Option Refusal) (p q : Picture T) → q.lent ≡ p.lent → (unless_refused r q p).lent ≡ p.lent
  refused_same None p q same = same
  refused_same (Some why) p q same = refl

module _ {W L : Type 0} where
  -- a step that leaves as many lent, or more
  pub drained_kept : (old new : List L) (d : WaitList W) → new ≡ old → AreDrained old d → AreDrained new d
  drained_kept old new d same drained none = drained (ap length (sym same) ∙ none)

module _ {T W : Type 0} where
  pub drained_looked : (t : ℕ) (l : Look T) (w o : ℕ) (old new : SeenBook T) (d : WaitList W) → new ≡ book_looked t l w o old
      → AreDrained old.picture.lent d → AreDrained new.picture.lent d
  drained_looked t l w o old new d after drained none =
      drained (looked_none t l w o old (ap (λ (b : SeenBook T). length b.picture.lent) (sym after) ∙ none))

  pub drained_lent : (t : ℕ) (kept : Bool) (old new : SeenBook T) (d : WaitList W) → (kept ≡ true → new ≡ old)
      → (kept ≡ false → new.picture ≡ after_take t false old.picture) → AreDrained old.picture.lent d → AreDrained new.picture.lent d
  drained_lent t kept old new d stays takes drained none = drained (lent_none t kept old new stays takes none)

  pub drained_failed : {A : Type 0} (t tries : ℕ) (text : Option (String A)) (old new : Picture T) (d : WaitList W) → new ≡ after_fail t tries text old
      → AreDrained old.lent d → AreDrained new.lent d
  drained_failed t tries text old new d after drained = drained_kept old.lent new.lent d
      (ap (λ (p : Picture T). p.lent) after ∙ refused_same (fail_refusal tries old.on_order) old (failed t tries text old) refl) drained
