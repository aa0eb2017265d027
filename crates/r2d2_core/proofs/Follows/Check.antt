-- A failed check follows the history.
use Rattle.std.proofs.Common.{◌≡◌, ℕ, ◌-◌, max, true, not, length, Option, Some, None, Ok, String, Global, refl, sym, ◌∙◌, ap, subst, arith}
use Rattle.std.specs.Duration.{as_nanos}
use Rattle.std.specs.declared.time.Duration.{Duration}
use Rattle.pool_machine.specs.declared.step.Step.{Step}
use Rattle.pool_machine.specs.declared.step.Step.TheVariants as step
use Rattle.pool_machine.specs.declared.machine.answers.Refusal.{Refusal}
use Rattle.pool_machine.specs.declared.machine.answers.Refusal.TheVariants as refusal
use Rattle.pool_machine.specs.Refusals.{refused_if, ok_unless, unless_refused}
use Rattle.pool_machine.specs.Seen.{SeenAnswer, SeenGone, CheckFailed}
use Rattle.pool_machine.specs.OnOrder.{top_up_beside}
use Rattle.pool_machine.specs.Picture.{Picture, IsSound}
use Rattle.pool_machine.specs.Table.{raised_to, ordered, topped_up, lent_refusal, lent_birth, gone_one, with_text, gone_with, check_answer, after_check}
use Rattle.r2d2_core.specs.History.{History, Then, is_closed, now_of}
use Rattle.r2d2_core.specs.Deeds.{Gone, birth_of, idle_of, connections_of}
use Rattle.r2d2_core.specs.Pending.{on_order_of}
use Rattle.r2d2_core.specs.Answers.{refusal_of, is_lent, orders_of, picture_of}
use Rattle.r2d2_core.proofs.Histories.Kept.{IsKept, Follows}
use Rattle.r2d2_core.proofs.Histories.Counts.{more_gone, none_admitted, connections_of-less}
use Rattle.pool_machine.proofs.Facts.Accounted.{passes, not_false}
use Rattle.r2d2_core.proofs.Histories.GoingOnes.{apart_in}
use Rattle.r2d2_core.proofs.Histories.LentOnes.{lent_birth-is, lent_refusal-is, lent_of-back, idle_of-lost, lent_is_connected}
use Rattle.r2d2_core.proofs.Histories.Orders.{IsOrdering, orders_if_closed, orders_of-top_up, picture_of-ordered, kept_ordered}
use Rattle.r2d2_core.proofs.Histories.Following.{follows_accepted, follows_refused}
use Rattle.pool_machine.proofs.Facts.Sounds.{sound_check}

module _ {T : Type 0} where
  abbrev checking : Duration → ℕ → Option (String Global) → Step T
  checking now id text = step.FailCheck now id text

  abbrev lost_reply : History T → ℕ → ℕ → ℕ → SeenAnswer T
  lost_reply h t id n = CheckFailed (Ok (record { age = max (now_of h) t - birth_of h id; ordered = n }))

  abbrev then_lost : History T → Duration → ℕ → Option (String Global) → ℕ → History T
  then_lost h now id text n = Then h (checking now id text) (lost_reply h (as_nanos now) id n)

  idle_of-check : (h : History T) (now : Duration) (id : ℕ) (text : Option (String Global)) (n : ℕ) → is_lent h id ≡ true → IsSound (picture_of h)
      → idle_of (then_lost h now id text n) ≡ idle_of h
  idle_of-check h now id text n lent sound = idle_of-lost h (checking now id text) (lost_reply h (as_nanos now) id n) id (max (now_of h) (as_nanos now)) refl
      (λ i. refl) lent (apart_in h sound)

  connections_of-check : (h : History T) (now : Duration) (id : ℕ) (text : Option (String Global)) (n : ℕ)
      → connections_of (then_lost h now id text n) ≡ connections_of h - 1
  connections_of-check h now id text n = connections_of-less h (checking now id text) (lost_reply h (as_nanos now) id n) 1 refl refl

  -- what it orders
  orders_of-check : (h : History T) (now : Duration) (id : ℕ) (text : Option (String Global)) → is_lent h id ≡ true → IsSound (picture_of h)
      → orders_of h (checking now id text) ≡ top_up_beside (length (idle_of h)) (connections_of h - 1) (on_order_of h)
  orders_of-check h now id text lent sound =
      orders_of-top_up h (checking now id text) (length (idle_of h)) (connections_of h - 1)
      (ap (λ b. refused_if (not b) refusal.NotLent None) lent) refl
      (ap length (idle_of-check h now id text 0 lent sound)) (connections_of-check h now id text 0)

  ordering_check : (h : History T) (now : Duration) (id : ℕ) (text : Option (String Global)) (n : ℕ)
      → IsOrdering h (checking now id text) (lost_reply h (as_nanos now) id n)
  ordering_check h now id text n = record {
    closed = refl;
    scheduled = refl;
    begun = λ k. refl;
    ended = λ k. refl;
    ids = refl;
    admitted = λ i. refl;
    count = none_admitted h (checking now id text) (lost_reply h (as_nanos now) id n) refl;
    reaps = refl;
  }

  picture_of-check : (h : History T) (now : Duration) (id : ℕ) (text : Option (String Global)) (n : ℕ) → is_lent h id ≡ true → IsKept h
      → n ≡ top_up_beside (length (idle_of h)) (connections_of h - 1) (on_order_of h) → (is_closed h ≡ true → n ≡ 0)
      → picture_of (then_lost h now id text n) ≡ topped_up (gone_one id (with_text text (raised_to (as_nanos now) (picture_of h))))
  unfolding picture_of
  picture_of-check h now id text n lent kept orders none =
      let s = checking now id text in
      let r = lost_reply h (as_nanos now) id n in
      let p = gone_one id (with_text text (raised_to (as_nanos now) (picture_of h))) in
      picture_of-ordered h s r p n (ordering_check h now id text n) kept refl none
      refl (idle_of-check h now id text n lent kept.sound) (lent_of-back h s r (Gone id (max (now_of h) (as_nanos now))) refl (λ i. refl) (λ birth. refl)
      (apart_in h kept.sound)) refl (connections_of-check h now id text n) refl
      ∙ ap (λ k. ordered k p) orders

  pub follows_check : (h : History T) (now : Duration) (id : ℕ) (text : Option (String Global)) → IsKept h
      → Follows h (step.FailCheck now id text) (CheckFailed (check_answer (as_nanos now) id (picture_of h))) (after_check (as_nanos now) id text (picture_of h))
  unfolding picture_of
  follows_check h now id text kept = by (refusal_of h s) refl where
    s : Step T
    s = checking now id text

    n : ℕ
    n = orders_of h s

    lost_at : ℕ → SeenGone
    lost_at birth = gone_with id birth (raised_to (as_nanos now) (picture_of h))

    new : Picture T
    new = topped_up (gone_one id (with_text text (raised_to (as_nanos now) (picture_of h))))

    by : (why : Option Refusal) → refusal_of h s ≡ why → Follows h s (CheckFailed (check_answer (as_nanos now) id (picture_of h)))
        (after_check (as_nanos now) id text (picture_of h))
    by None accepted =
        let none : lent_refusal id (picture_of h) ≡ None = lent_refusal-is h id ∙ accepted in
        let lent : is_lent h id ≡ true = not_false (is_lent h id) (passes (not (is_lent h id)) refusal.NotLent None accepted).0 in
        let orders : n ≡ top_up_beside (length (idle_of h)) (connections_of h - 1) (on_order_of h) = orders_of-check h now id text lent kept.sound in
        let joins : after_check (as_nanos now) id text (picture_of h) ≡ new = ap (λ o. unless_refused o new (picture_of h)) none in
        let picture : picture_of (then_lost h now id text n) ≡ new = picture_of-check h now id text n lent kept orders (orders_if_closed h s) in
        follows_accepted h s _ _ accepted
        (ap (λ o. CheckFailed (ok_unless o (lost_at (lent_birth id (picture_of h))))) none
        ∙ (ap (λ birth. CheckFailed (Ok (lost_at birth))) (lent_birth-is h id lent)
        ∙ ap (λ k. lost_reply h (as_nanos now) id k) (sym orders)))
        (joins ∙ sym picture)
        (kept_ordered h s (lost_reply h (as_nanos now) id n) (ordering_check h now id text n) kept
        (subst IsSound (sym picture) (subst IsSound joins (sound_check (as_nanos now) id text kept.sound))) (omega (
          arith,
          lent_is_connected h id lent kept.sound,
          more_gone h s (lost_reply h (as_nanos now) id n) 1 refl,
        )))
    by (Some why) refused =
        let some : lent_refusal id (picture_of h) ≡ Some why = lent_refusal-is h id ∙ refused in
        follows_refused h s _ _ why refused
        (ap (λ o. CheckFailed (ok_unless o (lost_at (lent_birth id (picture_of h))))) some)
        (ap (λ o. unless_refused o new (picture_of h)) some)
        kept
