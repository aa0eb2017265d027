-- A return follows the history.
use Rattle.std.proofs.Common.{◌≡◌, ℕ, ◌-◌, ◌≤◌, max, Bool, true, false, not, cond, length, Option, Some, None, Ok, refl, sym, ◌∙◌, ap, subst, arith}
use Rattle.std.specs.Duration.{as_nanos}
use Rattle.std.specs.declared.time.Duration.{Duration}
use Rattle.pool_machine.specs.declared.step.Step.{Step}
use Rattle.pool_machine.specs.declared.step.Step.TheVariants as step
use Rattle.pool_machine.specs.declared.machine.answers.Refusal.{Refusal}
use Rattle.pool_machine.specs.declared.machine.answers.Refusal.TheVariants as refusal
use Rattle.pool_machine.specs.Refusals.{refused_if, ok_or_back, unless_refused}
use Rattle.pool_machine.specs.Seen.{SeenAnswer, SeenReturned, Kept, Closed, PutBack}
use Rattle.pool_machine.specs.OnOrder.{top_up_beside}
use Rattle.pool_machine.specs.Picture.{Picture, IsSound}
use Rattle.pool_machine.specs.Table.{raised_to, ordered, lent_refusal, lent_birth, kept_one, gone_one, return_by, returned_by, return_of, returned, return_answer}
use Rattle.pool_machine.specs.Table.{after_return}
use Rattle.r2d2_core.specs.History.{History, Then, is_closed, now_of}
use Rattle.r2d2_core.specs.Deeds.{Gone, Kept as KeptDeed, birth_of, idle_of, connections_of, admitted_count}
use Rattle.r2d2_core.proofs.Histories.Kept.{gone_count}
use Rattle.r2d2_core.specs.Pending.{on_order_of}
use Rattle.r2d2_core.specs.Answers.{refusal_of, is_lent, closes, orders_of, orders_by, top_up_after, picture_of}
use Rattle.r2d2_core.proofs.Histories.Kept.{IsKept, Follows}
use Rattle.r2d2_core.proofs.Histories.Counts.{come_in, step_deeds, more_gone, none_admitted, none_gone, connections_of-same, connections_of-less}
use Rattle.pool_machine.proofs.Facts.Accounted.{passes, not_false}
use Rattle.r2d2_core.proofs.Histories.GoingOnes.{apart_in}
use Rattle.r2d2_core.proofs.Histories.LentOnes.{lent_birth-is, lent_refusal-is, lent_of-back, idle_of-lost, idle_of-kept, lent_is_connected}
use Rattle.r2d2_core.proofs.Histories.Orders.{IsOrdering, accepted_with, orders_if_closed, orders_of-accepted, orders_of-top_up, picture_of-ordered, picture_of-unordered, kept_ordered}
use Rattle.r2d2_core.proofs.Histories.Following.{follows_accepted, follows_refused}
use Rattle.pool_machine.proofs.Facts.Sounds.{sound_return}

none_ordered : (closed : Bool) → ◌≡◌ {A = ℕ} (cond closed 0 0) 0
none_ordered true = refl
none_ordered false = refl

none_refused : (lent : Bool) → lent ≡ true → refused_if (not lent) refusal.NotLent None ≡ None
none_refused lent e = ap (λ b. refused_if (not b) refusal.NotLent None) e

module _ {T : Type 0} where
  -- the answer to one that is closed, or kept
  abbrev return_with : Bool → T → ℕ → ℕ → SeenReturned T
  return_with b value age n = cond b (Closed value age n) Kept

  abbrev back_reply : History T → ℕ → ℕ → T → ℕ → Bool → SeenAnswer T
  back_reply h t id value n b = PutBack (Ok (return_with b value (max (now_of h) t - birth_of h id) n))

  abbrev then_back : History T → Duration → ℕ → T → Bool → ℕ → Bool → History T
  then_back h now id value broken n b = Then h (step.PutBack now id value broken) (back_reply h (as_nanos now) id value n b)

  idle_of-gone : (h : History T) (now : Duration) (id : ℕ) (value : T) (broken : Bool) (n : ℕ) → is_lent h id ≡ true → IsSound (picture_of h)
      → idle_of (then_back h now id value broken n true) ≡ idle_of h
  idle_of-gone h now id value broken n lent sound = idle_of-lost h (step.PutBack now id value broken) (back_reply h (as_nanos now) id value n true) id
      (max (now_of h) (as_nanos now)) refl (λ i. refl) lent (apart_in h sound)

  connections_of-gone : (h : History T) (now : Duration) (id : ℕ) (value : T) (broken : Bool) (n : ℕ)
      → connections_of (then_back h now id value broken n true) ≡ connections_of h - 1
  connections_of-gone h now id value broken n = connections_of-less h (step.PutBack now id value broken) (back_reply h (as_nanos now) id value n true) 1 refl refl

  connections_of-kept : (h : History T) (now : Duration) (id : ℕ) (value : T) (broken : Bool) (n : ℕ)
      → connections_of (then_back h now id value broken n false) ≡ connections_of h
  connections_of-kept h now id value broken n = connections_of-same h (step.PutBack now id value broken) (back_reply h (as_nanos now) id value n false) refl refl

  -- what it orders: a top-up where one is closed, and else nothing
  abbrev back_orders : History T → Bool → ℕ
  back_orders h true = top_up_beside (length (idle_of h)) (connections_of h - 1) (on_order_of h)
  back_orders h false = 0

  orders_of-kept : (h : History T) (s : Step T) → refusal_of h s ≡ None → accepted_with h 0 s ≡ PutBack (Ok Kept) → orders_of h s ≡ 0
  orders_of-kept h s none r =
      orders_of-accepted h s none ∙ (ap (λ r. cond (is_closed h) 0 (orders_by h (Then h s r) s r)) r ∙ none_ordered (is_closed h))

  orders_of-return : (h : History T) (now : Duration) (id : ℕ) (value : T) (broken b : Bool) → closes h (max (now_of h) (as_nanos now)) id broken ≡ b
      → is_lent h id ≡ true → IsSound (picture_of h)
      → orders_of h (step.PutBack now id value broken) ≡ back_orders h b
  orders_of-return h now id value broken true e lent sound =
      let s : Step T = step.PutBack now id value broken in
      let r : accepted_with h 0 s ≡ back_reply h (as_nanos now) id value 0 true = ap (back_reply h (as_nanos now) id value 0) e in
      orders_of-top_up h s (length (idle_of h)) (connections_of h - 1)
      (none_refused (is_lent h id) lent)
      (subst (λ r. orders_by h (Then h s r) s r ≡ top_up_after h (Then h s r)) (sym r) refl)
      (ap (λ r. length (idle_of (Then h s r))) r ∙ ap length (idle_of-gone h now id value broken 0 lent sound))
      (ap (λ r. connections_of (Then h s r)) r ∙ connections_of-gone h now id value broken 0)
  orders_of-return h now id value broken false e lent sound = orders_of-kept h (step.PutBack now id value broken)
      (none_refused (is_lent h id) lent) (ap (back_reply h (as_nanos now) id value 0) e)

  none_come : (h : History T) (now : Duration) (id : ℕ) (value : T) (broken : Bool) (n : ℕ) (b : Bool)
      → come_in (step_deeds h (step.PutBack now id value broken) (back_reply h (as_nanos now) id value n b)) ≡ 0
  none_come h now id value broken n true = refl
  none_come h now id value broken n false = refl

  ordering_return : (h : History T) (now : Duration) (id : ℕ) (value : T) (broken : Bool) (n : ℕ) (b : Bool)
      → IsOrdering h (step.PutBack now id value broken) (back_reply h (as_nanos now) id value n b)
  ordering_return h now id value broken n b = record {
    closed = refl;
    scheduled = refl;
    begun = λ k. refl;
    ended = λ k. refl;
    ids = refl;
    admitted = λ i. refl;
    count = none_admitted h (step.PutBack now id value broken) (back_reply h (as_nanos now) id value n b) (none_come h now id value broken n b);
    reaps = refl;
  }

  picture_of-return : (h : History T) (now : Duration) (id : ℕ) (value : T) (broken : Bool) (n : ℕ) (b : Bool) → is_lent h id ≡ true → IsKept h
      → n ≡ back_orders h b → (is_closed h ≡ true → n ≡ 0)
      → picture_of (then_back h now id value broken n b) ≡ returned_by b id (birth_of h id) value (raised_to (as_nanos now) (picture_of h))
  unfolding picture_of
  picture_of-return h now id value broken n true lent kept orders none =
      let s : Step T = step.PutBack now id value broken in
      let r = back_reply h (as_nanos now) id value n true in
      let p = gone_one id (raised_to (as_nanos now) (picture_of h)) in
      picture_of-ordered h s r p n (ordering_return h now id value broken n true) kept refl none
      refl (idle_of-gone h now id value broken n lent kept.sound) (lent_of-back h s r (Gone id (max (now_of h) (as_nanos now))) refl (λ i. refl) (λ birth. refl)
      (apart_in h kept.sound)) refl (connections_of-gone h now id value broken n) refl
      ∙ ap (λ k. ordered k p) orders
  picture_of-return h now id value broken n false lent kept orders none =
      let s : Step T = step.PutBack now id value broken in
      let r = back_reply h (as_nanos now) id value n false in
      let t = max (now_of h) (as_nanos now) in
      picture_of-unordered h s r (kept_one id (birth_of h id) value (raised_to (as_nanos now) (picture_of h)))
      (ordering_return h now id value broken n false) kept refl
      refl (idle_of-kept h s r id t value refl (λ i. refl) lent (apart_in h kept.sound)) (lent_of-back h s r (KeptDeed id t value) refl (λ i. refl)
      (λ birth. refl) (apart_in h kept.sound)) refl (connections_of-kept h now id value broken n) refl

  gone_of-return : (h : History T) (now : Duration) (id : ℕ) (value : T) (broken : Bool) (n : ℕ) (b : Bool) → is_lent h id ≡ true → IsKept h
      → gone_count (then_back h now id value broken n b) ≤ admitted_count h
  gone_of-return h now id value broken n true lent kept =
      omega (
        arith,
        lent_is_connected h id lent kept.sound,
        more_gone h (step.PutBack now id value broken) (back_reply h (as_nanos now) id value n true) 1 refl,
      )
  gone_of-return h now id value broken n false lent kept =
      omega (
        arith,
        kept.gone_were_admitted,
        none_gone h (step.PutBack now id value broken) (back_reply h (as_nanos now) id value n false) refl,
      )

  -- the answer of the table, where it orders as many
  return_by-is : (h : History T) (now : Duration) (id : ℕ) (value : T) (n : ℕ) (b : Bool) → n ≡ back_orders h b
      → PutBack (Ok (return_by b id (birth_of h id) value (raised_to (as_nanos now) (picture_of h)))) ≡ back_reply h (as_nanos now) id value n b
  unfolding picture_of
  return_by-is h now id value n true orders = ap (λ k. back_reply h (as_nanos now) id value k true) (sym orders)
  return_by-is h now id value n false orders = refl

  -- one that is accepted, closed or kept
  follows_back : (h : History T) (now : Duration) (id : ℕ) (value : T) (broken b : Bool) → IsKept h → is_lent h id ≡ true
      → closes h (max (now_of h) (as_nanos now)) id broken ≡ b → refusal_of h (step.PutBack now id value broken) ≡ None
      → IsSound (returned_by b id (birth_of h id) value (raised_to (as_nanos now) (picture_of h)))
      → Follows h (step.PutBack now id value broken) (PutBack (Ok (return_by b id (birth_of h id) value (raised_to (as_nanos now) (picture_of h)))))
      (returned_by b id (birth_of h id) value (raised_to (as_nanos now) (picture_of h)))
  follows_back h now id value broken b kept lent e accepted sound =
      let s : Step T = step.PutBack now id value broken in
      let n = orders_of h s in
      let orders : n ≡ back_orders h b = orders_of-return h now id value broken b e lent kept.sound in
      let picture : picture_of (then_back h now id value broken n b) ≡ returned_by b id (birth_of h id) value
      (raised_to (as_nanos now) (picture_of h)) = picture_of-return h now id value broken n b lent kept orders (orders_if_closed h s) in
      let r : accepted_with h n s ≡ back_reply h (as_nanos now) id value n b = ap (back_reply h (as_nanos now) id value n) e in
      follows_accepted h s _ _ accepted
      (return_by-is h now id value n b orders ∙ sym r)
      (sym picture ∙ ap (λ r. picture_of (Then h s r)) (sym r))
      (subst (λ r. IsKept (Then h s r)) (sym r)
      (kept_ordered h s (back_reply h (as_nanos now) id value n b) (ordering_return h now id value broken n b) kept (subst IsSound (sym picture) sound)
      (gone_of-return h now id value broken n b lent kept)))

  pub follows_return : (h : History T) (now : Duration) (id : ℕ) (value : T) (broken : Bool) → IsKept h
      → Follows h (step.PutBack now id value broken) (PutBack (return_answer (as_nanos now) id value broken (picture_of h)))
      (after_return (as_nanos now) id value broken (picture_of h))
  unfolding picture_of on_order_of
  follows_return h now id value broken kept = by (refusal_of h s) refl where
    s : Step T
    s = step.PutBack now id value broken

    p : Picture T
    p = raised_to (as_nanos now) (picture_of h)

    by : (why : Option Refusal) → refusal_of h s ≡ why → Follows h s (PutBack (return_answer (as_nanos now) id value broken (picture_of h)))
        (after_return (as_nanos now) id value broken (picture_of h))
    by None accepted =
        let none : lent_refusal id (picture_of h) ≡ None = lent_refusal-is h id ∙ accepted in
        let lent : is_lent h id ≡ true = not_false (is_lent h id) (passes (not (is_lent h id)) refusal.NotLent None accepted).0 in
        let born : lent_birth id (picture_of h) ≡ birth_of h id = lent_birth-is h id lent in
        let reply : return_answer (as_nanos now) id value broken (picture_of h) ≡ Ok (return_of id (birth_of h id) value broken p) = ap
        (λ o. ok_or_back o value (return_of id (lent_birth id (picture_of h)) value broken p)) none
        ∙ ap (λ birth. Ok (return_of id birth value broken p)) born in
        let new : after_return (as_nanos now) id value broken (picture_of h) ≡ returned id (birth_of h id) value broken p = ap
        (λ o. unless_refused o (returned id (lent_birth id (picture_of h)) value broken p) (picture_of h)) none
        ∙ ap (λ birth. returned id birth value broken p) born in
        let follows = follows_back h now id value broken (closes h (max (now_of h) (as_nanos now)) id broken) kept lent refl accepted
        (subst IsSound new (sound_return (as_nanos now) id value broken kept.sound)) in
        record {
          answer_is = ap PutBack reply ∙ follows.answer_is;
          picture_is = new ∙ follows.picture_is;
          kept = follows.kept;
        }
    by (Some why) refused =
        let some : lent_refusal id (picture_of h) ≡ Some why = lent_refusal-is h id ∙ refused in
        follows_refused h s _ _ why refused
        (ap (λ o. PutBack (ok_or_back o value (return_of id (lent_birth id (picture_of h)) value broken p))) some)
        (ap (λ o. unless_refused o (returned id (lent_birth id (picture_of h)) value broken p) (picture_of h)) some)
        kept
