-- A failed opening follows the history.
use Rattle.std.proofs.Common.{◌≡◌, ℕ, ◌+◌, max, true, false, not, Option, Some, None, Ok, String, Global, refl, sym, ◌∙◌, ap, subst, arith}
use Rattle.std.specs.Duration.{as_nanos}
use Rattle.std.specs.declared.time.Duration.{Duration}
use Rattle.pool_machine.specs.declared.step.Step.{Step}
use Rattle.pool_machine.specs.declared.step.Step.TheVariants as step
use Rattle.pool_machine.specs.declared.machine.answers.Refusal.{Refusal}
use Rattle.pool_machine.specs.declared.machine.answers.Refusal.TheVariants as refusal
use Rattle.pool_machine.specs.Limits.{later_by, delay_of}
use Rattle.pool_machine.specs.Refusals.{refused_if, ok_unless, unless_refused}
use Rattle.pool_machine.specs.Seen.{SeenAnswer, Failed}
use Rattle.pool_machine.specs.OnOrder.{fail_refusal, failed_one}
use Rattle.pool_machine.specs.Picture.{Picture, IsSound}
use Rattle.pool_machine.specs.Table.{fail_answer, failed, after_fail}
use Rattle.r2d2_core.specs.History.{History, Then, is_closed, now_of, limits_of}
use Rattle.r2d2_core.specs.Deeds.{admitted_count}
use Rattle.r2d2_core.proofs.Histories.Kept.{gone_count}
use Rattle.r2d2_core.specs.Pending.{pending_of, numbered_of, next_reap_of, next_id_of, on_order_of}
use Rattle.r2d2_core.specs.Answers.{refusal_of, is_in_work, picture_of}
use Rattle.r2d2_core.proofs.Histories.Kept.{IsKept, Follows}
use Rattle.r2d2_core.proofs.Histories.Counts.{none_admitted, none_gone, connections_of-same}
use Rattle.r2d2_core.proofs.Histories.Deeds.{idle_of-none, lent_of-none}
use Rattle.r2d2_core.proofs.Histories.InWork.{in_work_of-one_less, is_in_work-on_order, ended_fits}
use Rattle.pool_machine.proofs.Facts.Accounted.{passes, not_false}
use Rattle.r2d2_core.proofs.Histories.Orders.{same_on_order, picture_of-is, pending_of-same}
use Rattle.r2d2_core.proofs.Histories.Following.{follows_accepted, follows_refused}
use Rattle.pool_machine.proofs.Facts.Sounds.{sound_fail}

module _ {T : Type 0} where
  -- when it is due again
  abbrev due : History T → ℕ → ℕ → ℕ
  due h t tries = later_by (max (now_of h) t) (delay_of (limits_of h) (tries + 1))

  abbrev failing : Duration → ℕ → Option (String Global) → Step T
  failing now tries text = step.Fail now tries text

  abbrev then_failed : History T → Duration → ℕ → Option (String Global) → History T
  then_failed h now tries text = Then h (failing now tries text) (Failed (Ok (due h (as_nanos now) tries)))

  same_refusal : (h : History T) (now : Duration) (tries : ℕ) (text : Option (String Global)) → IsKept h
      → fail_refusal tries (picture_of h).on_order ≡ refusal_of h (failing now tries text)
  unfolding picture_of on_order_of
  same_refusal h now tries text kept = ap (λ b. refused_if (is_closed h) refusal.Closed (refused_if (not b) refusal.NoOpening None))
      (sym (is_in_work-on_order h tries kept))

  on_order_of-fail : (h : History T) (now : Duration) (tries : ℕ) (text : Option (String Global))
      → on_order_of (then_failed h now tries text) ≡ failed_one (max (now_of h) (as_nanos now)) tries (on_order_of h)
  unfolding on_order_of pending_of numbered_of next_reap_of next_id_of
  on_order_of-fail h now tries text =
      same_on_order (on_order_of h) refl
      (in_work_of-one_less h (then_failed h now tries text) tries refl (λ j. refl) (λ j. refl)) refl refl refl
      (pending_of-same h (failing now tries text) (Failed (Ok (due h (as_nanos now) tries))) refl refl
      (none_admitted h (failing now tries text) (Failed (Ok (due h (as_nanos now) tries))) refl)) refl

  picture_of-fail : (h : History T) (now : Duration) (tries : ℕ) (text : Option (String Global))
      → picture_of (then_failed h now tries text) ≡ failed (as_nanos now) tries text (picture_of h)
  unfolding picture_of
  picture_of-fail h now tries text =
      let s = failing now tries text in
      let r : SeenAnswer T = Failed (Ok (due h (as_nanos now) tries)) in
      picture_of-is (then_failed h now tries text) (failed (as_nanos now) tries text (picture_of h))
      refl (idle_of-none h s r refl (λ i. refl)) (lent_of-none h s r refl (λ i. refl)) (on_order_of-fail h now tries text)
      (connections_of-same h s r refl refl) refl

  no_more_admitted : (h : History T) (now : Duration) (tries : ℕ) (text : Option (String Global))
      → admitted_count (then_failed h now tries text) ≡ admitted_count h
  no_more_admitted h now tries text = none_admitted h (failing now tries text) (Failed (Ok (due h (as_nanos now) tries))) refl

  no_more_gone : (h : History T) (now : Duration) (tries : ℕ) (text : Option (String Global)) → gone_count (then_failed h now tries text) ≡ gone_count h
  no_more_gone h now tries text = none_gone h (failing now tries text) (Failed (Ok (due h (as_nanos now) tries))) refl

  kept_fail : (h : History T) (now : Duration) (tries : ℕ) (text : Option (String Global)) → IsKept h → is_closed h ≡ false → is_in_work h tries ≡ true
      → IsSound (failed (as_nanos now) tries text (picture_of h)) → IsKept (then_failed h now tries text)
  unfolding next_id_of
  kept_fail h now tries text kept is_open working sound = record {
    sound = subst IsSound (sym (picture_of-fail h now tries text)) sound;
    gone_were_admitted = omega (arith, kept.gone_were_admitted, no_more_gone h now tries text, no_more_admitted h now tries text);
    admitted_were_ordered = λ is_open. omega (arith, kept.admitted_were_ordered is_open, no_more_admitted h now tries text);
    ended_were_begun = ended_fits h tries is_open working kept;
    few_tries = kept.few_tries;
    none_admitted_ahead = kept.none_admitted_ahead;
  }

  pub follows_fail : (h : History T) (now : Duration) (tries : ℕ) (text : Option (String Global)) → IsKept h
      → Follows h (step.Fail now tries text) (Failed (fail_answer (as_nanos now) tries (picture_of h))) (after_fail (as_nanos now) tries text (picture_of h))
  unfolding picture_of on_order_of
  follows_fail h now tries text kept = by (refusal_of h s) refl where
    s : Step T
    s = failing now tries text

    reply : SeenAnswer T
    reply = Failed (fail_answer (as_nanos now) tries (picture_of h))

    new : Picture T
    new = after_fail (as_nanos now) tries text (picture_of h)

    by : (why : Option Refusal) → refusal_of h s ≡ why → Follows h s reply new
    by None accepted =
        let none : fail_refusal tries (picture_of h).on_order ≡ None = same_refusal h now tries text kept ∙ accepted in
        let first = passes (is_closed h) refusal.Closed _ accepted in
        let second = passes (not (is_in_work h tries)) refusal.NoOpening None first.1 in
        let joins : new ≡ failed (as_nanos now) tries text (picture_of h) = ap (λ o. unless_refused o (failed (as_nanos now) tries text (picture_of h))
        (picture_of h)) none in
        follows_accepted h s reply new accepted
        (ap (λ o. Failed (ok_unless o (due h (as_nanos now) tries))) none)
        (joins ∙ sym (picture_of-fail h now tries text))
        (kept_fail h now tries text kept first.0 (not_false (is_in_work h tries) second.0) (subst IsSound joins
        (sound_fail (as_nanos now) tries text kept.sound)))
    by (Some why) refused =
        let some : fail_refusal tries (picture_of h).on_order ≡ Some why = same_refusal h now tries text kept ∙ refused in
        follows_refused h s reply new why refused
        (ap (λ o. Failed (ok_unless o (due h (as_nanos now) tries))) some)
        (ap (λ o. unless_refused o (failed (as_nanos now) tries text (picture_of h)) (picture_of h)) some)
        kept
