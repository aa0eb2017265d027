-- A numbering follows the history.
use Rattle.std.proofs.Common.{◌≡◌, ℕ, ◌+◌, ◌-◌, ◌^◌, ◌<◌, ◌≤◌, Bool, true, false, cond, List, [], ◌∷◌, ◌++◌, Option, Some, None, refl, sym, ◌∙◌, ap, subst}
use Rattle.std.proofs.Common.{arith, Ok}
use Rattle.std.specs.Prelude.{filter, ◌==◌, not}
use Rattle.std.proofs.lemmas.List.{length_push}
use Rattle.std.proofs.lemmas.List.Elements.{filter-append}
use Rattle.std.proofs.lemmas.Bool.{eqb-true}
use Rattle.pool_machine.specs.declared.step.Step.TheVariants as step
use Rattle.pool_machine.specs.declared.machine.answers.Refusal.{Refusal}
use Rattle.pool_machine.specs.declared.machine.answers.Refusal.TheVariants as refusal
use Rattle.pool_machine.specs.Refusals.{refused_if, ok_unless, unless_refused}
use Rattle.pool_machine.specs.Seen.{Numbered}
use Rattle.pool_machine.specs.OnOrder.{number_refusal, numbered_one}
use Rattle.pool_machine.specs.Picture.{IsSound}
use Rattle.pool_machine.specs.Table.{with_on_order, number_answer, after_number}
use Rattle.r2d2_core.specs.History.{History, Then, is_closed}
use Rattle.r2d2_core.specs.Pending.{begun_of, ended_of, in_work_at, ids_of, is_admitted, numbered_of, next_id_of, next_reap_of, on_order_of}
use Rattle.r2d2_core.specs.Answers.{refusal_of, picture_of}
use Rattle.r2d2_core.proofs.Histories.Kept.{IsKept, Follows}
use Rattle.r2d2_core.proofs.Histories.Counts.{none_admitted, none_gone, connections_of-same}
use Rattle.r2d2_core.proofs.Histories.Deeds.{idle_of-none, lent_of-none}
use Rattle.pool_machine.proofs.Facts.Accounted.{found_in_work}
use Rattle.r2d2_core.proofs.Histories.InWork.{slice_index-in_work_of, in_work_of-one_less, is_in_work-on_order}
use Rattle.r2d2_core.proofs.Histories.Orders.{same_on_order, picture_of-is, pending_of-same}
use Rattle.r2d2_core.proofs.Histories.Following.{follows_accepted, follows_refused}
use Rattle.pool_machine.proofs.Facts.Sounds.{sound_number}

-- the next id awaits its admission
numbered_more : (closed admitted : Bool) (xs ys : List ℕ) (i : ℕ) → closed ≡ false → admitted ≡ false
    → cond closed [] (xs ++ cond (not admitted) (i ∷ []) []) ≡ cond closed [] xs ++ i ∷ []
numbered_more true admitted xs ys i e is = absurd cc
numbered_more false true xs ys i e is = absurd cc
numbered_more false false xs ys i e is = refl

-- where one is in work, one more may end
ended_less : (closed same : Bool) (begun ended : ℕ) → closed ≡ false → (same ≡ true → 0 < cond closed 0 (begun - ended)) → ended ≤ begun
    → ended + cond same 1 0 ≤ begun
ended_less true same begun ended e some le = absurd cc
ended_less false true begun ended e some le = omega (arith, some refl)
ended_less false false begun ended e some le = omega arith

module _ {T : Type 0} where
  refusal_of-number : (h : History T) (tries : ℕ) → IsKept h → refusal_of h (step.Number tries) ≡ number_refusal tries (on_order_of h)
  unfolding on_order_of
  refusal_of-number h tries kept =
      ap (λ b. refused_if (is_closed h) refusal.Closed (refused_if (not b) refusal.NoOpening (refused_if (next_id_of h == 2 ^ 64 - 1) refusal.IdsUsedUp None)))
      (is_in_work-on_order h tries kept)

  numbered_of-number : (h : History T) (tries : ℕ) → is_closed h ≡ false → IsKept h
      → numbered_of (Then h (step.Number tries) (Numbered (Ok (next_id_of h)))) ≡ numbered_of h ++ next_id_of h ∷ []
  unfolding numbered_of
  numbered_of-number h tries is_open kept =
      ap (λ l. cond (is_closed h) [] l) (filter-append (λ i. not (is_admitted h i)) (ids_of h) (next_id_of h ∷ []))
      ∙ numbered_more (is_closed h) (is_admitted h (next_id_of h)) (filter (λ i. not (is_admitted h i)) (ids_of h)) [] (next_id_of h) is_open
      (kept.none_admitted_ahead (next_id_of h) (omega arith))

  next_id_of-number : (h : History T) (tries : ℕ) → next_id_of (Then h (step.Number tries) (Numbered (Ok (next_id_of h)))) ≡ next_id_of h + 1
  unfolding next_id_of
  next_id_of-number h tries = omega (arith, length_push (ids_of h) (next_id_of h))

  picture_of-number : (h : History T) (tries : ℕ) → is_closed h ≡ false → IsKept h
      → picture_of (Then h (step.Number tries) (Numbered (Ok (next_id_of h)))) ≡ with_on_order (numbered_one tries (on_order_of h)) (picture_of h)
  unfolding picture_of on_order_of next_reap_of
  picture_of-number h tries is_open kept =
      let s = step.Number tries in
      let r = Numbered (Ok (next_id_of h)) in
      picture_of-is (Then h s r) (with_on_order (numbered_one tries (on_order_of h)) (picture_of h)) refl
      (idle_of-none h s r refl (λ i. refl)) (lent_of-none h s r refl (λ i. refl))
      (same_on_order (on_order_of h) refl
      (in_work_of-one_less h (Then h s r) tries refl (λ k. refl) (λ k. refl))
      (numbered_of-number h tries is_open kept)
      refl
      (next_id_of-number h tries)
      (pending_of-same h s r refl refl (none_admitted h s r refl))
      refl)
      (connections_of-same h s r refl refl) refl

  kept_number : (h : History T) (tries : ℕ) → is_closed h ≡ false → 0 < in_work_at h tries → IsKept h
      → IsSound (picture_of (Then h (step.Number tries) (Numbered (Ok (next_id_of h)))))
      → IsKept (Then h (step.Number tries) (Numbered (Ok (next_id_of h))))
  unfolding in_work_at
  kept_number h tries is_open some kept sound = record {
    sound = sound;
    gone_were_admitted = omega (
      arith,
      kept.gone_were_admitted,
      none_gone h (step.Number tries) (Numbered (Ok (next_id_of h))) refl,
      none_admitted h (step.Number tries) (Numbered (Ok (next_id_of h))) refl,
    );
    admitted_were_ordered = λ is_open. omega (
      arith,
      kept.admitted_were_ordered is_open,
      none_admitted h (step.Number tries) (Numbered (Ok (next_id_of h))) refl,
    );
    ended_were_begun = λ k. ended_less (is_closed h) (tries == k) (begun_of h k) (ended_of h k) is_open
        (λ same. subst (λ k. 0 < in_work_at h k) (eqb-true tries k same) some) (kept.ended_were_begun k);
    few_tries = kept.few_tries;
    none_admitted_ahead = λ i ahead. kept.none_admitted_ahead i (omega (arith, ahead, next_id_of-number h tries));
  }

  number_by : (h : History T) (tries : ℕ) (why : Option Refusal) → number_refusal tries (on_order_of h) ≡ why → IsKept h
      → Follows h (step.Number tries) (Numbered (ok_unless why (next_id_of h))) (with_on_order
      (unless_refused why (numbered_one tries (on_order_of h)) (on_order_of h)) (picture_of h))
  unfolding picture_of on_order_of
  number_by h tries None e kept =
      let s = step.Number tries in
      let there = found_in_work tries (on_order_of h) _ e in
      let some : 0 < in_work_at h tries = subst (λ n. 0 < n) (slice_index-in_work_of h tries kept) there.1 in
      let picture = picture_of-number h tries there.0 kept in
      let sound : IsSound (with_on_order (numbered_one tries (on_order_of h)) (picture_of h)) =
      subst (λ why. IsSound (with_on_order (unless_refused why (numbered_one tries (on_order_of h)) (on_order_of h)) (picture_of h))) e
      (sound_number tries kept.sound) in
      follows_accepted h s (Numbered (Ok (next_id_of h))) (with_on_order (numbered_one tries (on_order_of h)) (picture_of h))
      (refusal_of-number h tries kept ∙ e) refl (sym picture)
      (kept_number h tries there.0 some kept (subst IsSound (sym picture) sound))
  number_by h tries (Some why) e kept =
      follows_refused h (step.Number tries) _ (picture_of h) why (refusal_of-number h tries kept ∙ e) refl refl kept

  pub follows_number : (h : History T) (tries : ℕ) → IsKept h → Follows h (step.Number tries) (Numbered (number_answer tries (picture_of h)))
      (after_number tries (picture_of h))
  unfolding picture_of on_order_of
  follows_number h tries kept = number_by h tries (number_refusal tries (on_order_of h)) refl kept
