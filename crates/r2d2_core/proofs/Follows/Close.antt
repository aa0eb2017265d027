-- A close as the history sees it: all idle connections go, and nothing is on order any more.
use Rattle.std.proofs.Common.{◌≡◌, ℕ, zero, suc, ◌+◌, ◌-◌, true, false, not, List, [], ◌∷◌, map, length, None, refl, sym, ◌∙◌, ap, subst, arith}
use Rattle.std.specs.Prelude.{filter, replicate, ◌*◌, ◌&&◌, if◌then◌else◌, Some}
use Rattle.std.specs.List.{range_with_len}
use Rattle.std.specs.Duration.{as_nanos}
use Rattle.pool_machine.specs.declared.step.Step.TheVariants as step
use Rattle.pool_machine.specs.Limits.{later_by, has_reaps}
use Rattle.pool_machine.specs.Connections.{SeenIdleConnection, SeenLentConnection, id_of_idle, pair_of}
use Rattle.pool_machine.specs.OnOrder.{emptied}
use Rattle.pool_machine.proofs.Facts.Accounted.{IsEmpty, empty_once_closed}
use Rattle.pool_machine.specs.Picture.{Picture, IsSound}
use Rattle.pool_machine.specs.Table.{close_answer, after_close}
use Rattle.pool_machine.specs.Seen.{SeenAnswer, Close}
use Rattle.r2d2_core.specs.History.{History, Then, limits_of, start_of, now_of, is_closed, moment_of}
use Rattle.r2d2_core.specs.Deeds.{deeds_in, idle_of, lent_of, connections_of}
use Rattle.r2d2_core.specs.Pending.{pending_of, in_work_of, in_work_at, numbered_of, reaps_of, next_reap_of, next_id_of, on_order_of}
use Rattle.r2d2_core.specs.Answers.{picture_of}
use Rattle.r2d2_core.proofs.Histories.Kept.{IsKept, Follows}
use Rattle.r2d2_core.proofs.Histories.Counts.{come_in, gone_in, step_deeds, more_gone, none_admitted, connections_of-less, going_come, going_go}
use Rattle.pool_machine.proofs.Lists.Filters.{filter_true}
use Rattle.r2d2_core.proofs.Histories.GoingOnes.{apart_in, pairs_go, going_deeds, idle_of-going, lent_of-going, admitted_are}
use Rattle.r2d2_core.proofs.Histories.Orders.{same_on_order, same_picture}
use Rattle.pool_machine.proofs.Facts.Sounds.{sound_close}

none_pass : {X : Type 0} (xs : List X) → filter (λ x. false) xs ≡ []
none_pass [] = refl
none_pass (x ∷ xs) = none_pass xs

all_zero : (a n : ℕ) → map {B = ℕ} (λ k. 0) (range_with_len a n) ≡ replicate n 0
all_zero a zero = refl
all_zero a (suc n) = ap (λ (l : List ℕ). 0 ∷ l) (all_zero (a + 1) n)

module _ {T : Type 0} where
  abbrev left_by : History T → SeenAnswer T
  left_by h = Close (map pair_of (idle_of h))

  -- the deeds of a close: all that are idle go
  all_go : (h : History T) → deeds_in (moment_of h step.Close) step.Close (left_by h) ≡ going_deeds id_of_idle (moment_of h step.Close)
      (filter (λ c. true) (idle_of h))
  all_go h = pairs_go (now_of h) (idle_of h) ∙ ap (going_deeds id_of_idle (now_of h)) (sym (filter_true (idle_of h)))

  none_come : (h : History T) → come_in (step_deeds h step.Close (left_by h)) ≡ 0
  none_come h = ap come_in (pairs_go (now_of h) (idle_of h)) ∙ going_come T id_of_idle (now_of h) (idle_of h)

  each_goes : (h : History T) → gone_in (step_deeds h step.Close (left_by h)) ≡ length (idle_of h)
  each_goes h = ap gone_in (pairs_go (now_of h) (idle_of h)) ∙ going_go T id_of_idle (now_of h) (idle_of h)

  pub idle_of-close : (h : History T) → IsKept h → idle_of (Then h step.Close (left_by h)) ≡ []
  idle_of-close h kept = idle_of-going h step.Close (left_by h) (now_of h) (λ c. true) (all_go h) (λ i. refl) (apart_in h kept.sound) ∙ none_pass (idle_of h)

  pub lent_of-close : (h : History T) → IsKept h → lent_of (Then h step.Close (left_by h)) ≡ lent_of h
  lent_of-close h kept = lent_of-going h step.Close (left_by h) (now_of h) (λ c. true) (all_go h) (λ i. refl) (apart_in h kept.sound)

  -- two pictures that differ in these fields alone
  same_close : (p : Picture T) {idle idle' : List (SeenIdleConnection T)} {lent lent' : List SeenLentConnection} {work work' : List ℕ} {n n' : ℕ}
      → idle ≡ idle' → lent ≡ lent' → work ≡ work' → n ≡ n'
      → ◌≡◌ {A = Picture T} (record p { idle = idle; lent = lent; on_order = record (emptied p.on_order) { in_work = work }; connections = n })
      (record p { idle = idle'; lent = lent'; on_order = record (emptied p.on_order) { in_work = work' }; connections = n' })
  same_close p e1 e2 e3 e4 = rw (e1, e2, e3, e4)

  -- the picture after a close
  pub picture_of-close : (h : History T) → IsKept h → picture_of (Then h step.Close (left_by h)) ≡ after_close (picture_of h)
  unfolding picture_of on_order_of pending_of in_work_of in_work_at numbered_of next_reap_of next_id_of
  picture_of-close h kept =
      same_close (picture_of h) (idle_of-close h kept) (lent_of-close h kept) (all_zero 0 100)
      (connections_of-less h step.Close (left_by h) (length (idle_of h)) (none_come h) (each_goes h))

  kept_close : (h : History T) → IsKept h → IsKept (Then h step.Close (left_by h))
  unfolding next_id_of
  kept_close h kept = record {
    sound = subst IsSound (sym (picture_of-close h kept)) (sound_close kept.sound);
    gone_were_admitted = omega (
      arith,
      admitted_are h kept,
      more_gone h step.Close (left_by h) (length (idle_of h)) (each_goes h),
      none_admitted h step.Close (left_by h) (none_come h),
    );
    admitted_were_ordered = λ not_closed. absurd (cc not_closed);
    ended_were_begun = kept.ended_were_begun;
    few_tries = kept.few_tries;
    none_admitted_ahead = kept.none_admitted_ahead;
  }

  pub follows_close : (h : History T) → IsKept h → Follows h step.Close (Close (close_answer (picture_of h))) (after_close (picture_of h))
  unfolding picture_of
  follows_close h kept = record {
    answer_is = refl;
    picture_is = sym (picture_of-close h kept);
    kept = kept_close h kept;
  }

  -- A SECOND CLOSE

  -- it answers nothing
  pub close_answer-closed : (h : History T) → IsKept h → is_closed h ≡ true → close_answer (picture_of h) ≡ []
  unfolding picture_of on_order_of
  close_answer-closed h kept closed = ap (map pair_of) (kept.sound.steady.none_once_closed closed)

  next_reap_of-closed : (h : History T) → is_closed h ≡ true → next_reap_of h ≡ None
  unfolding next_reap_of
  next_reap_of-closed h closed = ap (λ b. if not b && has_reaps (limits_of h) then Some (later_by (start_of h)
      (as_nanos (limits_of h).reap_every * (1 + reaps_of h))) else None) closed

  -- and changes nothing
  pub after_close-closed : (h : History T) → IsKept h → is_closed h ≡ true → after_close (picture_of h) ≡ picture_of h
  unfolding picture_of on_order_of
  after_close-closed h kept closed =
      let o = on_order_of h in
      let none : IsEmpty o = empty_once_closed o kept.sound.steady.accounted closed in
      let idle : idle_of h ≡ [] = kept.sound.steady.none_once_closed closed in
      let all : connections_of h - length (idle_of h) ≡ connections_of h = omega (arith, ap length idle) in
      same_picture refl (sym idle) refl
      (same_on_order o (sym none.scheduled) (sym none.in_work) (sym none.numbered) (sym (next_reap_of-closed h closed)) refl (sym none.pending) (sym closed))
      all refl

  pub after_close-twice : (p : Picture T) → after_close (after_close p) ≡ after_close p
  after_close-twice p = ap (λ n. record (after_close p) { connections = n }) (less_none (p.connections - length p.idle)) where
    less_none : (n : ℕ) → n - 0 ≡ n
    less_none n = omega arith
