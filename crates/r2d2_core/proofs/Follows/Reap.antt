-- A reap as the history sees it: the expired ones go, and what is wanted is ordered again.
use Rattle.std.proofs.Common.{◌≡◌, ℕ, ◌-◌, ◌≤◌, max, true, List, length, refl, sym, ◌∙◌, ap, subst, arith}
use Rattle.std.specs.Prelude.{filter}
use Rattle.std.specs.Duration.{as_nanos}
use Rattle.std.specs.declared.time.Duration.{Duration}
use Rattle.pool_machine.specs.declared.step.Step.TheVariants as step
use Rattle.pool_machine.specs.Connections.{SeenIdleConnection, id_of_idle, is_expired, is_kept, closed_of}
use Rattle.pool_machine.specs.Picture.{IsSound}
use Rattle.pool_machine.specs.Table.{raised_to, ordered, swept, reap_closed, reap_orders, after_reap}
use Rattle.pool_machine.specs.Seen.{SeenAnswer, Reaped}
use Rattle.r2d2_core.specs.History.{History, Then, limits_of, now_of, is_closed, moment_of}
use Rattle.r2d2_core.specs.Deeds.{deeds_in, idle_of, lent_of, admitted_count, connections_of}
use Rattle.r2d2_core.proofs.Histories.Kept.{gone_count}
use Rattle.r2d2_core.specs.Pending.{on_order_of}
use Rattle.r2d2_core.specs.Answers.{orders_of, picture_of}
use Rattle.r2d2_core.proofs.Histories.Kept.{IsKept, Follows}
use Rattle.r2d2_core.proofs.Histories.Counts.{come_in, gone_in, step_deeds, more_gone, none_admitted, connections_of-less, going_come, going_go}
use Rattle.std.proofs.lemmas.List.Filters.{length-filter_both}
use Rattle.r2d2_core.proofs.Histories.GoingOnes.{apart_in, closings_go, going_deeds, idle_of-going, lent_of-going, admitted_are}
use Rattle.r2d2_core.proofs.Histories.Orders.{IsOrdering, orders_if_closed, orders_of-top_up, picture_of-ordered, kept_ordered}
use Rattle.r2d2_core.proofs.Histories.Following.{follows_accepted}
use Rattle.pool_machine.proofs.Facts.Sounds.{sound_reap}

module _ {T : Type 0} where
  -- the moment of a reap, raised to the latest
  abbrev reaped_at : History T → Duration → ℕ
  reaped_at h now = max (now_of h) (as_nanos now)

  abbrev expired_of : History T → Duration → List (SeenIdleConnection T)
  expired_of h now = filter (is_expired (limits_of h) (reaped_at h now)) (idle_of h)

  abbrev reaped_by : History T → Duration → ℕ → SeenAnswer T
  reaped_by h now n = Reaped (closed_of (limits_of h) (reaped_at h now) (idle_of h)) n

  expired_go : (h : History T) (now : Duration) (n : ℕ) → deeds_in (moment_of h (step.Reap now)) (step.Reap now) (reaped_by h now n) ≡ going_deeds id_of_idle
      (reaped_at h now) (expired_of h now)
  expired_go h now n = closings_go (reaped_at h now) (reaped_at h now) (expired_of h now)

  pub idle_of-reap : (h : History T) (now : Duration) (n : ℕ) → IsKept h → idle_of (Then h (step.Reap now) (reaped_by h now n)) ≡ filter
      (is_kept (limits_of h) (reaped_at h now)) (idle_of h)
  unfolding is_expired is_kept
  idle_of-reap h now n kept = idle_of-going h (step.Reap now) (reaped_by h now n) (reaped_at h now) (is_expired (limits_of h) (reaped_at h now))
      (expired_go h now n) (λ i. refl) (apart_in h kept.sound)

  pub lent_of-reap : (h : History T) (now : Duration) (n : ℕ) → IsKept h → lent_of (Then h (step.Reap now) (reaped_by h now n)) ≡ lent_of h
  lent_of-reap h now n kept = lent_of-going h (step.Reap now) (reaped_by h now n) (reaped_at h now) (is_expired (limits_of h) (reaped_at h now))
      (expired_go h now n) (λ i. refl) (apart_in h kept.sound)

  none_come : (h : History T) (now : Duration) (n : ℕ) → come_in (step_deeds h (step.Reap now) (reaped_by h now n)) ≡ 0
  none_come h now n = ap come_in (expired_go h now n) ∙ going_come T id_of_idle (reaped_at h now) (expired_of h now)

  all_go : (h : History T) (now : Duration) (n : ℕ) → gone_in (step_deeds h (step.Reap now) (reaped_by h now n)) ≡ length (expired_of h now)
  all_go h now n = ap gone_in (expired_go h now n) ∙ going_go T id_of_idle (reaped_at h now) (expired_of h now)

  pub connections_of-reap : (h : History T) (now : Duration) (n : ℕ) → connections_of (Then h (step.Reap now) (reaped_by h now n)) ≡ connections_of h - length
      (expired_of h now)
  connections_of-reap h now n = connections_of-less h (step.Reap now) (reaped_by h now n) (length (expired_of h now)) (none_come h now n) (all_go h now n)

  -- the expired ones were admitted
  gone_of-reap : (h : History T) (now : Duration) (n : ℕ) → IsKept h → gone_count (Then h (step.Reap now) (reaped_by h now n)) ≤ admitted_count h
  unfolding is_expired is_kept
  gone_of-reap h now n kept =
      omega (
        arith,
        admitted_are h kept,
        more_gone h (step.Reap now) (reaped_by h now n) (length (expired_of h now)) (all_go h now n),
        length-filter_both (is_expired (limits_of h) (reaped_at h now))
            (is_kept (limits_of h) (reaped_at h now)) (λ c. refl) (idle_of h),
      )

  -- what a reap orders
  orders_of-reap : (h : History T) (now : Duration) → IsKept h → orders_of h (step.Reap now) ≡ reap_orders (as_nanos now) (picture_of h)
  unfolding picture_of on_order_of
  orders_of-reap h now kept =
      orders_of-top_up h (step.Reap now) (length (filter (is_kept (limits_of h) (reaped_at h now)) (idle_of h))) (connections_of h - length (expired_of h now))
      refl refl (ap length (idle_of-reap h now 0 kept)) (connections_of-reap h now 0)

  ordering_reap : (h : History T) (now : Duration) (n : ℕ) → IsOrdering h (step.Reap now) (reaped_by h now n)
  ordering_reap h now n = record {
    closed = refl;
    scheduled = refl;
    begun = λ k. refl;
    ended = λ k. refl;
    ids = refl;
    admitted = λ i. refl;
    count = none_admitted h (step.Reap now) (reaped_by h now n) (none_come h now n);
    reaps = refl;
  }

  -- the picture after a reap
  picture_of-reap : (h : History T) (now : Duration) (n : ℕ) → IsKept h → n ≡ reap_orders (as_nanos now) (picture_of h) → (is_closed h ≡ true → n ≡ 0)
      → picture_of (Then h (step.Reap now) (reaped_by h now n)) ≡ after_reap (as_nanos now) (picture_of h)
  unfolding picture_of on_order_of
  picture_of-reap h now n kept orders none =
      let p = swept (raised_to (as_nanos now) (picture_of h)) in
      picture_of-ordered h (step.Reap now) (reaped_by h now n) p n (ordering_reap h now n) kept refl none
      refl (idle_of-reap h now n kept) (lent_of-reap h now n kept) refl (connections_of-reap h now n) refl
      ∙ ap (λ k. ordered k p) orders

  pub follows_reap : (h : History T) (now : Duration) → IsKept h
      → Follows h (step.Reap now) (Reaped (reap_closed (as_nanos now) (picture_of h)) (reap_orders (as_nanos now) (picture_of h)))
      (after_reap (as_nanos now) (picture_of h))
  unfolding picture_of on_order_of
  follows_reap h now kept =
      let s = step.Reap now in
      let n = orders_of h s in
      let orders : n ≡ reap_orders (as_nanos now) (picture_of h) = orders_of-reap h now kept in
      let picture : picture_of (Then h s (reaped_by h now n)) ≡ after_reap (as_nanos now) (picture_of h) = picture_of-reap h now n kept orders
      (orders_if_closed h s) in
      follows_accepted h s (Reaped (reap_closed (as_nanos now) (picture_of h)) (reap_orders (as_nanos now) (picture_of h)))
      (after_reap (as_nanos now) (picture_of h)) refl
      (ap (λ k. reaped_by h now k) (sym orders))
      (sym picture)
      (kept_ordered h s (reaped_by h now n) (ordering_reap h now n) kept (subst IsSound (sym picture) (sound_reap (as_nanos now) kept.sound))
      (gone_of-reap h now n kept))
