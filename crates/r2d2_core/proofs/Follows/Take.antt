-- A take follows the history.
use Rattle.std.proofs.Common.{◌≡◌, ℕ, Bool, true, cond, length, Option, Some, None, refl, sym, ◌∙◌, ap, subst, arith}
use Rattle.std.specs.Duration.{as_nanos}
use Rattle.std.specs.declared.time.Duration.{Duration}
use Rattle.pool_machine.specs.declared.step.Step.TheVariants as step
use Rattle.pool_machine.specs.Lending.{next_to_lend, still_idle}
use Rattle.pool_machine.specs.Connections.{SeenIdleConnection}
use Rattle.pool_machine.specs.Seen.{Taken, Found, Empty}
use Rattle.pool_machine.specs.Picture.{IsSound}
use Rattle.pool_machine.specs.Table.{raised_to, ordered, lent_out, take_orders, taken, take_answer, after_take}
use Rattle.pool_machine.specs.Seen.{take_with}
use Rattle.r2d2_core.specs.History.{History, Then, limits_of, is_closed}
use Rattle.r2d2_core.specs.Deeds.{idle_of, connections_of}
use Rattle.r2d2_core.proofs.Histories.Kept.{gone_count}
use Rattle.r2d2_core.specs.Pending.{on_order_of}
use Rattle.r2d2_core.specs.Answers.{orders_of, orders_by, picture_of}
use Rattle.r2d2_core.proofs.Histories.Kept.{IsKept, Follows}
use Rattle.r2d2_core.proofs.Histories.Counts.{come_in, gone_in, step_deeds, none_admitted, none_gone, connections_of-same}
use Rattle.r2d2_core.proofs.Histories.Deeds.{idle_of-none, lent_of-none}
use Rattle.r2d2_core.proofs.Histories.GoingOnes.{apart_in}
use Rattle.r2d2_core.proofs.Histories.Comings.{idle_of-found, lent_of-found}
use Rattle.r2d2_core.proofs.Histories.Orders.{IsOrdering, orders_if_closed, orders_of-top_up, picture_of-ordered, kept_ordered}
use Rattle.r2d2_core.proofs.Histories.Following.{follows_accepted}
use Rattle.pool_machine.proofs.Facts.Sounds.{sound_take}

module _ {T : Type 0} where
  -- none come by a take, and none go
  none_come : (h : History T) (now : Duration) (or_order : Bool) (m : Option (SeenIdleConnection T)) (n : ℕ)
      → come_in (step_deeds h (step.Take now or_order) (Taken (take_with m n))) ≡ 0
  none_come h now or_order None n = refl
  none_come h now or_order (Some c) n = refl

  none_go : (h : History T) (now : Duration) (or_order : Bool) (m : Option (SeenIdleConnection T)) (n : ℕ)
      → gone_in (step_deeds h (step.Take now or_order) (Taken (take_with m n))) ≡ 0
  none_go h now or_order None n = refl
  none_go h now or_order (Some c) n = refl

  connections_of-take : (h : History T) (now : Duration) (or_order : Bool) (m : Option (SeenIdleConnection T)) (n : ℕ)
      → connections_of (Then h (step.Take now or_order) (Taken (take_with m n))) ≡ connections_of h
  connections_of-take h now or_order m n = connections_of-same h (step.Take now or_order) (Taken (take_with m n)) (none_come h now or_order m n)
      (none_go h now or_order m n)

  -- what a take orders
  orders_of-take : (h : History T) (now : Duration) (or_order : Bool) (m : Option (SeenIdleConnection T)) → next_to_lend (limits_of h).order (idle_of h) ≡ m
      → IsSound (picture_of h)
      → orders_of h (step.Take now or_order) ≡ take_orders m or_order (picture_of h)
  unfolding orders_of picture_of on_order_of
  orders_of-take h now or_order None e sound =
      let s = step.Take now or_order in
      ap (λ m. cond (is_closed h) 0 (orders_by h (Then h s (Taken (take_with m 0))) s (Taken (take_with m 0)))) e
  orders_of-take h now or_order (Some c) e sound =
      let s = step.Take now or_order in
      orders_of-top_up h s (length (still_idle (limits_of h).order (idle_of h))) (connections_of h)
      refl (rw e refl)
      (rw e (ap length (idle_of-found h s (Taken (Found c.id c.birth c.value 0)) _ (limits_of h).order c refl (λ i. refl) e (apart_in h sound))))
      (connections_of-take h now or_order (next_to_lend (limits_of h).order (idle_of h)) 0)

  ordering_take : (h : History T) (now : Duration) (or_order : Bool) (m : Option (SeenIdleConnection T)) (n : ℕ)
      → IsOrdering h (step.Take now or_order) (Taken (take_with m n))
  ordering_take h now or_order m n = record {
    closed = refl;
    scheduled = refl;
    begun = λ k. refl;
    ended = λ k. refl;
    ids = refl;
    admitted = λ i. refl;
    count = none_admitted h (step.Take now or_order) (Taken (take_with m n)) (none_come h now or_order m n);
    reaps = refl;
  }

  -- the picture after a take
  picture_of-take : (h : History T) (now : Duration) (or_order : Bool) (m : Option (SeenIdleConnection T)) (n : ℕ)
      → next_to_lend (limits_of h).order (idle_of h) ≡ m → IsKept h
      → n ≡ take_orders m or_order (picture_of h) → (is_closed h ≡ true → n ≡ 0)
      → picture_of (Then h (step.Take now or_order) (Taken (take_with m n))) ≡ taken m or_order (raised_to (as_nanos now) (picture_of h))
  unfolding picture_of on_order_of
  picture_of-take h now or_order None n e kept orders none =
      let s = step.Take now or_order in
      let p = raised_to (as_nanos now) (picture_of h) in
      picture_of-ordered h s (Taken (Empty n)) p n (ordering_take h now or_order None n) kept refl none
      refl (idle_of-none h s (Taken (Empty n)) refl (λ i. refl)) (lent_of-none h s (Taken (Empty n)) refl (λ i. refl)) refl
      (connections_of-take h now or_order None n) refl
      ∙ ap (λ k. ordered k p) orders
  picture_of-take h now or_order (Some c) n e kept orders none =
      let s = step.Take now or_order in
      let p = lent_out c (raised_to (as_nanos now) (picture_of h)) in
      picture_of-ordered h s (Taken (Found c.id c.birth c.value n)) p n (ordering_take h now or_order (Some c) n) kept refl none
      refl (idle_of-found h s (Taken (Found c.id c.birth c.value n)) _ (limits_of h).order c refl (λ i. refl) e (apart_in h kept.sound))
      (lent_of-found h s (Taken (Found c.id c.birth c.value n)) _ (limits_of h).order c refl (λ i. refl) e (apart_in h kept.sound)) refl
      (connections_of-take h now or_order (Some c) n) refl
      ∙ ap (λ k. ordered k p) orders

  gone_of-take : (h : History T) (now : Duration) (or_order : Bool) (m : Option (SeenIdleConnection T)) (n : ℕ)
      → gone_count (Then h (step.Take now or_order) (Taken (take_with m n))) ≡ gone_count h
  gone_of-take h now or_order m n = none_gone h (step.Take now or_order) (Taken (take_with m n)) (none_go h now or_order m n)

  pub follows_take : (h : History T) (now : Duration) (or_order : Bool) → IsKept h
      → Follows h (step.Take now or_order) (Taken (take_answer or_order (picture_of h))) (after_take (as_nanos now) or_order (picture_of h))
  unfolding picture_of on_order_of
  follows_take h now or_order kept =
      let s = step.Take now or_order in
      let m = next_to_lend (limits_of h).order (idle_of h) in
      let n = orders_of h s in
      let orders : n ≡ take_orders m or_order (picture_of h) = orders_of-take h now or_order m refl kept.sound in
      let picture : picture_of (Then h s (Taken (take_with m n))) ≡ after_take (as_nanos now) or_order
      (picture_of h) = picture_of-take h now or_order m n refl kept orders (orders_if_closed h s) in
      follows_accepted h s (Taken (take_answer or_order (picture_of h))) (after_take (as_nanos now) or_order (picture_of h)) refl
      (ap (λ k. Taken (take_with m k)) (sym orders))
      (sym picture)
      (kept_ordered h s (Taken (take_with m n)) (ordering_take h now or_order m n) kept (subst IsSound (sym picture)
      (sound_take (as_nanos now) or_order kept.sound)) (omega (arith, kept.gone_were_admitted, gone_of-take h now or_order m n)))
