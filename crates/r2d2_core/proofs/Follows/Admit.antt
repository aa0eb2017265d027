-- An admission follows the history.
use Rattle.std.proofs.Common.{◌≡◌, ℕ, ◌+◌, ◌-◌, ◌≤◌, max, Bool, true, false, cond, ◌||◌, not, ◌==◌, List, [], ◌∷◌, map, length, Option, Some, None, refl, sym}
use Rattle.std.proofs.Common.{◌∙◌, ap, subst, arith, Ok}
use Rattle.std.specs.Prelude.{filter, is_some}
use Rattle.std.specs.List.{list_any}
use Rattle.std.specs.Duration.{as_nanos}
use Rattle.std.specs.declared.time.Duration.{Duration}
use Rattle.std.proofs.lemmas.List.{map-id}
use Rattle.std.proofs.lemmas.Bool.{eq-eqb, ne_eqb}
use Rattle.pool_machine.specs.declared.step.Step.TheVariants as step
use Rattle.pool_machine.specs.declared.machine.answers.Refusal.{Refusal}
use Rattle.pool_machine.specs.declared.machine.answers.Refusal.TheVariants as refusal
use Rattle.pool_machine.specs.Ids.{found, without, same_id, copies_of}
use Rattle.pool_machine.specs.Connections.{id_of_idle, id_of_lent}
use Rattle.pool_machine.specs.Refusals.{refused_if, ok_or_back, unless_refused}
use Rattle.pool_machine.specs.Seen.{Admitted}
use Rattle.pool_machine.specs.OnOrder.{admit_refusal}
use Rattle.pool_machine.specs.Picture.{IsSound}
use Rattle.pool_machine.specs.Table.{admitted_at, admit_answer, after_admit}
use Rattle.r2d2_core.specs.History.{History, Then, now_of, is_closed}
use Rattle.r2d2_core.specs.Deeds.{idle_of, lent_of, connections_of, admitted_count}
use Rattle.r2d2_core.proofs.Histories.Kept.{gone_count}
use Rattle.r2d2_core.specs.Pending.{ordered_of, pending_of, ids_of, is_admitted, numbered_of, next_id_of, next_reap_of, on_order_of}
use Rattle.r2d2_core.specs.Answers.{refusal_of, picture_of}
use Rattle.r2d2_core.proofs.Histories.Kept.{IsKept, Follows}
use Rattle.r2d2_core.proofs.Histories.Counts.{more_admitted, none_gone}
use Rattle.pool_machine.proofs.Lists.Ids.{copies_of-append3, copies_of-without}
use Rattle.pool_machine.proofs.Lists.Filters.{filter-once, filter-both}
use Rattle.r2d2_core.proofs.Histories.Comings.{idle_of-admitted, lent_of-admitted}
use Rattle.pool_machine.proofs.Facts.Accounted.{found_numbered}
use Rattle.r2d2_core.proofs.Histories.Orders.{same_on_order, picture_of-is, in_work_of-same}
use Rattle.r2d2_core.proofs.Histories.Following.{follows_accepted, follows_refused}
use Rattle.pool_machine.proofs.Facts.Sounds.{sound_admit}

some_step : {X : Type 0} (b rest : Bool) (x : X) (o : Option X) → is_some o ≡ rest → is_some (cond b (Some x) o) ≡ (b || rest)
some_step true rest x o e = refl
some_step false rest x o e = e

-- an id is found where one of the list has it
pub is_some-found : {X : Type 0} (id_of : X → ℕ) (i : ℕ) (xs : List X) → is_some (found id_of i xs) ≡ list_any (λ x. id_of x == i) xs
is_some-found id_of i [] = refl
is_some-found id_of i (x ∷ xs) = some_step (id_of x == i) (list_any (λ x. id_of x == i) xs) x (found id_of i xs) (is_some-found id_of i xs)

-- a number that is found stands there
copies_of-found : (id : ℕ) (xs : List ℕ) → found same_id id xs ≡ Some id → 1 ≤ copies_of id xs
copies_of-found id xs e =
    let self : copies_of id (id ∷ []) ≡ 1 = ap (λ b. cond b 1 0 + 0) (eq-eqb id id refl) in
    omega (arith, copies_of-without same_id id id xs id e, ap (copies_of id) (map-id xs), self)

copies_of-length : (i : ℕ) (xs : List ℕ) → copies_of i xs ≤ length xs
copies_of-length i [] = omega arith
copies_of-length i (x ∷ xs) = by (x == i) (copies_of-length i xs) where
  by : (b : Bool) → copies_of i xs ≤ length xs → cond b 1 0 + copies_of i xs ≤ length (x ∷ xs)
  by true le = omega arith
  by false le = omega arith

pending_less : (closed : Bool) (ordered admitted : ℕ) → cond closed 0 (ordered + 0 - (admitted + 1)) ≡ cond closed 0 (ordered - admitted) - 1
pending_less true ordered admitted = omega arith
pending_less false ordered admitted = omega arith

admitted_fewer : (closed : Bool) (ordered admitted : ℕ) → closed ≡ false → 1 ≤ cond closed 0 (ordered - admitted) → admitted + 1 ≤ ordered
admitted_fewer true ordered admitted e some = absurd cc
admitted_fewer false ordered admitted e some = omega arith

module _ {T : Type 0} where
  refusal_of-admit : (h : History T) (now : Duration) (id : ℕ) (value : T) → refusal_of h (step.Admit now id value) ≡ admit_refusal id (on_order_of h)
  unfolding on_order_of
  refusal_of-admit h now id value = ap (λ b. refused_if (is_closed h) refusal.Closed (refused_if (not b) refusal.NotNumbered None))
      (sym (is_some-found same_id id (numbered_of h)))

  -- a number that is found stands once, and is neither idle nor lent
  copies_in : (h : History T) (i : ℕ) → IsSound (picture_of h) → copies_of i (map id_of_idle (idle_of h)) +
      (copies_of i (map id_of_lent (lent_of h)) + copies_of i (numbered_of h)) ≤ 1
  unfolding picture_of on_order_of
  copies_in h i sound = omega (arith, sound.steady.apart i, copies_of-append3 i (map id_of_idle (idle_of h)) (map id_of_lent (lent_of h)) (numbered_of h))

  none_past : (h : History T) (i : ℕ) → IsSound (picture_of h) → next_id_of h ≤ i → copies_of i (numbered_of h) ≡ 0
  unfolding picture_of on_order_of
  none_past h i sound past = omega (
    arith,
    sound.steady.below_next i past,
    copies_of-append3 i (map id_of_idle (idle_of h)) (map id_of_lent (lent_of h)) (numbered_of h),
  )

  numbered_of-open : (h : History T) → is_closed h ≡ false → numbered_of h ≡ filter (λ i. not (is_admitted h i)) (ids_of h)
  unfolding numbered_of
  numbered_of-open h is_open = ap (λ b. cond b [] (filter (λ i. not (is_admitted h i)) (ids_of h))) is_open

  numbered_of-admit : (h : History T) (now : Duration) (id : ℕ) (value : T) → is_closed h ≡ false → IsSound (picture_of h)
      → numbered_of (Then h (step.Admit now id value) (Admitted (Ok tt))) ≡ without same_id id (numbered_of h)
  numbered_of-admit h now id value is_open sound =
      numbered_of-open (Then h (step.Admit now id value) (Admitted (Ok tt))) is_open
      ∙ (filter-both (λ i. id == i) (is_admitted h) (ids_of h)
      ∙ (ap (filter (λ i. not (id == i))) (sym (numbered_of-open h is_open))
      ∙ filter-once same_id id (numbered_of h) (omega (arith, copies_in h id sound, ap (copies_of id) (map-id (numbered_of h))))))

  one_admitted : (h : History T) (now : Duration) (id : ℕ) (value : T)
      → admitted_count (Then h (step.Admit now id value) (Admitted (Ok tt))) ≡ admitted_count h + 1
  one_admitted h now id value = more_admitted h (step.Admit now id value) (Admitted (Ok tt)) 1 refl

  no_more_gone : (h : History T) (now : Duration) (id : ℕ) (value : T) → gone_count (Then h (step.Admit now id value) (Admitted (Ok tt))) ≡ gone_count h
  no_more_gone h now id value = none_gone h (step.Admit now id value) (Admitted (Ok tt)) refl

  pending_of-admit : (h : History T) (now : Duration) (id : ℕ) (value : T) → pending_of (Then h (step.Admit now id value) (Admitted (Ok tt))) ≡ pending_of h - 1
  unfolding pending_of
  pending_of-admit h now id value = ap (λ n. cond (is_closed h) 0 (ordered_of h + 0 - n)) (one_admitted h now id value)
      ∙ pending_less (is_closed h) (ordered_of h) (admitted_count h)

  connections_of-admit : (h : History T) (now : Duration) (id : ℕ) (value : T) → gone_count h ≤ admitted_count h
      → connections_of (Then h (step.Admit now id value) (Admitted (Ok tt))) ≡ connections_of h + 1
  unfolding connections_of
  connections_of-admit h now id value le = omega (arith, le, one_admitted h now id value, no_more_gone h now id value)

  picture_of-admit : (h : History T) (now : Duration) (id : ℕ) (value : T) → is_closed h ≡ false → found same_id id (numbered_of h) ≡ Some id → IsKept h
      → picture_of (Then h (step.Admit now id value) (Admitted (Ok tt))) ≡ admitted_at (max (now_of h) (as_nanos now)) id value (picture_of h)
  unfolding picture_of on_order_of next_reap_of next_id_of
  picture_of-admit h now id value is_open e kept =
      let s = step.Admit now id value in
      let r = Admitted (Ok tt) in
      picture_of-is (Then h s r) (admitted_at (max (now_of h) (as_nanos now)) id value (picture_of h)) refl
      (idle_of-admitted h now id value r (omega (arith, copies_in h id kept.sound, copies_of-found id (numbered_of h) e)))
      (lent_of-admitted h now id value r (omega (arith, copies_in h id kept.sound, copies_of-found id (numbered_of h) e)))
      (same_on_order (on_order_of h) refl
      (in_work_of-same h s r refl (λ k. refl) (λ k. refl))
      (numbered_of-admit h now id value is_open kept.sound)
      refl refl
      (pending_of-admit h now id value)
      refl)
      (connections_of-admit h now id value kept.gone_were_admitted) refl

  pending_some : (h : History T) (id : ℕ) → found same_id id (numbered_of h) ≡ Some id → IsSound (picture_of h) → 1 ≤ pending_of h
  unfolding picture_of on_order_of
  pending_some h id e sound = omega (arith, sound.steady.accounted.placed, copies_of-found id (numbered_of h) e, copies_of-length id (numbered_of h))

  kept_admit : (h : History T) (now : Duration) (id : ℕ) (value : T) → is_closed h ≡ false → found same_id id (numbered_of h) ≡ Some id → IsKept h
      → IsSound (picture_of (Then h (step.Admit now id value) (Admitted (Ok tt)))) → IsKept (Then h (step.Admit now id value) (Admitted (Ok tt)))
  unfolding next_id_of pending_of
  kept_admit h now id value is_open e kept sound = record {
    sound = sound;
    gone_were_admitted = omega (arith, kept.gone_were_admitted, one_admitted h now id value, no_more_gone h now id value);
    admitted_were_ordered = λ still. omega (
      arith,
      one_admitted h now id value,
      admitted_fewer (is_closed h) (ordered_of h) (admitted_count h) is_open (pending_some h id e kept.sound),
    );
    ended_were_begun = kept.ended_were_begun;
    few_tries = kept.few_tries;
    none_admitted_ahead = λ i ahead.
        let other : (id == i) ≡ false = ne_eqb id i (λ same. absurd (omega (
          arith,
          copies_of-found id (numbered_of h) e,
          none_past h id kept.sound (omega (arith, ahead, same)),
        ))) in
        ap (λ b. b || is_admitted h i) other ∙ kept.none_admitted_ahead i ahead;
  }

  admit_by : (h : History T) (now : Duration) (id : ℕ) (value : T) (why : Option Refusal) → admit_refusal id (on_order_of h) ≡ why → IsKept h
      → Follows h (step.Admit now id value) (Admitted (ok_or_back why value tt)) (unless_refused why
      (admitted_at (max (now_of h) (as_nanos now)) id value (picture_of h)) (picture_of h))
  unfolding picture_of on_order_of
  admit_by h now id value None e kept =
      let s = step.Admit now id value in
      let t = max (now_of h) (as_nanos now) in
      let there = found_numbered id (on_order_of h) e in
      let picture = picture_of-admit h now id value there.0 there.1 kept in
      let sound : IsSound (admitted_at t id value (picture_of h)) =
      subst (λ why. IsSound (unless_refused why (admitted_at t id value (picture_of h)) (picture_of h))) e (sound_admit (as_nanos now) id value kept.sound) in
      follows_accepted h s (Admitted (Ok tt)) (admitted_at t id value (picture_of h)) (refusal_of-admit h now id value ∙ e) refl (sym picture)
      (kept_admit h now id value there.0 there.1 kept (subst IsSound (sym picture) sound))
  admit_by h now id value (Some why) e kept =
      follows_refused h (step.Admit now id value) _ (picture_of h) why (refusal_of-admit h now id value ∙ e) refl refl kept

  pub follows_admit : (h : History T) (now : Duration) (id : ℕ) (value : T) → IsKept h
      → Follows h (step.Admit now id value) (Admitted (admit_answer id value (picture_of h))) (after_admit (as_nanos now) id value (picture_of h))
  unfolding picture_of on_order_of
  follows_admit h now id value kept = admit_by h now id value (admit_refusal id (on_order_of h)) refl kept
