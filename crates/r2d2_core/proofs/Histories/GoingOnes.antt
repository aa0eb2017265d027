-- Many connections that go in one step: what stays idle, and what stays lent.
use Rattle.std.proofs.Common.{◌≡◌, ℕ, ◌+◌, Bool, false, not, ◌==◌, List, [], ◌∷◌, ◌++◌, map, length, refl, ◌∙◌, ap, arith}
use Rattle.std.specs.Prelude.{filter, filter_map}
use Rattle.std.specs.List.{list_any}
use Rattle.std.proofs.lemmas.List.{append-nil}
use Rattle.std.proofs.lemmas.List.Elements.{filter_agree}
use Rattle.pool_machine.specs.declared.step.Step.{Step}
use Rattle.pool_machine.specs.Connections.{SeenIdleConnection, SeenLentConnection, id_of_idle, id_of_lent, pair_of, released_at}
use Rattle.pool_machine.specs.Ids.{latest}
use Rattle.pool_machine.specs.Seen.{SeenAnswer}
use Rattle.r2d2_core.specs.History.{History, Then, moment_of}
use Rattle.r2d2_core.specs.Deeds.{Deed, Gone, deeds_in, id_of_deed, birth_of, admits, as_idle, as_lent, idle_of, lent_of, connections_of, admitted_count}
use Rattle.r2d2_core.proofs.Histories.Kept.{gone_count}
use Rattle.pool_machine.specs.Picture.{IsSound}
use Rattle.r2d2_core.specs.Pending.{numbered_of, on_order_of}
use Rattle.r2d2_core.specs.Answers.{picture_of}
use Rattle.r2d2_core.proofs.Histories.Kept.{IsKept}
use Rattle.r2d2_core.proofs.Histories.Deeds.{AreApart, idle_of-then, lent_of-then}
use Rattle.pool_machine.proofs.Lists.Filters.{copies_of-filter, filter-outside, filter-apart}
use Rattle.pool_machine.proofs.Lists.Ids.{copies_of-append3}
use Rattle.pool_machine.proofs.Facts.Latest.{is_other, any_id, none_left}

-- DEEDS BY WHICH MANY GO

module _ {T : Type 0} where
  abbrev pub going : {Y : Type 0} → (Y → ℕ) → ℕ → Y → Deed T
  going of t c = Gone (of c) t

  abbrev pub going_deeds : {Y : Type 0} → (Y → ℕ) → ℕ → List Y → List (Deed T)
  going_deeds of t cs = map (going of t) cs

  -- the deeds of those that a reap closed, and of those that a close left
  pub closings_go : (t now : ℕ) (cs : List (SeenIdleConnection T))
      → ◌≡◌ {A = List (Deed T)} (map (λ c. Gone c.id t) (map (released_at now) cs)) (going_deeds id_of_idle t cs)
  unfolding released_at
  closings_go t now [] = refl
  closings_go t now (c ∷ cs) = ap (λ l. Gone c.id t ∷ l) (closings_go t now cs)

  pub pairs_go : (t : ℕ) (cs : List (SeenIdleConnection T))
      → ◌≡◌ {A = List (Deed T)} (map (λ p. Gone p.0 t) (map pair_of cs)) (going_deeds id_of_idle t cs)
  pairs_go t [] = refl
  pairs_go t (c ∷ cs) = ap (λ l. Gone c.id t ∷ l) (pairs_go t cs)

  -- the ids of a sound picture are apart
  pub apart_in : (h : History T) → IsSound (picture_of h) → AreApart h
  unfolding picture_of on_order_of
  apart_in h sound i = omega (arith, sound.steady.apart i, copies_of-append3 i (map id_of_idle (idle_of h)) (map id_of_lent (lent_of h)) (numbered_of h))

  -- of the idle ones, those stay that do not go
  pub idle_of-going : (h : History T) (s : Step T) (r : SeenAnswer T) (t : ℕ) (p : SeenIdleConnection T → Bool)
      → deeds_in (moment_of h s) s r ≡ going_deeds id_of_idle t (filter p (idle_of h)) → ((i : ℕ) → admits s i ≡ false)
      → AreApart h → idle_of (Then h s r) ≡ filter (λ c. not (p c)) (idle_of h)
  idle_of-going h s r t p e none apart =
      let es : List (Deed T) = going_deeds id_of_idle t (filter p (idle_of h)) in
      let stay : List (SeenIdleConnection T) = filter (λ c. is_other id_of_deed es c.id) (idle_of h) in
      let left : filter_map (as_idle (birth_of (Then h s r))) (latest id_of_deed es) ≡ [] = none_left id_of_deed _ (going id_of_idle t)
      (filter p (idle_of h)) (λ c. refl) in
      idle_of-then h s r es e (λ i other. none i)
      ∙ (ap (λ l. stay ++ l) left
      ∙ (append-nil stay
      ∙ (filter_agree (λ c. is_other id_of_deed es c.id) (λ c. not (list_any (λ x. x.id == c.id) (filter p (idle_of h))))
      (λ c. ap not (any_id id_of_deed (going id_of_idle t) c.id (filter p (idle_of h)))) (idle_of h)
      ∙ filter-outside p id_of_idle (idle_of h) (λ i. omega (arith, apart i)))))

  -- and what is lent stays
  pub lent_of-going : (h : History T) (s : Step T) (r : SeenAnswer T) (t : ℕ) (p : SeenIdleConnection T → Bool)
      → deeds_in (moment_of h s) s r ≡ going_deeds id_of_idle t (filter p (idle_of h)) → ((i : ℕ) → admits s i ≡ false)
      → AreApart h → lent_of (Then h s r) ≡ lent_of h
  lent_of-going h s r t p e none apart =
      let cs : List (SeenIdleConnection T) = filter p (idle_of h) in
      let es : List (Deed T) = going_deeds id_of_idle t cs in
      let stay : List SeenLentConnection = filter (λ c. is_other id_of_deed es c.id) (lent_of h) in
      let left : filter_map (as_lent (birth_of (Then h s r))) (latest id_of_deed es) ≡ [] = none_left id_of_deed _ (going id_of_idle t) cs
      (λ c. refl) in
      lent_of-then h s r es e (λ i other. none i)
      ∙ (ap (λ l. stay ++ l) left
      ∙ (append-nil stay
      ∙ (filter_agree (λ c. is_other id_of_deed es c.id) (λ c. not (list_any (λ x. x.id == c.id) cs))
      (λ c. ap not (any_id id_of_deed (going id_of_idle t) c.id cs)) (lent_of h)
      ∙ filter-apart id_of_idle id_of_lent cs (lent_of h) (λ i. omega (arith, apart i, copies_of-filter p id_of_idle i (idle_of h))))))

  -- connections and gone ones are those that were admitted
  pub admitted_are : (h : History T) → IsKept h → gone_count h + (length (idle_of h) + length (lent_of h)) ≡ admitted_count h
  unfolding picture_of connections_of
  admitted_are h kept = omega (arith, kept.gone_were_admitted, kept.sound.steady.counted)
