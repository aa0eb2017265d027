-- One connection that is lent out, and one that comes in.
use Rattle.std.proofs.Common.{◌≡◌, ℕ, ◌+◌, max, Bool, true, false, cond, ◌||◌, not, ◌==◌, [], ◌∷◌, ◌++◌, map, Some, refl, sym, ◌∙◌, ap, arith}
use Rattle.std.specs.Duration.{as_nanos}
use Rattle.std.specs.declared.time.Duration.{Duration}
use Rattle.std.proofs.lemmas.List.{append-nil}
use Rattle.std.proofs.lemmas.Bool.{eq-eqb}
use Rattle.pool_machine.specs.declared.step.Step.{Step}
use Rattle.pool_machine.specs.declared.step.Step.TheVariants as step
use Rattle.pool_machine.specs.Ids.{copies_of}
use Rattle.pool_machine.specs.declared.schedule.limits.LendingOrder.{LendingOrder}
use Rattle.pool_machine.specs.Lending.{next_to_lend, still_idle}
use Rattle.pool_machine.specs.Connections.{SeenIdleConnection, idle_connection, lent_connection, id_of_idle, id_of_lent}
use Rattle.pool_machine.specs.Seen.{SeenAnswer}
use Rattle.r2d2_core.specs.History.{History, Then, now_of, moment_of}
use Rattle.r2d2_core.specs.Deeds.{Deed, Admitted, Taken, deeds_in, id_of_deed, birth_of, admits, idle_of, lent_of}
use Rattle.pool_machine.proofs.Lists.Filters.{filter-absent}
use Rattle.pool_machine.proofs.Lists.Lending.{copies_of-next, filter-next}
use Rattle.pool_machine.proofs.Facts.Latest.{one_other}
use Rattle.r2d2_core.proofs.Histories.Deeds.{AreApart, idle_of-then, lent_of-then}
use Rattle.r2d2_core.proofs.Histories.Births.{birth_of-next}

copies_of-self : (i : ℕ) → copies_of i (i ∷ []) ≡ 1
copies_of-self i = ap (λ b. cond b 1 0 + 0) (eq-eqb i i refl)

other_admits : (id i : ℕ) → not ((id == i) || false) ≡ true → (id == i) ≡ false
other_admits id i e = by (id == i) e where
  by : (b : Bool) → not (b || false) ≡ true → b ≡ false
  by true e = absurd cc
  by false e = refl

module _ {T : Type 0} where
  -- the idle one that is lent next stands once among the idle, and is not lent
  next_once : (h : History T) (o : LendingOrder) (c : SeenIdleConnection T) → next_to_lend o (idle_of h) ≡ Some c → AreApart h
      → copies_of c.id (map id_of_idle (still_idle o (idle_of h))) ≡ 0
  next_once h o c e apart = omega (arith, apart c.id, copies_of-next id_of_idle c.id o (idle_of h) c e, copies_of-self c.id)

  idle_not_lent : (h : History T) (o : LendingOrder) (c : SeenIdleConnection T) → next_to_lend o (idle_of h) ≡ Some c → AreApart h
      → copies_of c.id (map id_of_lent (lent_of h)) ≡ 0
  idle_not_lent h o c e apart = omega (arith, apart c.id, copies_of-next id_of_idle c.id o (idle_of h) c e, copies_of-self c.id)

  -- what is idle after a step that lends the one that is next
  pub idle_of-found : (h : History T) (s : Step T) (r : SeenAnswer T) (t : ℕ) (o : LendingOrder) (c : SeenIdleConnection T)
      → deeds_in (moment_of h s) s r ≡ Taken c.id t ∷ [] → ((i : ℕ) → admits s i ≡ false)
      → next_to_lend o (idle_of h) ≡ Some c → AreApart h → idle_of (Then h s r) ≡ still_idle o (idle_of h)
  idle_of-found h s r t o c es none e apart =
      let d : Deed T = Taken c.id t in
      idle_of-then h s r (d ∷ []) es (λ i other. none i)
      ∙ (append-nil _
      ∙ (one_other id_of_deed d id_of_idle (idle_of h)
      ∙ filter-next id_of_idle o (idle_of h) c e (next_once h o c e apart)))

  -- and what is lent
  pub lent_of-found : (h : History T) (s : Step T) (r : SeenAnswer T) (t : ℕ) (o : LendingOrder) (c : SeenIdleConnection T)
      → deeds_in (moment_of h s) s r ≡ Taken c.id t ∷ [] → ((i : ℕ) → admits s i ≡ false)
      → next_to_lend o (idle_of h) ≡ Some c → AreApart h → lent_of (Then h s r) ≡ lent_of h ++ lent_connection c.id c.birth ∷ []
  lent_of-found h s r t o c es none e apart =
      let d : Deed T = Taken c.id t in
      lent_of-then h s r (d ∷ []) es (λ i other. none i)
      ∙ (ap (λ l. l ++ lent_connection c.id (birth_of (Then h s r) c.id) ∷ []) (one_other id_of_deed d id_of_lent (lent_of h)
      ∙ filter-absent id_of_lent c.id (lent_of h) (idle_not_lent h o c e apart))
      ∙ (ap (λ b. lent_of h ++ lent_connection c.id (cond b (moment_of h s) (birth_of h c.id)) ∷ []) (none c.id)
      ∙ ap (λ b. lent_of h ++ lent_connection c.id b ∷ []) (sym (birth_of-next h o c e))))

  -- what is idle after an admission of an id that is not idle
  pub idle_of-admitted : (h : History T) (now : Duration) (id : ℕ) (value : T) (r : SeenAnswer T) → copies_of id (map id_of_idle (idle_of h)) ≡ 0
      → idle_of (Then h (step.Admit now id value) r) ≡ idle_of h ++ idle_connection id (max (now_of h) (as_nanos now))
      (max (now_of h) (as_nanos now)) value ∷ []
  idle_of-admitted h now id value r none =
      let t = max (now_of h) (as_nanos now) in
      let d : Deed T = Admitted id t value in
      idle_of-then h (step.Admit now id value) r (d ∷ []) refl (other_admits id)
      ∙ (ap (λ l. l ++ idle_connection id (cond (id == id) t (birth_of h id)) t value ∷ [])
      (one_other id_of_deed d id_of_idle (idle_of h) ∙ filter-absent id_of_idle id (idle_of h) none)
      ∙ ap (λ b. idle_of h ++ idle_connection id (cond b t (birth_of h id)) t value ∷ []) (eq-eqb id id refl))

  -- and what is lent, where it is not lent
  pub lent_of-admitted : (h : History T) (now : Duration) (id : ℕ) (value : T) (r : SeenAnswer T) → copies_of id (map id_of_lent (lent_of h)) ≡ 0
      → lent_of (Then h (step.Admit now id value) r) ≡ lent_of h
  lent_of-admitted h now id value r none =
      let d : Deed T = Admitted id (max (now_of h) (as_nanos now)) value in
      lent_of-then h (step.Admit now id value) r (d ∷ []) refl (other_admits id)
      ∙ (append-nil _ ∙ (one_other id_of_deed d id_of_lent (lent_of h) ∙ filter-absent id_of_lent id (lent_of h) none))
