-- Lent connections: whether an id is lent, when it was admitted, and what stays idle and lent once it comes back or goes.
use Rattle.std.proofs.Common.{◌≡◌, ℕ, ◌+◌, ◌≤◌, Bool, true, false, cond, ◌||◌, not, ◌==◌, List, [], ◌∷◌, ◌++◌, map, length, Option, Some, None, is_some, refl}
use Rattle.std.proofs.Common.{◌∙◌, ap, arith}
use Rattle.std.specs.Prelude.{filter, unwrap_or, option_map}
use Rattle.std.specs.List.{list_any, cons_option, AllByRecursion}
use Rattle.std.specs.Option.{MatchOption}
use Rattle.std.proofs.lemmas.List.{append-nil}
use Rattle.std.proofs.lemmas.Bool.{eqb-true}
use Rattle.pool_machine.specs.declared.step.Step.{Step}
use Rattle.pool_machine.specs.declared.machine.answers.Refusal.TheVariants as refusal
use Rattle.pool_machine.specs.Refusals.{refused_if}
use Rattle.pool_machine.specs.Ids.{latest, found, without, copies_of}
use Rattle.pool_machine.specs.Connections.{SeenLentConnection, idle_connection, id_of_idle, id_of_lent, birth_in}
use Rattle.pool_machine.specs.Seen.{SeenAnswer}
use Rattle.pool_machine.specs.Picture.{IsSound}
use Rattle.pool_machine.specs.Table.{lent_refusal, lent_birth}
use Rattle.r2d2_core.specs.History.{History, Then, moment_of}
use Rattle.r2d2_core.specs.Deeds.{Deed, Admitted, Taken, Kept, Gone, deeds_of, deeds_in, id_of_deed, birth_of, admits, as_lent, idle_of}
use Rattle.r2d2_core.specs.Deeds.{lent_of, connections_of, admitted_count}
use Rattle.r2d2_core.proofs.Histories.Kept.{gone_count}
use Rattle.r2d2_core.specs.Answers.{is_lent, picture_of}
use Rattle.r2d2_core.proofs.Histories.Births.{shown_all}
use Rattle.r2d2_core.proofs.Histories.Deeds.{AreApart, idle_of-then, lent_of-then}
use Rattle.pool_machine.proofs.Facts.Latest.{is_other, one_other}
use Rattle.pool_machine.proofs.Lists.Filters.{filter-absent, filter-once}

-- AMONG LENT ONES

birth_step : (b c : Bool) (x : SeenLentConnection) (o : Option SeenLentConnection) → is_some (option_map (λ (c : SeenLentConnection). c.birth) o) ≡ c
    → is_some (option_map (λ (c : SeenLentConnection). c.birth) (cond b (Some x) o)) ≡ (b || c)
birth_step true c x o e = refl
birth_step false c x o e = e

-- an id has a birth where it is found
pub is_some-birth_in : (i : ℕ) (lent : List SeenLentConnection) → is_some (birth_in i lent) ≡ list_any (λ c. c.id == i) lent
is_some-birth_in i [] = refl
is_some-birth_in i (x ∷ xs) = birth_step (x.id == i) (list_any (λ c. c.id == i) xs) x (found id_of_lent i xs) (is_some-birth_in i xs)

born_step : (birth_at : ℕ → ℕ) (i : ℕ) (b rest : Bool) (x : SeenLentConnection) (o : Option SeenLentConnection) → (x.id == i) ≡ b → x.birth ≡ birth_at x.id
    → (rest ≡ true → unwrap_or (option_map (λ (c : SeenLentConnection). c.birth) o) 0 ≡ birth_at i)
    → (b || rest) ≡ true → unwrap_or (option_map (λ (c : SeenLentConnection). c.birth) (cond b (Some x) o)) 0 ≡ birth_at i
born_step birth_at i true rest x o is born ih e = born ∙ ap birth_at (eqb-true x.id i is)
born_step birth_at i false rest x o is born ih e = ih e

-- where each birth is that of the id, so is the one that is found
born_as : (birth_at : ℕ → ℕ) (i : ℕ) (lent : List SeenLentConnection) → AllByRecursion (λ c. c.birth ≡ birth_at c.id) lent
    → list_any (λ c. c.id == i) lent ≡ true → unwrap_or (birth_in i lent) 0 ≡ birth_at i
born_as birth_at i [] all e = absurd cc
born_as birth_at i (x ∷ xs) all e = born_step birth_at i (x.id == i) (list_any (λ c. c.id == i) xs) x (found id_of_lent i xs) refl all.0
    (born_as birth_at i xs all.1) e

stands_step : (b rest : Bool) (n : ℕ) → (rest ≡ true → 1 ≤ n) → (b || rest) ≡ true → 1 ≤ cond b 1 0 + n
stands_step true rest n ih e = omega arith
stands_step false rest n ih e = omega (arith, ih e)

-- an id that is found stands there
pub copies_of-found : {X : Type 0} (id_of : X → ℕ) (i : ℕ) (xs : List X) → list_any (λ x. id_of x == i) xs ≡ true → 1 ≤ copies_of i (map id_of xs)
copies_of-found id_of i [] e = absurd cc
copies_of-found id_of i (x ∷ xs) e = stands_step (id_of x == i) (list_any (λ y. id_of y == i) xs) (copies_of i (map id_of xs)) (copies_of-found id_of i xs) e

-- where one is found, there is one
pub some-found : {X : Type 0} (p : X → Bool) (xs : List X) → list_any p xs ≡ true → 1 ≤ length xs
some-found p [] e = absurd cc
some-found p (x ∷ xs) e = omega arith

birth_shown : {T : Type 0} (birth : ℕ → ℕ) (d : Deed T) → MatchOption (as_lent birth d) (Unit {0}) (λ c. c.birth ≡ birth c.id)
birth_shown birth (Admitted id at v) = tt
birth_shown birth (Kept id at v) = tt
birth_shown birth (Taken id at) = refl
birth_shown birth (Gone id at) = tt

module _ {T : Type 0} where
  -- OF A HISTORY

  -- a lent one was born when its id was admitted
  births_of_lent : (h : History T) → AllByRecursion (λ c. c.birth ≡ birth_of h c.id) (lent_of h)
  unfolding lent_of
  births_of_lent h = shown_all (λ c. c.birth ≡ birth_of h c.id) (as_lent (birth_of h)) (birth_shown (birth_of h)) (latest id_of_deed (deeds_of h))

  pub birth_of-lent : (h : History T) (id : ℕ) → is_lent h id ≡ true → unwrap_or (birth_in id (lent_of h)) 0 ≡ birth_of h id
  birth_of-lent h id lent = born_as (birth_of h) id (lent_of h) (births_of_lent h) lent

  pub lent_birth-is : (h : History T) (id : ℕ) → is_lent h id ≡ true → lent_birth id (picture_of h) ≡ birth_of h id
  unfolding picture_of
  lent_birth-is h id lent = birth_of-lent h id lent

  -- the refusal of the table is that of the history
  pub lent_refusal-is : (h : History T) (id : ℕ) → lent_refusal id (picture_of h) ≡ refused_if (not (is_lent h id)) refusal.NotLent None
  unfolding picture_of
  lent_refusal-is h id = ap (λ b. refused_if (not b) refusal.NotLent None) (is_some-birth_in id (lent_of h))

  -- a lent id is not among the idle ones
  lent_not_idle : (h : History T) (id : ℕ) → is_lent h id ≡ true → AreApart h → copies_of id (map id_of_idle (idle_of h)) ≡ 0
  lent_not_idle h id lent apart = omega (arith, apart id, copies_of-found id_of_lent id (lent_of h) lent)

  -- a step that takes a lent one back, whether it keeps it or not
  pub lent_of-back : (h : History T) (s : Step T) (r : SeenAnswer T) (d : Deed T) → deeds_in (moment_of h s) s r ≡ d ∷ []
      → ((i : ℕ) → admits s i ≡ false)
      → ((birth : ℕ → ℕ) → as_lent birth d ≡ None) → AreApart h → lent_of (Then h s r) ≡ without id_of_lent (id_of_deed d) (lent_of h)
  lent_of-back h s r d e none not_taken apart =
      lent_of-then h s r (d ∷ []) e (λ i other. none i)
      ∙ (ap (λ o. filter (λ c. is_other id_of_deed (d ∷ []) c.id) (lent_of h) ++ cons_option o []) (not_taken (birth_of (Then h s r)))
      ∙ (append-nil _
      ∙ (one_other id_of_deed d id_of_lent (lent_of h)
      ∙ filter-once id_of_lent (id_of_deed d) (lent_of h) (omega (arith, apart (id_of_deed d))))))

  -- what is idle stays where it is gone
  pub idle_of-lost : (h : History T) (s : Step T) (r : SeenAnswer T) (id t : ℕ) → deeds_in (moment_of h s) s r ≡ Gone id t ∷ []
      → ((i : ℕ) → admits s i ≡ false)
      → is_lent h id ≡ true → AreApart h → idle_of (Then h s r) ≡ idle_of h
  idle_of-lost h s r id t e none lent apart =
      let d : Deed T = Gone id t in
      idle_of-then h s r (d ∷ []) e (λ i other. none i)
      ∙ (append-nil _
      ∙ (one_other id_of_deed d id_of_idle (idle_of h)
      ∙ filter-absent id_of_idle id (idle_of h) (lent_not_idle h id lent apart)))

  -- where it is kept, it is the last
  pub idle_of-kept : (h : History T) (s : Step T) (r : SeenAnswer T) (id t : ℕ) (value : T) → deeds_in (moment_of h s) s r ≡ Kept id t value ∷ []
      → ((i : ℕ) → admits s i ≡ false)
      → is_lent h id ≡ true → AreApart h → idle_of (Then h s r) ≡ idle_of h ++ idle_connection id (birth_of h id) t value ∷ []
  idle_of-kept h s r id t value e none lent apart =
      let d : Deed T = Kept id t value in
      idle_of-then h s r (d ∷ []) e (λ i other. none i)
      ∙ (ap (λ l. l ++ idle_connection id (birth_of (Then h s r) id) t value ∷ []) (one_other id_of_deed d id_of_idle (idle_of h)
      ∙ filter-absent id_of_idle id (idle_of h) (lent_not_idle h id lent apart))
      ∙ ap (λ b. idle_of h ++ idle_connection id (cond b (moment_of h s) (birth_of h id)) t value ∷ []) (none id))

  -- a lent one was admitted and is not gone
  pub lent_is_connected : (h : History T) (id : ℕ) → is_lent h id ≡ true → IsSound (picture_of h) → gone_count h + 1 ≤ admitted_count h
  unfolding picture_of connections_of
  lent_is_connected h id lent sound = omega (arith, sound.steady.counted, some-found (λ c. c.id == id) (lent_of h) lent)
