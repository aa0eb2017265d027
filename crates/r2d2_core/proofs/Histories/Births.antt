-- What is idle was born when its id was admitted.
use Rattle.std.proofs.Common.{◌≡◌, ℕ, List, [], ◌∷◌, Option, Some, None, refl, subst}
use Rattle.std.specs.Prelude.{filter_map}
use Rattle.std.specs.List.{AllByRecursion}
use Rattle.std.specs.Option.{MatchOption}
use Rattle.pool_machine.specs.declared.schedule.limits.LendingOrder.{LendingOrder}
use Rattle.pool_machine.specs.declared.schedule.limits.LendingOrder.TheVariants as lending
use Rattle.pool_machine.specs.Ids.{latest, last_of}
use Rattle.pool_machine.specs.Lending.{next_to_lend}
use Rattle.pool_machine.specs.Connections.{SeenIdleConnection}
use Rattle.r2d2_core.specs.History.{History}
use Rattle.r2d2_core.specs.Deeds.{Deed, Admitted, Taken, Kept, Gone, deeds_of, id_of_deed, birth_of, as_idle, idle_of}

-- what is so of each is so of the last
last_holds : {Y : Type 0} (P : Y → Type 0) (xs : List Y) (c : Y) → AllByRecursion P xs → last_of xs ≡ Some c → P c
last_holds P [] c all e = absurd cc
last_holds P (x ∷ []) c all e = let same : x ≡ c = cc in subst P same all.0
last_holds P (x ∷ y ∷ ys) c all e = last_holds P (y ∷ ys) c all.1 e

-- and of the one that is lent next
next_holds : {Y : Type 0} (P : Y → Type 0) (o : LendingOrder) (xs : List Y) (c : Y) → AllByRecursion P xs → next_to_lend o xs ≡ Some c → P c
next_holds P lending.NewestFirst xs c all e = last_holds P xs c all e
next_holds P lending.OldestFirst [] c all e = absurd cc
next_holds P lending.OldestFirst (x ∷ xs) c all e = let same : x ≡ c = cc in subst P same all.0

shown_step : {X Y : Type 0} (P : Y → Type 0) (f : X → Option Y) (o : Option Y) (x : X) (xs : List X) → f x ≡ o → MatchOption o (Unit {0}) P
    → AllByRecursion P (filter_map f xs) → AllByRecursion P (filter_map f (x ∷ xs))
shown_step P f None x xs e p all = rw e all
shown_step P f (Some y) x xs e p all = rw e (p, all)

-- what is so of each that is shown is so of all of them
pub shown_all : {X Y : Type 0} (P : Y → Type 0) (f : X → Option Y) → ((x : X) → MatchOption (f x) (Unit {0}) P) → (xs : List X)
    → AllByRecursion P (filter_map f xs)
shown_all P f p [] = tt
shown_all P f p (x ∷ xs) = shown_step P f (f x) x xs refl (p x) (shown_all P f p xs)

birth_shown : {T : Type 0} (birth : ℕ → ℕ) (d : Deed T) → MatchOption (as_idle birth d) (Unit {0}) (λ c. c.birth ≡ birth c.id)
birth_shown birth (Admitted id at v) = refl
birth_shown birth (Kept id at v) = refl
birth_shown birth (Taken id at) = tt
birth_shown birth (Gone id at) = tt

pub births_of-idle : {T : Type 0} (h : History T) → AllByRecursion (λ c. c.birth ≡ birth_of h c.id) (idle_of h)
unfolding idle_of
births_of-idle h = shown_all (λ c. c.birth ≡ birth_of h c.id) (as_idle (birth_of h)) (birth_shown (birth_of h)) (latest id_of_deed (deeds_of h))

-- the one that is lent next too
pub birth_of-next : {T : Type 0} (h : History T) (o : LendingOrder) (c : SeenIdleConnection T) → next_to_lend o (idle_of h) ≡ Some c → c.birth ≡ birth_of h c.id
birth_of-next h o c e = next_holds (λ c. c.birth ≡ birth_of h c.id) o (idle_of h) c (births_of-idle h) e
