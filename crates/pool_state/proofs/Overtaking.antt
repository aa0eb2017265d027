-- Who overtakes a caller in line: what follows from the order of service.
pub mod Rows
pub mod Told
use Rattle.std.proofs.Common.{◌≡◌, ℕ, ◌+◌, ◌<◌, ◌≤◌, ◌-◌, Bool, true, false, cond, List, [], ◌∷◌, Option, Some, None, refl, ap, subst, arith}
use Rattle.std.specs.Prelude.{◌==◌, ◌&&◌, nat_lt, max, IsTrue}
use Rattle.std.specs.List.{AllByRecursion}
use Rattle.std.proofs.lemmas.Bool.Decides.{nat_tests}
use Rattle.pool_state.specs.declared.line.place.Standing.{Standing}
use Rattle.pool_state.specs.declared.line.place.Standing.TheVariants.{Aside}
use Rattle.pool_state.specs.Waiting.{copies_of}
use Rattle.pool_state.specs.Service.{Event, Came, WasTold, WaitsOn, Took, Passed, Left, TookAtOnce, standing_in, came_in, Waits, AreFewer, IsInTurn, IsInOrder}
use Rattle.pool_state.specs.Overtaking.{waits, overtakes, overtakings, idle_at, most_idle, spare_left, spare_since, LeavesEnough, EachLeavesEnough, KeepsTurns}

waits-so : (o : Option Standing) → IsTrue (waits o) → Waits o
waits-so None w = absurd cc
waits-so (Some standing) w = w

pub both : (a b : Bool) → IsTrue (a && b) → IsTrue a × IsTrue b
both true true w = (refl, refl)
both true false w = absurd cc
both false b w = absurd cc

-- COUNTING
pub no_copies : (P : ℕ → Type 0) (s : ℕ) (xs : List ℕ) → (P s → ⊥) → AllByRecursion P xs → copies_of s xs ≡ 0
no_copies P s [] never h = refl
no_copies P s (x ∷ xs) never h =
    elim (x == s) as (λ b. (x == s) ≡ b → cond b 1 0 + copies_of s xs ≡ 0) [
      | true ↦ λ w. let same : x ≡ s = grind (arith, nat_tests) in absurd (never (subst P same h.0))
      | false ↦ λ w. omega (arith, no_copies P s xs never h.1)
    ] refl

pub all_mapped : (P Q : ℕ → Type 0) (xs : List ℕ) → ((t : ℕ) → P t → Q t) → AllByRecursion P xs → AllByRecursion Q xs
all_mapped P Q [] f h = h
all_mapped P Q (x ∷ xs) f h = (f x h.0, all_mapped P Q xs f h.1)

-- one more that is not yet counted
still_apart : (s t : ℕ) (xs : List ℕ) → copies_of s xs ≡ 0 → copies_of t xs ≤ 1 → copies_of t (s ∷ xs) ≤ 1
still_apart s t xs none le =
    elim (s == t) as (λ b. (s == t) ≡ b → cond b 1 0 + copies_of t xs ≤ 1) [
      | true ↦ λ w. let same : s ≡ t = grind (arith, nat_tests) in omega (arith, ap (λ x. copies_of x xs) same, none)
      | false ↦ λ w. omega (arith, le)
    ] refl

one_fewer : (n s : ℕ) (P Q : ℕ → Type 0) → AreFewer n P → P s → (Q s → ⊥) → ((t : ℕ) → Q t → P t) → AreFewer (n - 1) Q
one_fewer n s P Q few here apart_from inside xs apart all =
    let none = no_copies Q s xs apart_from all in
    let longer = few (s ∷ xs) (λ t. still_apart s t xs none (apart t)) (here, all_mapped Q P xs inside all) in
    omega (arith, longer)

-- ENOUGH IS LEFT
took_leaves : (h : List Event) (slot idle : ℕ) → IsInTurn h slot idle → LeavesEnough h (Took slot idle)
took_leaves h slot idle turn s w =
    let P : ℕ → Type 0 = λ t. Waits (standing_in h t) × (came_in h t < came_in h slot) in
    let Q : ℕ → Type 0 = λ t. Waits (cond (slot == t) (Some Aside) (standing_in h t)) × (came_in h t < came_in h s) in
    let parts = both (waits (standing_in h s)) (nat_lt (came_in h s) (came_in h slot)) w in
    let later : came_in h s < came_in h slot = grind (arith, nat_tests, parts.1) in
    let waited : (t : ℕ) (b : Bool) → Waits (cond b (Some Aside) (standing_in h t)) → Waits (standing_in h t) = λ t b.
    elim b as (λ b. Waits (cond b (Some Aside) (standing_in h t)) → Waits (standing_in h t)) [
      | true ↦ λ v. absurd cc
      | false ↦ λ v. v
    ] in
    one_fewer idle s P Q turn (waits-so (standing_in h s) parts.0, later) (λ q. omega (arith, q.1)) (λ t q. (waited t (slot == t) q.0, omega (arith, q.1, later)))

at_once_leaves : (h : List Event) (idle : ℕ) → AreFewer idle (λ t. Waits (standing_in h t)) → LeavesEnough h (TookAtOnce idle)
at_once_leaves h idle few s w =
    let P : ℕ → Type 0 = λ t. Waits (standing_in h t) in
    let Q : ℕ → Type 0 = λ t. Waits (standing_in h t) × (came_in h t < came_in h s) in
    one_fewer idle s P Q few (waits-so (standing_in h s) w) (λ q. omega (arith, q.1)) (λ t q. q.0)

each_leaves : (h : List Event) → IsInOrder h → EachLeavesEnough h
each_leaves [] order = tt
each_leaves (Came slot ∷ h) order = (λ s w. absurd cc, each_leaves h order)
each_leaves (WasTold slot ∷ h) order = (λ s w. absurd cc, each_leaves h order.1)
each_leaves (WaitsOn slot ∷ h) order = (λ s w. absurd cc, each_leaves h order)
each_leaves (Took slot idle ∷ h) order = (took_leaves h slot idle order.0, each_leaves h order.2)
each_leaves (Passed slot ∷ h) order = (λ s w. absurd cc, each_leaves h order.1)
each_leaves (Left slot ∷ h) order = (λ s w. absurd cc, each_leaves h order)
each_leaves (TookAtOnce idle ∷ h) order = (at_once_leaves h idle order.0, each_leaves h order.1)

-- two are idle at least where one is overtaken
pub two_idle : (h : List Event) (e : Event) (s : ℕ) → LeavesEnough h e → IsTrue (overtakes h e s) → 2 ≤ idle_at e
two_idle h e s enough w =
    let some : 0 < idle_at e - 1 = enough s w [] (λ t. omega arith) tt in
    omega (arith, some)

-- HOW OFTEN
-- a take with so many idle, that overtakes or does not, takes one of those that are spare
one_spare : (b : Bool) (n idle left since : ℕ) → (IsTrue b → 2 ≤ idle) → n + left ≤ since → cond b 1 0 + n + (idle - 2) ≤ (idle - 1 - left) + since
one_spare true n idle left since two le = omega (arith, two refl, le)
one_spare false n idle left since two le = omega (arith, le)

spare : (h : List Event) (s : ℕ) → EachLeavesEnough h → overtakings h s + spare_left h s ≤ spare_since h s
spare [] s each = omega arith
spare (Came slot ∷ h) s each =
    elim (slot == s) as (λ b. cond b 0 (overtakings h s) + cond b 0 (spare_left h s) ≤ cond b 0 (spare_since h s)) [
      | true ↦ omega arith
      | false ↦ spare h s each.1
    ]
spare (WasTold slot ∷ h) s each = omega (arith, spare h s each.1)
spare (WaitsOn slot ∷ h) s each = omega (arith, spare h s each.1)
spare (Took slot idle ∷ h) s each =
    one_spare (overtakes h (Took slot idle) s) (overtakings h s) idle (spare_left h s) (spare_since h s) (two_idle h (Took slot idle) s each.0) (spare h s each.1)
spare (Passed slot ∷ h) s each = omega (arith, spare h s each.1)
spare (Left slot ∷ h) s each = omega (arith, spare h s each.1)
spare (TookAtOnce idle ∷ h) s each =
    one_spare (overtakes h (TookAtOnce idle) s) (overtakings h s) idle (spare_left h s) (spare_since h s) (two_idle h (TookAtOnce idle) s each.0) (spare h s each.1)

-- where one is idle, a take overtakes nobody
nobody : (b : Bool) (n idle most : ℕ) → (IsTrue b → 2 ≤ idle) → (most ≤ 1 → n ≡ 0) → max idle most ≤ 1 → cond b 1 0 + n ≡ 0
nobody true n idle most two none le = absurd (omega (arith, two refl, le))
nobody false n idle most two none le = omega (arith, none (omega (arith, le)))

by_nobody : (h : List Event) (s : ℕ) → EachLeavesEnough h → most_idle h s ≤ 1 → overtakings h s ≡ 0
by_nobody [] s each le = refl
by_nobody (Came slot ∷ h) s each le =
    elim (slot == s) as (λ b. cond b 0 (most_idle h s) ≤ 1 → cond b 0 (overtakings h s) ≡ 0) [
      | true ↦ λ v. refl
      | false ↦ λ v. by_nobody h s each.1 v
    ] le
by_nobody (WasTold slot ∷ h) s each le = omega (arith, by_nobody h s each.1 (omega (arith, le)))
by_nobody (WaitsOn slot ∷ h) s each le = omega (arith, by_nobody h s each.1 (omega (arith, le)))
by_nobody (Took slot idle ∷ h) s each le =
    nobody (overtakes h (Took slot idle) s) (overtakings h s) idle (most_idle h s) (two_idle h (Took slot idle) s each.0) (by_nobody h s each.1) le
by_nobody (Passed slot ∷ h) s each le = omega (arith, by_nobody h s each.1 (omega (arith, le)))
by_nobody (Left slot ∷ h) s each le = omega (arith, by_nobody h s each.1 (omega (arith, le)))
by_nobody (TookAtOnce idle ∷ h) s each le =
    nobody (overtakes h (TookAtOnce idle) s) (overtakings h s) idle (most_idle h s) (two_idle h (TookAtOnce idle) s each.0) (by_nobody h s each.1) le

-- THE THEOREM
pub keeps_turns : (h : List Event) → IsInOrder h → KeepsTurns h
keeps_turns h order =
    let each = each_leaves h order in
    record {
      leaves_enough = each;
      at_most_by_spare = λ s. omega (arith, spare h s each);
      by_nobody = λ s le. by_nobody h s each le;
    }
