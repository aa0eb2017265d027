-- What each change of the line adds to its history.
pub mod Rows
use Rattle.std.proofs.Common.{◌≡◌, ℕ, ◌+◌, ◌<◌, ◌≤◌, ◌-◌, Bool, true, false, cond, List, [], ◌∷◌, ◌++◌, length, map, Option, Some, None, IsSome, refl, sym, ◌∙◌, ap, subst, arith, append_assoc}
use Rattle.std.specs.Prelude.{◌==◌, IfSome, IfNone}
use Rattle.std.specs.List.{AllByRecursion}
use Rattle.std.proofs.lemmas.Bool.Decides.{nat_tests}
use Rattle.std.proofs.lemmas.Grind.{common_steps}
use Rattle.pool_machine.specs.Picture.{Picture}
use Rattle.pool_state.specs.declared.line.place.Place.{Place}
use Rattle.pool_state.specs.declared.line.place.Standing.{Standing}
use Rattle.pool_state.specs.declared.line.place.Standing.TheVariants.{Quiet, Told, Aside}
use Rattle.pool_state.specs.Waiting.{AreTold, told_ahead, is_kept, place, is_quiet, weight, waiting_in, ahead, weight_at, without, with_standing, first_quiet, told_first, copies_in, copies_of, is_told, is_over, first_late}
use Rattle.std.specs.declared.time.Duration.{Duration}
use Rattle.std.specs.Prelude.{◌&&◌, slice_get}
use Rattle.pool_state.proofs.Overtaking.{no_copies, all_mapped, keeps_turns}
use Rattle.pool_state.specs.Order.{Event, Came, WasTold, WaitsOn, Took, Passed, Left, TookAtOnce, standing_in, came_in, IsUntold, is_waiting, Waits, IsFirstUntold, AreFewer, IsInTurn, IsInOrder, comings, services, IsOneByOne, standing_at, slots_of, waiting_slots, StandAsTheyCame, IsHistoryOf}

-- the slots after each change
pub slots-standing : (s : ℕ) (t : Standing) (ps : List Place) → slots_of (with_standing s t ps) ≡ slots_of ps
slots-standing s t [] = refl
slots-standing s t (p ∷ ps) =
    elim (p.slot == s) as (λ b. slots_of (cond b (place p.slot t ∷ ps) (p ∷ with_standing s t ps)) ≡ slots_of (p ∷ ps)) [
      | true ↦ refl
      | false ↦ ap (λ xs. p.slot ∷ xs) (slots-standing s t ps)
    ]

pub slots-told : (ps : List Place) → slots_of (told_first ps) ≡ slots_of ps
slots-told [] = refl
slots-told (p ∷ ps) =
    elim (is_quiet p.standing) as (λ b. slots_of (cond b (place p.slot Told ∷ ps) (p ∷ told_first ps)) ≡ slots_of (p ∷ ps)) [
      | true ↦ refl
      | false ↦ ap (λ xs. p.slot ∷ xs) (slots-told ps)
    ]

slots-joined : (ps : List Place) (s : ℕ) → slots_of (ps ++ place s Quiet ∷ []) ≡ slots_of ps ++ s ∷ []
slots-joined [] s = refl
slots-joined (p ∷ ps) s = ap (λ xs. p.slot ∷ xs) (slots-joined ps s)

-- all that stand behind one that left
all-without : (P : ℕ → Type 0) (s : ℕ) (ps : List Place) → AllByRecursion P (slots_of ps) → AllByRecursion P (slots_of (without s ps))
all-without P s [] h = h
all-without P s (p ∷ ps) h =
    elim (p.slot == s) as (λ b. AllByRecursion P (slots_of (cond b ps (p ∷ without s ps)))) [
      | true ↦ h.1
      | false ↦ (h.0, all-without P s ps h.1)
    ]

order-without : (came : ℕ → ℕ) (s : ℕ) (ps : List Place) → StandAsTheyCame came (slots_of ps) → StandAsTheyCame came (slots_of (without s ps))
order-without came s [] h = h
order-without came s (p ∷ ps) h =
    elim (p.slot == s) as (λ b. StandAsTheyCame came (slots_of (cond b ps (p ∷ without s ps)))) [
      | true ↦ h.1
      | false ↦ (all-without (λ t. came p.slot < came t) s ps h.0, order-without came s ps h.1)
    ]

-- nobody behind one that came later stands at its slot
pub none_behind : (came : ℕ → ℕ) (n s : ℕ) (ps : List Place) → AllByRecursion (λ t. n < came t) (slots_of ps) → came s ≤ n → standing_at s ps ≡ None
none_behind came n s [] h le = refl
none_behind came n s (p ∷ ps) h le =
    elim (p.slot == s) as (λ b. (p.slot == s) ≡ b → cond b (Some p.standing) (standing_at s ps) ≡ None) [
      | true ↦ λ w. let same : p.slot ≡ s = grind (arith, nat_tests) in absurd (omega (arith, ap came same, h.0, le))
      | false ↦ λ w. none_behind came n s ps h.1 le
    ] refl

-- how the one at each slot stands after each change
stand-joined : (s t : ℕ) (ps : List Place) → standing_at s ps ≡ None → standing_at t (ps ++ place s Quiet ∷ []) ≡ cond (s == t) (Some Quiet) (standing_at t ps)
stand-joined s t [] none = refl
stand-joined s t (p ∷ ps) none = grind (arith, nat_tests, stand-joined s t ps)

stand-marked : (s t : ℕ) (standing : Standing) (ps : List Place) → IsSome (standing_at s ps) → standing_at t (with_standing s standing ps) ≡ cond (s == t) (Some standing) (standing_at t ps)
stand-marked s t standing [] some = absurd cc
stand-marked s t standing (p ∷ ps) some = grind (arith, nat_tests, stand-marked s t standing ps)

stand-left : (came : ℕ → ℕ) (s t : ℕ) (ps : List Place) → StandAsTheyCame came (slots_of ps) → standing_at t (without s ps) ≡ cond (s == t) None (standing_at t ps)
stand-left came s t [] order = grind arith
stand-left came s t (p ∷ ps) order =
    let behind : came s ≤ came p.slot → standing_at s ps ≡ None = none_behind came (came p.slot) s ps order.0 in
    grind (arith, nat_tests, stand-left came s t ps order.1)

-- who is told is behind nobody that came later
first_behind : (P : ℕ → Type 0) (s : ℕ) (ps : List Place) → AllByRecursion P (slots_of ps) → first_quiet ps ≡ Some s → P s
first_behind P s [] h e = absurd cc
first_behind P s (p ∷ ps) h e =
    elim (is_quiet p.standing) as (λ b. cond b (Some p.slot) (first_quiet ps) ≡ Some s → P s) [
      | true ↦ λ w. let same : p.slot ≡ s = cc in subst P same h.0
      | false ↦ λ w. first_behind P s ps h.1 w
    ] e

at_behind : (P : ℕ → Type 0) (t : ℕ) (standing : Standing) (ps : List Place) → AllByRecursion P (slots_of ps) → standing_at t ps ≡ Some standing → P t
at_behind P t standing [] h e = absurd cc
at_behind P t standing (p ∷ ps) h e =
    elim (p.slot == t) as (λ b. (p.slot == t) ≡ b → cond b (Some p.standing) (standing_at t ps) ≡ Some standing → P t) [
      | true ↦ λ w v. let same : p.slot ≡ t = grind (arith, nat_tests) in subst P same h.0
      | false ↦ λ w v. at_behind P t standing ps h.1 v
    ] refl e

stand-told : (came : ℕ → ℕ) (s t : ℕ) (ps : List Place) → StandAsTheyCame came (slots_of ps) → first_quiet ps ≡ Some s → standing_at t (told_first ps) ≡ cond (s == t) (Some Told) (standing_at t ps)
stand-told came s t [] order e = absurd cc
stand-told came s t (p ∷ ps) order e =
    elim (is_quiet p.standing) as (λ b. cond b (Some p.slot) (first_quiet ps) ≡ Some s → standing_at t (cond b (place p.slot Told ∷ ps) (p ∷ told_first ps)) ≡ cond (s == t) (Some Told) (standing_at t (p ∷ ps))) [
      | true ↦ λ w. let same : p.slot ≡ s = cc in grind (arith, nat_tests)
      | false ↦ λ w.
          let behind : came p.slot < came s = first_behind (λ x. came p.slot < came x) s ps order.0 w in
          grind (arith, nat_tests, stand-told came s t ps order.1 w)
    ] e

-- the first that was told nothing came first of those
first_untold : (came : ℕ → ℕ) (s t : ℕ) (ps : List Place) → StandAsTheyCame came (slots_of ps) → first_quiet ps ≡ Some s → standing_at t ps ≡ Some Quiet → came s ≤ came t
first_untold came s t [] order e quiet = absurd cc
first_untold came s t (p ∷ ps) order e quiet =
    elim (is_quiet p.standing) as (λ b. is_quiet p.standing ≡ b → cond b (Some p.slot) (first_quiet ps) ≡ Some s → came s ≤ came t) [
      | true ↦ λ v w.
          let same : p.slot ≡ s = cc in
          let this : standing_at t ps ≡ Some Quiet → came p.slot < came t = at_behind (λ x. came p.slot < came x) t Quiet ps order.0 in
          grind (arith, nat_tests)
      | false ↦ λ v w. grind (arith, nat_tests, first_untold came s t ps order.1 w)
    ] refl e

quiet_is : (standing : Standing) → is_quiet standing ≡ true → standing ≡ Quiet
quiet_is Quiet e = refl
quiet_is Told e = absurd cc
quiet_is Aside e = absurd cc

untold_first : (came : ℕ → ℕ) (s : ℕ) (ps : List Place) → StandAsTheyCame came (slots_of ps) → first_quiet ps ≡ Some s → standing_at s ps ≡ Some Quiet
untold_first came s [] order e = absurd cc
untold_first came s (p ∷ ps) order e =
    elim (is_quiet p.standing) as (λ b. is_quiet p.standing ≡ b → cond b (Some p.slot) (first_quiet ps) ≡ Some s → standing_at s (p ∷ ps) ≡ Some Quiet) [
      | true ↦ λ v w.
          let same : p.slot ≡ s = cc in
          let quiet : p.standing ≡ Quiet = quiet_is p.standing v in
          grind (arith, nat_tests)
      | false ↦ λ v w.
          let behind : came p.slot < came s = first_behind (λ x. came p.slot < came x) s ps order.0 w in
          grind (arith, nat_tests, untold_first came s ps order.1 w)
    ] refl e

-- who is late was told
late_behind : (P : ℕ → Type 0) (t s : ℕ) (ends : List Duration) (ps : List Place) → AllByRecursion P (slots_of ps) → first_late t ends ps ≡ Some s → P s
late_behind P t s ends [] h e = absurd cc
late_behind P t s ends (p ∷ ps) h e =
    elim p.standing as (λ standing. cond (is_quiet standing) None (cond (is_told standing && is_over t (slice_get ends p.slot)) (Some p.slot) (first_late t ends ps)) ≡ Some s → P s) [
      | Quiet ↦ λ w. absurd cc
      | Told ↦ λ w.
          elim (is_over t (slice_get ends p.slot)) as (λ b. cond b (Some p.slot) (first_late t ends ps) ≡ Some s → P s) [
            | true ↦ λ v. let same : p.slot ≡ s = cc in subst P same h.0
            | false ↦ λ v. late_behind P t s ends ps h.1 v
          ] w
      | Aside ↦ λ w. late_behind P t s ends ps h.1 w
    ] e

late_told : (came : ℕ → ℕ) (t s : ℕ) (ends : List Duration) (ps : List Place) → StandAsTheyCame came (slots_of ps) → first_late t ends ps ≡ Some s → standing_at s ps ≡ Some Told
late_told came t s ends [] order e = absurd cc
late_told came t s ends (p ∷ ps) order e =
    let P : Type 0 = standing_at s (p ∷ ps) ≡ Some Told in
    let rest : first_late t ends ps ≡ Some s → P = λ w.
    let behind : came p.slot < came s = late_behind (λ x. came p.slot < came x) t s ends ps order.0 w in
    grind (arith, nat_tests, late_told came t s ends ps order.1 w) in
    elim p.standing as (λ standing. p.standing ≡ standing → cond (is_quiet standing) None (cond (is_told standing && is_over t (slice_get ends p.slot)) (Some p.slot) (first_late t ends ps)) ≡ Some s → P) [
      | Quiet ↦ λ v w. absurd cc
      | Told ↦ λ v w.
          elim (is_over t (slice_get ends p.slot)) as (λ b. cond b (Some p.slot) (first_late t ends ps) ≡ Some s → P) [
            | true ↦ λ x. let same : p.slot ≡ s = cc in grind (arith, nat_tests)
            | false ↦ rest
          ] w
      | Aside ↦ λ v w. rest w
    ] refl e

pub none_untold : (t : ℕ) (ps : List Place) → first_quiet ps ≡ None → standing_at t ps ≡ Some Quiet → ⊥
none_untold t [] e quiet = cc
none_untold t (p ∷ ps) e quiet = grind (arith, nat_tests, none_untold t ps)

-- COUNTING: slots that differ and all wait are no more than wait
others : ℕ → List ℕ → List ℕ
others s [] = []
others s (x ∷ xs) = cond (x == s) (others s xs) (x ∷ others s xs)

others-length : (s : ℕ) (xs : List ℕ) → length (others s xs) + copies_of s xs ≡ length xs
unfolding others
others-length s [] = refl
others-length s (x ∷ xs) = grind (arith, others-length s xs)

others-copies : (s t : ℕ) (xs : List ℕ) → copies_of t (others s xs) ≤ copies_of t xs
unfolding others
others-copies s t [] = omega arith
others-copies s t (x ∷ xs) = grind (arith, others-copies s t xs)

others-all : (P Q : ℕ → Type 0) (s : ℕ) (xs : List ℕ) → ((t : ℕ) → (s == t) ≡ false → P t → Q t) → AllByRecursion P xs → AllByRecursion Q (others s xs)
unfolding others
others-all P Q s [] f h = h
others-all P Q s (x ∷ xs) f h =
    elim (x == s) as (λ b. (x == s) ≡ b → AllByRecursion Q (cond b (others s xs) (x ∷ others s xs))) [
      | true ↦ λ w. others-all P Q s xs f h.1
      | false ↦ λ w. (f x (grind (arith, nat_tests)) h.0, others-all P Q s xs f h.1)
    ] refl

same_slot : (s : ℕ) → (s == s) ≡ true
same_slot s = grind (arith, nat_tests)

-- one that is served does not wait
served_waits : (p : Place) (ps : List Place) → p.standing ≡ Aside → Waits (standing_at p.slot (p ∷ ps)) → ⊥
served_waits p ps e waits =
    let W : Bool → Type 0 = λ b. Waits (cond b (Some p.standing) (standing_at p.slot ps)) in
    let some : is_waiting p.standing ≡ true = subst W (same_slot p.slot) waits in
    let none : is_waiting p.standing ≡ false = ap is_waiting e in
    absurd cc

few_copies : (p : Place) (ps : List Place) (xs : List ℕ) → copies_of p.slot xs ≤ 1 → AllByRecursion (λ t. Waits (standing_at t (p ∷ ps))) xs → copies_of p.slot xs ≤ weight p.standing
few_copies p ps xs apart h =
    elim p.standing as (λ standing. p.standing ≡ standing → copies_of p.slot xs ≤ weight standing) [
      | Quiet ↦ λ w. apart
      | Told ↦ λ w. apart
      | Aside ↦ λ w.
          let P : ℕ → Type 0 = λ t. Waits (standing_at t (p ∷ ps)) in
          omega (arith, no_copies P p.slot xs (λ waits. served_waits p ps w waits) h)
    ] refl

fewer_wait : (ps : List Place) (xs : List ℕ) → ((s : ℕ) → copies_of s xs ≤ 1) → AllByRecursion (λ t. Waits (standing_at t ps)) xs → length xs ≤ waiting_in ps
fewer_wait [] [] apart h = omega arith
fewer_wait [] (x ∷ xs) apart h = absurd h.0
fewer_wait (p ∷ ps) xs apart h =
    let P : ℕ → Type 0 = λ t. Waits (standing_at t (p ∷ ps)) in
    let Q : ℕ → Type 0 = λ t. Waits (standing_at t ps) in
    let rest = others-all P Q p.slot xs (λ t w waits. subst (λ b. Waits (cond b (Some p.standing) (standing_at t ps))) w waits) h in
    let ih = fewer_wait ps (others p.slot xs) (λ s. omega (arith, apart s, others-copies p.slot s xs)) rest in
    omega (arith, ih, others-length p.slot xs, few_copies p ps xs (apart p.slot) h)

-- who stands before the one with this slot
front : ℕ → List Place → List Place
front s [] = []
front s (p ∷ ps) = cond (p.slot == s) [] (p ∷ front s ps)

ahead-front : (s : ℕ) (ps : List Place) → waiting_in (front s ps) ≡ ahead s ps
unfolding front
ahead-front s [] = refl
ahead-front s (p ∷ ps) = grind (arith, ahead-front s ps)

not_same : (came : ℕ → ℕ) (s t : ℕ) → came t < came s → (s == t) ≡ false
not_same came s t lt =
    elim (s == t) as (λ b. (s == t) ≡ b → b ≡ false) [
      | true ↦ λ w. let same : s ≡ t = grind (arith, nat_tests) in absurd (omega (arith, ap came same, lt))
      | false ↦ λ w. refl
    ] refl

stand-front : (came : ℕ → ℕ) (s t : ℕ) (ps : List Place) → StandAsTheyCame came (slots_of ps) → came t < came s → standing_at t (front s ps) ≡ standing_at t ps
unfolding front
stand-front came s t [] order lt = refl
stand-front came s t (p ∷ ps) order lt =
    elim (p.slot == s) as (λ b. (p.slot == s) ≡ b → standing_at t (cond b [] (p ∷ front s ps)) ≡ standing_at t (p ∷ ps)) [
      | true ↦ λ w.
          let same : p.slot ≡ s = grind (arith, nat_tests) in
          let at : came p.slot ≡ came s = ap came same in
          let none = none_behind came (came p.slot) t ps order.0 (omega (arith, at, lt)) in
          let other : (p.slot == t) ≡ false = not_same came p.slot t (omega (arith, at, lt)) in
          sym (subst (λ b. cond b (Some p.standing) (standing_at t ps) ≡ None) (sym other) none)
      | false ↦ λ w. ap (cond (p.slot == t) (Some p.standing)) (stand-front came s t ps order.1 lt)
    ] refl

-- whoever waits and came before the one with this slot is counted
pub in_turn : (came : ℕ → ℕ) (s : ℕ) (ps : List Place) (idle : ℕ) → StandAsTheyCame came (slots_of ps) → ahead s ps < idle → (xs : List ℕ) → ((t : ℕ) → copies_of t xs ≤ 1) → AllByRecursion (λ t. Waits (standing_at t ps) × (came t < came s)) xs → length xs < idle
in_turn came s ps idle order lt xs apart h =
    let P : ℕ → Type 0 = λ t. Waits (standing_at t ps) × (came t < came s) in
    let Q : ℕ → Type 0 = λ t. Waits (standing_at t (front s ps)) in
    let inside : (t : ℕ) → P t → Q t = λ t both. subst Waits (sym (stand-front came s t ps order both.1)) both.0 in
    omega (arith, fewer_wait (front s ps) xs apart (all_mapped P Q xs inside h), ahead-front s ps, lt)

in_its_turn : (h : List Event) (s idle : ℕ) (ps : List Place) → ahead s ps < idle → IsHistoryOf h ps → IsInTurn h s idle
in_its_turn h s idle ps lt is xs apart all =
    let came : ℕ → ℕ = came_in h in
    let P : ℕ → Type 0 = λ t. Waits (standing_in h t) × (came t < came s) in
    let Q : ℕ → Type 0 = λ t. Waits (standing_at t ps) × (came t < came s) in
    let shown : (t : ℕ) → P t → Q t = λ t both. (subst Waits (sym (is.stand t)) both.0, both.1) in
    in_turn came s ps idle is.as_they_came lt xs apart (all_mapped P Q xs shown all)

all_in_turn : (h : List Event) (idle : ℕ) (ps : List Place) → waiting_in ps < idle → IsHistoryOf h ps → AreFewer idle (λ t. Waits (standing_in h t))
all_in_turn h idle ps lt is xs apart all =
    let P : ℕ → Type 0 = λ t. Waits (standing_in h t) in
    let Q : ℕ → Type 0 = λ t. Waits (standing_at t ps) in
    let shown : (t : ℕ) → P t → Q t = λ t waits. subst Waits (sym (is.stand t)) waits in
    omega (arith, fewer_wait ps xs apart (all_mapped P Q xs shown all), lt)

-- a join
came_le : (h : List Event) (s : ℕ) → came_in h s ≤ length h
came_le [] s = omega arith
came_le (Came slot ∷ h) s = grind (arith, came_le h s)
came_le (WasTold slot ∷ h) s = omega (arith, came_le h s)
came_le (WaitsOn slot ∷ h) s = omega (arith, came_le h s)
came_le (Took slot idle ∷ h) s = omega (arith, came_le h s)
came_le (Passed slot ∷ h) s = omega (arith, came_le h s)
came_le (Left slot ∷ h) s = omega (arith, came_le h s)
came_le (TookAtOnce idle ∷ h) s = omega (arith, came_le h s)

absent : (s : ℕ) (ps : List Place) → copies_in s ps ≡ 0 → standing_at s ps ≡ None
absent s [] e = refl
absent s (p ∷ ps) e = grind (arith, absent s ps)

absent_slots : (s : ℕ) (ps : List Place) → copies_in s ps ≡ 0 → AllByRecursion (λ t. (s == t) ≡ false) (slots_of ps)
absent_slots s [] e = tt
absent_slots s (p ∷ ps) e =
    elim (p.slot == s) as (λ b. (p.slot == s) ≡ b → cond b 1 0 + copies_in s ps ≡ 0 → AllByRecursion (λ t. (s == t) ≡ false) (slots_of (p ∷ ps))) [
      | true ↦ λ w v. absurd (omega (arith, v))
      | false ↦ λ w v. (grind (arith, nat_tests), absent_slots s ps (omega (arith, v)))
    ] refl e

all-joined : (came : ℕ → ℕ) (s n x : ℕ) (xs : List ℕ) → (s == x) ≡ false → came x < n → AllByRecursion (λ t. (s == t) ≡ false) xs → AllByRecursion (λ t. came x < came t) xs → AllByRecursion (λ t. cond (s == x) n (came x) < cond (s == t) n (came t)) (xs ++ s ∷ [])
all-joined came s n x [] w lt new h = (grind (arith, nat_tests, same_slot s), tt)
all-joined came s n x (y ∷ xs) w lt new h = (grind (arith, new.0, h.0), all-joined came s n x xs w lt new.1 h.1)

order-joined : (came : ℕ → ℕ) (s n : ℕ) (xs : List ℕ) → ((t : ℕ) → came t < n) → AllByRecursion (λ t. (s == t) ≡ false) xs → StandAsTheyCame came xs → StandAsTheyCame (λ t. cond (s == t) n (came t)) (xs ++ s ∷ [])
order-joined came s n [] lt new h = (tt, tt)
order-joined came s n (x ∷ xs) lt new h = (all-joined came s n x xs new.0 (lt x) new.1 h.0, order-joined came s n xs lt new.1 h.1)

not_waiting : (standing : Standing) → weight standing ≡ 0 → is_waiting standing ≡ false
not_waiting Quiet e = absurd (omega (arith, e))
not_waiting Told e = absurd (omega (arith, e))
not_waiting Aside e = refl

is_false : (b : Bool) → ((b ≡ true) → ⊥) → b ≡ false
is_false true h = absurd (h refl)
is_false false h = refl

-- who waits after each change
waiting-joined : (s : ℕ) (ps : List Place) → waiting_slots (ps ++ place s Quiet ∷ []) ≡ waiting_slots ps ++ s ∷ []
waiting-joined s [] = refl
waiting-joined s (p ∷ ps) =
    elim (is_waiting p.standing) as (λ b. cond b (p.slot ∷ waiting_slots (ps ++ place s Quiet ∷ [])) (waiting_slots (ps ++ place s Quiet ∷ [])) ≡ cond b (p.slot ∷ waiting_slots ps) (waiting_slots ps) ++ s ∷ []) [
      | true ↦ ap (λ xs. p.slot ∷ xs) (waiting-joined s ps)
      | false ↦ waiting-joined s ps
    ]

waiting-told : (ps : List Place) → waiting_slots (told_first ps) ≡ waiting_slots ps
waiting-told [] = refl
waiting-told (p ∷ ps) =
    elim p.standing as (λ standing. waiting_slots (cond (is_quiet standing) (place p.slot Told ∷ ps) (place p.slot standing ∷ told_first ps)) ≡ cond (is_waiting standing) (p.slot ∷ waiting_slots ps) (waiting_slots ps)) [
      | Quiet ↦ refl
      | Told ↦ ap (λ xs. p.slot ∷ xs) (waiting-told ps)
      | Aside ↦ waiting-told ps
    ]

waiting-marked : (s : ℕ) (ps : List Place) → Waits (standing_at s ps) → waiting_slots (with_standing s Quiet ps) ≡ waiting_slots ps
waiting-marked s [] waits = absurd waits
waiting-marked s (p ∷ ps) waits =
    elim (p.slot == s) as (λ b. Waits (cond b (Some p.standing) (standing_at s ps)) → waiting_slots (cond b (place p.slot Quiet ∷ ps) (p ∷ with_standing s Quiet ps)) ≡ waiting_slots (p ∷ ps)) [
      | true ↦ λ w. ap (λ b. cond b (p.slot ∷ waiting_slots ps) (waiting_slots ps)) (sym w)
      | false ↦ λ w. ap (λ xs. cond (is_waiting p.standing) (p.slot ∷ xs) xs) (waiting-marked s ps w)
    ] waits

waiting-served : (s : ℕ) (ps : List Place) → Waits (standing_at s ps) → ahead s ps ≡ 0 → waiting_slots ps ≡ s ∷ waiting_slots (with_standing s Aside ps)
waiting-served s [] waits first = absurd waits
waiting-served s (p ∷ ps) waits first =
    elim (p.slot == s) as (λ b. (p.slot == s) ≡ b → Waits (cond b (Some p.standing) (standing_at s ps)) → cond b 0 (weight p.standing + ahead s ps) ≡ 0 → waiting_slots (p ∷ ps) ≡ s ∷ waiting_slots (cond b (place p.slot Aside ∷ ps) (p ∷ with_standing s Aside ps))) [
      | true ↦ λ v w z. let same : p.slot ≡ s = grind (arith, nat_tests) in ap (λ b. cond b (p.slot ∷ waiting_slots ps) (waiting_slots ps)) w ∙ ap (λ t. t ∷ waiting_slots ps) same
      | false ↦ λ v w z.
          let light : weight p.standing ≡ 0 = omega (arith, z) in
          let no_wait = not_waiting p.standing light in
          let ih = waiting-served s ps w (omega (arith, z)) in
          ap (λ b. cond b (p.slot ∷ waiting_slots ps) (waiting_slots ps)) no_wait ∙ ih ∙ ap (λ b. s ∷ cond b (p.slot ∷ waiting_slots (with_standing s Aside ps)) (waiting_slots (with_standing s Aside ps))) (sym no_wait)
    ] refl waits first

waiting-left : (s : ℕ) (ps : List Place) → (Waits (standing_at s ps) → ⊥) → waiting_slots (without s ps) ≡ waiting_slots ps
waiting-left s [] none = refl
waiting-left s (p ∷ ps) none =
    elim (p.slot == s) as (λ b. (Waits (cond b (Some p.standing) (standing_at s ps)) → ⊥) → waiting_slots (cond b ps (p ∷ without s ps)) ≡ waiting_slots (p ∷ ps)) [
      | true ↦ λ w. ap (λ b. cond b (p.slot ∷ waiting_slots ps) (waiting_slots ps)) (sym (is_false (is_waiting p.standing) w))
      | false ↦ λ w. ap (λ xs. cond (is_waiting p.standing) (p.slot ∷ xs) xs) (waiting-left s ps w)
    ] none

-- WHAT EACH STEP ADDS
pub began : IsHistoryOf [] []
began = record { stand = λ s. refl; as_they_came = tt; in_order = tt; keeps_turns = keeps_turns [] tt; one_by_one = λ h. refl }

pub came : (h : List Event) (s : ℕ) (ps : List Place) → copies_in s ps ≡ 0 → IsHistoryOf h ps → IsHistoryOf (Came s ∷ h) (ps ++ place s Quiet ∷ [])
came h s ps new is = record {
  stand = λ t. stand-joined s t ps (absent s ps new) ∙ ap (cond (s == t) (Some Quiet)) (is.stand t);
  as_they_came =
      let after : ℕ → ℕ = came_in (Came s ∷ h) in
      let order : StandAsTheyCame after (slots_of ps ++ s ∷ []) = order-joined (came_in h) s (length h + 1) (slots_of ps) (λ t. omega (arith, came_le h t)) (absent_slots s ps new) is.as_they_came in
      subst (StandAsTheyCame after) (sym (slots-joined ps s)) order;
  in_order = is.in_order;
  keeps_turns = keeps_turns (Came s ∷ h) is.in_order;
  one_by_one = λ one. ap (λ xs. xs ++ s ∷ []) (is.one_by_one one) ∙ append_assoc (services h) (waiting_slots ps) (s ∷ []) ∙ ap (λ xs. services h ++ xs) (sym (waiting-joined s ps));
}

pub was_told : (h : List Event) (s : ℕ) (ps : List Place) → first_quiet ps ≡ Some s → IsHistoryOf h ps → IsHistoryOf (WasTold s ∷ h) (told_first ps)
was_told h s ps e is =
    let order = is.as_they_came in
    let in_order : IsInOrder (WasTold s ∷ h) = ((sym (is.stand s) ∙ untold_first (came_in h) s ps order e, λ t quiet. first_untold (came_in h) s t ps order e (is.stand t ∙ quiet)), is.in_order) in
    record {
      stand = λ t. stand-told (came_in h) s t ps order e ∙ ap (cond (s == t) (Some Told)) (is.stand t);
      as_they_came = subst (StandAsTheyCame (came_in h)) (sym (slots-told ps)) order;
      in_order = in_order;
      keeps_turns = keeps_turns (WasTold s ∷ h) in_order;
      one_by_one = λ one. is.one_by_one one ∙ ap (λ xs. services h ++ xs) (sym (waiting-told ps));
    }

pub waits_on : (h : List Event) (s : ℕ) (ps : List Place) → IsSome (standing_in h s) → IsHistoryOf h ps → IsHistoryOf (WaitsOn s ∷ h) (with_standing s Quiet ps)
waits_on h s ps some is = record {
  stand = λ t. stand-marked s t Quiet ps (subst IsSome (sym (is.stand s)) some) ∙ ap (cond (s == t) (Some Quiet)) (is.stand t);
  as_they_came = subst (StandAsTheyCame (came_in h)) (sym (slots-standing s Quiet ps)) is.as_they_came;
  in_order = is.in_order;
  keeps_turns = keeps_turns (WaitsOn s ∷ h) is.in_order;
  one_by_one = λ one. is.one_by_one one.1 ∙ ap (λ xs. services h ++ xs) (sym (waiting-marked s ps (subst Waits (sym (is.stand s)) one.0)));
}

pub took : (h : List Event) (s idle : ℕ) (ps : List Place) → IsSome (standing_in h s) → (IsUntold h s → ⊥) → ahead s ps < idle → IsHistoryOf h ps → IsHistoryOf (Took s idle ∷ h) (with_standing s Aside ps)
took h s idle ps some told lt is = record {
  stand = λ t. stand-marked s t Aside ps (subst IsSome (sym (is.stand s)) some) ∙ ap (cond (s == t) (Some Aside)) (is.stand t);
  as_they_came = subst (StandAsTheyCame (came_in h)) (sym (slots-standing s Aside ps)) is.as_they_came;
  in_order = (in_its_turn h s idle ps lt is, told, is.in_order);
  keeps_turns = keeps_turns (Took s idle ∷ h) (in_its_turn h s idle ps lt is, told, is.in_order);
  one_by_one = λ one.
      let first : ahead s ps ≡ 0 = omega (arith, lt, one.0) in
      is.one_by_one one.2 ∙ ap (λ xs. services h ++ xs) (waiting-served s ps (subst Waits (sym (is.stand s)) one.1) first)
      ∙ sym (append_assoc (services h) (s ∷ []) (waiting_slots (with_standing s Aside ps)));
}

pub passed : (h : List Event) (s : ℕ) (ps : List Place) → standing_in h s ≡ Some Told → IsHistoryOf h ps → IsHistoryOf (Passed s ∷ h) (with_standing s Aside ps)
passed h s ps told is = record {
  stand = λ t. stand-marked s t Aside ps (subst IsSome (sym (is.stand s ∙ told)) refl) ∙ ap (cond (s == t) (Some Aside)) (is.stand t);
  as_they_came = subst (StandAsTheyCame (came_in h)) (sym (slots-standing s Aside ps)) is.as_they_came;
  in_order = (told, is.in_order);
  keeps_turns = keeps_turns (Passed s ∷ h) (told, is.in_order);
  one_by_one = λ one. absurd one;
}

-- who is late was told, by the history too
pub late_in : (h : List Event) (t s : ℕ) (ends : List Duration) (ps : List Place) → first_late t ends ps ≡ Some s → IsHistoryOf h ps → standing_in h s ≡ Some Told
late_in h t s ends ps e is = sym (is.stand s) ∙ late_told (came_in h) t s ends ps is.as_they_came e

pub left : (h : List Event) (s : ℕ) (ps : List Place) → IsHistoryOf h ps → IsHistoryOf (Left s ∷ h) (without s ps)
left h s ps is = record {
  stand = λ t. stand-left (came_in h) s t ps is.as_they_came ∙ ap (cond (s == t) None) (is.stand t);
  as_they_came = order-without (came_in h) s ps is.as_they_came;
  in_order = is.in_order;
  keeps_turns = keeps_turns (Left s ∷ h) is.in_order;
  one_by_one = λ one. is.one_by_one one.1 ∙ ap (λ xs. services h ++ xs) (sym (waiting-left s ps (λ w. one.0 (subst Waits (is.stand s) w))));
}

pub took_at_once : (h : List Event) (idle : ℕ) (ps : List Place) → waiting_in ps < idle → IsHistoryOf h ps → IsHistoryOf (TookAtOnce idle ∷ h) ps
took_at_once h idle ps lt is = record {
  stand = is.stand;
  as_they_came = is.as_they_came;
  in_order = (all_in_turn h idle ps lt is, is.in_order);
  keeps_turns = keeps_turns (TookAtOnce idle ∷ h) (all_in_turn h idle ps lt is, is.in_order);
  one_by_one = is.one_by_one;
}

-- where not all that is idle is kept for those who wait
pub more_than_wait : {T : Type 0} (p : Picture T) (ps : List Place) → is_kept p ps ≡ false → 0 < length p.idle → waiting_in ps < length p.idle
more_than_wait p ps free some = grind (arith, nat_tests)

-- of those who wait the first ones, as many as are idle, were told: so was one that has its turn
quiet_if : (standing : Standing) → ◌≡◌ {A = Option Standing} (Some standing) (Some Quiet) → is_quiet standing ≡ true
quiet_if Quiet e = refl
quiet_if Told e = absurd cc
quiet_if Aside e = absurd cc

told_before : (s : ℕ) (ps : List Place) → standing_at s ps ≡ Some Quiet → told_ahead ps ≤ ahead s ps
told_before s [] e = absurd cc
told_before s (p ∷ ps) e =
    elim (p.slot == s) as (λ b. cond b (Some p.standing) (standing_at s ps) ≡ Some Quiet → told_ahead (p ∷ ps) ≤ cond b 0 (weight p.standing + ahead s ps)) [
      | true ↦ λ w. let quiet : is_quiet p.standing ≡ true = quiet_if p.standing w in omega (arith, ap (λ b. cond b 0 (weight p.standing + told_ahead ps)) quiet)
      | false ↦ λ w. grind (arith, told_before s ps w)
    ] e

weighs : (standing : Standing) → ◌≡◌ {A = Option Standing} (Some standing) (Some Quiet) → 0 < weight standing
weighs Quiet e = omega arith
weighs Told e = omega arith
weighs Aside e = absurd cc

pub quiet_waits : (s : ℕ) (ps : List Place) → standing_at s ps ≡ Some Quiet → ahead s ps < waiting_in ps
quiet_waits s [] e = absurd cc
quiet_waits s (p ∷ ps) e =
    elim (p.slot == s) as (λ b. cond b (Some p.standing) (standing_at s ps) ≡ Some Quiet → cond b 0 (weight p.standing + ahead s ps) < weight p.standing + waiting_in ps) [
      | true ↦ λ w. let some : 0 < weight p.standing = weighs p.standing w in omega (arith, some)
      | false ↦ λ w. omega (arith, quiet_waits s ps w)
    ] e

pub was_told_in_turn : (h : List Event) (s idle : ℕ) (ps : List Place) → AreTold idle ps → ahead s ps < idle → IsHistoryOf h ps → IsUntold h s → ⊥
was_told_in_turn h s idle ps told lt is untold =
    let quiet : standing_at s ps ≡ Some Quiet = is.stand s ∙ untold in
    omega (arith, told, lt, told_before s ps quiet, quiet_waits s ps quiet)
