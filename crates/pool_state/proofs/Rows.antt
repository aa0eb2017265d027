-- Who stands at a list of slots.
use Rattle.std.proofs.Common.{◌≡◌, ◌≢◌, ℕ, zero, suc, ◌+◌, ◌-◌, ◌<◌, ◌≤◌, true, false, cond, List, [], ◌∷◌, ◌++◌, length, set, Option, Some, None, refl, ◌∙◌, ap, arith}
use Rattle.std.specs.Prelude.{◌==◌}
use Rattle.std.proofs.lemmas.Bool.Decides.{nat_tests}
use Rattle.std.proofs.lemmas.Grind.{elements}
use Rattle.std.proofs.Common.{nat_lt}
use Rattle.std.proofs.lemmas.List.{get_or_past}
use Rattle.pool_state.specs.declared.line.place.Place.{Place}
use Rattle.pool_state.specs.declared.line.place.Standing.{Standing}
use Rattle.pool_state.specs.declared.line.place.Standing.TheVariants.{Quiet}
use Rattle.pool_state.specs.Ring.{standing_of, or_quiet, one_if, row_of, walk, skipped, before}
use Rattle.pool_state.specs.Waiting.{place, is_told, weight, told_at, weight_at, without, with_standing, copies_in, copies_of}
use Rattle.pool_state.proofs.Walks.{drop_slot}

pub standing_of-set : (sts : List (Option Standing)) (s : ℕ) (v : Option Standing) (x : ℕ) → s < length sts → standing_of (set sts s v) x ≡ cond (x == s) v (standing_of sts x)
standing_of-set sts s v x lt = grind (arith, nat_tests, elements)

-- another's standing
pub row_of-frame : (sts : List (Option Standing)) (s : ℕ) (v : Option Standing) → s < length sts → (ss : List ℕ) → copies_of s ss ≡ 0 → row_of (set sts s v) ss ≡ row_of sts ss
row_of-frame sts s v lt [] none = refl
row_of-frame sts s v lt (x ∷ xs) none = grind (arith, nat_tests, standing_of-set sts s v x lt, row_of-frame sts s v lt xs)

-- its own
pub row_of-mark : (sts : List (Option Standing)) (s : ℕ) (t : Standing) → s < length sts → (ss : List ℕ) → copies_of s ss ≤ 1 → row_of (set sts s (Some t)) ss ≡ with_standing s t (row_of sts ss)
row_of-mark sts s t lt [] one = refl
row_of-mark sts s t lt (x ∷ xs) one = grind (arith, nat_tests, standing_of-set sts s (Some t) x lt, row_of-mark sts s t lt xs, row_of-frame sts s (Some t) lt xs)

pub row_of-drop : (sts : List (Option Standing)) (s : ℕ) (ss : List ℕ) → row_of sts (drop_slot s ss) ≡ without s (row_of sts ss)
row_of-drop sts s [] = refl
row_of-drop sts s (x ∷ xs) = grind (arith, row_of-drop sts s xs)

pub row_of-push : (sts : List (Option Standing)) (ss : List ℕ) (s : ℕ) → row_of sts (ss ++ s ∷ []) ≡ row_of sts ss ++ place s (or_quiet (standing_of sts s)) ∷ []
row_of-push sts [] s = refl
row_of-push sts (x ∷ xs) s = ap (λ l. place x (or_quiet (standing_of sts x)) ∷ l) (row_of-push sts xs s)

pub copies_in-row : (sts : List (Option Standing)) (s : ℕ) (ss : List ℕ) → copies_in s (row_of sts ss) ≡ copies_of s ss
copies_in-row sts s [] = refl
copies_in-row sts s (x ∷ xs) = omega (arith, copies_in-row sts s xs)

pub told_at-row : (sts : List (Option Standing)) (s : ℕ) (ss : List ℕ) → 0 < copies_of s ss → told_at s (row_of sts ss) ≡ is_told (or_quiet (standing_of sts s))
told_at-row sts s [] some = absurd (omega (arith, some))
told_at-row sts s (x ∷ xs) some = grind (arith, nat_tests, told_at-row sts s xs)

pub weight_at-row : (sts : List (Option Standing)) (s : ℕ) (ss : List ℕ) → 0 < copies_of s ss → weight_at s (row_of sts ss) ≡ weight (or_quiet (standing_of sts s))
weight_at-row sts s [] some = absurd (omega (arith, some))
weight_at-row sts s (x ∷ xs) some = grind (arith, nat_tests, weight_at-row sts s xs)

pub length-row : (sts : List (Option Standing)) (f : ℕ → ℕ) (n at : ℕ) → length (row_of sts (walk f n at)) ≡ n
length-row sts f zero at = refl
length-row sts f (suc n) at = omega (arith, length-row sts f n (f at))

-- nobody has the slot
pub marks_none : (s : ℕ) (t : Standing) (ps : List Place) → copies_in s ps ≡ 0 → with_standing s t ps ≡ ps
marks_none s t [] none = refl
marks_none s t (p ∷ ps) none = grind (arith, marks_none s t ps)

pub leaves_none : (s : ℕ) (ps : List Place) → copies_in s ps ≡ 0 → without s ps ≡ ps
leaves_none s [] none = refl
leaves_none s (p ∷ ps) none = grind (arith, leaves_none s ps)

pub told_none : (s : ℕ) (ps : List Place) → copies_in s ps ≡ 0 → told_at s ps ≡ false
told_none s [] none = refl
told_none s (p ∷ ps) none = grind (arith, told_none s ps)

-- one more step of a loop
pub row_more : (sts : List (Option Standing)) (f : ℕ → ℕ) (n k at : ℕ) → k < n → row_of sts (walk f (n - k) at) ≡ place at (or_quiet (standing_of sts at)) ∷ row_of sts (walk f (n - (k + 1)) (f at))
row_more sts f n k at lt =
    let e : n - k ≡ suc (n - (k + 1)) = omega (arith, lt) in
    ap (λ m. row_of sts (walk f m at)) e

-- 1 or 0 at each slot, after one of them is set
pub past_standing : (sts : List (Option Standing)) (s : ℕ) → length sts ≤ s → standing_of sts s ≡ None
past_standing sts s le = get_or_past sts s None le

pub stands_within : (sts : List (Option Standing)) (s : ℕ) → one_if (standing_of sts s) ≡ 1 → s < length sts
stands_within sts s one = elim (nat_lt s (length sts)) as (λ b. b ≡ nat_lt s (length sts) → s < length sts) [
  | true ↦ λ w. grind (arith, nat_tests, w)
  | false ↦ λ w. absurd (omega (arith, one, ap one_if (past_standing sts s (grind (arith, nat_tests, w)))))
] refl

pub one_if-mark : (sts : List (Option Standing)) (s : ℕ) (t : Standing) (x : ℕ) → s < length sts → one_if (standing_of sts s) ≡ 1 → one_if (standing_of (set sts s (Some t)) x) ≡ one_if (standing_of sts x)
one_if-mark sts s t x lt one = grind (arith, nat_tests, standing_of-set sts s (Some t) x lt)

pub one_if-left : (sts : List (Option Standing)) (s : ℕ) (x : ℕ) → s < length sts → one_if (standing_of sts s) ≡ 1 → one_if (standing_of (set sts s None) x) + (cond (s == x) 1 0) ≡ one_if (standing_of sts x)
one_if-left sts s x lt one = grind (arith, nat_tests, standing_of-set sts s None x lt)

pub one_if-joined : (sts : List (Option Standing)) (s : ℕ) (t : Standing) (x : ℕ) → s < length sts → one_if (standing_of sts s) ≡ 0 → one_if (standing_of (set sts s (Some t)) x) ≡ one_if (standing_of sts x) + (cond (s == x) 1 0)
one_if-joined sts s t x lt none = grind (arith, nat_tests, standing_of-set sts s (Some t) x lt)

-- who is in no line is alone
pub alone_left : (f new : ℕ → ℕ) (s x : ℕ) → new x ≡ skipped s f x → ((x == s) ≡ false → f x ≡ x) → new x ≡ x
alone_left f new s x h alone = grind (arith, nat_tests, h, alone)

pub alone_joined : (f new : ℕ → ℕ) (s end x : ℕ) → new x ≡ before s end f x → f x ≡ x → x ≢ end → x ≢ s → new x ≡ x
alone_joined f new s end x h alone ne apart = grind (arith, nat_tests, h, alone)

-- who joins stands at the end
pub joined_row : (sts : List (Option Standing)) (s : ℕ) → s < length sts → (ss new : List ℕ) → copies_of s ss ≡ 0 → new ≡ ss ++ s ∷ [] → row_of (set sts s (Some Quiet)) new ≡ row_of sts ss ++ place s Quiet ∷ []
joined_row sts s lt ss new apart e =
    let v : standing_of (set sts s (Some Quiet)) s ≡ Some Quiet = grind (arith, nat_tests, standing_of-set sts s (Some Quiet) s lt) in
    ap (row_of (set sts s (Some Quiet))) e ∙ (row_of-push (set sts s (Some Quiet)) ss s ∙ (ap (λ l. l ++ place s (or_quiet (standing_of (set sts s (Some Quiet)) s)) ∷ []) (row_of-frame sts s (Some Quiet) lt ss apart) ∙ ap (λ o. row_of sts ss ++ place s (or_quiet o) ∷ []) v))

-- a free slot is below the end
pub below_end : (s end copies : ℕ) → (end ≤ s → copies ≡ 0) → 0 < copies → s < end
below_end s end copies low some = grind (arith, nat_tests, low)

pub one_if-le : (o : Option Standing) → one_if o ≤ 1
one_if-le None = omega arith
one_if-le (Some t) = omega arith
