-- What a change of the steps does to a walk.
use Rattle.std.proofs.Common.{◌≡◌, ◌≢◌, ℕ, zero, suc, ◌+◌, ◌-◌, ◌<◌, true, false, cond, List, [], ◌∷◌, ◌++◌, refl, sym, ◌∙◌, ap, subst, arith}
use Rattle.std.specs.Prelude.{◌==◌}
use Rattle.std.proofs.lemmas.Bool.Decides.{nat_tests}
use Rattle.pool_state.specs.Ring.{skipped, before, walk, reach}
use Rattle.pool_state.specs.Waiting.{copies_of}

-- all but the first of these
abbrev pub drop_slot : ℕ → List ℕ → List ℕ
drop_slot s [] = []
drop_slot s (x ∷ xs) = cond (x == s) xs (x ∷ drop_slot s xs)

pub copies_of-drop : (s i : ℕ) (xs : List ℕ) → 0 < copies_of s xs → copies_of i (drop_slot s xs) + (cond (s == i) 1 0) ≡ copies_of i xs
copies_of-drop s i [] e = absurd (omega arith)
copies_of-drop s i (x ∷ xs) e = grind (arith, nat_tests, copies_of-drop s i xs)

-- A NODE IS TAKEN OUT

-- a walk that does not come by it
pub walk_frame : (f new : ℕ → ℕ) (s : ℕ) → ((x : ℕ) → new x ≡ skipped s f x) → (n at : ℕ) → copies_of s (walk f n at) ≡ 0 → walk new n at ≡ walk f n at
walk_frame f new s h zero at none = refl
walk_frame f new s h (suc zero) at none = refl
walk_frame f new s h (suc (suc m)) at none =
    let e : new at ≡ f at = grind (arith, nat_tests, h at) in
    ap (λ l. at ∷ l) (ap (walk new (suc m)) e ∙ walk_frame f new s h (suc m) (f at) (omega (arith, none)))

pub reach_frame : (f new : ℕ → ℕ) (s : ℕ) → ((x : ℕ) → new x ≡ skipped s f x) → (n at : ℕ) → copies_of s (walk f n at) ≡ 0 → reach f n at ≢ s → reach new n at ≡ reach f n at
reach_frame f new s h zero at none ne = refl
reach_frame f new s h (suc zero) at none ne = grind (arith, nat_tests, h at)
reach_frame f new s h (suc (suc m)) at none ne =
    let e : new at ≡ f at = grind (arith, nat_tests, h at) in
    ap (reach new (suc m)) e ∙ reach_frame f new s h (suc m) (f at) (omega (arith, none)) ne

-- a walk that does
pub walk_skip : (f new : ℕ → ℕ) (s : ℕ) → ((x : ℕ) → new x ≡ skipped s f x) → (m at : ℕ) → copies_of s (walk f (suc m) at) ≡ 1 → walk new m (cond (at == s) (f s) at) ≡ drop_slot s (walk f (suc m) at)
walk_skip f new s h zero at one = grind (arith, nat_tests)
walk_skip f new s h (suc k) at one =
    elim (at == s) as (λ b. b ≡ (at == s) → (cond b 1 0) + copies_of s (walk f (suc k) (f at)) ≡ 1 → walk new (suc k) (cond b (f s) at) ≡ cond b (walk f (suc k) (f at)) (at ∷ drop_slot s (walk f (suc k) (f at)))) [
      | true ↦ λ w o. let e : at ≡ s = grind (arith, nat_tests, w) in ap (λ y. walk new (suc k) (f y)) (sym e) ∙ walk_frame f new s h (suc k) (f at) (omega (arith, o))
      | false ↦ λ w o. let e : new at ≡ cond (f at == s) (f s) (f at) = grind (arith, nat_tests, w, h at) in ap (λ l. at ∷ l) (ap (walk new k) e ∙ walk_skip f new s h k (f at) (omega (arith, o)))
    ] refl one

pub reach_skip : (f new : ℕ → ℕ) (s : ℕ) → ((x : ℕ) → new x ≡ skipped s f x) → (m at : ℕ) → copies_of s (walk f (suc m) at) ≡ 1 → reach f (suc m) at ≢ s → reach new m (cond (at == s) (f s) at) ≡ reach f (suc m) at
reach_skip f new s h zero at one ne = grind (arith, nat_tests)
reach_skip f new s h (suc k) at one ne =
    elim (at == s) as (λ b. b ≡ (at == s) → (cond b 1 0) + copies_of s (walk f (suc k) (f at)) ≡ 1 → reach new (suc k) (cond b (f s) at) ≡ reach f (suc k) (f at)) [
      | true ↦ λ w o. let e : at ≡ s = grind (arith, nat_tests, w) in ap (λ y. reach new (suc k) (f y)) (sym e) ∙ reach_frame f new s h (suc k) (f at) (omega (arith, o)) ne
      | false ↦ λ w o. let e : new at ≡ cond (f at == s) (f s) (f at) = grind (arith, nat_tests, w, h at) in ap (reach new k) e ∙ reach_skip f new s h k (f at) (omega (arith, o)) ne
    ] refl one

-- the same, from behind the end
pub order_left : (f new : ℕ → ℕ) (s end : ℕ) → ((x : ℕ) → new x ≡ skipped s f x) → end ≢ s → (n : ℕ) → copies_of s (walk f n (f end)) ≡ 1 → walk new (n - 1) (new end) ≡ drop_slot s (walk f n (f end))
order_left f new s end h ne zero one = absurd (omega (arith, one))
order_left f new s end h ne (suc m) one =
    let less : suc m - 1 ≡ m = omega arith in
    let e : new end ≡ cond (f end == s) (f s) (f end) = grind (arith, nat_tests, h end) in
    ap (λ k. walk new k (new end)) less ∙ (ap (walk new m) e ∙ walk_skip f new s h m (f end) one)

pub closed_left : (f new : ℕ → ℕ) (s end : ℕ) → ((x : ℕ) → new x ≡ skipped s f x) → end ≢ s → (n : ℕ) → copies_of s (walk f n (f end)) ≡ 1 → reach f n (f end) ≡ end → reach new (n - 1) (new end) ≡ end
closed_left f new s end h ne zero one closed = absurd (omega (arith, one))
closed_left f new s end h ne (suc m) one closed =
    let less : suc m - 1 ≡ m = omega arith in
    let e : new end ≡ cond (f end == s) (f s) (f end) = grind (arith, nat_tests, h end) in
    let other : reach f (suc m) (f end) ≢ s = subst (λ y. y ≢ s) (sym closed) ne in
    ap (λ k. reach new k (new end)) less ∙ (ap (reach new m) e ∙ (reach_skip f new s h m (f end) one other ∙ closed))

-- A NODE IS PUT BEFORE THE END

pub walk_join : (f new : ℕ → ℕ) (s end : ℕ) → ((x : ℕ) → new x ≡ before s end f x) → (n at : ℕ) → copies_of s (walk f n at) ≡ 0 → copies_of end (walk f n at) ≡ 0 → reach f n at ≡ end → walk new (suc n) (cond (at == end) s at) ≡ walk f n at ++ s ∷ []
walk_join f new s end h zero at apart inner closed = grind (arith, nat_tests, closed)
walk_join f new s end h (suc m) at apart inner closed =
    let a : (at == end) ≡ false = grind (arith, nat_tests, inner) in
    let e : new at ≡ cond (f at == end) s (f at) = grind (arith, nat_tests, apart, h at) in
    ap (λ b. walk new (suc (suc m)) (cond b s at)) a ∙ ap (λ l. at ∷ l) (ap (walk new (suc m)) e ∙ walk_join f new s end h m (f at) (omega (arith, apart)) (omega (arith, inner)) closed)

pub reach_join : (f new : ℕ → ℕ) (s end : ℕ) → ((x : ℕ) → new x ≡ before s end f x) → (n at : ℕ) → copies_of s (walk f n at) ≡ 0 → copies_of end (walk f n at) ≡ 0 → reach f n at ≡ end → reach new (suc n) (cond (at == end) s at) ≡ end
reach_join f new s end h zero at apart inner closed = grind (arith, nat_tests, closed, h s)
reach_join f new s end h (suc m) at apart inner closed =
    let a : (at == end) ≡ false = grind (arith, nat_tests, inner) in
    let e : new at ≡ cond (f at == end) s (f at) = grind (arith, nat_tests, apart, h at) in
    ap (λ b. reach new (suc (suc m)) (cond b s at)) a ∙ (ap (reach new (suc m)) e ∙ reach_join f new s end h m (f at) (omega (arith, apart)) (omega (arith, inner)) closed)

pub order_joined : (f new : ℕ → ℕ) (s end : ℕ) → ((x : ℕ) → new x ≡ before s end f x) → end ≢ s → (n : ℕ) → copies_of s (walk f n (f end)) ≡ 0 → copies_of end (walk f n (f end)) ≡ 0 → reach f n (f end) ≡ end → walk new (n + 1) (new end) ≡ walk f n (f end) ++ s ∷ []
order_joined f new s end h ne n apart inner closed =
    let more : n + 1 ≡ suc n = omega arith in
    let e : new end ≡ cond (f end == end) s (f end) = grind (arith, nat_tests, h end) in
    ap (λ k. walk new k (new end)) more ∙ (ap (walk new (suc n)) e ∙ walk_join f new s end h n (f end) apart inner closed)

pub closed_joined : (f new : ℕ → ℕ) (s end : ℕ) → ((x : ℕ) → new x ≡ before s end f x) → end ≢ s → (n : ℕ) → copies_of s (walk f n (f end)) ≡ 0 → copies_of end (walk f n (f end)) ≡ 0 → reach f n (f end) ≡ end → reach new (n + 1) (new end) ≡ end
closed_joined f new s end h ne n apart inner closed =
    let more : n + 1 ≡ suc n = omega arith in
    let e : new end ≡ cond (f end == end) s (f end) = grind (arith, nat_tests, h end) in
    ap (λ k. reach new k (new end)) more ∙ (ap (reach new (suc n)) e ∙ reach_join f new s end h n (f end) apart inner closed)

-- a walk by a node is not of none
pub more_than_none : (f : ℕ → ℕ) (n at s : ℕ) → 0 < copies_of s (walk f n at) → 0 < n
more_than_none f zero at s some = absurd (omega (arith, some))
more_than_none f (suc n) at s some = omega arith
