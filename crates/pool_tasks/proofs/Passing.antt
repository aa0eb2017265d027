-- Once nobody is late, nobody more is passed.
use Rattle.std.proofs.Common.{◌≡◌, ℕ, suc, ◌+◌, ◌-◌, ◌<◌, false, List, Option, Some, None, refl, sym, ◌∙◌, ap, subst, arith}
use Rattle.std.specs.Prelude.{zero, is_some}
use Rattle.std.specs.declared.time.Duration.{Duration}
use Rattle.pool_state.specs.declared.line.place.Place.{Place}
use Rattle.pool_state.specs.Waiting.{first_late, passed_by, pass_first, passed_late}

none_late : (t : ℕ) (ends : List Duration) (ps : List Place) → first_late t ends ps ≡ None → pass_first t ends ps ≡ ps
none_late t ends ps none = ap (λ (o : Option ℕ). passed_by o ps) none

-- after k and j more
stays : (j k t : ℕ) (ends : List Duration) (ps : List Place) → first_late t ends (passed_late k t ends ps) ≡ None
    → passed_late (j + k) t ends ps ≡ passed_late k t ends ps
stays zero k t ends ps none = let e : 0 + k ≡ k = omega arith in ap (λ m. passed_late m t ends ps) e
stays (suc j) k t ends ps none =
    let e : suc j + k ≡ suc (j + k) = omega arith in
    ap (λ m. passed_late m t ends ps) e ∙ (ap (pass_first t ends) (stays j k t ends ps none) ∙ none_late t ends (passed_late k t ends ps) none)

is_none : (o : Option ℕ) → false ≡ is_some o → o ≡ None
is_none None e = refl
is_none (Some x) e = absurd cc

ended : (k n t : ℕ) (ends : List Duration) (ps qs rs : List Place) → qs ≡ passed_late k t ends ps
    → false ≡ is_some (first_late t ends qs) → k < n → rs ≡ pass_first t ends qs → rs ≡ passed_late n t ends ps
ended k n t ends ps qs rs here none lt line =
    let late : first_late t ends qs ≡ None = is_none (first_late t ends qs) none in
    let there : first_late t ends (passed_late k t ends ps) ≡ None = subst (λ xs. first_late t ends xs ≡ None) here late in
    let all : n - k + k ≡ n = omega (arith, lt) in
    line ∙ (none_late t ends qs late ∙ (here ∙ (sym (stays (n - k) k t ends ps there) ∙ ap (λ m. passed_late m t ends ps) all)))

-- none of those whose ends are the same is late after k passings, of n that may be needed
pub ended_by : (k n t : ℕ) (ends now : List Duration) (ps qs rs : List Place) → now ≡ ends → qs ≡ passed_late k t ends ps
    → false ≡ is_some (first_late t now qs) → k < n → rs ≡ pass_first t now qs → rs ≡ passed_late n t ends ps
ended_by k n t ends now ps qs rs same here none lt line =
    ended k n t ends ps qs rs here (subst (λ es. false ≡ is_some (first_late t es qs)) same none) lt
    (subst (λ es. rs ≡ pass_first t es qs) same line)
