-- Searches along a line.
use Rattle.std.proofs.Common.{◌≡◌, ℕ, zero, suc, ◌+◌, ◌<◌, ◌≤◌, true, false, List, [], ◌∷◌, length, take, Option, Some, None, IfSome, refl, sym, ◌∙◌, ap, subst, arith}
use Rattle.std.specs.Prelude.{slice_get}
use Rattle.std.proofs.lemmas.List.{take_all}
use Rattle.std.specs.declared.time.Duration.{Duration}
use Rattle.pool_state.specs.declared.line.links.Link.{Link}
use Rattle.pool_state.specs.declared.line.place.Place.{Place}
use Rattle.pool_state.specs.declared.line.place.Standing.{Standing}
use Rattle.pool_state.specs.declared.line.place.Standing.TheVariants.{Aside}
use Rattle.pool_state.specs.declared.line.search.Search.{Search}
use Rattle.pool_state.specs.Ring.{next_of, prev_of, AreInverse, standing_of, or_quiet, row_of, walk, reach}
use Rattle.pool_state.specs.Waiting.{place, is_quiet, is_late, first_quiet, first_late, told_first, with_standing}
use Rattle.pool_state.specs.Order.{slots_of}
use Rattle.pool_state.specs.Search.{StandsAt, IsSearch, IsLateSearch}
use Rattle.pool_state.proofs.Order.{slots-standing, slots-told}
use Rattle.pool_state.proofs.Rings.{within}

-- WHERE A SEARCH STANDS

slots-row : (sts : List (Option Standing)) (ss : List ℕ) → slots_of (row_of sts ss) ≡ ss
slots-row sts [] = refl
slots-row sts (x ∷ xs) = ap (λ l. x ∷ l) (slots-row sts xs)

get_row : (sts : List (Option Standing)) (f : ℕ → ℕ) (n k a : ℕ) → k < n → slice_get (row_of sts (walk f n a)) k ≡ Some (place (reach f k a) (or_quiet (standing_of sts (reach f k a))))
get_row sts f zero k a lt = absurd (omega (arith, lt))
get_row sts f (suc n) zero a lt = refl
get_row sts f (suc n) (suc k) a lt = get_row sts f n k (f a) (omega (arith, lt))

there : (f : ℕ → ℕ) (n k a at : ℕ) → k < n → IfSome (slice_get (walk f n a) k) (λ s. s ≡ at) → reach f k a ≡ at
there f zero k a at lt here = absurd (omega (arith, lt))
there f (suc n) zero a at lt here = here
there f (suc n) (suc k) a at lt here = there f n k (f a) at (omega (arith, lt)) here

here_if : (f : ℕ → ℕ) (n k a at : ℕ) → reach f k a ≡ at → IfSome (slice_get (walk f n a) k) (λ s. s ≡ at)
here_if f zero k a at e = tt
here_if f (suc n) zero a at e = e
here_if f (suc n) (suc k) a at e = here_if f n k (f a) at e

reach_next : (f : ℕ → ℕ) (k a : ℕ) → reach f (suc k) a ≡ f (reach f k a)
reach_next f zero a = refl
reach_next f (suc k) a = reach_next f k (f a)

reach_within : (ls : List Link) (k a : ℕ) → AreInverse (next_of ls) (prev_of ls) → a < length ls → reach (next_of ls) k a < length ls
reach_within ls zero a inv lt = lt
reach_within ls (suc k) a inv lt = reach_within ls k (next_of ls a) inv (within ls a inv lt)

module _ (sts : List (Option Standing)) (f : ℕ → ℕ) (n a : ℕ) where
  pub reached : (search : Search) → search.gone < n → StandsAt search (row_of sts (walk f n a)) → reach f search.gone a ≡ search.at
  reached search lt here =
      there f n search.gone a search.at lt (subst (λ ss. IfSome (slice_get ss search.gone) (λ s. s ≡ search.at)) (slots-row sts (walk f n a)) here)

  pub stands_if : (search : Search) → reach f search.gone a ≡ search.at → StandsAt search (row_of sts (walk f n a))
  stands_if search e =
      subst (λ ss. IfSome (slice_get ss search.gone) (λ s. s ≡ search.at)) (sym (slots-row sts (walk f n a))) (here_if f n search.gone a search.at e)

  pub looked_at : (search : Search) → search.gone < n → StandsAt search (row_of sts (walk f n a))
      → slice_get (row_of sts (walk f n a)) search.gone ≡ Some (place search.at (or_quiet (standing_of sts search.at)))
  looked_at search lt here =
      get_row sts f n search.gone a lt ∙ ap (λ x. Some (place x (or_quiet (standing_of sts x)))) (reached search lt here)

pub within_line : (ls : List Link) (sts : List (Option Standing)) (n a : ℕ) (search : Search) → AreInverse (next_of ls) (prev_of ls) → a < length ls
    → search.gone < n → StandsAt search (row_of sts (walk (next_of ls) n a)) → search.at < length ls
within_line ls sts n a search inv inside lt here =
    subst (λ x. x < length ls) (reached sts (next_of ls) n a search lt here) (reach_within ls search.gone a inv inside)

pub gone_on : (ls : List Link) (sts : List (Option Standing)) (n a : ℕ) (old new : Search) → old.gone < n → StandsAt old (row_of sts (walk (next_of ls) n a))
    → new.gone ≡ old.gone + 1 → new.at ≡ next_of ls old.at → StandsAt new (row_of sts (walk (next_of ls) n a))
gone_on ls sts n a old new lt here more next =
    let f = next_of ls in
    let e : new.gone ≡ suc old.gone = omega (arith, more) in
    stands_if sts f n a new
    (ap (λ k. reach f k a) e ∙ (reach_next f old.gone a ∙ (ap f (reached sts f n a old lt here) ∙ sym next)))

-- ONE MORE IS LOOKED AT

quiet_suc : (n : ℕ) (ps : List Place) (p : Place) → slice_get ps n ≡ Some p → is_quiet p.standing ≡ false → first_quiet (take n ps) ≡ None → first_quiet (take (suc n) ps) ≡ None
quiet_suc n [] p e q none = absurd cc
quiet_suc zero (x ∷ xs) p e q none = grind arith
quiet_suc (suc n) (x ∷ xs) p e q none = grind (arith, quiet_suc n xs p)

late_suc : (n t : ℕ) (ends : List Duration) (ps : List Place) (p : Place) → slice_get ps n ≡ Some p → is_late t ends p ≡ false → first_late t ends (take n ps) ≡ None → first_late t ends (take (suc n) ps) ≡ None
late_suc n t ends [] p e q none = absurd cc
late_suc zero t ends (x ∷ xs) p e q none = grind arith
late_suc (suc n) t ends (x ∷ xs) p e q none = grind (arith, late_suc n t ends xs p)

quiet_at : (n : ℕ) (ps : List Place) (p : Place) → slice_get ps n ≡ Some p → is_quiet p.standing ≡ true → first_quiet (take n ps) ≡ None → first_quiet ps ≡ Some p.slot
quiet_at n [] p e q none = absurd cc
quiet_at zero (x ∷ xs) p e q none = grind arith
quiet_at (suc n) (x ∷ xs) p e q none = grind (arith, quiet_at n xs p)

late_behind : (n t : ℕ) (ends : List Duration) (ps : List Place) (p : Place) → slice_get ps n ≡ Some p → is_quiet p.standing ≡ true → first_late t ends (take n ps) ≡ None → first_late t ends ps ≡ None
late_behind n t ends [] p e q none = absurd cc
late_behind zero t ends (x ∷ xs) p e q none = grind arith
late_behind (suc n) t ends (x ∷ xs) p e q none = grind (arith, late_behind n t ends xs p)

late_at : (n t : ℕ) (ends : List Duration) (ps : List Place) (p : Place) → slice_get ps n ≡ Some p → is_quiet p.standing ≡ false → is_late t ends p ≡ true
    → first_quiet (take n ps) ≡ None → first_late t ends (take n ps) ≡ None → first_late t ends ps ≡ Some p.slot
late_at n t ends [] p e q late none none_late = absurd cc
late_at zero t ends (x ∷ xs) p e q late none none_late = grind arith
late_at (suc n) t ends (x ∷ xs) p e q late none none_late = grind (arith, late_at n t ends xs p)

more : (old new : Search) (ps : List Place) → new.gone ≡ old.gone + 1 → take new.gone ps ≡ take (suc old.gone) ps
more old new ps e = let same : new.gone ≡ suc old.gone = omega (arith, e) in ap (λ n. take n ps) same

pub quiet_on : (old new : Search) (ps : List Place) (p : Place) → IsSearch old ps → slice_get ps old.gone ≡ Some p → is_quiet p.standing ≡ false
    → StandsAt new ps → new.gone ≡ old.gone + 1 → IsSearch new ps
quiet_on old new ps p is e q here next = record {
  here = here;
  none_quiet = ap first_quiet (more old new ps next) ∙ quiet_suc old.gone ps p e q is.none_quiet;
}

pub late_on : (t : ℕ) (ends : List Duration) (old new : Search) (ps : List Place) (p : Place) → IsLateSearch t ends old ps → slice_get ps old.gone ≡ Some p
    → is_quiet p.standing ≡ false → is_late t ends p ≡ false → StandsAt new ps → new.gone ≡ old.gone + 1 → IsLateSearch t ends new ps
late_on t ends old new ps p is e q late here next = record {
  of_quiet = quiet_on old new ps p is.of_quiet e q here next;
  none_late = ap (first_late t ends) (more old new ps next) ∙ late_suc old.gone t ends ps p e late is.none_late;
}

-- WHERE IT STOPS

pub quiet_found : (search : Search) (ps : List Place) (p : Place) → IsSearch search ps → slice_get ps search.gone ≡ Some p → is_quiet p.standing ≡ true → first_quiet ps ≡ Some p.slot
quiet_found search ps p is e q = quiet_at search.gone ps p e q is.none_quiet

pub quiet_nowhere : (search : Search) (ps : List Place) → IsSearch search ps → length ps ≤ search.gone → first_quiet ps ≡ None
quiet_nowhere search ps is le = ap first_quiet (sym (take_all search.gone ps le)) ∙ is.none_quiet

pub late_found : (t : ℕ) (ends : List Duration) (search : Search) (ps : List Place) (p : Place) → IsLateSearch t ends search ps → slice_get ps search.gone ≡ Some p
    → is_quiet p.standing ≡ false → is_late t ends p ≡ true → first_late t ends ps ≡ Some p.slot
late_found t ends search ps p is e q late = late_at search.gone t ends ps p e q late is.of_quiet.none_quiet is.none_late

pub none_before_quiet : (t : ℕ) (ends : List Duration) (search : Search) (ps : List Place) (p : Place) → IsLateSearch t ends search ps → slice_get ps search.gone ≡ Some p
    → is_quiet p.standing ≡ true → first_late t ends ps ≡ None
none_before_quiet t ends search ps p is e q = late_behind search.gone t ends ps p e q is.none_late

pub late_nowhere : (t : ℕ) (ends : List Duration) (search : Search) (ps : List Place) → IsLateSearch t ends search ps → length ps ≤ search.gone → first_late t ends ps ≡ None
late_nowhere t ends search ps is le = ap (first_late t ends) (sym (take_all search.gone ps le)) ∙ is.none_late

-- ONE IS PASSED, AND ONE IS TOLD

quiet-passed : (n s : ℕ) (ps : List Place) → first_quiet (take n ps) ≡ None → first_quiet (take n (with_standing s Aside ps)) ≡ None
quiet-passed zero s ps none = refl
quiet-passed (suc n) s [] none = refl
quiet-passed (suc n) s (p ∷ ps) none = grind (arith, quiet-passed n s ps)

late-passed : (n s t : ℕ) (ends : List Duration) (ps : List Place) → first_quiet (take n ps) ≡ None → first_late t ends (take n ps) ≡ None
    → first_late t ends (take n (with_standing s Aside ps)) ≡ None
late-passed zero s t ends ps none none_late = refl
late-passed (suc n) s t ends [] none none_late = refl
late-passed (suc n) s t ends (p ∷ ps) none none_late = grind (arith, late-passed n s t ends ps)

take-told : (n : ℕ) (ps : List Place) → first_quiet (take n ps) ≡ None → take n (told_first ps) ≡ take n ps
take-told zero ps none = refl
take-told (suc n) [] none = refl
take-told (suc n) (p ∷ ps) none = grind (arith, take-told n ps)

stands_still : (search : Search) (ps qs : List Place) → slots_of qs ≡ slots_of ps → StandsAt search ps → StandsAt search qs
stands_still search ps qs same here = subst (λ ss. IfSome (slice_get ss search.gone) (λ s. s ≡ search.at)) (sym same) here

pub search_told : (search : Search) (ps : List Place) → IsSearch search ps → IsSearch search (told_first ps)
search_told search ps is = record {
  here = stands_still search ps (told_first ps) (slots-told ps) is.here;
  none_quiet = ap first_quiet (take-told search.gone ps is.none_quiet) ∙ is.none_quiet;
}

pub search_passed : (search : Search) (s : ℕ) (ps : List Place) → IsSearch search ps → IsSearch search (with_standing s Aside ps)
search_passed search s ps is = record {
  here = stands_still search ps (with_standing s Aside ps) (slots-standing s Aside ps) is.here;
  none_quiet = quiet-passed search.gone s ps is.none_quiet;
}

pub late_search_told : (t : ℕ) (ends : List Duration) (search : Search) (ps : List Place) → IsLateSearch t ends search ps → IsLateSearch t ends search (told_first ps)
late_search_told t ends search ps is = record {
  of_quiet = search_told search ps is.of_quiet;
  none_late = ap (first_late t ends) (take-told search.gone ps is.of_quiet.none_quiet) ∙ is.none_late;
}

pub late_search_passed : (t : ℕ) (ends : List Duration) (search : Search) (s : ℕ) (ps : List Place) → IsLateSearch t ends search ps → IsLateSearch t ends search (with_standing s Aside ps)
late_search_passed t ends search s ps is = record {
  of_quiet = search_passed search s ps is.of_quiet;
  none_late = late-passed search.gone s t ends ps is.of_quiet.none_quiet is.none_late;
}
