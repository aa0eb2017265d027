-- How a script goes on from line to line.
use Rattle.std.proofs.Common.{◌≡◌, ℕ, ◌+◌, ◌-◌, ◌<◌, ◌==◌, ◌⊎◌, inl, inr, suc, Bool, true, false, cond, nat_lt, List, [], ◌∷◌, ◌++◌, length, take, drop}
use Rattle.std.proofs.Common.{slice_index, Option, Some, None, IfSome, is_some, Result, Ok, Err, IsErrAnd, refl, sym, ap, ◌∙◌, arith, subst}
use Rattle.std.specs.Io.KnownBytes.{Appends, Keeps}
use Rattle.std.specs.Io.BufRead.{first_piece, drop_through, take_through, strip_last}
use Rattle.std.proofs.lemmas.Bool.Decides.{nat_tests}
use Rattle.std.proofs.lemmas.Result.{err_from_is_err_and}
use Rattle.pool_machine.specs.declared.schedule.limits.LimitSettings.{LimitSettings}
use Rattle.pool_machine.specs.Limits.{AreLegal}
use Rattle.pool_machine.specs.Picture.{Picture}
use Rattle.pool_machine.specs.Table.{first_picture}
use Rattle.pool_lines.specs.declared.program.Fault.{Fault}
use Rattle.pool_lines.specs.declared.program.Fault.TheVariants.{NotAStep, LimitsRefused}
use Rattle.pool_lines.specs.Lines.{SeenLine, sizes_of, step_in, limits_in}
use Rattle.pool_lines.specs.Steps.{answer_text, after_said}
use Rattle.pool_lines.specs.Script.{lines_of, onto_first, and_then, TakesLine, steps_of, outcome_of, answers_to, first_of, Goes, Plays, no_limits, refused}
use Rattle.pool_lines.specs.Script.{played, Serves}
use Rattle.pool_lines.proofs.Writing.{join, kept_alone, kept_then, nothing}

-- THE FIRST LINE OF BYTES

abbrev front_of : List ℕ → List ℕ
front_of bytes = first_piece 10 bytes

abbrev rest_of : List ℕ → List ℕ
rest_of bytes = drop_through 10 bytes

stripped : (n : ℕ) (xs : List ℕ) → length xs ≡ suc n → strip_last 10 xs ≡ cond (slice_index xs n == 10) (take n xs) xs
stripped n xs e =
    let p : length xs - 1 ≡ n = omega (arith, e) in
    let q : nat_lt 0 (length xs) ≡ true = grind (arith, nat_tests) in
    rw (p, q) refl

cons_in : (c : Bool) (b : ℕ) (p q : List ℕ) → cond c (b ∷ p) (b ∷ q) ≡ b ∷ cond c p q
cons_in true b p q = refl
cons_in false b p q = refl

strip_cons : (b : ℕ) (t : List ℕ) → 0 < length t → strip_last 10 (b ∷ t) ≡ b ∷ strip_last 10 t
strip_cons b [] h = absurd (omega arith)
strip_cons b (u ∷ us) h = stripped (suc (length us)) (b ∷ u ∷ us) refl ∙ cons_in (slice_index (u ∷ us) (length us) == 10) b (take (length us) (u ∷ us)) (u ∷ us)
    ∙ sym (ap (λ (z : List ℕ). b ∷ z) (stripped (length us) (u ∷ us) refl))

through_some : (c : Bool) (b : ℕ) (t : List ℕ) → 0 < length (cond c (b ∷ []) (b ∷ t))
through_some true b t = omega arith
through_some false b t = omega arith

meet : (x y : List ℕ) (u v : List ℕ) → x ≡ y → u ≡ v → x ∷ lines_of u ≡ y ∷ lines_of v
meet x y u v p q = ap (λ (z : List ℕ). z ∷ lines_of u) p ∙ ap (λ (z : List ℕ). y ∷ lines_of z) q

taken_by : (c : Bool) (b : ℕ) (rest : List ℕ) → (b == 10) ≡ c → (0 < length rest → lines_of rest ≡ front_of rest ∷ lines_of (rest_of rest))
    → lines_of (b ∷ rest) ≡ front_of (b ∷ rest) ∷ lines_of (rest_of (b ∷ rest))
taken_by true b rest e more =
    let l : lines_of (b ∷ rest) ≡ [] ∷ lines_of rest = ap (λ (z : Bool). cond z ([] ∷ lines_of rest) (onto_first b (lines_of rest))) e in
    let t : take_through 10 (b ∷ rest) ≡ b ∷ [] = ap (λ (z : Bool). cond z (b ∷ []) (b ∷ take_through 10 rest)) e in
    let d : rest_of (b ∷ rest) ≡ rest = ap (λ (z : Bool). cond z rest (rest_of rest)) e in
    let s : strip_last 10 (b ∷ []) ≡ [] = stripped 0 (b ∷ []) refl ∙ ap (λ (z : Bool). cond z [] (b ∷ [])) e in
    l ∙ sym (meet (front_of (b ∷ rest)) [] (rest_of (b ∷ rest)) rest (ap (strip_last 10) t ∙ s) d)
taken_by false b [] e more =
    let l : lines_of (b ∷ []) ≡ (b ∷ []) ∷ [] = ap (λ (z : Bool). cond z ([] ∷ []) (onto_first b [])) e in
    let t : take_through 10 (b ∷ []) ≡ b ∷ [] = ap (λ (z : Bool). cond z (b ∷ []) (b ∷ [])) e in
    let d : rest_of (b ∷ []) ≡ [] = ap (λ (z : Bool). cond z [] []) e in
    let s : strip_last 10 (b ∷ []) ≡ b ∷ [] = stripped 0 (b ∷ []) refl ∙ ap (λ (z : Bool). cond z [] (b ∷ [])) e in
    l ∙ sym (meet (front_of (b ∷ [])) (b ∷ []) (rest_of (b ∷ [])) [] (ap (strip_last 10) t ∙ s) d)
taken_by false b (r ∷ rs) e more =
    let l : lines_of (b ∷ r ∷ rs) ≡ onto_first b (lines_of (r ∷ rs)) = ap (λ (z : Bool). cond z ([] ∷ lines_of (r ∷ rs))
    (onto_first b (lines_of (r ∷ rs)))) e in
    let i : onto_first b (lines_of (r ∷ rs)) ≡ (b ∷ front_of (r ∷ rs)) ∷ lines_of (rest_of (r ∷ rs)) = ap (onto_first b) (more (omega arith)) in
    let t : take_through 10 (b ∷ r ∷ rs) ≡ b ∷ take_through 10 (r ∷ rs) = ap (λ (z : Bool). cond z (b ∷ []) (b ∷ take_through 10 (r ∷ rs))) e in
    let d : rest_of (b ∷ r ∷ rs) ≡ rest_of (r ∷ rs) = ap (λ (z : Bool). cond z (r ∷ rs) (rest_of (r ∷ rs))) e in
    let s : strip_last 10 (b ∷ take_through 10 (r ∷ rs)) ≡ b ∷ front_of (r ∷ rs) = strip_cons b (take_through 10 (r ∷ rs))
    (through_some (r == 10) r (take_through 10 rs)) in
    l ∙ i ∙ sym (meet (front_of (b ∷ r ∷ rs)) (b ∷ front_of (r ∷ rs)) (rest_of (b ∷ r ∷ rs)) (rest_of (r ∷ rs)) (ap (strip_last 10) t ∙ s) d)

lines_taken : (bytes : List ℕ) → 0 < length bytes → lines_of bytes ≡ front_of bytes ∷ lines_of (rest_of bytes)
lines_taken [] h = absurd (omega arith)
lines_taken (b ∷ rest) h = taken_by (b == 10) b rest refl (lines_taken rest)

module _ (bytes line : List ℕ) (left : Option (List ℕ)) where
  pub there_is : TakesLine bytes true line left → lines_of bytes ≡ line ∷ lines_of (rest_of bytes)
  there_is takes = lines_taken bytes (takes.there.0 refl) ∙ ap (λ (z : List ℕ). z ∷ lines_of (rest_of bytes)) (sym takes.line)

there_is_none : (bytes line : List ℕ) (left : Option (List ℕ)) → TakesLine bytes false line left → lines_of bytes ≡ []
there_is_none [] line left takes = refl
there_is_none (b ∷ bytes) line left takes = let t : false ≡ true = takes.there.1 (omega arith) in cc

-- also where there is none
pub first_taken : (bytes line : List ℕ) (there : Bool) (left : Option (List ℕ)) → TakesLine bytes there line left → (first_of (lines_of bytes) ≡ line)
    × (drop 1 (lines_of bytes) ≡ lines_of (rest_of bytes))
first_taken bytes line true left takes = let e = there_is bytes line left takes in (ap first_of e, ap (drop 1) e)
first_taken [] line false left takes = (sym takes.line, refl)
first_taken (b ∷ bytes) line false left takes = let t : false ≡ true = takes.there.1 (omega arith) in absurd cc

-- ONE LINE

go_on : (n : ℕ) (p : Picture ℕ) (bytes line : List ℕ) (left : Option (List ℕ)) (said : SeenLine) (r : Result (Unit {0}) Fault) (o w new : Option (List ℕ)) →
    TakesLine bytes true line left → step_in line ≡ Some said → Appends o w (answer_text said p) →
    IfSome left (λ rest. Goes (n + 1) (after_said said p) rest r w new) → Goes n p bytes r o new
go_on n p bytes line left said r o w new takes is wrote later go =
    let k : Goes (n + 1) (after_said said p) (rest_of bytes) r w new = subst (λ (z : Option (List ℕ)). IfSome z
    (λ rest. Goes (n + 1) (after_said said p) rest r w new)) takes.left later in
    let e : lines_of bytes ≡ line ∷ lines_of (rest_of bytes) = there_is bytes line left takes in
    let ends : outcome_of n (lines_of bytes) ≡ outcome_of (n + 1) (lines_of (rest_of bytes)) = ap (outcome_of n) e
    ∙ ap (λ (z : Option SeenLine). cond (is_some z) (outcome_of (n + 1) (lines_of (rest_of bytes))) (Err (NotAStep n))) is in
    let writes : answers_to p (steps_of (lines_of bytes)) ≡ answer_text said p ++ answers_to (after_said said p) (steps_of (lines_of (rest_of bytes))) = ap
    (λ (z : List (List ℕ)). answers_to p (steps_of z)) e ∙ ap (λ (z : Option SeenLine). answers_to p
    (and_then z (steps_of (lines_of (rest_of bytes))))) is in
    ((k go).0 ∙ sym ends, subst (λ (z : List ℕ). Appends o new z) (sym writes) (join o w new _ _ wrote (k go).1))

stop : (n : ℕ) (p : Picture ℕ) (bytes line : List ℕ) (left o new : Option (List ℕ)) → TakesLine bytes false line left → Keeps o new
    → Goes n p bytes (Ok tt) o new
stop n p bytes line left o new takes kept go =
    let e = there_is_none bytes line left takes in
    (sym (ap (outcome_of n) e), subst (λ (z : List ℕ). Appends o new z) (sym (ap (λ (z : List (List ℕ)). answers_to p (steps_of z)) e)) (kept_alone o new kept))

no_step : (n : ℕ) (p : Picture ℕ) (bytes line : List ℕ) (left o new : Option (List ℕ)) → TakesLine bytes true line left → step_in line ≡ None → Keeps o new
    → Goes n p bytes (Err (NotAStep n)) o new
no_step n p bytes line left o new takes is kept go =
    let e = there_is bytes line left takes in
    let ends : outcome_of n (lines_of bytes) ≡ Err (NotAStep n) = ap (outcome_of n) e
    ∙ ap (λ (z : Option SeenLine). cond (is_some z) (outcome_of (n + 1) (lines_of (rest_of bytes))) (Err (NotAStep n))) is in
    let writes : answers_to p (steps_of (lines_of bytes)) ≡ [] = ap (λ (z : List (List ℕ)). answers_to p (steps_of z)) e
    ∙ ap (λ (z : Option SeenLine). answers_to p (and_then z (steps_of (lines_of (rest_of bytes))))) is in
    (sym ends, subst (λ (z : List ℕ). Appends o new z) (sym writes) (kept_alone o new kept))

-- THE SAME OF A READER WHOSE BYTES MAY BE UNKNOWN

module _ (n : ℕ) (p : Picture ℕ) (line : List ℕ) (left o new : Option (List ℕ)) where
  pub goes_on : (known : Option (List ℕ)) (there : Bool) (said : SeenLine) (r : Result (Unit {0}) Fault) (kept w : Option (List ℕ)) (m : ℕ) (q : Picture ℕ) →
      IfSome known (λ bytes. TakesLine bytes there line left) → there ≡ true → step_in line ≡ Some said → Keeps o kept → Appends kept w (answer_text said p) →
      m ≡ n + 1 → q ≡ after_said said p → IfSome left (λ rest. Goes m q rest r w new) → IfSome known (λ bytes. Goes n p bytes r o new)
  goes_on None there said r kept w m q takes is_there is keeps wrote counts after later = tt
  goes_on (Some bytes) there said r kept w m q takes is_there is keeps wrote counts after later =
      let t : TakesLine bytes true line left = subst (λ (z : Bool). TakesLine bytes z line left) is_there takes in
      let l : IfSome left (λ rest. Goes (n + 1) q rest r w new) = subst (λ (z : ℕ). IfSome left (λ rest. Goes z q rest r w new)) counts later in
      let k : IfSome left (λ rest. Goes (n + 1) (after_said said p) rest r w new) = subst (λ (z : Picture ℕ). IfSome left
      (λ rest. Goes (n + 1) z rest r w new)) after l in
      go_on n p bytes line left said r o w new t is (kept_then o kept w (answer_text said p) keeps wrote) k

  pub stops : (known : Option (List ℕ)) (there : Bool) → IfSome known (λ bytes. TakesLine bytes there line left) → there ≡ false → Keeps o new
      → IfSome known (λ bytes. Goes n p bytes (Ok tt) o new)
  stops None there takes is_there kept = tt
  stops (Some bytes) there takes is_there kept = stop n p bytes line left o new (subst (λ (z : Bool). TakesLine bytes z line left) is_there takes) kept

  pub is_no_step : (known : Option (List ℕ)) (there : Bool) → IfSome known (λ bytes. TakesLine bytes there line left) → there ≡ true → step_in line ≡ None
      → Keeps o new → IfSome known (λ bytes. Goes n p bytes (Err (NotAStep n)) o new)
  is_no_step None there takes is_there is kept = tt
  is_no_step (Some bytes) there takes is_there is kept = no_step n p bytes line left o new
      (subst (λ (z : Bool). TakesLine bytes z line left) is_there takes) is kept

-- what `?` made of the error of `limits`
not_started : (lines : List (List ℕ)) (e : Fault) (o : Option (List ℕ)) → (e ≡ NotAStep 1) ⊎ (e ≡ LimitsRefused)
    → (e ≡ NotAStep 1 → limits_in (first_of lines) ≡ None) →
    (e ≡ LimitsRefused → (s : LimitSettings) × (limits_in (first_of lines) ≡ Some (sizes_of s)) × ¬ (AreLegal s)) → (text : List ℕ) × Plays lines (Err e) text
    × Appends o o text
not_started lines e o (inl is) no_form no_leave = ([], subst (λ (z : Fault). Plays lines (Err z) []) (sym is) (no_limits (no_form is)), nothing o)
not_started lines e o (inr is) no_form no_leave =
    let (s, says, wrong) = no_leave is in
    ([], subst (λ (z : Fault). Plays lines (Err z) []) (sym is) (refused s says wrong), nothing o)

module _ (line : List ℕ) (there : Bool) (left o : Option (List ℕ)) (d : List ℕ) (same : d ≡ line) where
  pub says_no_limits : (known : Option (List ℕ)) (r : Result (Unit {0}) Fault) (e : Fault) → IfSome known (λ bytes. TakesLine bytes there line left)
      → IsErrAnd r (λ x. x ≡ e) →
      (e ≡ NotAStep 1) ⊎ (e ≡ LimitsRefused) → (e ≡ NotAStep 1 → limits_in d ≡ None) →
      (e ≡ LimitsRefused → (s : LimitSettings) × (limits_in d ≡ Some (sizes_of s)) × ¬ (AreLegal s)) → IfSome known (λ bytes. Serves bytes r o o)
  says_no_limits None r e takes fails why no_form no_leave = tt
  says_no_limits (Some bytes) r e takes fails why no_form no_leave =
      let (x, is, ends) = err_from_is_err_and r fails in
      let f : first_of (lines_of bytes) ≡ d = (first_taken bytes line there left takes).0 ∙ sym same in
      λ go. subst (λ (z : Result (Unit {0}) Fault). (text : List ℕ) × Plays (lines_of bytes) z text × Appends o o text)
      (sym (is ∙ ap (λ (z : Fault). Err z) ends))
      (not_started (lines_of bytes) e o why (λ i. ap limits_in f ∙ no_form i) (λ i. let (s, says, wrong) = no_leave i in (s, ap limits_in f ∙ says, wrong)))

  pub starts : (known : Option (List ℕ)) (r : Result (Unit {0}) Fault) (new : Option (List ℕ)) (s : LimitSettings) (p : Picture ℕ)
      → IfSome known (λ bytes. TakesLine bytes there line left) →
      limits_in d ≡ Some (sizes_of s) → AreLegal s → p ≡ first_picture s 0 0 → IfSome left (λ rest. Goes 2 p rest r o new)
      → IfSome known (λ bytes. Serves bytes r o new)
  starts None r new s p takes says legal made later = tt
  starts (Some bytes) r new s p takes says legal made later =
      let (f, g) = first_taken bytes line there left takes in
      let k : Goes 2 p (rest_of bytes) r o new = subst (λ (z : Option (List ℕ)). IfSome z (λ rest. Goes 2 p rest r o new)) takes.left later in
      let a : Plays (lines_of bytes) (outcome_of 2 (lines_of (rest_of bytes))) (answers_to (first_picture s 0 0) (steps_of (lines_of (rest_of bytes)))) = subst
      (λ (z : List (List ℕ)). Plays (lines_of bytes) (outcome_of 2 z) (answers_to (first_picture s 0 0) (steps_of z))) g
      (played s (ap limits_in (f ∙ sym same) ∙ says) legal) in
      λ go.
      let (ends, grew) = k go in
      let b : Plays (lines_of bytes) r (answers_to (first_picture s 0 0) (steps_of (lines_of (rest_of bytes)))) = subst
      (λ (z : Result (Unit {0}) Fault). Plays (lines_of bytes) z (answers_to (first_picture s 0 0) (steps_of (lines_of (rest_of bytes))))) (sym ends) a in
      let c : Plays (lines_of bytes) r (answers_to p (steps_of (lines_of (rest_of bytes)))) = subst
      (λ (q : Picture ℕ). Plays (lines_of bytes) r (answers_to q (steps_of (lines_of (rest_of bytes))))) (sym made) b in
      (answers_to p (steps_of (lines_of (rest_of bytes))), c, grew)
