-- How many were admitted and how many are gone after one more step: as many more as its deeds say.
use Rattle.std.proofs.Common.{◌≡◌, ℕ, ◌+◌, ◌-◌, List, [], ◌∷◌, length, refl, arith}
use Rattle.std.specs.List.{count_by}
use Rattle.std.proofs.lemmas.List.Sums.{sum_by-append}
use Rattle.pool_machine.specs.declared.step.Step.{Step}
use Rattle.pool_machine.specs.Seen.{SeenAnswer}
use Rattle.r2d2_core.specs.History.{History, Then, moment_of}
use Rattle.r2d2_core.specs.Deeds.{Deed, has_come, is_gone, deeds_of, deeds_in, admitted_count, connections_of}
use Rattle.r2d2_core.proofs.Histories.Kept.{gone_count}
use Rattle.r2d2_core.proofs.Histories.GoingOnes.{going, going_deeds}

module _ {T : Type 0} where
  abbrev pub come_in : List (Deed T) → ℕ
  come_in ds = count_by has_come ds

  abbrev pub gone_in : List (Deed T) → ℕ
  gone_in ds = count_by is_gone ds

  abbrev pub step_deeds : History T → Step T → SeenAnswer T → List (Deed T)
  step_deeds h s r = deeds_in (moment_of h s) s r

  pub admitted_count-then : (h : History T) (s : Step T) (r : SeenAnswer T) → admitted_count (Then h s r) ≡ admitted_count h + come_in (step_deeds h s r)
  admitted_count-then h s r = sum_by-append _ (deeds_of h) (step_deeds h s r)

  pub gone_count-then : (h : History T) (s : Step T) (r : SeenAnswer T) → gone_count (Then h s r) ≡ gone_count h + gone_in (step_deeds h s r)
  gone_count-then h s r = sum_by-append _ (deeds_of h) (step_deeds h s r)

  -- a step by which so many more come, and so many more go
  pub more_admitted : (h : History T) (s : Step T) (r : SeenAnswer T) (n : ℕ) → come_in (step_deeds h s r) ≡ n
      → admitted_count (Then h s r) ≡ admitted_count h + n
  more_admitted h s r n e = omega (arith, admitted_count-then h s r, e)

  pub more_gone : (h : History T) (s : Step T) (r : SeenAnswer T) (n : ℕ) → gone_in (step_deeds h s r) ≡ n → gone_count (Then h s r) ≡ gone_count h + n
  more_gone h s r n e = omega (arith, gone_count-then h s r, e)

  -- one by which none come, and none go
  pub none_admitted : (h : History T) (s : Step T) (r : SeenAnswer T) → come_in (step_deeds h s r) ≡ 0 → admitted_count (Then h s r) ≡ admitted_count h
  none_admitted h s r e = omega (arith, admitted_count-then h s r, e)

  pub none_gone : (h : History T) (s : Step T) (r : SeenAnswer T) → gone_in (step_deeds h s r) ≡ 0 → gone_count (Then h s r) ≡ gone_count h
  none_gone h s r e = omega (arith, gone_count-then h s r, e)

  pub connections_of-same : (h : History T) (s : Step T) (r : SeenAnswer T) → come_in (step_deeds h s r) ≡ 0 → gone_in (step_deeds h s r) ≡ 0
      → connections_of (Then h s r) ≡ connections_of h
  unfolding connections_of
  connections_of-same h s r e f = omega (arith, none_admitted h s r e, none_gone h s r f)

  -- one by which none come, and n go
  pub connections_of-less : (h : History T) (s : Step T) (r : SeenAnswer T) (n : ℕ) → come_in (step_deeds h s r) ≡ 0 → gone_in (step_deeds h s r) ≡ n
      → connections_of (Then h s r) ≡ connections_of h - n
  unfolding connections_of
  connections_of-less h s r n e f = omega (arith, none_admitted h s r e, more_gone h s r n f)

-- of many that go, none come and all go
pub going_come : (T : Type 0) {Y : Type 0} (of : Y → ℕ) (t : ℕ) (cs : List Y) → come_in (going_deeds {T = T} of t cs) ≡ 0
going_come T of t [] = refl
going_come T of t (c ∷ cs) =
    let step : come_in (going_deeds {T = T} of t (c ∷ cs)) ≡ 0 + come_in (going_deeds {T = T} of t cs) =
    sum_by-append _ (going {T = T} of t c ∷ []) (going_deeds {T = T} of t cs) in
    omega (arith, step, going_come T of t cs)

pub going_go : (T : Type 0) {Y : Type 0} (of : Y → ℕ) (t : ℕ) (cs : List Y) → gone_in (going_deeds {T = T} of t cs) ≡ length cs
going_go T of t [] = refl
going_go T of t (c ∷ cs) =
    let step : gone_in (going_deeds {T = T} of t (c ∷ cs)) ≡ 1 + gone_in (going_deeds {T = T} of t cs) =
    sum_by-append _ (going {T = T} of t c ∷ []) (going_deeds {T = T} of t cs) in
    omega (arith, step, going_go T of t cs)
