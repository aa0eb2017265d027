-- What each change of the line leaves.
use Rattle.std.proofs.Common.{◌≡◌, ℕ, ◌+◌, ◌<◌, ◌≤◌, Bool, true, false, cond, List, [], ◌∷◌, ◌++◌, length, Option, Some, None, refl, sym, subst, arith, ◌-◌}
use Rattle.std.specs.Prelude.{◌==◌}
use Rattle.std.specs.Prelude.{min, IfSome, IfNone}
use Rattle.std.proofs.lemmas.Bool.Decides.{nat_tests}
use Rattle.pool_state.specs.declared.line.place.Place.{Place}
use Rattle.pool_state.specs.declared.line.place.Standing.{Standing}
use Rattle.pool_state.specs.declared.line.place.Standing.TheVariants.{Quiet, Aside}
use Rattle.pool_state.specs.Waiting.{place, weight, waiting_in, told_ahead, ahead, told_at, weight_at, without, with_standing, told_first, told_if, told_in, copies_in, copies_of}

-- a join: who is told nothing at the end changes nothing for those before it
pub told_ahead-join : (ps : List Place) (s : ℕ) → told_ahead (ps ++ place s Quiet ∷ []) ≡ told_ahead ps
told_ahead-join [] s = refl
told_ahead-join (p ∷ ps) s = grind (arith, told_ahead-join ps s)

pub waiting_in-join : (ps : List Place) (s : ℕ) → waiting_in (ps ++ place s Quiet ∷ []) ≡ waiting_in ps + 1
waiting_in-join [] s = refl
waiting_in-join (p ∷ ps) s = omega (arith, waiting_in-join ps s)

-- a wake
pub waiting_in-tell : (ps : List Place) → waiting_in (told_first ps) ≡ waiting_in ps
waiting_in-tell [] = refl
waiting_in-tell (p ∷ ps) = grind (arith, waiting_in-tell ps)

pub told_ahead-tell : (ps : List Place) → min (told_ahead ps + 1) (waiting_in ps) ≤ told_ahead (told_first ps)
told_ahead-tell [] = omega arith
told_ahead-tell (p ∷ ps) = grind (arith, told_ahead-tell ps)

pub told_in-tell : (ps : List Place) → min (told_in ps + 1) (waiting_in ps) ≤ told_in (told_first ps)
told_in-tell [] = omega arith
told_in-tell (p ∷ ps) = grind (arith, told_in-tell ps)

-- where a caller is to be woken, one more was told, or all who wait
pub told_in-told_if : (caller : Bool) (ps : List Place) → min (told_in ps + cond caller 1 0) (waiting_in ps) ≤ told_in (told_if caller ps)
told_in-told_if true ps = told_in-tell ps
told_in-told_if false ps = omega arith

pub waiting_in-told_if : (caller : Bool) (ps : List Place) → waiting_in (told_if caller ps) ≡ waiting_in ps
waiting_in-told_if true ps = waiting_in-tell ps
waiting_in-told_if false ps = refl

pub told_in-join : (ps : List Place) (s : ℕ) → told_in (ps ++ place s Quiet ∷ []) ≡ told_in ps
told_in-join [] s = refl
told_in-join (p ∷ ps) s = omega (arith, told_in-join ps s)

pub told_in-without : (s : ℕ) (ps : List Place) → told_in ps ≡ told_in (without s ps) + cond (told_at s ps) 1 0
told_in-without s [] = refl
told_in-without s (p ∷ ps) = grind (arith, told_in-without s ps)

-- one waits on, or no more: who was told before counts as one who waits
pub told_in-quiet : (s : ℕ) (ps : List Place) → told_in ps ≤ told_in (with_standing s Quiet ps) + 1
told_in-quiet s [] = omega arith
told_in-quiet s (p ∷ ps) = grind (arith, told_in-quiet s ps)

pub told_in-quiet_less : (s : ℕ) (ps : List Place) → told_in ps + waiting_in (with_standing s Quiet ps) ≤ told_in (with_standing s Quiet ps) + waiting_in ps + 1
told_in-quiet_less s [] = omega arith
told_in-quiet_less s (p ∷ ps) = grind (arith, told_in-quiet_less s ps)

pub told_in-aside : (s : ℕ) (ps : List Place) → told_in ps ≤ told_in (with_standing s Aside ps) + 1
told_in-aside s [] = omega arith
told_in-aside s (p ∷ ps) = grind (arith, told_in-aside s ps)

pub told_in-aside_less : (s : ℕ) (ps : List Place) → told_in ps + waiting_in (with_standing s Aside ps) ≤ told_in (with_standing s Aside ps) + waiting_in ps
told_in-aside_less s [] = omega arith
told_in-aside_less s (p ∷ ps) = grind (arith, told_in-aside_less s ps)

-- one leaves
pub waiting_in-without : (s : ℕ) (ps : List Place) → waiting_in (without s ps) + weight_at s ps ≡ waiting_in ps
waiting_in-without s [] = refl
waiting_in-without s (p ∷ ps) = grind (arith, waiting_in-without s ps)

pub told_ahead-without : (s : ℕ) (ps : List Place) → told_ahead ps ≤ told_ahead (without s ps) + 1
told_ahead-without s [] = omega arith
told_ahead-without s (p ∷ ps) = grind (arith, told_ahead-without s ps)

-- one who was told nothing, or who does not wait, leaves
pub told_ahead-without_untold : (s : ℕ) (ps : List Place) → told_at s ps ≡ false → told_ahead ps ≤ told_ahead (without s ps)
told_ahead-without_untold s [] e = omega arith
told_ahead-without_untold s (p ∷ ps) e = grind (arith, told_ahead-without_untold s ps)

-- one who was told waits
pub weight_at-told : (s : ℕ) (ps : List Place) → told_at s ps ≡ true → weight_at s ps ≡ 1
weight_at-told s [] e = absurd cc
weight_at-told s (p ∷ ps) e = grind (arith, weight_at-told s ps)

pub weight_at-le : (s : ℕ) (ps : List Place) → weight_at s ps ≤ waiting_in ps
weight_at-le s [] = omega arith
weight_at-le s (p ∷ ps) = grind (arith, weight_at-le s ps)

-- one is served
pub waiting_in-served : (s : ℕ) (ps : List Place) → waiting_in (with_standing s Aside ps) + weight_at s ps ≡ waiting_in ps
waiting_in-served s [] = refl
waiting_in-served s (p ∷ ps) = grind (arith, waiting_in-served s ps)

pub told_ahead-served : (s : ℕ) (ps : List Place) → told_ahead ps ≤ told_ahead (with_standing s Aside ps) + 1
told_ahead-served s [] = omega arith
told_ahead-served s (p ∷ ps) = grind (arith, told_ahead-served s ps)

pub told_ahead-quiet : (s : ℕ) (ps : List Place) → min (told_ahead ps) (ahead s ps) ≤ told_ahead (with_standing s Quiet ps)
told_ahead-quiet s [] = omega arith
told_ahead-quiet s (p ∷ ps) = grind (arith, told_ahead-quiet s ps)

pub length-standing : (s : ℕ) (t : Standing) (ps : List Place) → length (with_standing s t ps) ≡ length ps
length-standing s t [] = refl
length-standing s t (p ∷ ps) = grind (arith, length-standing s t ps)

pub waiting_in-le : (ps : List Place) → waiting_in ps ≤ length ps
waiting_in-le [] = omega arith
waiting_in-le (p ∷ ps) = grind (arith, waiting_in-le ps)

pub copies_of-push : (xs : List ℕ) (s i : ℕ) → copies_of i (xs ++ s ∷ []) ≡ copies_of i xs + (cond (s == i) 1 0)
copies_of-push [] s i = omega arith
copies_of-push (x ∷ xs) s i = omega (arith, copies_of-push xs s i)

pub waiting_in-standing : (s : ℕ) (t : Standing) (ps : List Place) → 0 < copies_in s ps → waiting_in (with_standing s t ps) + weight_at s ps ≡ waiting_in ps + weight t
waiting_in-standing s t [] e = absurd (omega arith)
waiting_in-standing s t (p ∷ ps) e = grind (arith, waiting_in-standing s t ps)

pub copies_of-same : (xs : List ℕ) (s : ℕ) → copies_of s (xs ++ s ∷ []) ≡ copies_of s xs + 1
copies_of-same [] s = grind arith
copies_of-same (x ∷ xs) s = grind (arith, copies_of-same xs s)

pub weight_at-one : (s : ℕ) (ps : List Place) → weight_at s ps ≤ 1
weight_at-one s [] = omega arith
weight_at-one s (p ∷ ps) = grind (arith, weight_at-one s ps)

-- what one who waits no more takes from those who were told
pub told_ahead-served_by : (s : ℕ) (ps : List Place) → told_ahead ps ≤ told_ahead (with_standing s Aside ps) + weight_at s ps
told_ahead-served_by s [] = omega arith
told_ahead-served_by s (p ∷ ps) = grind (arith, told_ahead-served_by s ps)

pub ahead-le : (s : ℕ) (ps : List Place) → ahead s ps ≤ waiting_in ps
ahead-le s [] = omega arith
ahead-le s (p ∷ ps) = grind (arith, ahead-le s ps)

pub waiting_in-quiet_le : (s : ℕ) (ps : List Place) → waiting_in (with_standing s Quiet ps) ≤ waiting_in ps + 1
waiting_in-quiet_le s [] = omega arith
waiting_in-quiet_le s (p ∷ ps) = grind (arith, waiting_in-quiet_le s ps)

-- slots that are made
pub push_apart : (xs : List ℕ) (n s : ℕ) → copies_of s xs ≤ 1 → (n ≤ s → copies_of s xs ≡ 0) → copies_of s (xs ++ n ∷ []) ≤ 1
push_apart xs n s a b = grind (arith, nat_tests, copies_of-push xs n s)

pub push_below : (xs : List ℕ) (n s : ℕ) → n + 1 ≤ s → (n ≤ s → copies_of s xs ≡ 0) → copies_of s (xs ++ n ∷ []) ≡ 0
push_below xs n s lt b = grind (arith, nat_tests, copies_of-push xs n s)

pub kept_join : (idle : ℕ) (ps : List Place) (s : ℕ) → idle ≤ waiting_in ps → min idle (waiting_in ps) ≤ told_ahead ps → min idle (waiting_in (ps ++ place s Quiet ∷ [])) ≤ told_ahead (ps ++ place s Quiet ∷ [])
kept_join idle ps s le h = omega (arith, told_ahead-join ps s, waiting_in-join ps s)

pub kept_served : (idle : ℕ) (s : ℕ) (ps : List Place) → min idle (waiting_in ps) ≤ told_ahead ps → min (idle - 1) (waiting_in (with_standing s Aside ps)) ≤ told_ahead (with_standing s Aside ps)
kept_served idle s ps h = omega (arith, told_ahead-served_by s ps, waiting_in-served s ps, told_ahead-served s ps, weight_at-one s ps)

pub kept_passed : (idle : ℕ) (s : ℕ) (ps : List Place) → min idle (waiting_in ps) ≤ told_ahead ps → min idle (waiting_in (told_first (with_standing s Aside ps))) ≤ told_ahead (told_first (with_standing s Aside ps))
kept_passed idle s ps h =
    let ws = with_standing s Aside ps in
    omega (arith, told_ahead-tell ws, waiting_in-tell ws, told_ahead-served s ps, waiting_in-served s ps)

pub kept_quiet : (idle : ℕ) (s : ℕ) (ps : List Place) → idle ≤ ahead s ps → min idle (waiting_in ps) ≤ told_ahead ps → min idle (waiting_in (with_standing s Quiet ps)) ≤ told_ahead (with_standing s Quiet ps)
kept_quiet idle s ps le h = omega (arith, told_ahead-quiet s ps, ahead-le s ps, waiting_in-quiet_le s ps)

pub kept_left_told : (idle : ℕ) (s : ℕ) (ps : List Place) → told_at s ps ≡ true → min idle (waiting_in ps) ≤ told_ahead ps → min idle (waiting_in (told_first (without s ps))) ≤ told_ahead (told_first (without s ps))
kept_left_told idle s ps e h = omega (arith, told_ahead-tell (without s ps), waiting_in-tell (without s ps), told_ahead-without s ps, waiting_in-without s ps, weight_at-told s ps e)

pub kept_left : (idle : ℕ) (s : ℕ) (ps : List Place) → told_at s ps ≡ false → min idle (waiting_in ps) ≤ told_ahead ps → min idle (waiting_in (without s ps)) ≤ told_ahead (without s ps)
kept_left idle s ps e h = omega (arith, told_ahead-without_untold s ps e, waiting_in-without s ps)

pub kept_joined : (idle : ℕ) (ps qs : List Place) (r : Option ℕ) → IfSome r (λ s. qs ≡ ps ++ place s Quiet ∷ []) → IfNone r (qs ≡ ps) → idle ≤ waiting_in ps → min idle (waiting_in ps) ≤ told_ahead ps → min idle (waiting_in qs) ≤ told_ahead qs
kept_joined idle ps qs (Some s) joined full le h = let P : List Place → Type 0 = λ xs. min idle (waiting_in xs) ≤ told_ahead xs in subst P (sym joined) (kept_join idle ps s le h)
kept_joined idle ps qs None joined full le h = let P : List Place → Type 0 = λ xs. min idle (waiting_in xs) ≤ told_ahead xs in subst P (sym full) h
