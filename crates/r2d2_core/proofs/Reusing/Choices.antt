-- Why lending the newest leaves at least as many old moments as any other choice, and lending the oldest at most as many.
use Rattle.std.proofs.Common.{◌≡◌, ℕ, suc, ◌+◌, ◌-◌, ◌≤◌, ◌<◌, max, Bool, true, false, cond, ltb, leb, List, [], ◌∷◌, ◌++◌, length, get_or, take, drop, Option}
use Rattle.std.proofs.Common.{Some, None, refl, ap, arith, length-take, length-drop}
use Rattle.std.specs.List.{count_by, remove}
use Rattle.std.specs.List.Sorted.{IsNonDecreasing}
use Rattle.std.specs.Option.{option_and_then, IfSome}
use Rattle.std.specs.Duration.{as_nanos}
use Rattle.std.specs.declared.time.Duration.{Duration}
use Rattle.std.proofs.lemmas.Bool.Decides.{nat_tests}
use Rattle.std.proofs.lemmas.List.{get_or_default, get_or-map, take_all, get_or-take, length_push, length-map, get_or_push}
use Rattle.std.proofs.lemmas.List.Edits.{length-remove}
use Rattle.std.proofs.lemmas.List.Sums.{count_by-le-length, count_by_more_no, sum_by-cons, sum_by-remove, sum_by_push}
use Rattle.std.proofs.lemmas.List.Sorted.{IsNonDecreasingBy-take, IsNonDecreasingBy-drop, IsNonDecreasingBy-push}
use Rattle.r2d2_core.specs.declared.reuse.Move.{Move}
use Rattle.r2d2_core.specs.declared.reuse.Move.TheVariants as move
use Rattle.pool_machine.specs.declared.schedule.limits.LendingOrder.TheVariants as lending
use Rattle.pool_machine.specs.Ids.{front}
use Rattle.r2d2_core.specs.Reuse.{IsSorted, first_seen, order_left, other_left, Picked, picked, after_pick, moments_of, newest_list, oldest_list, other_list}
use Rattle.r2d2_core.specs.Reuse.{IsBetween}

-- a test that an earlier moment passes where a later one does
pub record IsForOld (p : ℕ → Bool) : Type 0 where
  pub holds : (a b : ℕ) → a ≤ b → p b ≡ true → p a ≡ true

-- the last moment is at most the one seen
pub record IsSeen (seen : ℕ) (xs : List ℕ) : Type 0 where
  pub holds : (d : ℕ) → 0 < length xs → get_or xs (length xs - 1) d ≤ seen

count_all : {X : Type 0} (p : X → Bool) (xs : List X) → ((k : ℕ) (d : X) → k < length xs → p (get_or xs k d) ≡ true) → count_by p xs ≡ length xs
count_all p [] h = refl
count_all p (x ∷ xs) h =
    let here : p x ≡ true = h 0 x (omega arith) in
    let rest : count_by p xs ≡ length xs = count_all p xs (λ k d lt. h (suc k) d (omega arith)) in
    let one : ℕ = 1 in
    let none : ℕ = 0 in
    let step : count_by p (x ∷ xs) ≡ cond (p x) one none + count_by p xs = sum_by-cons (λ y. cond (p y) 1 0) x xs in
    let is : cond (p x) one none ≡ one = rw here refl in
    omega (arith, rest, step, is)

-- of a list in order without its last one: as many pass as of the whole list, or all
count_by-front : (p : ℕ → Bool) → IsForOld p → (xs : List ℕ) → IsNonDecreasing xs → (m : ℕ) → m ≤ length xs - 1 → m ≤ count_by p xs → m ≤ count_by p (front xs)
count_by-front p old [] order m short few = few
count_by-front p old (x ∷ rest) order m short few =
    let xs : List ℕ = x ∷ rest in
    let n : ℕ = length xs - 1 in
    let go : (b : Bool) → p (get_or xs n x) ≡ b → m ≤ count_by p (take n xs) =
    λ b e. elim b as (λ b. p (get_or xs n x) ≡ b → m ≤ count_by p (take n xs)) [
      | true ↦ λ e.
          let len : length (take n xs) ≡ n = rw length-take (omega arith) in
          let all : count_by p (take n xs) ≡ length (take n xs) =
          count_all p (take n xs) (λ k q lt.
          let below : k < n = omega arith in
          let last : get_or xs n q ≡ get_or xs n x = get_or_default xs n q x (omega arith) in
          rw (get_or-take n xs k q below) (old.holds (get_or xs k q) (get_or xs n q) (order k n q (omega arith) (omega arith)) (rw last e))) in
          omega arith
      | false ↦ λ e.
          let whole : take (n + 1) xs ≡ xs = take_all (n + 1) xs (omega arith) in
          let same : count_by p (take (n + 1) xs) ≡ count_by p (take n xs) = count_by_more_no p xs n x (omega arith) e in
          omega (arith, same, ap (count_by p) whole)
    ] e in
    go (p (get_or xs n x)) refl

count_none : {X : Type 0} (p : X → Bool) (xs : List X) → ((k : ℕ) (d : X) → k < length xs → p (get_or xs k d) ≡ false) → count_by p xs ≡ 0
count_none p [] h = refl
count_none p (x ∷ xs) h =
    let here : p x ≡ false = h 0 x (omega arith) in
    let rest : count_by p xs ≡ 0 = count_none p xs (λ k d lt. h (suc k) d (omega arith)) in
    let one : ℕ = 1 in
    let none : ℕ = 0 in
    let step : count_by p (x ∷ xs) ≡ cond (p x) one none + count_by p xs = sum_by-cons (λ y. cond (p y) 1 0) x xs in
    let is : cond (p x) one none ≡ none = rw here refl in
    omega (arith, rest, step, is)

-- where an earlier moment fails, a later one does
no_later : (p : ℕ → Bool) → IsForOld p → (a b : ℕ) (c : Bool) → a ≤ b → p a ≡ false → p b ≡ c → c ≡ false
no_later p old a b true le fails is = let hit : p a ≡ true = old.holds a b le is in absurd cc
no_later p old a b false le fails is = refl

-- of a list in order without its first one: one fewer passes, or none
count_by-rest : (p : ℕ → Bool) → IsForOld p → (xs : List ℕ) → IsNonDecreasing xs → (m : ℕ) → count_by p xs ≤ m + 1 → count_by p (drop 1 xs) ≤ m
count_by-rest p old [] order m few = omega arith
count_by-rest p old (x ∷ xs) order m few =
    let one : ℕ = 1 in
    let none : ℕ = 0 in
    let step : count_by p (x ∷ xs) ≡ cond (p x) one none + count_by p xs = sum_by-cons (λ y. cond (p y) 1 0) x xs in
    let go : (b : Bool) → p x ≡ b → count_by p xs ≤ m =
    λ b e. elim b as (λ b. p x ≡ b → count_by p xs ≤ m) [
      | true ↦ λ e. let is : cond (p x) one none ≡ one = rw e refl in omega (arith, step, is, few)
      | false ↦ λ e.
          let all : count_by p xs ≡ none =
          count_none p xs (λ k d lt. no_later p old x (get_or xs k d) (p (get_or xs k d)) (order 0 (suc k) d (omega arith) (omega arith)) e refl) in
          omega (arith, all)
    ] e in
    go (p x) refl

at_most_one : (b : Bool) → cond b 1 0 ≤ 1
at_most_one true = omega arith
at_most_one false = omega arith

count_by-remove : {X : Type 0} (p : X → Bool) (xs : List X) (i : ℕ) (d : X) → i < length xs → count_by p (remove xs i) ≤ count_by p xs
count_by-remove p xs i d lt = omega (arith, sum_by-remove (λ x. cond (p x) 1 0) xs i d lt)

count_by-removed : {X : Type 0} (p : X → Bool) (xs : List X) (i : ℕ) (d : X) → i < length xs → count_by p xs ≤ count_by p (remove xs i) + 1
count_by-removed p xs i d lt =
    let one : ℕ = 1 in
    let none : ℕ = 0 in
    let gone : count_by p (remove xs i) + cond (p (get_or xs i d)) one none ≡ count_by p xs = sum_by-remove (λ x. cond (p x) 1 0) xs i d lt in
    let few : cond (p (get_or xs i d)) one none ≤ one = at_most_one (p (get_or xs i d)) in
    omega (arith, gone, few)

-- what is left of a list by a pick: one fewer, and none of them new
record IsLess (before after : List ℕ) : Type 0 where
  shorter : length after ≡ length before - 1
  fewer : (p : ℕ → Bool) → count_by p after ≤ count_by p before
  by_one : (p : ℕ → Bool) → count_by p before ≤ count_by p after + 1

picked_less : (x : ℕ) (xs : List ℕ) (pick : ℕ) (picks : List ℕ) (b : Bool) → ltb pick (length (x ∷ xs)) ≡ b → (after : Picked)
    → cond b (Some (picked (remove (x ∷ xs) pick) picks)) None ≡ Some after → IsLess (x ∷ xs) after.kept
picked_less x xs pick picks false is after e = absurd cc
picked_less x xs pick picks true is after e =
    let within : pick < length (x ∷ xs) = grind (arith, nat_tests) in
    let kept : remove (x ∷ xs) pick ≡ after.kept = cc in
    let short : length (remove (x ∷ xs) pick) + 1 ≡ length (x ∷ xs) = length-remove (x ∷ xs) pick within in
    rw (← kept) (record {
      shorter = omega (arith, short);
      fewer = λ p. count_by-remove p (x ∷ xs) pick x within;
      by_one = λ p. count_by-removed p (x ∷ xs) pick x within;
    })

after_pick_less : (kept picks : List ℕ) (after : Picked) → after_pick kept picks ≡ Some after → IsLess kept after.kept
after_pick_less [] picks after e =
    let none : [] ≡ after.kept = cc in
    rw (← none) (record { shorter = refl; fewer = λ p. omega arith; by_one = λ p. omega arith })
after_pick_less (x ∷ xs) [] after e = absurd cc
after_pick_less (x ∷ xs) (pick ∷ picks) after e = picked_less x xs pick picks (ltb pick (length (x ∷ xs))) refl after e

and_then_some : {X Y : Type 0} (f : X → Option Y) (o : Option X) (y : Y) → option_and_then f o ≡ Some y → (x : X) × (o ≡ Some x) × (f x ≡ Some y)
and_then_some f None y e = absurd cc
and_then_some f (Some x) y e = (x, refl, e)

seen_front : (seen moment : ℕ) (xs : List ℕ) → IsNonDecreasing xs → IsSeen seen xs → IsSeen (max seen moment) (front xs)
seen_front seen moment xs order last = record {
  holds = λ d some.
      let n : ℕ = length xs - 1 in
      let len : length (take n xs) ≡ n = rw length-take (omega arith) in
      let below : n - 1 < n = omega arith in
      let here : get_or (take n xs) (n - 1) d ≡ get_or xs (n - 1) d = get_or-take n xs (n - 1) d below in
      let up : get_or xs (n - 1) d ≤ get_or xs n d = order (n - 1) n d (omega arith) (omega arith) in
      let top : get_or xs n d ≤ seen = last.holds d (omega arith) in
      rw (len, here) (omega (arith, up, top));
}

seen_rest : (seen moment : ℕ) (xs : List ℕ) → IsSeen seen xs → IsSeen (max seen moment) (drop 1 xs)
seen_rest seen moment [] last = record { holds = λ d some. absurd (omega arith) }
seen_rest seen moment (x ∷ []) last = record { holds = λ d some. absurd (omega arith) }
seen_rest seen moment (x ∷ y ∷ xs) last = record {
  holds = λ d some.
      let top : get_or (x ∷ y ∷ xs) (length (x ∷ y ∷ xs) - 1) d ≤ seen = last.holds d (omega arith) in
      let place : length (x ∷ y ∷ xs) - 1 ≡ suc (length xs) = omega arith in
      let place' : length (y ∷ xs) - 1 ≡ length xs = omega arith in
      let top' : get_or (x ∷ y ∷ xs) (suc (length xs)) d ≤ seen = rw (← place) top in
      rw place' (omega (arith, top'));
}

seen_push : (moment : ℕ) (xs : List ℕ) → IsSeen moment (xs ++ moment ∷ [])
seen_push moment xs = record {
  holds = λ d some.
      let len : length (xs ++ moment ∷ []) - 1 ≡ length xs = omega (arith, length_push xs moment) in
      let is : get_or (xs ++ moment ∷ []) (length xs) d ≡ moment = get_or_push xs moment d (length xs) refl in
      rw (len, is) (omega arith);
}

-- the first list is in order and as long as the second, and at least as many of it pass
record IsAhead (p : ℕ → Bool) (seen : ℕ) (newest other : List ℕ) : Type 0 where
  order : IsNonDecreasing newest
  last : IsSeen seen newest
  same : length newest ≡ length other
  few : count_by p other ≤ count_by p newest

ahead_take : (p : ℕ → Bool) → IsForOld p → (seen moment : ℕ) (newest other after : List ℕ) → IsAhead p seen newest other → IsLess other after
    → IsAhead p (max seen moment) (front newest) after
ahead_take p old seen moment newest other after ahead less = record {
  order = IsNonDecreasingBy-take (λ x. x) (length newest - 1) newest ahead.order;
  last = seen_front seen moment newest ahead.order ahead.last;
  same = rw length-take (omega (arith, ahead.same, less.shorter));
  few = count_by-front p old newest ahead.order (count_by p after)
      (omega (arith, count_by-le-length p after, less.shorter, ahead.same)) (omega (arith, less.fewer p, ahead.few));
}

ahead_add : (p : ℕ → Bool) (seen moment : ℕ) (newest other : List ℕ) → IsAhead p seen newest other → seen ≤ moment
    → IsAhead p moment (newest ++ moment ∷ []) (other ++ moment ∷ [])
ahead_add p seen moment newest other ahead later = record {
  order = IsNonDecreasingBy-push (λ x. x) newest moment ahead.order (λ d some. omega (arith, ahead.last.holds d some, later));
  last = seen_push moment newest;
  same = omega (arith, length_push newest moment, length_push other moment, ahead.same);
  few = omega (arith, ahead.few, sum_by_push (λ x. cond (p x) 1 0) newest moment, sum_by_push (λ x. cond (p x) 1 0) other moment);
}

-- whatever the picks, at least as many of the first list pass
at_least : (p : ℕ → Bool) → IsForOld p → (moves : List Move) (seen : ℕ) (newest : List ℕ) (other : Picked) (left : List ℕ) → IsAhead p seen newest other.kept
    → other_left seen other moves ≡ Some left → count_by p left ≤ count_by p (order_left lending.NewestFirst seen newest moves)
at_least p old [] seen newest other left ahead e =
    let is : other.kept ≡ left = cc in rw (← is) ahead.few
at_least p old (move.Take at ∷ moves) seen newest other left ahead e =
    let t : ℕ = max seen (as_nanos at) in
    let h : (after : Picked) × (after_pick other.kept other.picks ≡ Some after) × (other_left t after moves ≡ Some left) =
    and_then_some (λ after. other_left t after moves) (after_pick other.kept other.picks) left e in
    at_least p old moves t (front newest) h.0 left (ahead_take p old seen (as_nanos at) newest other.kept h.0.kept ahead
    (after_pick_less other.kept other.picks h.0 h.1)) h.2
at_least p old (move.Add at ∷ moves) seen newest other left ahead e =
    let t : ℕ = max seen (as_nanos at) in
    at_least p old moves t (newest ++ t ∷ []) (picked (other.kept ++ t ∷ []) other.picks) left
    (ahead_add p seen t newest other.kept ahead (omega arith)) e

-- a list is in order and as long as another, and at most as many of it pass
record IsBehind (p : ℕ → Bool) (seen : ℕ) (oldest other : List ℕ) : Type 0 where
  order : IsNonDecreasing oldest
  last : IsSeen seen oldest
  same : length oldest ≡ length other
  few : count_by p oldest ≤ count_by p other

behind_take : (p : ℕ → Bool) → IsForOld p → (seen moment : ℕ) (oldest other after : List ℕ) → IsBehind p seen oldest other → IsLess other after
    → IsBehind p (max seen moment) (drop 1 oldest) after
behind_take p old seen moment oldest other after behind less = record {
  order = IsNonDecreasingBy-drop (λ x. x) 1 oldest behind.order;
  last = seen_rest seen moment oldest behind.last;
  same = omega (arith, length-drop 1 oldest, behind.same, less.shorter);
  few = count_by-rest p old oldest behind.order (count_by p after) (omega (arith, behind.few, less.by_one p));
}

behind_add : (p : ℕ → Bool) (seen moment : ℕ) (oldest other : List ℕ) → IsBehind p seen oldest other → seen ≤ moment
    → IsBehind p moment (oldest ++ moment ∷ []) (other ++ moment ∷ [])
behind_add p seen moment oldest other behind later = record {
  order = IsNonDecreasingBy-push (λ x. x) oldest moment behind.order (λ d some. omega (arith, behind.last.holds d some, later));
  last = seen_push moment oldest;
  same = omega (arith, length_push oldest moment, length_push other moment, behind.same);
  few = omega (arith, behind.few, sum_by_push (λ x. cond (p x) 1 0) oldest moment, sum_by_push (λ x. cond (p x) 1 0) other moment);
}

-- whatever the picks, at most as many pass of the list that lends the oldest
at_most : (p : ℕ → Bool) → IsForOld p → (moves : List Move) (seen : ℕ) (oldest : List ℕ) (other : Picked) (left : List ℕ) → IsBehind p seen oldest other.kept
    → other_left seen other moves ≡ Some left → count_by p (order_left lending.OldestFirst seen oldest moves) ≤ count_by p left
at_most p old [] seen oldest other left behind e =
    let is : other.kept ≡ left = cc in rw (← is) behind.few
at_most p old (move.Take at ∷ moves) seen oldest other left behind e =
    let t : ℕ = max seen (as_nanos at) in
    let h : (after : Picked) × (after_pick other.kept other.picks ≡ Some after) × (other_left t after moves ≡ Some left) =
    and_then_some (λ after. other_left t after moves) (after_pick other.kept other.picks) left e in
    at_most p old moves t (drop 1 oldest) h.0 left (behind_take p old seen (as_nanos at) oldest other.kept h.0.kept behind
    (after_pick_less other.kept other.picks h.0 h.1)) h.2
at_most p old (move.Add at ∷ moves) seen oldest other left behind e =
    let t : ℕ = max seen (as_nanos at) in
    at_most p old moves t (oldest ++ t ∷ []) (picked (other.kept ++ t ∷ []) other.picks) left
    (behind_add p seen t oldest other.kept behind (omega arith)) e

non_decreasing-moments : (idle : List Duration) → IsSorted idle → IsNonDecreasing (moments_of idle)
non_decreasing-moments idle order i j d le lt =
    let z : Duration = record { secs = 0; nanos = 0 } in
    let len : length (moments_of idle) ≡ length idle = length-map idle as_nanos in
    let a : get_or (moments_of idle) i d ≡ as_nanos (get_or idle i z) = get_or-map as_nanos idle i z d (omega arith) in
    let b : get_or (moments_of idle) j d ≡ as_nanos (get_or idle j z) = get_or-map as_nanos idle j z d (omega arith) in
    rw (a, b) (order.never_falls i j z le (omega arith))

first_is_seen : (xs : List ℕ) → IsSeen (first_seen xs) xs
first_is_seen xs = record {
  holds = λ d some.
      let is : get_or xs (length xs - 1) d ≡ get_or xs (length xs - 1) 0 = get_or_default xs (length xs - 1) d 0 (omega arith) in
      rw is (omega arith);
}

-- the same of whole comparisons
pub at_least_left : (p : ℕ → Bool) → IsForOld p → (idle : List Duration) (moves : List Move) (picks : List ℕ) (left : List ℕ) → IsSorted idle
    → other_list idle moves picks ≡ Some left → count_by p left ≤ count_by p (newest_list idle moves)
at_least_left p old idle moves picks left order e =
    at_least p old moves (first_seen (moments_of idle)) (moments_of idle) (picked (moments_of idle) picks) left
    (record { order = non_decreasing-moments idle order; last = first_is_seen (moments_of idle); same = refl; few = omega arith }) e

pub at_most_left : (p : ℕ → Bool) → IsForOld p → (idle : List Duration) (moves : List Move) (picks : List ℕ) (left : List ℕ) → IsSorted idle
    → other_list idle moves picks ≡ Some left → count_by p (oldest_list idle moves) ≤ count_by p left
at_most_left p old idle moves picks left order e =
    at_most p old moves (first_seen (moments_of idle)) (moments_of idle) (picked (moments_of idle) picks) left
    (record { order = non_decreasing-moments idle order; last = first_is_seen (moments_of idle); same = refl; few = omega arith }) e

pub not_after_is_for_old : (x : ℕ) → IsForOld (λ moment. leb moment x)
not_after_is_for_old x = record { holds = λ a b le is. grind (arith, nat_tests) }

pub expired_is_for_old : (now limit : ℕ) → IsForOld (λ moment. leb limit (now - moment))
expired_is_for_old now limit = record { holds = λ a b le is. grind (arith, nat_tests) }

if_some : {X : Type 0} (P : X → Type 0) (o : Option X) → ((x : X) → o ≡ Some x → P x) → IfSome o P
if_some P None h = tt
if_some P (Some x) h = h x refl

pub between : (idle : List Duration) (moves : List Move) (picks : List ℕ) → IsSorted idle
    → IfSome (other_list idle moves picks) (IsBetween (oldest_list idle moves) (newest_list idle moves))
between idle moves picks order =
    if_some (IsBetween (oldest_list idle moves) (newest_list idle moves)) (other_list idle moves picks)
    (λ left e. (
      λ x. at_most_left _ (not_after_is_for_old x) idle moves picks left order e,
      λ x. at_least_left _ (not_after_is_for_old x) idle moves picks left order e,
    ))
