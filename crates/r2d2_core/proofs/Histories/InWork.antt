-- How many openings are in work, for each number of tries.
use Rattle.std.proofs.Common.{◌≡◌, ◌≢◌, ℕ, ◌+◌, ◌-◌, ◌<◌, ◌≤◌, Bool, true, false, cond, ◌==◌, map, length, get_or, refl, sym, ◌∙◌, ap, arith, length-set}
use Rattle.std.proofs.Common.{get_or-set_same, get_or-set_other, ext_get_or}
use Rattle.std.specs.Prelude.{slice_index, slice_set, nat_lt, if◌then◌else◌}
use Rattle.std.specs.List.{range_with_len}
use Rattle.std.proofs.lemmas.List.{get_or_past}
use Rattle.std.proofs.lemmas.List.FromFn.{length-map-range_with_len, get_or-map-range_with_len}
use Rattle.std.proofs.lemmas.Bool.{eq-eqb, ne_eqb, eqb-true, eqb-false, ltb-true, ltb-false}
use Rattle.pool_machine.specs.Openings.{one_more, one_less}
use Rattle.r2d2_core.specs.History.{History, is_closed}
use Rattle.r2d2_core.specs.Pending.{begun_of, ended_of, in_work_at, in_work_of}
use Rattle.r2d2_core.specs.Answers.{is_in_work}
use Rattle.r2d2_core.proofs.Histories.Kept.{IsKept}

-- the two counts differ at one place
map_changed : (f g : ℕ → ℕ) (n k v : ℕ) → (k < n → g k ≡ v) → ((j : ℕ) → j ≢ k → g j ≡ f j)
    → map g (range_with_len 0 n) ≡ slice_set (map f (range_with_len 0 n)) k v
map_changed f g n k v here other =
    let long : length (map g (range_with_len 0 n)) ≡ n = length-map-range_with_len g 0 n in
    let was : length (map f (range_with_len 0 n)) ≡ n = length-map-range_with_len f 0 n in
    ext_get_or 0 (map g (range_with_len 0 n)) (slice_set (map f (range_with_len 0 n)) k v)
    (long ∙ sym (length-set (map f (range_with_len 0 n)) k v ∙ was))
    (λ i lt. at i (omega arith) was (i == k) refl) where
      at : (i : ℕ) → i < n → length (map f (range_with_len 0 n)) ≡ n → (b : Bool) → (i == k) ≡ b
          → get_or (map g (range_with_len 0 n)) i 0 ≡ get_or (slice_set (map f (range_with_len 0 n)) k v) i 0
      at i lt was true is =
          let same : i ≡ k = eqb-true i k is in
          rw same (get_or-map-range_with_len g 0 n k k 0 (omega arith) (omega arith) ∙ here (omega arith)
          ∙ sym (get_or-set_same (map f (range_with_len 0 n)) k v 0 (omega arith)))
      at i lt was false is =
          let ne : i ≢ k = eqb-false i k is in
          get_or-map-range_with_len g 0 n i i 0 lt (omega arith) ∙ (other i ne
          ∙ sym (get_or-set_other (map f (range_with_len 0 n)) k i v 0 ne ∙ get_or-map-range_with_len f 0 n i i 0 lt (omega arith)))

work_more : (closed here : Bool) (begun ended : ℕ) → closed ≡ false → here ≡ true → ended ≤ begun
    → cond closed 0 (begun + cond here 1 0 - ended) ≡ cond closed 0 (begun - ended) + 1
work_more true here begun ended e is le = absurd cc
work_more false true begun ended e is le = omega arith
work_more false false begun ended e is le = absurd cc

work_less : (closed here : Bool) (begun ended : ℕ) → here ≡ true → cond closed 0 (begun - (ended + cond here 1 0)) ≡ cond closed 0 (begun - ended) - 1
work_less true here begun ended is = omega arith
work_less false true begun ended is = omega arith
work_less false false begun ended is = absurd cc

work_others : (closed here : Bool) (begun ended : ℕ) → here ≡ false → cond closed 0 (begun + cond here 1 0 - ended) ≡ cond closed 0 (begun - ended)
work_others closed true begun ended is = absurd cc
work_others true false begun ended is = refl
work_others false false begun ended is = omega arith

ended_others : (closed here : Bool) (begun ended : ℕ) → here ≡ false → cond closed 0 (begun - (ended + cond here 1 0)) ≡ cond closed 0 (begun - ended)
ended_others closed true begun ended is = absurd cc
ended_others true false begun ended is = refl
ended_others false false begun ended is = omega arith

none_begun : (closed : Bool) (begun ended : ℕ) → begun ≡ 0 → cond closed 0 (begun - ended) ≡ 0
none_begun true begun ended e = refl
none_begun false begun ended e = omega arith

ended_step : (closed here : Bool) (tries k : ℕ) (begun ended : ℕ → ℕ) → (tries == k) ≡ here → closed ≡ false → 0 < cond closed 0 (begun tries - ended tries)
    → ended k ≤ begun k → ended k + cond here 1 0 ≤ begun k
ended_step true here tries k begun ended is e some le = absurd cc
ended_step false true tries k begun ended is e some le = let same : tries ≡ k = eqb-true tries k is in let more : 0 < begun k - ended k = rw (← same) some in
    omega arith
ended_step false false tries k begun ended is e some le = omega arith

module _ {T : Type 0} where
  pub length-in_work_of : (h : History T) → length (in_work_of h) ≡ 100
  unfolding in_work_of
  length-in_work_of h = length-map-range_with_len (in_work_at h) 0 100

  pub slice_index-in_work_below : (h : History T) (k : ℕ) → k < 100 → slice_index (in_work_of h) k ≡ in_work_at h k
  unfolding in_work_of
  slice_index-in_work_below h k lt = get_or-map-range_with_len (in_work_at h) 0 100 k k 0 lt (omega arith)

  -- no opening has more tries than 99
  pub in_work_at_past : (h : History T) (k : ℕ) → IsKept h → 100 ≤ k → in_work_at h k ≡ 0
  unfolding in_work_at
  in_work_at_past h k kept past = none_begun (is_closed h) (begun_of h k) (ended_of h k) (kept.few_tries k past)

  pub slice_index-in_work_of : (h : History T) (k : ℕ) → IsKept h → slice_index (in_work_of h) k ≡ in_work_at h k
  slice_index-in_work_of h k kept = by (nat_lt k 100) refl where
    by : (b : Bool) → nat_lt k 100 ≡ b → slice_index (in_work_of h) k ≡ in_work_at h k
    by true is = slice_index-in_work_below h k (ltb-true k 100 is)
    by false is = get_or_past (in_work_of h) k 0 (omega (arith, length-in_work_of h, ltb-false k 100 is)) ∙ sym (in_work_at_past h k kept (ltb-false k 100 is))

  -- one more was begun
  pub in_work_of-one_more : (h g : History T) (k : ℕ) → is_closed h ≡ false → is_closed g ≡ is_closed h → ended_of h k ≤ begun_of h k
      → ((j : ℕ) → begun_of g j ≡ begun_of h j + (if k == j then 1 else 0)) → ((j : ℕ) → ended_of g j ≡ ended_of h j)
      → in_work_of g ≡ one_more k (in_work_of h)
  unfolding in_work_of in_work_at
  in_work_of-one_more h g k is_open still le begun ended =
      let counted : (j : ℕ) → in_work_at g j ≡ cond (is_closed h) 0 (begun_of h j + cond (k == j) 1 0 - ended_of h j) = λ j. rw
      (still, begun j, ended j) refl in
      map_changed (in_work_at h) (in_work_at g) 100 k (slice_index (in_work_of h) k + 1)
      (λ lt. counted k ∙ (work_more (is_closed h) (k == k) (begun_of h k) (ended_of h k) is_open (eq-eqb k k refl) le
      ∙ ap (λ n. n + 1) (sym (slice_index-in_work_below h k lt))))
      (λ j ne. counted j ∙ work_others (is_closed h) (k == j) (begun_of h j) (ended_of h j) (ne_eqb k j (λ e. ne (sym e))))

  -- one ended: it was numbered, or failed
  pub in_work_of-one_less : (h g : History T) (k : ℕ) → is_closed g ≡ is_closed h
      → ((j : ℕ) → begun_of g j ≡ begun_of h j) → ((j : ℕ) → ended_of g j ≡ ended_of h j + (if k == j then 1 else 0))
      → in_work_of g ≡ one_less k (in_work_of h)
  unfolding in_work_of in_work_at
  in_work_of-one_less h g k still begun ended =
      let counted : (j : ℕ) → in_work_at g j ≡ cond (is_closed h) 0 (begun_of h j - (ended_of h j + cond (k == j) 1 0)) = λ j. rw
      (still, begun j, ended j) refl in
      map_changed (in_work_at h) (in_work_at g) 100 k (slice_index (in_work_of h) k - 1)
      (λ lt. counted k ∙ (work_less (is_closed h) (k == k) (begun_of h k) (ended_of h k) (eq-eqb k k refl)
      ∙ ap (λ n. n - 1) (sym (slice_index-in_work_below h k lt))))
      (λ j ne. counted j ∙ ended_others (is_closed h) (k == j) (begun_of h j) (ended_of h j) (ne_eqb k j (λ e. ne (sym e))))

  -- the test of the history is that of what is on order
  pub is_in_work-on_order : (h : History T) (tries : ℕ) → IsKept h → is_in_work h tries ≡ nat_lt 0 (slice_index (in_work_of h) tries)
  is_in_work-on_order h tries kept = ap (nat_lt 0) (sym (slice_index-in_work_of h tries kept))

  -- where one is in work, fewer ended than were begun
  pub ended_fits : (h : History T) (tries : ℕ) → is_closed h ≡ false → is_in_work h tries ≡ true → IsKept h → (k : ℕ)
      → ended_of h k + (if tries == k then 1 else 0) ≤ begun_of h k
  unfolding in_work_at
  ended_fits h tries is_open working kept k =
      let some : 0 < cond (is_closed h) 0 (begun_of h tries - ended_of h tries) = ltb-true 0 _ working in
      ended_step (is_closed h) (tries == k) tries k (begun_of h) (ended_of h) refl is_open some (kept.ended_were_begun k)
