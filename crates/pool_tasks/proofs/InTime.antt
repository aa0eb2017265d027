-- No worker sleeps past what is due: each step leaves what is on order as it was, or has every worker woken, or hands out what is due first.
use Rattle.std.proofs.Common.{◌≡◌, ◌≢◌, ◌≤◌, ℕ, zero, suc, ◌+◌, Bool, true, false, List, [], ◌∷◌, Option, Some, None, ◌⊎◌, inl, inr, refl, sym, ◌∙◌, ap, subst, arith, cond}
use Rattle.std.specs.Prelude.{◌<◌, min, nat_le, nat_lt, drop, length, slice_index_or, IfSome, IsSomeAnd, IsSome, IfOk, OnErr, Result, Ok, Err}
use Rattle.std.specs.List.{AllByRecursion}
use Rattle.std.specs.List.Sorted.{IsNonDecreasingBy}
use Rattle.std.specs.Duration.{as_nanos, max_nanos}
use Rattle.std.specs.declared.time.Duration.{Duration}
use Rattle.std.proofs.lemmas.Bool.{cases_eq}
use Rattle.std.proofs.lemmas.Bool.Decides.{nat_tests}
use Rattle.futures.specs.LinkedLists.{list_of}
use Rattle.futures.specs.WaitList.{WaitList, value_of, IsQueued, Sets, SameValues}
use Rattle.pool_machine.specs.declared.schedule.Job.{Job}
use Rattle.pool_machine.specs.declared.schedule.Job.TheVariants as job
use Rattle.pool_machine.specs.Openings.{SeenOpening, opening, is_before, with_opening, with_many}
use Rattle.pool_machine.specs.Schedule.{next_by}
use Rattle.pool_machine.specs.Jobs.{SeenJob, Open, Reap, Wait, Nothing, Closed, seen_job, first_job}
use Rattle.pool_machine.specs.OnOrder.{SeenOnOrder, with_orders, begun_by, job_at, first_on_order}
use Rattle.pool_machine.specs.declared.schedule.limits.LimitSettings.{LimitSettings}
use Rattle.pool_machine.specs.Limits.{wanted_of, has_reaps}
use Rattle.pool_tasks.specs.Wakers.{NobodySleeps}
use Rattle.pool_tasks.specs.InTime.{NoneIsDueBefore, IsInTime, AreInTime, IsTimely, IsInOrder}

-- OPENINGS IN ORDER

-- each is due no later than all behind it
abbrev AreInOrder : List SeenOpening → Type 0
AreInOrder [] = Unit {0}
AreInOrder (x ∷ xs) = AllByRecursion (λ y. x.due ≤ y.due) xs × AreInOrder xs

before_by : (a b : SeenOpening) → is_before a b ≡ true → a.due ≤ b.due
unfolding is_before
before_by a b e = grind (arith, nat_tests)

not_before_by : (a b : SeenOpening) → is_before a b ≡ false → b.due ≤ a.due
unfolding is_before
not_before_by a b e = grind (arith, nat_tests)

all_mapped : (P Q : SeenOpening → Type 0) (xs : List SeenOpening) → ((x : SeenOpening) → P x → Q x) → AllByRecursion P xs → AllByRecursion Q xs
all_mapped P Q [] f all = tt
all_mapped P Q (x ∷ xs) f all = (f x all.0, all_mapped P Q xs f all.1)

later_than : (d e : ℕ) (xs : List SeenOpening) → d ≤ e → AllByRecursion (λ x. e ≤ x.due) xs → AllByRecursion (λ x. d ≤ x.due) xs
later_than d e xs before all = all_mapped (λ x. e ≤ x.due) (λ x. d ≤ x.due) xs (λ x after. omega (arith, before, after)) all

all_with : (P : SeenOpening → Type 0) (x : SeenOpening) (xs : List SeenOpening) → P x → AllByRecursion P xs → AllByRecursion P (with_opening x xs)
all_with P x [] here all = (here, tt)
all_with P x (y ∷ ys) here all =
    elim (is_before y x) as (λ b. AllByRecursion P (cond b (y ∷ with_opening x ys) (x ∷ y ∷ ys))) [
      | true ↦ (all.0, all_with P x ys here all.1)
      | false ↦ (here, all)
    ]

order_with : (x : SeenOpening) (xs : List SeenOpening) → AreInOrder xs → AreInOrder (with_opening x xs)
order_with x [] order = (tt, tt)
order_with x (y ∷ ys) order =
    elim (is_before y x) as (λ b. is_before y x ≡ b → AreInOrder (cond b (y ∷ with_opening x ys) (x ∷ y ∷ ys))) [
      | true ↦ λ e. (all_with (λ z. y.due ≤ z.due) x ys (before_by y x e) order.0, order_with x ys order.1)
      | false ↦ λ e. let le = not_before_by y x e in ((le, later_than x.due y.due ys le order.0), order)
    ] refl

order_many : (n : ℕ) (x : SeenOpening) (xs : List SeenOpening) → AreInOrder xs → AreInOrder (with_many n x xs)
order_many zero x xs order = order
order_many (suc n) x xs order = order_with x (with_many n x xs) (order_many n x xs order)

all_dropped : (P : SeenOpening → Type 0) (xs : List SeenOpening) → AllByRecursion P xs → AllByRecursion P (drop 1 xs)
all_dropped P [] all = tt
all_dropped P (x ∷ xs) all = all.1

order_dropped : (xs : List SeenOpening) → AreInOrder xs → AreInOrder (drop 1 xs)
order_dropped [] order = tt
order_dropped (x ∷ xs) order = order.1

-- which std says by places
all_from : (d : ℕ) (xs : List SeenOpening) → ((j : ℕ) (e : SeenOpening) → j < length xs → d ≤ (let y = slice_index_or xs j e in y.due))
    → AllByRecursion (λ y. d ≤ y.due) xs
all_from d [] each = tt
all_from d (y ∷ ys) each = (each 0 y (omega arith), all_from d ys (λ j e lt. each (suc j) e (omega (arith, lt))))

all_at : (d : ℕ) (xs : List SeenOpening) → AllByRecursion (λ y. d ≤ y.due) xs → (j : ℕ) (e : SeenOpening) → j < length xs
    → d ≤ (let y = slice_index_or xs j e in y.due)
all_at d [] all j e lt = let none : ⊥ = omega (arith, lt) in absurd none
all_at d (y ∷ ys) all zero e lt = all.0
all_at d (y ∷ ys) all (suc j) e lt = all_at d ys all.1 j e (omega (arith, lt))

order_from : (xs : List SeenOpening) → IsNonDecreasingBy (λ x. x.due) xs → AreInOrder xs
order_from [] sorted = tt
order_from (x ∷ xs) sorted = (
  all_from x.due xs (λ j e lt. sorted 0 (suc j) e (omega arith) (omega (arith, lt))),
  order_from xs (λ i j e le lt. sorted (suc i) (suc j) e (omega (arith, le)) (omega (arith, lt))),
)

sorted_from : (xs : List SeenOpening) → AreInOrder xs → IsNonDecreasingBy (λ x. x.due) xs
sorted_from [] order i j e le lt = let none : ⊥ = omega (arith, lt) in absurd none
sorted_from (x ∷ xs) order zero zero e le lt = omega arith
sorted_from (x ∷ xs) order zero (suc j) e le lt = all_at x.due xs order.0 j e (omega (arith, lt))
sorted_from (x ∷ xs) order (suc i) zero e le lt = let none : ⊥ = omega (arith, le) in absurd none
sorted_from (x ∷ xs) order (suc i) (suc j) e le lt = sorted_from xs order.1 i j e (omega (arith, le)) (omega (arith, lt))

-- WHAT A WORKER IS TO DO

reap_waits : (d r : ℕ) (b : Bool) → Wait d ≡ cond b Reap (Wait r) → d ≡ r
reap_waits d r true e = absurd cc
reap_waits d r false e = cc

open_waits : (d due tries : ℕ) (b : Bool) → Wait d ≡ cond b (Open tries) (Wait due) → d ≡ due
open_waits d due tries true e = absurd cc
open_waits d due tries false e = cc

earliest : (d now : ℕ) (xs : List SeenOpening) (reap : Option ℕ) → Wait d ≡ first_job now xs reap → AreInOrder xs
    → AllByRecursion (λ x. d ≤ x.due) xs × IfSome reap (λ r. d ≤ r)
earliest d now [] None e order = absurd cc
earliest d now [] (Some r) e order = let same = reap_waits d r (nat_le r now) e in (tt, omega (arith, same))
earliest d now (x ∷ xs) None e order =
    let same = open_waits d x.due x.tries (nat_le x.due now) e in
    let le : d ≤ x.due = omega (arith, same) in
    ((le, later_than d x.due xs le order.0), tt)
earliest d now (x ∷ xs) (Some r) e order =
    elim (nat_le x.due r) as (λ b. nat_le x.due r ≡ b
    → Wait d ≡ cond b (cond (nat_le x.due now) (Open x.tries) (Wait x.due)) (cond (nat_le r now) Reap (Wait r))
    → (d ≤ x.due × AllByRecursion (λ y. d ≤ y.due) xs) × (d ≤ r)) [
      | true ↦ λ first e.
          let same = open_waits d x.due x.tries (nat_le x.due now) e in
          let le : d ≤ x.due = omega (arith, same) in
          let reap : d ≤ r = grind (arith, nat_tests, same, first) in
          ((le, later_than d x.due xs le order.0), reap)
      | false ↦ λ first e.
          let same = reap_waits d r (nat_le r now) e in
          let le : d ≤ x.due = grind (arith, nat_tests, same, first) in
          ((le, later_than d x.due xs le order.0), omega (arith, same))
    ] refl e

reaps_or_waits : (r : ℕ) (b : Bool) → Nothing ≡ cond b Reap (Wait r) → ⊥
reaps_or_waits r true e = cc
reaps_or_waits r false e = cc

opens_or_waits : (due tries : ℕ) (b : Bool) → Nothing ≡ cond b (Open tries) (Wait due) → ⊥
opens_or_waits due tries true e = cc
opens_or_waits due tries false e = cc

either_or_waits : (now r : ℕ) (x : SeenOpening) (b : Bool)
    → Nothing ≡ cond b (cond (nat_le x.due now) (Open x.tries) (Wait x.due)) (cond (nat_le r now) Reap (Wait r)) → ⊥
either_or_waits now r x true e = opens_or_waits x.due x.tries (nat_le x.due now) e
either_or_waits now r x false e = reaps_or_waits r (nat_le r now) e

nothing_due : (now : ℕ) (xs : List SeenOpening) (reap : Option ℕ) → Nothing ≡ first_job now xs reap → (xs ≡ []) × (reap ≡ None)
nothing_due now [] None e = (refl, refl)
nothing_due now [] (Some r) e = absurd (reaps_or_waits r (nat_le r now) e)
nothing_due now (x ∷ xs) None e = absurd (opens_or_waits x.due x.tries (nat_le x.due now) e)
nothing_due now (x ∷ xs) (Some r) e = absurd (either_or_waits now r x (nat_le x.due r) e)

open_waits_for : (closed : Bool) (d now : ℕ) (xs : List SeenOpening) (reap : Option ℕ) → Wait d ≡ cond closed Closed (first_job now xs reap)
    → AreInOrder xs → AllByRecursion (λ x. d ≤ x.due) xs × IfSome reap (λ r. d ≤ r)
open_waits_for true d now xs reap e order = absurd cc
open_waits_for false d now xs reap e order = earliest d now xs reap e order

open_rests : (closed : Bool) (now : ℕ) (xs : List SeenOpening) (reap : Option ℕ) → Nothing ≡ cond closed Closed (first_job now xs reap)
    → (xs ≡ []) × (reap ≡ None)
open_rests true now xs reap e = absurd cc
open_rests false now xs reap e = nothing_due now xs reap e

-- one who is told to wait is told a moment at which it is in time
pub begun_timely : (result : Job) (t : ℕ) (o : SeenOnOrder) → seen_job result ≡ job_at t o → IsInOrder o → IsTimely result (begun_by (job_at t o) o)
begun_timely (job.Open tries) t o e order = tt
begun_timely job.Reap t o e order = tt
begun_timely (job.Wait due) t o e order =
    let timely : IsInTime (Some due) o = open_waits_for o.closed (as_nanos due) t o.scheduled o.next_reap e (order_from o.scheduled order.openings) in
    subst (λ j. IsInTime (Some due) (begun_by j o)) e timely
begun_timely job.Nothing t o e order =
    let timely : IsInTime None o = open_rests o.closed t o.scheduled o.next_reap e in
    subst (λ j. IsInTime None (begun_by j o)) e timely
begun_timely job.Closed t o e order = tt

-- and an open pool
open_by : (closed : Bool) (j : SeenJob) (result : SeenJob) → result ≡ cond closed Closed j → (result ≡ Closed → ⊥) → closed ≡ false
open_by true j result e other = absurd (other e)
open_by false j result e other = refl

pub waits_open : (due : Duration) (t : ℕ) (o : SeenOnOrder) → seen_job (job.Wait due) ≡ job_at t o → o.closed ≡ false
waits_open due t o e = open_by o.closed (first_job t o.scheduled o.next_reap) (Wait (as_nanos due)) e (λ s. cc)

pub rests_open : (t : ℕ) (o : SeenOnOrder) → seen_job job.Nothing ≡ job_at t o → o.closed ≡ false
rests_open t o e = open_by o.closed (first_job t o.scheduled o.next_reap) Nothing e (λ s. cc)

-- BEGINNING

next_within : (every : ℕ) (reap : Option ℕ) → IfSome (next_by every reap) (λ r. r ≤ max_nanos)
next_within every None = tt
next_within every (Some r) = omega arith

next_later : (d every : ℕ) (reap : Option ℕ) → IfSome reap (λ r. r ≤ max_nanos) → IfSome reap (λ r. d ≤ r) → IfSome (next_by every reap) (λ r. d ≤ r)
next_later d every None within due = tt
next_later d every (Some r) within due = omega (arith, within, due)

pub begun_in_order : (j : SeenJob) (o : SeenOnOrder) → IsInOrder o → IsInOrder (begun_by j o)
begun_in_order (Open tries) o order = record { openings = sorted_from (drop 1 o.scheduled) (order_dropped o.scheduled (order_from o.scheduled order.openings)); reap = order.reap }
begun_in_order Reap o order = record { openings = order.openings; reap = next_within (as_nanos o.limits.reap_every) o.next_reap }
begun_in_order (Wait due) o order = order
begun_in_order Nothing o order = order
begun_in_order Closed o order = order

begun_one : (until : Option Duration) (j : SeenJob) (o : SeenOnOrder) → IsInOrder o → IsInTime until o → IsInTime until (begun_by j o)
begun_one (Some until) (Open tries) o order timely = (all_dropped (λ x. as_nanos until ≤ x.due) o.scheduled timely.0, timely.1)
begun_one (Some until) Reap o order timely = (timely.0, next_later (as_nanos until) (as_nanos o.limits.reap_every) o.next_reap order.reap timely.1)
begun_one (Some until) (Wait due) o order timely = timely
begun_one (Some until) Nothing o order timely = timely
begun_one (Some until) Closed o order timely = timely
begun_one None (Open tries) o order timely = (ap (drop 1) timely.0, timely.1)
begun_one None Reap o order timely = (timely.0, ap (next_by (as_nanos o.limits.reap_every)) timely.1)
begun_one None (Wait due) o order timely = timely
begun_one None Nothing o order timely = timely
begun_one None Closed o order timely = timely

each_mapped : (P Q : Option Duration → Type 0) (value : Option (Option Duration)) → ((until : Option Duration) → P until → Q until)
    → IsSomeAnd value P → IsSomeAnd value Q
each_mapped P Q None f here = absurd here
each_mapped P Q (Some until) f here = f until here

pub begun_in_time : (j : SeenJob) (o : SeenOnOrder) (list : WaitList (Option Duration)) → IsInOrder o → AreInTime o list → AreInTime (begun_by j o) list
begun_in_time j o list order all key queued =
    each_mapped (λ until. IsInTime until o) (λ until. IsInTime until (begun_by j o)) (value_of list key) (λ until. begun_one until j o order) (all key queued)

-- STEPS THAT LEAVE WHAT IS ON ORDER

abbrev pub Stays : SeenOnOrder → SeenOnOrder → Type 0
Stays old new = (new.scheduled ≡ old.scheduled) × (new.next_reap ≡ old.next_reap)

pub stays : (o : SeenOnOrder) → Stays o o
stays o = (refl, refl)

stays_one : (until : Option Duration) (old new : SeenOnOrder) → Stays old new → IsInTime until old → IsInTime until new
stays_one (Some until) old new same timely = (
  subst (λ xs. AllByRecursion (λ (x : SeenOpening). as_nanos until ≤ x.due) xs) (sym same.0) timely.0,
  subst (λ reap. IfSome reap (λ r. as_nanos until ≤ r)) (sym same.1) timely.1,
)
stays_one None old new same timely = (same.0 ∙ timely.0, same.1 ∙ timely.1)

pub stays_in_order : (old new : SeenOnOrder) → Stays old new → IsInOrder old → IsInOrder new
stays_in_order old new same order = record {
  openings = subst (λ xs. IsNonDecreasingBy (λ (x : SeenOpening). x.due) xs) (sym same.0) order.openings;
  reap = subst (λ reap. IfSome reap (λ r. r ≤ max_nanos)) (sym same.1) order.reap;
}

pub stays_in_time : (old new : SeenOnOrder) (list : WaitList (Option Duration)) → Stays old new → AreInTime old list → AreInTime new list
stays_in_time old new list same all key queued =
    each_mapped (λ until. IsInTime until old) (λ until. IsInTime until new) (value_of list key) (λ until. stays_one until old new same) (all key queued)

-- or have every worker woken
pub step_in_time : (woken : Bool) (old new : SeenOnOrder) (list after : WaitList (Option Duration)) → (woken ≡ true → NobodySleeps after)
    → (woken ≡ false → after ≡ list) → (woken ≡ false → Stays old new) → AreInTime old list → AreInTime new after
step_in_time true old new list after wakes rest same all key queued = absurd (wakes refl key queued)
step_in_time false old new list after wakes rest same all key queued =
    subst (λ l. AreInTime new l) (sym (rest refl)) (stays_in_time old new list (same refl) all) key queued

-- one lies down that is in time
parked_at : (key other : ℕ) (until : Option Duration) (o : SeenOnOrder) (list after : WaitList (Option Duration)) → Sets list after key (Some until)
    → ((k : ℕ) → k ≢ key → IsQueued after k → IsQueued list k) → IsInTime until o → AreInTime o list → IsQueued after other
    → (other ≡ key) ⊎ (other ≢ key) → IsSomeAnd (value_of after other) (λ u. IsInTime u o)
parked_at key other until o list after sets alone timely all queued (inl same) =
    subst (λ value. IsSomeAnd value (λ u. IsInTime u o)) (sym (ap (value_of after) same ∙ sets.changed)) timely
parked_at key other until o list after sets alone timely all queued (inr differs) =
    subst (λ value. IsSomeAnd value (λ u. IsInTime u o)) (sym (sets.others other differs)) (all other (alone other differs queued))

parked_by : (value : Option (Option Duration)) (key : ℕ) (until : Option Duration) (o : SeenOnOrder) (list after : WaitList (Option Duration))
    → (IsSome value → Sets list after key (Some until)) → (value ≡ None → after ≡ list)
    → ((k : ℕ) → k ≢ key → IsQueued after k → IsQueued list k) → IsInTime until o → AreInTime o list → AreInTime o after
parked_by None key until o list after sets absent alone timely all other queued = subst (λ l. AreInTime o l) (sym (absent refl)) all other queued
parked_by (Some was) key until o list after sets absent alone timely all other queued =
    parked_at key other until o list after (sets refl) alone timely all queued (cases_eq other key)

pub parked_in_time : (key : ℕ) (until : Option Duration) (o : SeenOnOrder) (list after : WaitList (Option Duration))
    → (IsSome (value_of list key) → Sets list after key (Some until)) → (value_of list key ≡ None → after ≡ list)
    → ((k : ℕ) → k ≢ key → IsQueued after k → IsQueued list k) → IsInTime until o → AreInTime o list → AreInTime o after
parked_in_time key until o list after = parked_by (value_of list key) key until o list after

-- ORDERS

-- a step that orders so many, or none
pub record Follows (old new : SeenOnOrder) : Type 0 where
  pub in_order : IsInOrder old → IsInOrder new
  pub more : old.pending ≤ new.pending
  pub same : new.pending ≤ old.pending → Stays old new

pub follows : (o : SeenOnOrder) → Follows o o
follows o = record { in_order = λ order. order; more = omega arith; same = λ le. stays o }

pub follows_on : (a b c : SeenOnOrder) → Follows a b → Follows b c → Follows a c
follows_on a b c first then = record {
  in_order = λ order. then.in_order (first.in_order order);
  more = omega (arith, first.more, then.more);
  same = λ le.
      let x = first.same (omega (arith, le, then.more)) in
      let y = then.same (omega (arith, le, first.more)) in
      (y.0 ∙ x.0, y.1 ∙ x.1);
}

pub none_ordered : (n due : ℕ) (o : SeenOnOrder) → nat_lt 0 n ≡ false → Stays o (with_orders n due o)
none_ordered zero due o none = (refl, refl)
none_ordered (suc n) due o none = let some : nat_lt 0 (suc n) ≡ true = grind (arith, nat_tests) in absurd cc

many_same : (n due : ℕ) (o : SeenOnOrder) → o.pending + n ≤ o.pending → Stays o (with_orders n due o)
many_same n due o le = none_ordered n due o (grind (arith, nat_tests))

pub orders_follow : (n due : ℕ) (o : SeenOnOrder) → Follows o (with_orders n due o)
orders_follow n due o = record {
  in_order = λ order. record { openings = sorted_from (with_many n (opening due 0) o.scheduled) (order_many n (opening due 0) o.scheduled (order_from o.scheduled order.openings)); reap = order.reap };
  more = omega arith;
  same = many_same n due o;
}

-- one is scheduled
pub one_in_order : (x : SeenOpening) (old new : SeenOnOrder) → new.scheduled ≡ with_opening x old.scheduled → new.next_reap ≡ old.next_reap
    → IsInOrder old → IsInOrder new
one_in_order x old new scheduled reap order = record {
  openings = subst (λ xs. IsNonDecreasingBy (λ (y : SeenOpening). y.due) xs) (sym scheduled)
      (sorted_from (with_opening x old.scheduled) (order_with x old.scheduled (order_from old.scheduled order.openings)));
  reap = subst (λ reap. IfSome reap (λ r. r ≤ max_nanos)) (sym reap) order.reap;
}

-- A WORKER ASKS

pub begin_in_order : (t : ℕ) (old new : SeenOnOrder) → new ≡ begun_by (job_at t old) old → IsInOrder old → IsInOrder new
begin_in_order t old new after order = subst IsInOrder (sym after) (begun_in_order (job_at t old) old order)

pub begin_in_time : (t : ℕ) (old new : SeenOnOrder) (list : WaitList (Option Duration)) → new ≡ begun_by (job_at t old) old → IsInOrder old
    → AreInTime old list → AreInTime new list
begin_in_time t old new list after order all = subst (λ o. AreInTime o list) (sym after) (begun_in_time (job_at t old) old list order all)

pub begin_timely : (result : Job) (t : ℕ) (old new : SeenOnOrder) → seen_job result ≡ job_at t old → new ≡ begun_by (job_at t old) old → IsInOrder old
    → IsTimely result new
begin_timely result t old new answer after order = subst (IsTimely result) (sym after) (begun_timely result t old answer order)

-- NO CHANGE

pub same_order : (old new : SeenOnOrder) → new ≡ old → IsInOrder old → IsInOrder new
same_order old new same order = subst IsInOrder (sym same) order

pub same_times : (old new : SeenOnOrder) (list : WaitList (Option Duration)) → new ≡ old → AreInTime old list → AreInTime new list
same_times old new list same all = subst (λ o. AreInTime o list) (sym same) all

-- A PLACE

added_by : {T E : Type 0} (result : Result T E) (key_of : T → ℕ) (list after : WaitList (Option Duration))
    → ((key : ℕ) → list_of after.lists key ≡ list_of list.lists key) → IfOk result (λ t. ¬ IsQueued list (key_of t))
    → IfOk result (λ t. Sets list after (key_of t) (Some None)) → OnErr result (SameValues list after) → (key : ℕ) → IsQueued after key
    → value_of after key ≡ value_of list key
added_by (Ok t) key_of list after queue absent sets same key queued =
    sets.others key (λ e. absent (ap (list_of list.lists) (sym e) ∙ (sym (queue key) ∙ queued)))
added_by (Err e) key_of list after queue absent sets same key queued = same key

-- one more place, at which nobody sleeps
pub added_in_time : {T E : Type 0} (result : Result T E) (key_of : T → ℕ) (o : SeenOnOrder) (list after : WaitList (Option Duration))
    → ((key : ℕ) → list_of after.lists key ≡ list_of list.lists key) → IfOk result (λ t. ¬ IsQueued list (key_of t))
    → IfOk result (λ t. Sets list after (key_of t) (Some None)) → OnErr result (SameValues list after) → AreInTime o list → AreInTime o after
added_in_time result key_of o list after queue absent sets same all key queued =
    subst (λ value. IsSomeAnd value (λ until. IsInTime until o)) (sym (added_by result key_of list after queue absent sets same key queued))
    (all key (sym (queue key) ∙ queued))

-- AT THE MAKING

first_within : (b : Bool) (reap : ℕ) → IfSome (cond b (Some (min reap max_nanos)) None) (λ r. r ≤ max_nanos)
first_within true reap = omega arith
first_within false reap = tt

pub first_in_order : (limits : LimitSettings) (now first_id : ℕ) → IsInOrder (first_on_order limits now first_id)
first_in_order limits now first_id = record {
  openings = sorted_from (with_many (wanted_of limits) (opening now 0) []) (order_many (wanted_of limits) (opening now 0) [] tt);
  reap = first_within (has_reaps limits) (now + as_nanos limits.reap_every);
}
