-- Each change of what is on order keeps every pending opening accounted for.
use Rattle.std.proofs.Common.{◌≡◌, ℕ, ◌+◌, ◌<◌, ◌≤◌, ◌^◌, min, Bool, true, false, cond, not, List, [], ◌∷◌, length, Option, Some, None, refl, ◌∙◌, ap, subst}
use Rattle.std.proofs.Common.{arith, drop, length-set, rules}
use Rattle.std.specs.Prelude.{slice_index, is_some, sum, replicate}
use Rattle.std.specs.List.{All}
use Rattle.std.proofs.lemmas.List.{length_push}
use Rattle.std.proofs.lemmas.List.Elements.{All-drop}
use Rattle.std.proofs.lemmas.List.Sums.{sum_by-cons}
use Rattle.std.proofs.lemmas.Bool.{ltb-true}
use Rattle.pool_machine.specs.declared.machine.answers.Refusal.{Refusal}
use Rattle.pool_machine.specs.declared.machine.answers.Refusal.TheVariants as refusal
use Rattle.pool_machine.specs.declared.schedule.limits.LimitSettings.{LimitSettings}
use Rattle.pool_machine.specs.Limits.{wanted_of}
use Rattle.pool_machine.specs.Ids.{found, same_id}
use Rattle.pool_machine.specs.Openings.{SeenOpening, opening}
use Rattle.pool_machine.specs.Jobs.{SeenJob, Open, Reap, Wait, Nothing, Closed, first_job}
use Rattle.pool_machine.specs.Refusals.{refused_if, unless_refused}
use Rattle.pool_machine.specs.OnOrder.{SeenOnOrder, IsAccounted, with_orders, first_on_order, begun_by, begun, has_in_work, number_refusal, numbered_one}
use Rattle.pool_machine.specs.OnOrder.{after_numbering, admit_refusal, admitted_one, fail_refusal, failed_one, due_again, emptied}
use Rattle.pool_machine.proofs.Scheduling.Openings.{length-with, length-with_many}
use Rattle.pool_machine.proofs.Lists.Counting.{All-with_many, All-with, sum-one_more, sum-one_less, get_or-sum_le}
use Rattle.pool_machine.proofs.Lists.Ids.{length-without, found_self}
use Rattle.pool_machine.proofs.Scheduling.Jobs.{opens_first}

-- ONCE CLOSED

zeros : (xs : List ℕ) → sum xs ≡ 0 → xs ≡ replicate (length xs) 0
zeros [] e = refl
zeros (x ∷ xs) e =
    let zero_first : x ≡ 0 = omega (arith, e, sum_by-cons (λ x. x) x xs) in
    let rest : sum xs ≡ 0 = omega (arith, e, sum_by-cons (λ x. x) x xs) in
    ap (λ y. y ∷ xs) zero_first ∙ ap (λ l. 0 ∷ l) (zeros xs rest)

none_there : {X : Type 0} (xs : List X) → length xs ≡ 0 → xs ≡ []
none_there [] e = refl
none_there (x ∷ xs) e = absurd (omega (arith, e))

-- nothing is on order, and no reap is due any more
pub record IsEmpty (o : SeenOnOrder) : Type 0 where
  pub pending : o.pending ≡ 0
  pub scheduled : o.scheduled ≡ []
  pub in_work : o.in_work ≡ replicate 100 0
  pub numbered : o.numbered ≡ []
  pub next_reap : o.next_reap ≡ None

pub empty_once_closed : (o : SeenOnOrder) → IsAccounted o → o.closed ≡ true → IsEmpty o
empty_once_closed o a closed =
    let none : o.pending ≡ 0 = a.none_once_closed closed in
    record {
      pending = none;
      scheduled = none_there o.scheduled (omega (arith, a.placed, none));
      in_work = zeros o.in_work (omega (arith, a.placed, none)) ∙ ap (λ n. replicate n 0) a.lanes;
      numbered = none_there o.numbered (omega (arith, a.placed, none));
      next_reap = a.no_reap_once_closed closed;
    }

-- REFUSALS

-- what is refused changes nothing
pub unless_refused-keeps : {X : Type 0} (P : X → Type 0) (why : Option Refusal) (new old : X) → (why ≡ None → P new) → P old → P (unless_refused why new old)
unless_refused-keeps P None new old accepted kept = accepted refl
unless_refused-keeps P (Some why) new old accepted kept = kept

-- what is not refused passes the first test
pub passes : (b : Bool) (why : Refusal) (next : Option Refusal) → refused_if b why next ≡ None → (b ≡ false) × (next ≡ None)
passes true why next e = absurd cc
passes false why next e = (refl, e)

pub not_false : (b : Bool) → not b ≡ false → b ≡ true
not_false true e = refl
not_false false e = absurd cc

pub is_not : (b : Bool) → b ≡ true → b ≡ false → ⊥
is_not b e is = cc

-- a number or a failure that is accepted finds one in work, on a core that is open
pub found_in_work : (tries : ℕ) (o : SeenOnOrder) (next : Option Refusal)
    → refused_if o.closed refusal.Closed (refused_if (not (has_in_work tries o)) refusal.NoOpening next) ≡ None → (o.closed ≡ false)
    × (0 < slice_index o.in_work tries) × (next ≡ None)
found_in_work tries o next e =
    let first = passes o.closed refusal.Closed _ e in
    let second = passes (not (has_in_work tries o)) refusal.NoOpening next first.1 in
    (first.0, ltb-true 0 (slice_index o.in_work tries) (not_false (has_in_work tries o) second.0), second.1)

-- an admission that is accepted finds its number
pub found_numbered : (id : ℕ) (o : SeenOnOrder) → admit_refusal id o ≡ None → (o.closed ≡ false) × (found same_id id o.numbered ≡ Some id)
found_numbered id o e =
    let first = passes o.closed refusal.Closed _ e in
    let second = passes (not (is_some (found same_id id o.numbered))) refusal.NotNumbered None first.1 in
    (first.0, found_self id o.numbered (not_false (is_some (found same_id id o.numbered)) second.0))

-- ORDERS

pub accounted_orders : (n due : ℕ) (o : SeenOnOrder) → o.pending + n ≤ o.limits.max_size → (o.closed ≡ true → n ≡ 0) → IsAccounted o
    → IsAccounted (with_orders n due o)
accounted_orders n due o within none a = record {
  placed = omega (arith, a.placed, length-with_many n (opening due 0) o.scheduled);
  within = within;
  tries = All-with_many (λ x. x.tries ≤ 99) n (opening due 0) o.scheduled (omega arith) a.tries;
  lanes = a.lanes;
  none_once_closed = λ closed. omega (arith, a.none_once_closed closed, none closed);
  no_reap_once_closed = a.no_reap_once_closed;
}

pub accounted_first : (limits : LimitSettings) (now first_id : ℕ) → wanted_of limits ≤ limits.max_size → IsAccounted (first_on_order limits now first_id)
accounted_first limits now first_id le = record {
  placed = omega (arith, length-with_many (wanted_of limits) (opening now 0) []);
  within = le;
  tries = All-with_many (λ x. x.tries ≤ 99) (wanted_of limits) (opening now 0) [] (omega arith) (λ k d lt. absurd (omega arith));
  lanes = refl;
  none_once_closed = λ closed. absurd (is_not false closed refl);
  no_reap_once_closed = λ closed. absurd (is_not false closed refl);
}

-- BEGIN

-- the least scheduled one is in work
accounted_open : (x : SeenOpening) (rest : List SeenOpening) (o : SeenOnOrder) → o.scheduled ≡ x ∷ rest → o.closed ≡ false → IsAccounted o
    → IsAccounted (begun_by (Open x.tries) o)
accounted_open x rest o is is_open a =
    let all : All (λ x. x.tries ≤ 99) (x ∷ rest) = subst (All (λ (x : SeenOpening). x.tries ≤ 99)) is a.tries in
    let few : x.tries ≤ 99 = all 0 x (omega arith) in
    let left : drop 1 o.scheduled ≡ rest = ap (λ (xs : List SeenOpening). drop 1 xs) is in
    let long : length o.scheduled ≡ length (drop 1 o.scheduled) + 1 = omega (arith, ap length is, ap length left) in
    record {
      placed = omega (arith, a.placed, long, sum-one_more x.tries o.in_work (omega (arith, a.lanes)));
      within = a.within;
      tries = All-drop (λ x. x.tries ≤ 99) 1 o.scheduled a.tries;
      lanes = length-set o.in_work x.tries _ ∙ a.lanes;
      none_once_closed = λ closed. absurd (is_not o.closed closed is_open);
      no_reap_once_closed = λ closed. absurd (is_not o.closed closed is_open);
    }

accounted_reap : (o : SeenOnOrder) → o.closed ≡ false → IsAccounted o → IsAccounted (begun_by Reap o)
accounted_reap o is_open a = record {
  placed = a.placed;
  within = a.within;
  tries = a.tries;
  lanes = a.lanes;
  none_once_closed = λ closed. absurd (is_not o.closed closed is_open);
  no_reap_once_closed = λ closed. absurd (is_not o.closed closed is_open);
}

accounted_task : (task : SeenJob) (now : ℕ) (o : SeenOnOrder) → task ≡ first_job now o.scheduled o.next_reap → o.closed ≡ false → IsAccounted o
    → IsAccounted (begun_by task o)
accounted_task (Open tries) now o is is_open a =
    let first = opens_first tries now o.scheduled o.next_reap is in
    subst (λ (k : ℕ). IsAccounted (begun_by (Open k) o)) first.3 (accounted_open first.0 first.1 o first.2 is_open a)
accounted_task Reap now o is is_open a = accounted_reap o is_open a
accounted_task (Wait due) now o is is_open a = a
accounted_task Nothing now o is is_open a = a
accounted_task Closed now o is is_open a = a

begun_step : (closed : Bool) (now : ℕ) (o : SeenOnOrder) → o.closed ≡ closed → IsAccounted o
    → IsAccounted (begun_by (cond closed Closed (first_job now o.scheduled o.next_reap)) o)
begun_step true now o is a = a
begun_step false now o is a = accounted_task (first_job now o.scheduled o.next_reap) now o refl is a

pub accounted_begun : (now : ℕ) (o : SeenOnOrder) → IsAccounted o → IsAccounted (begun now o)
accounted_begun now o a = begun_step o.closed now o refl a

-- one that is handed out is among the hundred, and there are few in work
pub begins_within : (now k : ℕ) (o : SeenOnOrder) → Open k ≡ first_job now o.scheduled o.next_reap → IsAccounted o → k < 100
begins_within now k o is a =
    let first = opens_first k now o.scheduled o.next_reap is in
    let all : All (λ x. x.tries ≤ 99) (first.0 ∷ first.1) = subst (All (λ (x : SeenOpening). x.tries ≤ 99)) first.2 a.tries in
    omega (arith, all 0 first.0 (omega arith), first.3)

pub begins_fit : (now k : ℕ) (o : SeenOnOrder) → Open k ≡ first_job now o.scheduled o.next_reap → o.limits.max_size < 2 ^ 32 → IsAccounted o
    → slice_index o.in_work k + 1 < 2 ^ 32
begins_fit now k o is small a =
    let first = opens_first k now o.scheduled o.next_reap is in
    omega (arith, a.placed, a.within, get_or-sum_le k o.in_work, ap length first.2)

-- NUMBER, ADMIT, FAIL, CLOSE

accounted_numbered : (tries : ℕ) (o : SeenOnOrder) → 0 < slice_index o.in_work tries → o.closed ≡ false → IsAccounted o → IsAccounted (numbered_one tries o)
accounted_numbered tries o some is_open a = record {
  placed = omega (arith, a.placed, sum-one_less tries o.in_work some, length_push o.numbered o.next_id);
  within = a.within;
  tries = a.tries;
  lanes = length-set o.in_work tries _ ∙ a.lanes;
  none_once_closed = λ closed. absurd (is_not o.closed closed is_open);
  no_reap_once_closed = λ closed. absurd (is_not o.closed closed is_open);
}

pub accounted_numbering : (tries : ℕ) (o : SeenOnOrder) → IsAccounted o → IsAccounted (after_numbering tries o)
accounted_numbering tries o a =
    unless_refused-keeps IsAccounted (number_refusal tries o) (numbered_one tries o) o
    (λ accepted. let there = found_in_work tries o _ accepted in accounted_numbered tries o there.1 there.0 a) a

accounted_less : (id : ℕ) (o : SeenOnOrder) → found same_id id o.numbered ≡ Some id → o.closed ≡ false → IsAccounted o → IsAccounted (admitted_one id o)
accounted_less id o is is_open a = record {
  placed = omega (arith, a.placed, length-without same_id id o.numbered id is);
  within = omega (arith, a.within);
  tries = a.tries;
  lanes = a.lanes;
  none_once_closed = λ closed. absurd (is_not o.closed closed is_open);
  no_reap_once_closed = λ closed. absurd (is_not o.closed closed is_open);
}

pub accounted_admitted : (id : ℕ) (o : SeenOnOrder) → IsAccounted o → IsAccounted (unless_refused (admit_refusal id o) (admitted_one id o) o)
accounted_admitted id o a =
    unless_refused-keeps IsAccounted (admit_refusal id o) (admitted_one id o) o
    (λ accepted. let there = found_numbered id o accepted in accounted_less id o there.1 there.0 a) a

accounted_put_off : (now tries : ℕ) (o : SeenOnOrder) → 0 < slice_index o.in_work tries → o.closed ≡ false → IsAccounted o
    → IsAccounted (failed_one now tries o)
accounted_put_off now tries o some is_open a =
    let x = opening (due_again now tries o) (min (tries + 1) 99) in
    record {
      placed = omega (arith, a.placed, sum-one_less tries o.in_work some, length-with x o.scheduled);
      within = a.within;
      tries = All-with (λ x. x.tries ≤ 99) x o.scheduled (omega arith) a.tries;
      lanes = length-set o.in_work tries _ ∙ a.lanes;
      none_once_closed = λ closed. absurd (is_not o.closed closed is_open);
      no_reap_once_closed = λ closed. absurd (is_not o.closed closed is_open);
    }

pub accounted_failed : (now tries : ℕ) (o : SeenOnOrder) → IsAccounted o → IsAccounted (unless_refused (fail_refusal tries o) (failed_one now tries o) o)
accounted_failed now tries o a =
    unless_refused-keeps IsAccounted (fail_refusal tries o) (failed_one now tries o) o
    (λ accepted. let there = found_in_work tries o _ accepted in accounted_put_off now tries o there.1 there.0 a) a

pub accounted_emptied : (o : SeenOnOrder) → IsAccounted (emptied o)
accounted_emptied o = record {
  placed = search rules;
  within = omega arith;
  tries = λ k d lt. absurd (omega arith);
  lanes = refl;
  none_once_closed = λ closed. refl;
  no_reap_once_closed = λ closed. refl;
}
