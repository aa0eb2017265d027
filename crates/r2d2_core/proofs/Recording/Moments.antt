-- A book notes a step's raised moment: where a step is accepted it is the latest moment after it.
use Rattle.std.proofs.Common.{◌≡◌, ℕ, max, Bool, true, false, Option, Some, None, String, refl, ap}
use Rattle.pool_machine.specs.declared.machine.answers.Refusal.{Refusal}
use Rattle.pool_machine.specs.Connections.{SeenIdleConnection}
use Rattle.pool_machine.specs.Refusals.{ok_unless, ok_or_back, unless_refused}
use Rattle.pool_machine.specs.OnOrder.{admit_refusal}
use Rattle.pool_machine.specs.Picture.{Picture}
use Rattle.pool_machine.specs.Table.{raised_to, next_of, taken, after_take, admitted_at, admit_answer, after_admit, with_text, gone_one, topped_up, lent_refusal}
use Rattle.pool_machine.specs.Table.{lent_birth, is_closing, returned_by, returned, return_of, return_answer, after_return, gone_with, check_answer, after_check}
use Rattle.r2d2_core.specs.Recorded.{record_of_admission, record_of_return, record_of_check}

module _ {T : Type 0} where
  abbrev pub latest_in : Picture T → ℕ
  latest_in p = p.latest

  latest-taken : (m : Option (SeenIdleConnection T)) (o : Bool) (p : Picture T) → latest_in (taken m o p) ≡ p.latest
  latest-taken None o p = refl
  latest-taken (Some c) o p = refl

  pub latest-take : (t : ℕ) (o : Bool) (p : Picture T) → latest_in (after_take t o p) ≡ max p.latest t
  latest-take t o p = latest-taken (next_of p) o (raised_to t p)

  admission_by : (why : Option Refusal) (t id : ℕ) (value : T) (p : Picture T)
      → record_of_admission (latest_in (unless_refused why (admitted_at (max p.latest t) id value p) p)) id (ok_or_back why value tt) ≡ record_of_admission
      (max p.latest t) id (ok_or_back why value tt)
  admission_by None t id value p = refl
  admission_by (Some why) t id value p = refl

  pub admission_at : (t id : ℕ) (value : T) (p : Picture T) → record_of_admission (latest_in (after_admit t id value p)) id
      (admit_answer id value p) ≡ record_of_admission (max p.latest t) id (admit_answer id value p)
  admission_at t id value p = admission_by (admit_refusal id p.on_order) t id value p

  latest-returned : (closes : Bool) (id birth : ℕ) (value : T) (p : Picture T) → latest_in (returned_by closes id birth value p) ≡ p.latest
  latest-returned true id birth value p = refl
  latest-returned false id birth value p = refl

  return_by_refusal : (why : Option Refusal) (t id : ℕ) (value : T) (broken : Bool) (p : Picture T)
      → (let answer = ok_or_back why value (return_of id (lent_birth id p) value broken (raised_to t p)) in
      record_of_return (latest_in (unless_refused why (returned id (lent_birth id p) value broken (raised_to t p)) p)) id answer ≡ record_of_return
      (max p.latest t) id answer)
  return_by_refusal None t id value broken p =
      ap (λ now. record_of_return now id (ok_or_back None value (return_of id (lent_birth id p) value broken (raised_to t p))))
      (latest-returned (is_closing (lent_birth id p) broken (raised_to t p)) id (lent_birth id p) value (raised_to t p))
  return_by_refusal (Some why) t id value broken p = refl

  pub return_at : (t id : ℕ) (value : T) (broken : Bool) (p : Picture T)
      → record_of_return (latest_in (after_return t id value broken p)) id (return_answer t id value broken p) ≡ record_of_return (max p.latest t) id
      (return_answer t id value broken p)
  return_at t id value broken p = return_by_refusal (lent_refusal id p) t id value broken p

  check_by : {A : Type 0} (why : Option Refusal) (t id : ℕ) (text : Option (String A)) (p : Picture T)
      → (let answer = ok_unless why (gone_with id (lent_birth id p) (raised_to t p)) in
      record_of_check (latest_in (unless_refused why (topped_up (gone_one id (with_text text (raised_to t p)))) p)) id answer ≡ record_of_check
      (max p.latest t) id answer)
  check_by None t id text p = refl
  check_by (Some why) t id text p = refl

  pub check_at : {A : Type 0} (t id : ℕ) (text : Option (String A)) (p : Picture T)
      → record_of_check (latest_in (after_check t id text p)) id (check_answer t id p) ≡ record_of_check (max p.latest t) id (check_answer t id p)
  check_at t id text p = check_by (lent_refusal id p) t id text p
