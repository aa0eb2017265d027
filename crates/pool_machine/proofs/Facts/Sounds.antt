-- Each step keeps a picture sound.
use Rattle.std.proofs.Common.{◌≡◌, ℕ, ◌≤◌, max, Bool, true, false, not, ◌||◌, [], map, Option, Some, None, refl, subst, arith, String, inl}
use Rattle.std.specs.Prelude.{option_map, is_some, unwrap_or}
use Rattle.pool_machine.specs.declared.machine.answers.Refusal.{Refusal}
use Rattle.pool_machine.specs.declared.machine.answers.Refusal.TheVariants as refusal
use Rattle.pool_machine.specs.declared.schedule.limits.LimitSettings.{LimitSettings}
use Rattle.pool_machine.specs.Limits.{wanted_of}
use Rattle.pool_machine.specs.Ids.{found}
use Rattle.pool_machine.specs.Lending.{next_to_lend}
use Rattle.pool_machine.specs.Jobs.{SeenJob, Open, Reap, Wait, Nothing, Closed}
use Rattle.pool_machine.specs.Refusals.{unless_refused}
use Rattle.pool_machine.specs.Connections.{SeenIdleConnection, SeenLentConnection, id_of_idle, id_of_lent, birth_in}
use Rattle.pool_machine.specs.OnOrder.{IsAccounted, job_at, begun_by, number_refusal, numbered_one, admit_refusal, admitted_one, fail_refusal, failed_one}
use Rattle.pool_machine.specs.Picture.{Picture, IsSound}
use Rattle.pool_machine.specs.Table.{raised_to, with_on_order, topped_up, first_picture, taken, after_take, after_begin, after_number, admitted_at, after_admit}
use Rattle.pool_machine.specs.Table.{failed, after_fail, lent_refusal, lent_birth, is_closing, gone_one, returned_by, returned, after_return, with_text}
use Rattle.pool_machine.specs.Table.{after_check, after_reap, after_take_error, after_close}
use Rattle.pool_machine.specs.Seen.{or_text}
use Rattle.pool_machine.proofs.Lists.Ids.{copies_of-append3}
use Rattle.pool_machine.proofs.Facts.Accounted.{unless_refused-keeps, passes, not_false, is_not, found_numbered, accounted_first, accounted_begun}
use Rattle.pool_machine.proofs.Facts.Accounted.{accounted_numbering, accounted_admitted, accounted_failed, accounted_emptied}
use Rattle.pool_machine.proofs.Facts.Steady.{apart_still, sound_at, sound_topped_up, sound_missed, sound_rescheduled, sound_told, steady_lent_out, steady_lost}
use Rattle.pool_machine.proofs.Facts.Steady.{sound_kept, sound_numbered, sound_admitted, steady_swept}

-- what is accepted is the new one
accepted_is : {X : Type 0} (P : X → Type 0) (why : Option Refusal) (new old : X) → why ≡ None → P (unless_refused why new old) → P new
accepted_is P why new old e p = subst (λ (w : Option Refusal). P (unless_refused w new old)) e p

loan_found : (o : Option SeenLentConnection) → is_some (option_map (λ (l : SeenLentConnection). l.birth) o) ≡ true → (l : SeenLentConnection) × (o ≡ Some l)
    × (l.birth ≡ unwrap_or (option_map (λ (l : SeenLentConnection). l.birth) o) 0)
loan_found None e = absurd cc
loan_found (Some l) e = (l, refl, refl)

none_holds : (a b c : Bool) → (a || (b || c)) ≡ false → c ≡ false
none_holds true b c e = absurd cc
none_holds false true c e = absurd cc
none_holds false false c e = e

module _ {T : Type 0} where
  -- MAKING

  pub sound_first : (limits : LimitSettings) (now first_id : ℕ) → wanted_of limits ≤ limits.max_size → IsSound (first_picture {T = T} limits now first_id)
  sound_first limits now first_id le = record {
    steady = record {
      apart = λ i. omega arith;
      below_next = λ i past. refl;
      counted = refl;
      accounted = accounted_first limits now first_id le;
      fits = omega arith;
      is_sorted = λ i j d ij lt. absurd (omega arith);
      seen = λ k d lt. absurd (omega arith);
      born = λ k d lt. absurd (omega arith);
      born_lent = λ k d lt. absurd (omega arith);
      none_once_closed = λ closed. absurd (is_not false closed refl);
    };
    replenished = λ is_open. inl (omega arith);
  }

  -- TAKE

  sound_taken : (or_order : Bool) (p : Picture T) (o : Option (SeenIdleConnection T)) → next_to_lend p.on_order.limits.order p.idle ≡ o → IsSound p
      → IsSound (taken o or_order p)
  sound_taken or_order p None e s = sound_missed or_order s
  sound_taken or_order p (Some c) e s = sound_topped_up (steady_lent_out c e s.steady)

  pub sound_take : (t : ℕ) (or_order : Bool) {p : Picture T} → IsSound p → IsSound (after_take t or_order p)
  sound_take t or_order {p} s = sound_taken or_order (raised_to t p) (next_to_lend p.on_order.limits.order p.idle) refl (sound_at t s)

  -- BEGIN, NUMBER, ADMIT, FAIL

  sound_task : (task : SeenJob) {p : Picture T} → IsAccounted (begun_by task p.on_order) → IsSound p → IsSound (with_on_order (begun_by task p.on_order) p)
  sound_task (Open tries) {p} a s = sound_rescheduled _ _ _ a s
  sound_task Reap {p} a s = sound_rescheduled _ _ _ a s
  sound_task (Wait due) {p} a s = s
  sound_task Nothing {p} a s = s
  sound_task Closed {p} a s = s

  pub sound_begin : (t : ℕ) {p : Picture T} → IsSound p → IsSound (after_begin t p)
  sound_begin t {p} s = sound_task (job_at (max p.latest t) p.on_order) (accounted_begun (max p.latest t) p.on_order s.steady.accounted) (sound_at t s)

  number_by : (tries : ℕ) (p : Picture T) (why : Option Refusal) → IsAccounted (unless_refused why (numbered_one tries p.on_order) p.on_order) → IsSound p
      → IsSound (with_on_order (unless_refused why (numbered_one tries p.on_order) p.on_order) p)
  number_by tries p None a s = sound_numbered tries a s
  number_by tries p (Some why) a s = s

  pub sound_number : (tries : ℕ) {p : Picture T} → IsSound p → IsSound (after_number tries p)
  sound_number tries {p} s = number_by tries p (number_refusal tries p.on_order) (accounted_numbering tries p.on_order s.steady.accounted) s

  pub sound_admit : (t id : ℕ) (value : T) {p : Picture T} → IsSound p → IsSound (after_admit t id value p)
  sound_admit t id value {p} s =
      unless_refused-keeps IsSound (admit_refusal id p.on_order) (admitted_at (max p.latest t) id value p) p
      (λ accepted.
      let there = found_numbered id p.on_order accepted in
      let a = accepted_is IsAccounted (admit_refusal id p.on_order) (admitted_one id p.on_order) p.on_order accepted
      (accounted_admitted id p.on_order s.steady.accounted) in
      sound_admitted id value there.1 there.0 a (sound_at t s)) s

  pub sound_fail : {A : Type 0} (t tries : ℕ) (text : Option (String A)) {p : Picture T} → IsSound p → IsSound (after_fail t tries text p)
  sound_fail t tries text {p} s =
      unless_refused-keeps IsSound (fail_refusal tries p.on_order) (failed t tries text p) p
      (λ accepted.
      let a = accepted_is IsAccounted (fail_refusal tries p.on_order) (failed_one (max p.latest t) tries p.on_order) p.on_order accepted
      (accounted_failed (max p.latest t) tries p.on_order s.steady.accounted) in
      sound_told (or_text text p.last_error) (sound_rescheduled _ _ _ a (sound_at t s))) s

  -- RETURN, FAILED CHECK

  -- one that is lent is found, with its birth
  found_lent : (id : ℕ) (p : Picture T) → lent_refusal id p ≡ None → (l : SeenLentConnection) × (found id_of_lent id p.lent ≡ Some l)
      × (l.birth ≡ lent_birth id p)
  found_lent id p accepted =
      let there = passes (not (is_some (birth_in id p.lent))) refusal.NotLent None accepted in
      loan_found (found id_of_lent id p.lent) (not_false (is_some (birth_in id p.lent)) there.0)

  sound_returned : (closes : Bool) (id : ℕ) (value : T) (l : SeenLentConnection) (p : Picture T) → found id_of_lent id p.lent ≡ Some l
      → (closes ≡ false → p.on_order.closed ≡ false) → IsSound p → IsSound (returned_by closes id l.birth value p)
  sound_returned true id value l p is is_open s = sound_topped_up (steady_lost id l is s.steady)
  sound_returned false id value l p is is_open s = sound_kept id value l is (is_open refl) s

  pub sound_return : (t id : ℕ) (value : T) (broken : Bool) {p : Picture T} → IsSound p → IsSound (after_return t id value broken p)
  sound_return t id value broken {p} s =
      unless_refused-keeps IsSound (lent_refusal id p) (returned id (lent_birth id p) value broken (raised_to t p)) p
      (λ accepted.
      let l = found_lent id p accepted in
      subst (λ (b : ℕ). IsSound (returned id b value broken (raised_to t p))) l.2
      (sound_returned (is_closing l.0.birth broken (raised_to t p)) id value l.0 (raised_to t p) l.1 (none_holds broken _ p.on_order.closed) (sound_at t s))) s

  pub sound_check : {A : Type 0} (t id : ℕ) (text : Option (String A)) {p : Picture T} → IsSound p → IsSound (after_check t id text p)
  sound_check t id text {p} s =
      unless_refused-keeps IsSound (lent_refusal id p) (topped_up (gone_one id (with_text text (raised_to t p)))) p
      (λ accepted.
      let l = found_lent id p accepted in
      let now = sound_told (or_text text p.last_error) (sound_at t s) in
      sound_topped_up (steady_lost id l.0 l.1 now.steady)) s

  -- REAP, TAKE ERROR, CLOSE

  pub sound_reap : (t : ℕ) {p : Picture T} → IsSound p → IsSound (after_reap t p)
  sound_reap t s = sound_topped_up (steady_swept (let now = sound_at t s in now.steady))

  pub sound_take_error : {p : Picture T} → IsSound p → IsSound (after_take_error p)
  sound_take_error s = sound_told None s

  pub sound_close : {p : Picture T} → IsSound p → IsSound (after_close p)
  sound_close {p} s =
      let ids = apart_still p (after_close p) refl (λ i. omega (
        arith,
        copies_of-append3 i (map id_of_idle p.idle) (map id_of_lent p.lent) p.on_order.numbered,
        copies_of-append3 i [] (map id_of_lent p.lent) [],
      )) s.steady in
      record {
        steady = record {
          apart = ids.0;
          below_next = ids.1;
          counted = omega (arith, s.steady.counted);
          accounted = accounted_emptied p.on_order;
          fits = omega (arith, s.steady.fits);
          is_sorted = λ i j d ij lt. absurd (omega arith);
          seen = λ k d lt. absurd (omega arith);
          born = λ k d lt. absurd (omega arith);
          born_lent = s.steady.born_lent;
          none_once_closed = λ closed. refl;
        };
        replenished = λ is_open. absurd (is_not true refl is_open);
      }
