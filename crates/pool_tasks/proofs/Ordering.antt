-- What each step of the book orders: nothing, or workers are woken.
use Rattle.std.proofs.Common.{◌≡◌, ℕ, zero, suc, Bool, true, false, List, [], ◌∷◌, Option, Some, None, refl, sym, ◌∙◌, ap, subst, arith}
use Rattle.std.specs.Prelude.{◌+◌, nat_lt, max, min, String, Result}
use Rattle.std.specs.Duration.{as_nanos}
use Rattle.std.proofs.lemmas.Bool.Decides.{nat_tests}
use Rattle.pool_machine.specs.declared.machine.answers.Refusal.{Refusal}
use Rattle.pool_machine.specs.Refusals.{unless_refused, ok_unless, ok_or_back}
use Rattle.pool_machine.specs.Connections.{SeenIdleConnection}
use Rattle.pool_machine.specs.Openings.{opening}
use Rattle.pool_machine.specs.OnOrder.{SeenOnOrder, fail_refusal, admit_refusal, number_refusal, numbered_one, due_again}
use Rattle.pool_machine.specs.Picture.{Picture}
use Rattle.r2d2_core.specs.Book.{SeenBook}
use Rattle.pool_machine.specs.Seen.{SeenTake, SeenReturned, SeenGone, take_with}
use Rattle.pool_machine.specs.Table.{taken, take_orders, take_answer, next_of, raised_to, lent_out, top_up_of, miss_order_of, topped_up, gone_one, kept_one, with_text}
use Rattle.pool_machine.specs.Table.{after_take, after_number, after_return, return_answer, after_fail, failed, lent_refusal, lent_birth, is_closing, returned, returned_by, return_by}
use Rattle.pool_machine.specs.Table.{after_reap, reap_orders, swept, after_begin, gone_with}
use Rattle.pool_state.specs.declared.engine.Outcome.{Outcome}
use Rattle.pool_state.specs.declared.engine.Outcome.TheVariants as outcome
use Rattle.pool_state.specs.declared.state.serving.Look.{Look}
use Rattle.pool_state.specs.declared.state.serving.Look.TheVariants as look
use Rattle.pool_state.specs.Wakes.{wakes_of_take, wakes_of_return}
use Rattle.pool_state.specs.Settled.{SeenSettled, after_settle, settle_answer, settled_failure, settled_check, wakes_of_settled}
use Rattle.pool_state.specs.Evicted.{book_taken, book_broken, one_evicted, each_evicted, after_eviction, in_lending_order}
use Rattle.pool_state.specs.Lined.{book_asked, book_looked, paid_of, one_more_owed, has_ordered}
use Rattle.pool_tasks.specs.InTime.{IsInOrder}
use Rattle.pool_tasks.proofs.InTime.{Stays, stays, none_ordered, Follows, follows, follows_on, orders_follow, one_in_order}

numbered_stays : (r : Option Refusal) (tries : ℕ) (o : SeenOnOrder) → Stays o (unless_refused r (numbered_one tries o) o)
numbered_stays None tries o = (refl, refl)
numbered_stays (Some why) tries o = stays o

module _ {T : Type 0} where
  -- TAKES
  taken_follows : (o : Option (SeenIdleConnection T)) (b : Bool) (p : Picture T) → Follows p.on_order (taken o b p).on_order
  taken_follows None b p = orders_follow (miss_order_of b p) p.latest p.on_order
  taken_follows (Some c) b p = orders_follow (top_up_of (lent_out c p)) p.latest p.on_order

  take_follows : (t : ℕ) (b : Bool) (p : Picture T) → Follows p.on_order (after_take t b p).on_order
  take_follows t b p = taken_follows (next_of p) b (raised_to t p)

  taken_quiet : (o : Option (SeenIdleConnection T)) (t : ℕ) (b : Bool) (p : Picture T) → (wakes_of_take (take_with o (take_orders o b p))).workers ≡ false
      → Stays p.on_order (taken o b (raised_to t p)).on_order
  taken_quiet None t b p none = none_ordered (miss_order_of b p) (max p.latest t) p.on_order none
  taken_quiet (Some c) t b p none = none_ordered (top_up_of (lent_out c p)) (max p.latest t) p.on_order none

  take_quiet : (t : ℕ) (b : Bool) (p : Picture T) → (wakes_of_take (take_answer b p)).workers ≡ false → Stays p.on_order (after_take t b p).on_order
  take_quiet t b p none = taken_quiet (next_of p) t b p none

  -- LOOKS
  asked_follows : (t n : ℕ) (book : SeenBook T) → Follows book.picture.on_order (book_asked t n book).picture.on_order
  asked_follows t zero book = follows book.picture.on_order
  asked_follows t (suc n) book = follows_on book.picture.on_order (book_asked t n book).picture.on_order (book_asked t (suc n) book).picture.on_order
      (asked_follows t n book) (take_follows t true (book_asked t n book).picture)

  looked_follows : (t : ℕ) (l : Look T) (w o : ℕ) (book : SeenBook T) → Follows book.picture.on_order (book_looked t l w o book).picture.on_order
  looked_follows t (look.Found id value) w o book =
      let paid = paid_of w o (book_taken t false book) in
      follows_on book.picture.on_order (book_taken t false book).picture.on_order (book_asked t paid (book_taken t false book)).picture.on_order
      (take_follows t false book.picture) (asked_follows t paid (book_taken t false book))
  looked_follows t (look.Stands slot) w o book = asked_follows t (paid_of w (one_more_owed o) book) book
  looked_follows t look.Full w o book = follows book.picture.on_order

  pub looked_in_order : (t : ℕ) (l : Look T) (w o : ℕ) (old new : SeenBook T) → new ≡ book_looked t l w o old → IsInOrder old.picture.on_order
      → IsInOrder new.picture.on_order
  looked_in_order t l w o old new after order =
      let followed = looked_follows t l w o old in
      subst (λ (b : SeenBook T). IsInOrder b.picture.on_order) (sym after) (followed.in_order order)

  looked_stays : (t : ℕ) (l : Look T) (w o : ℕ) (old : SeenBook T) → has_ordered old (book_looked t l w o old) ≡ false
      → Stays old.picture.on_order (book_looked t l w o old).picture.on_order
  looked_stays t l w o old none =
      let followed = looked_follows t l w o old in followed.same (grind (arith, nat_tests))

  pub looked_quiet : (t : ℕ) (l : Look T) (w o : ℕ) (woken : Bool) (old new : SeenBook T) → new ≡ book_looked t l w o old → woken ≡ has_ordered old new
      → woken ≡ false → Stays old.picture.on_order new.picture.on_order
  looked_quiet t l w o woken old new after ordered none =
      subst (λ (b : SeenBook T). has_ordered old b ≡ false → Stays old.picture.on_order b.picture.on_order) (sym after)
      (looked_stays t l w o old) (sym ordered ∙ none)

  -- a look of one who does not wait
  pub lent_in_order : (t : ℕ) (kept : Bool) (old new : SeenBook T) → (kept ≡ true → new ≡ old) → (kept ≡ false → new.picture ≡ after_take t false old.picture)
      → IsInOrder old.picture.on_order → IsInOrder new.picture.on_order
  lent_in_order t true old new stay takes order = subst (λ (b : SeenBook T). IsInOrder b.picture.on_order) (sym (stay refl)) order
  lent_in_order t false old new stay takes order =
      let followed = take_follows t false old.picture in
      subst (λ (p : Picture T). IsInOrder p.on_order) (sym (takes refl)) (followed.in_order order)

  pub lent_quiet : (t : ℕ) (kept woken : Bool) (result : SeenTake T) (old new : SeenBook T) → (kept ≡ true → new ≡ old)
      → (kept ≡ false → new.picture ≡ after_take t false old.picture) → (kept ≡ false → result ≡ take_answer false old.picture)
      → woken ≡ (wakes_of_take result).workers → woken ≡ false → Stays old.picture.on_order new.picture.on_order
  lent_quiet t true woken result old new stay takes answers wakes none =
      subst (λ (b : SeenBook T). Stays old.picture.on_order b.picture.on_order) (sym (stay refl)) (stays old.picture.on_order)
  lent_quiet t false woken result old new stay takes answers wakes none =
      subst (λ (p : Picture T). Stays old.picture.on_order p.on_order) (sym (takes refl))
      (take_quiet t false old.picture (ap (λ (r : SeenTake T). (wakes_of_take r).workers) (sym (answers refl)) ∙ (sym wakes ∙ none)))

  -- UNLESS IT IS REFUSED
  unless_stays : (r : Option Refusal) (new old : Picture T) → Stays old.on_order new.on_order → Stays old.on_order (unless_refused r new old).on_order
  unless_stays None new old same = same
  unless_stays (Some why) new old same = stays old.on_order

  unless_in_order : (r : Option Refusal) (new old : Picture T) → (IsInOrder old.on_order → IsInOrder new.on_order) → IsInOrder old.on_order
      → IsInOrder (unless_refused r new old).on_order
  unless_in_order None new old kept order = kept order
  unless_in_order (Some why) new old kept order = order

  unless_follows : (r : Option Refusal) (new old : Picture T) → Follows old.on_order new.on_order → Follows old.on_order (unless_refused r new old).on_order
  unless_follows None new old followed = followed
  unless_follows (Some why) new old followed = follows old.on_order

  -- RETURNS
  gone_follows : (id : ℕ) (p : Picture T) → Follows p.on_order (topped_up (gone_one id p)).on_order
  gone_follows id p = orders_follow (top_up_of (gone_one id p)) p.latest p.on_order

  returned_follows : (closing : Bool) (id birth : ℕ) (value : T) (p : Picture T) → Follows p.on_order (returned_by closing id birth value p).on_order
  returned_follows false id birth value p = follows p.on_order
  returned_follows true id birth value p = gone_follows id p

  return_follows : (t id : ℕ) (value : T) (broken : Bool) (p : Picture T) → Follows p.on_order (after_return t id value broken p).on_order
  return_follows t id value broken p = unless_follows (lent_refusal id p) (returned id (lent_birth id p) value broken (raised_to t p)) p
      (returned_follows (is_closing (lent_birth id p) broken (raised_to t p)) id (lent_birth id p) value (raised_to t p))

  pub return_in_order : (t id : ℕ) (value : T) (broken : Bool) (old new : Picture T) → new ≡ after_return t id value broken old
      → IsInOrder old.on_order → IsInOrder new.on_order
  return_in_order t id value broken old new after order =
      let followed = return_follows t id value broken old in
      subst (λ (p : Picture T). IsInOrder p.on_order) (sym after) (followed.in_order order)

  returned_quiet : (r : Option Refusal) (closing : Bool) (id birth : ℕ) (value : T) (p old : Picture T) → p.on_order ≡ old.on_order
      → (wakes_of_return (ok_or_back r value (return_by closing id birth value p))).workers ≡ false
      → Stays old.on_order (unless_refused r (returned_by closing id birth value p) old).on_order
  returned_quiet (Some why) closing id birth value p old same none = stays old.on_order
  returned_quiet None false id birth value p old same none = subst (λ o. Stays o p.on_order) same (stays p.on_order)
  returned_quiet None true id birth value p old same none =
      subst (λ o. Stays o (topped_up (gone_one id p)).on_order) same (none_ordered (top_up_of (gone_one id p)) p.latest p.on_order none)

  return_quiet : (t id : ℕ) (value : T) (broken : Bool) (p : Picture T) → (wakes_of_return (return_answer t id value broken p)).workers ≡ false
      → Stays p.on_order (after_return t id value broken p).on_order
  return_quiet t id value broken p none = returned_quiet (lent_refusal id p) (is_closing (lent_birth id p) broken (raised_to t p)) id (lent_birth id p) value
      (raised_to t p) p refl none

  pub return_stays : (t id : ℕ) (value : T) (broken woken : Bool) (answer : Result (SeenReturned T) (Refusal × T)) (old new : Picture T)
      → new ≡ after_return t id value broken old → answer ≡ return_answer t id value broken old → woken ≡ (wakes_of_return answer).workers
      → woken ≡ false → Stays old.on_order new.on_order
  return_stays t id value broken woken answer old new after answers wakes none =
      subst (λ (p : Picture T). Stays old.on_order p.on_order) (sym after)
      (return_quiet t id value broken old
      (ap (λ (a : Result (SeenReturned T) (Refusal × T)). (wakes_of_return a).workers) (sym answers) ∙ (sym wakes ∙ none)))

  -- OUTCOMES
  failed_in_order : {A : Type 0} (t tries : ℕ) (text : Option (String A)) (p : Picture T) → IsInOrder p.on_order → IsInOrder (failed t tries text p).on_order
  failed_in_order t tries text p order =
      one_in_order (opening (due_again (max p.latest t) tries p.on_order) (min (tries + 1) 99)) p.on_order (failed t tries text p).on_order refl refl order

  checked_follows : {A : Type 0} (t id : ℕ) (text : Option (String A)) (p : Picture T)
      → Follows p.on_order (topped_up (gone_one id (with_text text (raised_to t p)))).on_order
  checked_follows t id text p = gone_follows id (with_text text (raised_to t p))

  settle_in_order : (t : ℕ) (o : Outcome T) (p : Picture T) → IsInOrder p.on_order → IsInOrder (after_settle t o p).on_order
  settle_in_order t (outcome.Opened id value) p = unless_in_order (admit_refusal id p.on_order) _ p
      (λ order. record { openings = order.openings; reap = order.reap })
  settle_in_order t (outcome.Failed tries text) p = unless_in_order (fail_refusal tries p.on_order) (failed t tries text p) p (failed_in_order t tries text p)
  settle_in_order t (outcome.Unsound id text) p =
      let followed = checked_follows t id text p in
      unless_in_order (lent_refusal id p) (topped_up (gone_one id (with_text text (raised_to t p)))) p followed.in_order

  pub settled_in_order : (t : ℕ) (o : Outcome T) (old new : Picture T) → new ≡ after_settle t o old → IsInOrder old.on_order → IsInOrder new.on_order
  settled_in_order t o old new after order = subst (λ (p : Picture T). IsInOrder p.on_order) (sym after) (settle_in_order t o old order)

  failed_quiet : (r : Option Refusal) (due : ℕ) (new old : Picture T) → (let w = wakes_of_settled {T = T} (settled_failure (ok_unless r due)) in w.workers) ≡ false
      → Stays old.on_order (unless_refused r new old).on_order
  failed_quiet None due new old none = absurd cc
  failed_quiet (Some why) due new old none = stays old.on_order

  checked_quiet : (r : Option Refusal) (gone : SeenGone) (new old : Picture T) → (nat_lt 0 gone.ordered ≡ false → Stays old.on_order new.on_order)
      → (let w = wakes_of_settled {T = T} (settled_check (ok_unless r gone)) in w.workers) ≡ false → Stays old.on_order (unless_refused r new old).on_order
  checked_quiet None gone new old same none = same none
  checked_quiet (Some why) gone new old same none = stays old.on_order

  settle_quiet : (t : ℕ) (o : Outcome T) (p : Picture T) → (let w = wakes_of_settled (settle_answer t o p) in w.workers) ≡ false
      → Stays p.on_order (after_settle t o p).on_order
  settle_quiet t (outcome.Opened id value) p none = unless_stays (admit_refusal id p.on_order) _ p (refl, refl)
  settle_quiet t (outcome.Failed tries text) p none =
      failed_quiet (fail_refusal tries p.on_order) (due_again (max p.latest t) tries p.on_order) (failed t tries text p) p none
  settle_quiet t (outcome.Unsound id text) p none =
      let gone = gone_one id (with_text text (raised_to t p)) in
      checked_quiet (lent_refusal id p) (gone_with id (lent_birth id p) (raised_to t p)) (topped_up gone) p
      (λ few. none_ordered (top_up_of gone) gone.latest p.on_order few) none

  pub settled_stays : (t : ℕ) (o : Outcome T) (woken : Bool) (answer : SeenSettled T) (old new : Picture T) → new ≡ after_settle t o old
      → answer ≡ settle_answer t o old → woken ≡ (let w = wakes_of_settled answer in w.workers) → woken ≡ false → Stays old.on_order new.on_order
  settled_stays t o woken answer old new after answers wakes none =
      subst (λ (p : Picture T). Stays old.on_order p.on_order) (sym after)
      (settle_quiet t o old (ap (λ (a : SeenSettled T). (let w = wakes_of_settled a in w.workers)) (sym answers) ∙ (sym wakes ∙ none)))

  -- REAPS
  pub reap_in_order : (t : ℕ) (old new : Picture T) → new ≡ after_reap t old → IsInOrder old.on_order → IsInOrder new.on_order
  reap_in_order t old new after order =
      let followed = orders_follow (reap_orders t old) (max old.latest t) old.on_order in
      subst (λ (p : Picture T). IsInOrder p.on_order) (sym after) (followed.in_order order)

  pub reap_stays : (t n : ℕ) (woken : Bool) (old new : Picture T) → new ≡ after_reap t old → n ≡ reap_orders t old → woken ≡ nat_lt 0 n
      → woken ≡ false → Stays old.on_order new.on_order
  reap_stays t n woken old new after ordered wakes none =
      subst (λ (p : Picture T). Stays old.on_order p.on_order) (sym after)
      (none_ordered (reap_orders t old) (max old.latest t) old.on_order (ap (nat_lt 0) (sym ordered) ∙ (sym wakes ∙ none)))

  -- NUMBERS
  pub number_stays : (tries : ℕ) (old new : Picture T) → new ≡ after_number tries old → Stays old.on_order new.on_order
  number_stays tries old new after =
      subst (λ (p : Picture T). Stays old.on_order p.on_order) (sym after) (numbered_stays (number_refusal tries old.on_order) tries old.on_order)

  -- EVICTIONS
  one_evicted_in_order : (t : ℕ) (c : Option (SeenIdleConnection T)) (b : SeenBook T) → IsInOrder b.picture.on_order
      → IsInOrder (one_evicted t c b).picture.on_order
  one_evicted_in_order t None b order = let taken = take_follows t false b.picture in taken.in_order order
  one_evicted_in_order t (Some c) b order =
      let taken = take_follows t false b.picture in
      let gone = return_follows t c.id c.value true (book_taken t false b).picture in
      gone.in_order (taken.in_order order)

  each_evicted_in_order : (t : ℕ) (cs : List (SeenIdleConnection T)) (b : SeenBook T) → IsInOrder b.picture.on_order
      → IsInOrder (each_evicted t cs b).picture.on_order
  each_evicted_in_order t [] b order = one_evicted_in_order t None b order
  each_evicted_in_order t (c ∷ cs) b order = each_evicted_in_order t cs (one_evicted t (Some c) b) (one_evicted_in_order t (Some c) b order)

  pub evicted_in_order : (t : ℕ) (old new : SeenBook T) → new ≡ after_eviction t old → IsInOrder old.picture.on_order → IsInOrder new.picture.on_order
  evicted_in_order t old new after order =
      subst (λ (b : SeenBook T). IsInOrder b.picture.on_order) (sym after)
      (each_evicted_in_order t (in_lending_order old.picture.on_order.limits.order old.picture.idle) old order)
