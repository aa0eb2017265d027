-- What the type of a book keeps, step by step.
use Rattle.std.proofs.Common.{◌≡◌, ℕ, ◌+◌, ◌≤◌, max, Bool, true, false, cond, not, List, [], ◌∷◌, ◌++◌, length, map, drop, Option, Some, None, String, refl}
use Rattle.std.proofs.Common.{sym, ◌∙◌, ap, subst, arith, inl, inr}
use Rattle.std.specs.Prelude.{nat_lt, is_some, filter}
use Rattle.std.proofs.lemmas.List.{length-map}
use Rattle.std.proofs.lemmas.Bool.{cases_eq}
use Rattle.pool_machine.specs.declared.machine.answers.Refusal.{Refusal}
use Rattle.pool_machine.specs.declared.machine.answers.Refusal.TheVariants as refusal
use Rattle.pool_machine.specs.declared.schedule.limits.LimitSettings.{LimitSettings}
use Rattle.pool_machine.specs.Limits.{wanted_of}
use Rattle.pool_machine.specs.Ids.{copies_of}
use Rattle.pool_machine.specs.Lending.{next_to_lend}
use Rattle.pool_machine.specs.Connections.{SeenIdleConnection, id_of_idle, id_of_lent, released_at, is_expired, birth_in}
use Rattle.pool_machine.specs.Jobs.{SeenJob, Open, Reap, Wait, Nothing, Closed}
use Rattle.pool_machine.specs.Refusals.{ok_unless, ok_or_back, unless_refused}
use Rattle.pool_machine.specs.OnOrder.{SeenOnOrder, job_at, begun_by, number_refusal, numbered_one, fail_refusal, admit_refusal}
use Rattle.pool_machine.specs.Picture.{Picture, IsSound}
use Rattle.pool_machine.specs.Table.{raised_to, with_on_order, first_picture, take_orders, take_answer, after_take, after_begin, after_number, failed, after_fail}
use Rattle.pool_machine.specs.Table.{admitted_at, admit_answer, after_admit, with_text, gone_one, topped_up, lent_refusal, lent_birth, is_closing, returned}
use Rattle.pool_machine.specs.Table.{return_of, return_answer, after_return, gone_with, check_answer, after_check, reap_closed, reap_orders, after_reap}
use Rattle.pool_machine.specs.Table.{after_take_error, after_close}
use Rattle.pool_machine.specs.Seen.{take_with, or_text}
use Rattle.r2d2_core.specs.Records.{SeenRecord}
use Rattle.r2d2_core.specs.Recorded.{record_of_take, record_of_admission, record_of_return, record_of_check, record_of_reap, record_of_close}
use Rattle.r2d2_core.specs.Bases.{SeenBase, first_base}
use Rattle.r2d2_core.specs.Journal.{SeenJournal, with_oldest, added, with_noted, next_count, takes_with}
use Rattle.r2d2_core.specs.Book.{SeenBook, bare}
use Rattle.r2d2_core.specs.BookParts.{KeepReplaying, IsRecorded}
use Rattle.pool_machine.proofs.Facts.Accounted.{passes, not_false, found_numbered}
use Rattle.pool_machine.proofs.Facts.Steady.{sound_at, sound_told}
use Rattle.pool_machine.proofs.Lists.Ids.{copies_of-append, copies_of-append3, copies_of-one, copies_of-other}
use Rattle.r2d2_core.proofs.Recording.Replaying.{with_none_more, with_oldest_folded}
use Rattle.r2d2_core.proofs.Recording.Takes.{replaying_at, replaying_taken, replaying_admitted}
use Rattle.r2d2_core.proofs.Recording.Returns.{replaying_lost, replaying_returned}
use Rattle.r2d2_core.proofs.Recording.Reaps.{replaying_reap, replaying_close}

begun_leaves : (task : SeenJob) (o : SeenOnOrder) → (let q = begun_by task o in (q.limits ≡ o.limits) × (o.pending ≡ q.pending) × (o.closed ≡ q.closed)
    × (o.next_id ≡ q.next_id) × (o.numbered ≡ q.numbered))
begun_leaves (Open tries) o = (refl, refl, refl, refl, refl)
begun_leaves Reap o = (refl, refl, refl, refl, refl)
begun_leaves (Wait due) o = (refl, refl, refl, refl, refl)
begun_leaves Nothing o = (refl, refl, refl, refl, refl)
begun_leaves Closed o = (refl, refl, refl, refl, refl)

module _ {T : Type 0} where
  -- what a book keeps once a step made that picture and that record, and before it is noted
  abbrev pub KeepsWith : SeenJournal → Option SeenRecord → Picture T → Type 0
  KeepsWith l made p = KeepReplaying l.limits l.base (added made l.records) p

  one_more_by : (l m : SeenJournal) (r : SeenRecord) (p : Picture T) (has_room : Bool) → KeepsWith l (Some r) p
      → m ≡ cond has_room (record l { records = l.records ++ r ∷ []; takes = takes_with r l.takes })
      (record l {
        base = with_oldest l.limits (l.records ++ r ∷ []) l.base;
        records = drop 1 (l.records ++ r ∷ []);
        lost = next_count l.lost;
        takes = takes_with r l.takes;
      })
      → KeepReplaying m.limits m.base m.records p
  one_more_by l m r p true k is = subst (λ (n : SeenJournal). KeepReplaying n.limits n.base n.records p) (sym is) k
  one_more_by l m r p false k is = subst (λ (n : SeenJournal). KeepReplaying n.limits n.base n.records p) (sym is)
      (with_oldest_folded l.limits l.base (l.records ++ r ∷ []) p k)

  noted_by : (l m : SeenJournal) (made : Option SeenRecord) (p : Picture T) → KeepsWith l made p → m ≡ with_noted made l
      → KeepReplaying m.limits m.base m.records p
  noted_by l m None p k is = subst (λ (n : SeenJournal). KeepReplaying n.limits n.base n.records p) (sym is) k
  noted_by l m (Some r) p k is = one_more_by l m r p (nat_lt (length l.records) l.room) k is

  -- then it is noted
  pub recorded : (made : Option SeenRecord) (a a' : SeenBook T) (p : Picture T) → a'.picture ≡ p → a'.journal ≡ with_noted made a.journal
      → KeepsWith a.journal made p → IsRecorded a'
  recorded made a a' p went noted k =
      subst (λ (q : Picture T). KeepReplaying a'.journal.limits a'.journal.base a'.journal.records q) (sym went) (noted_by a.journal a'.journal made p k noted)

  -- MAKING

  -- a book just made
  pub recorded_made : (limits : LimitSettings) (now first_id room : ℕ) → wanted_of limits ≤ limits.max_size
      → KeepReplaying {T = T} limits (first_base limits now) [] (first_picture limits now first_id)
  recorded_made limits now first_id room within =
      record {
        same = refl;
        replays = record {
          base = record {
            apart = λ i. omega arith;
            counted = omega arith;
            fits = omega (arith, within);
            is_sorted = λ i j d le lt. absurd (omega (arith, lt));
            seen = λ k d lt. absurd (omega (arith, lt));
            born = λ k d lt. absurd (omega (arith, lt));
            born_lent = λ k d lt. absurd (omega (arith, lt));
            none_idle = λ closed. refl;
            none_pending = λ closed. absurd cc;
          };
          legal = record { follow = refl; apart = λ i. omega arith };
          shows = record { idle = refl; lent = refl; connections = refl; pending = refl; closed = refl };
        };
        not_after = omega arith;
        fresh = λ i. omega arith;
        below_next = λ i past. refl;
      }

  -- TAKE

  take_orders-at : (t : ℕ) (o : Bool) (m : Option (SeenIdleConnection T)) (p : Picture T) → take_orders m o (raised_to t p) ≡ take_orders m o p
  take_orders-at t o None p = refl
  take_orders-at t o (Some c) p = refl

  pub keeps_take : (t : ℕ) (o : Bool) (a : SeenBook T) → IsSound a.picture → IsRecorded a
      → KeepsWith a.journal (record_of_take (max a.picture.latest t) (take_answer o a.picture)) (after_take t o a.picture)
  keeps_take t o a sound old =
      let p = a.picture in
      let l = a.journal in
      let m = next_to_lend p.on_order.limits.order p.idle in
      subst (λ n. KeepsWith l (record_of_take (max p.latest t) (take_with m n)) (after_take t o p)) (take_orders-at t o m p)
      (replaying_taken l.limits l.base l.records (raised_to t p) o m refl (sound_at t sound) (replaying_at t l.limits l.base l.records p old))

  -- BEGIN, NUMBER, FAIL, TAKE ERROR

  -- a step that leaves what records tell
  keeps_none : (a : SeenBook T) (p : Picture T) → p.on_order.limits ≡ a.picture.on_order.limits
      → a.picture.idle ≡ p.idle → a.picture.lent ≡ p.lent → a.picture.connections ≡ p.connections → a.picture.on_order.pending ≡ p.on_order.pending
      → a.picture.on_order.closed ≡ p.on_order.closed → a.picture.latest ≤ p.latest
      → ((i : ℕ) → p.on_order.next_id ≤ i → a.picture.on_order.next_id ≤ i)
      → ((i n : ℕ) → n + copies_of i a.picture.on_order.numbered ≤ 1 → (a.picture.on_order.next_id ≤ i → n ≡ 0) → n + copies_of i p.on_order.numbered ≤ 1)
      → IsRecorded a → KeepsWith a.journal None p
  keeps_none a p same idle lent connections pending closed later next numbers old =
      with_none_more a.journal.limits a.journal.base a.journal.records a.picture p (sym same)
      (ap (map bare) idle) lent connections pending closed later next numbers old

  pub keeps_begin : (t : ℕ) (a : SeenBook T) → IsRecorded a → KeepsWith a.journal None (after_begin t a.picture)
  keeps_begin t a old =
      let p = a.picture in
      let left = begun_leaves (job_at (max p.latest t) p.on_order) p.on_order in
      keeps_none a (after_begin t p) left.0 refl refl refl left.1 left.2 (omega arith)
      (λ i past. omega (arith, left.3, past)) (λ i n few none. omega (arith, few, ap (copies_of i) left.4)) old

  known_numbered : (p : Picture T) (i n : ℕ) → IsSound p → n + copies_of i p.on_order.numbered ≤ 1 → (p.on_order.next_id ≤ i → n ≡ 0)
      → n + copies_of i (p.on_order.numbered ++ p.on_order.next_id ∷ []) ≤ 1
  known_numbered p i n sound few none =
      let next = p.on_order.next_id in
      elim (cases_eq i next) [
        | inl e ↦ omega (
          arith,
          copies_of-append i p.on_order.numbered (next ∷ []),
          copies_of-one i next,
          none (omega (arith, e)),
          sound.steady.below_next i (omega (arith, e)),
          copies_of-append3 i (map id_of_idle p.idle) (map id_of_lent p.lent) p.on_order.numbered,
        )
        | inr ne ↦ omega (arith, copies_of-append i p.on_order.numbered (next ∷ []), copies_of-other i next ne, few)
      ]

  number_by : (tries : ℕ) (a : SeenBook T) (why : Option Refusal) → IsSound a.picture → IsRecorded a
      → KeepsWith a.journal None (with_on_order (unless_refused why (numbered_one tries a.picture.on_order) a.picture.on_order) a.picture)
  number_by tries a None sound old = keeps_none a _ refl refl refl refl refl refl (omega arith) (λ i past. omega (arith, past))
      (λ i n few none. known_numbered a.picture i n sound few none) old
  number_by tries a (Some why) sound old = old

  pub keeps_number : (tries : ℕ) (a : SeenBook T) → IsSound a.picture → IsRecorded a → KeepsWith a.journal None (after_number tries a.picture)
  keeps_number tries a sound old = number_by tries a (number_refusal tries a.picture.on_order) sound old

  fail_by : {A : Type 0} (t tries : ℕ) (text : Option (String A)) (a : SeenBook T) (why : Option Refusal) → IsRecorded a
      → KeepsWith a.journal None (unless_refused why (failed t tries text a.picture) a.picture)
  fail_by t tries text a None old = keeps_none a _ refl refl refl refl refl refl (omega arith) (λ i past. past) (λ i n few none. few) old
  fail_by t tries text a (Some why) old = old

  pub keeps_fail : {A : Type 0} (t tries : ℕ) (text : Option (String A)) (a : SeenBook T) → IsRecorded a
      → KeepsWith a.journal None (after_fail t tries text a.picture)
  keeps_fail t tries text a old = fail_by t tries text a (fail_refusal tries a.picture.on_order) old

  pub keeps_take_error : (a : SeenBook T) → IsRecorded a → KeepsWith a.journal None (after_take_error a.picture)
  keeps_take_error a old = keeps_none a _ refl refl refl refl refl refl (omega arith) (λ i past. past) (λ i n few none. few) old

  -- ADMIT

  admit_by : (t id : ℕ) (value : T) (a : SeenBook T) (why : Option Refusal) → admit_refusal id a.picture.on_order ≡ why → IsSound a.picture → IsRecorded a
      → KeepsWith a.journal (record_of_admission (max a.picture.latest t) id (ok_or_back why value tt))
      (unless_refused why (admitted_at (max a.picture.latest t) id value a.picture) a.picture)
  admit_by t id value a None e sound old =
      let p = a.picture in
      let l = a.journal in
      let there = found_numbered id p.on_order e in
      replaying_admitted l.limits l.base l.records (raised_to t p) id value there.1 (sound_at t sound) (replaying_at t l.limits l.base l.records p old)
  admit_by t id value a (Some why) e sound old = old

  pub keeps_admit : (t id : ℕ) (value : T) (a : SeenBook T) → IsSound a.picture → IsRecorded a
      → KeepsWith a.journal (record_of_admission (max a.picture.latest t) id (admit_answer id value a.picture)) (after_admit t id value a.picture)
  keeps_admit t id value a sound old = admit_by t id value a (admit_refusal id a.picture.on_order) refl sound old

  -- RETURN, FAILED CHECK

  -- an id that is accepted is lent
  is_lent : (id : ℕ) (p : Picture T) → lent_refusal id p ≡ None → is_some (birth_in id p.lent) ≡ true
  is_lent id p e = not_false (is_some (birth_in id p.lent)) (let there = passes (not (is_some (birth_in id p.lent))) refusal.NotLent None e in there.0)

  return_by_refusal : (t id : ℕ) (value : T) (broken : Bool) (a : SeenBook T) (why : Option Refusal) → lent_refusal id a.picture ≡ why → IsSound a.picture
      → IsRecorded a
      → KeepsWith a.journal (record_of_return (max a.picture.latest t) id (ok_or_back why value
      (return_of id (lent_birth id a.picture) value broken (raised_to t a.picture))))
      (unless_refused why (returned id (lent_birth id a.picture) value broken (raised_to t a.picture)) a.picture)
  return_by_refusal t id value broken a None e sound old =
      let p = a.picture in
      let l = a.journal in
      replaying_returned (is_closing (lent_birth id p) broken (raised_to t p)) l.limits l.base l.records (raised_to t p) id value broken refl (is_lent id p e)
      (sound_at t sound) (replaying_at t l.limits l.base l.records p old)
  return_by_refusal t id value broken a (Some why) e sound old = old

  pub keeps_return : (t id : ℕ) (value : T) (broken : Bool) (a : SeenBook T) → IsSound a.picture → IsRecorded a
      → KeepsWith a.journal (record_of_return (max a.picture.latest t) id (return_answer t id value broken a.picture))
      (after_return t id value broken a.picture)
  keeps_return t id value broken a sound old = return_by_refusal t id value broken a (lent_refusal id a.picture) refl sound old

  -- a text changes nothing that records tell
  replaying_told : {A : Type 0} (text : Option (String A)) (limits : LimitSettings) (b : SeenBase) (rs : List SeenRecord) (p : Picture T)
      → KeepReplaying limits b rs p → KeepReplaying limits b rs (with_text text p)
  replaying_told text limits b rs p k = with_none_more limits b rs p (with_text text p) refl refl refl refl refl refl (omega arith) (λ i past. past)
      (λ i n few none. few) k

  check_by : {A : Type 0} (t id : ℕ) (text : Option (String A)) (a : SeenBook T) (why : Option Refusal) → lent_refusal id a.picture ≡ why → IsSound a.picture
      → IsRecorded a
      → KeepsWith a.journal (record_of_check (max a.picture.latest t) id (ok_unless why (gone_with id (lent_birth id a.picture) (raised_to t a.picture))))
      (unless_refused why (topped_up (gone_one id (with_text text (raised_to t a.picture)))) a.picture)
  check_by t id text a None e sound old =
      let p = a.picture in
      let l = a.journal in
      replaying_lost l.limits l.base l.records (with_text text (raised_to t p)) id (is_lent id p e) (sound_told (or_text text p.last_error) (sound_at t sound))
      (replaying_told text l.limits l.base l.records (raised_to t p) (replaying_at t l.limits l.base l.records p old))
  check_by t id text a (Some why) e sound old = old

  pub keeps_check : {A : Type 0} (t id : ℕ) (text : Option (String A)) (a : SeenBook T) → IsSound a.picture → IsRecorded a
      → KeepsWith a.journal (record_of_check (max a.picture.latest t) id (check_answer t id a.picture)) (after_check t id text a.picture)
  keeps_check t id text a sound old = check_by t id text a (lent_refusal id a.picture) refl sound old

  -- REAP, CLOSE

  pub keeps_reap : (t : ℕ) (a : SeenBook T) (closed : ℕ) → closed ≡ length (reap_closed t a.picture) → IsSound a.picture → IsRecorded a
      → KeepsWith a.journal (record_of_reap (max a.picture.latest t) closed (reap_orders t a.picture)) (after_reap t a.picture)
  keeps_reap t a closed is sound old =
      let p = a.picture in
      let l = a.journal in
      let gone = filter (is_expired p.on_order.limits (max p.latest t)) p.idle in
      subst (λ n. KeepsWith l (record_of_reap (max p.latest t) n (reap_orders t p)) (after_reap t p))
      (sym (is ∙ length-map gone (released_at (max p.latest t))))
      (replaying_reap l.limits l.base l.records (raised_to t p) (sound_at t sound) (replaying_at t l.limits l.base l.records p old))

  pub keeps_close : (a : SeenBook T) → IsSound a.picture → IsRecorded a → KeepsWith a.journal (record_of_close a.picture.latest a.picture.on_order.closed)
      (after_close a.picture)
  keeps_close a sound old = replaying_close a.journal.limits a.journal.base a.journal.records a.picture sound old
