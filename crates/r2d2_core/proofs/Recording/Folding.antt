-- The law of folding: a legal record folded into a legal base leaves the base legal, and the records behind it legal from there.
use Rattle.std.proofs.Common.{◌≡◌, ℕ, ◌+◌, ◌-◌, ◌≤◌, ◌<◌, min, Bool, true, false, cond, not, ◌==◌, List, [], ◌∷◌, ◌++◌, map, length, Option, Some, None, refl}
use Rattle.std.proofs.Common.{sym, ◌∙◌, ap, subst, arith}
use Rattle.std.specs.Prelude.{◌&&◌, nat_le, nat_lt, is_some, filter, option_map, unwrap_or}
use Rattle.std.specs.List.{All}
use Rattle.std.specs.List.Sorted.{IsNonDecreasingBy}
use Rattle.std.proofs.lemmas.List.{length_push}
use Rattle.std.proofs.lemmas.List.Elements.{All-filter}
use Rattle.std.proofs.lemmas.List.Filters.{length-filter_both}
use Rattle.std.proofs.lemmas.List.Kept.{IsNonDecreasingBy-filter}
use Rattle.std.proofs.lemmas.List.Sorted.{IsNonDecreasingBy-push}
use Rattle.std.proofs.lemmas.Bool.{eqb-true}
use Rattle.std.proofs.lemmas.Bool.Decides.{nat_tests}
use Rattle.pool_machine.specs.declared.schedule.limits.LimitSettings.{LimitSettings}
use Rattle.pool_machine.specs.Limits.{wanted_of, top_up}
use Rattle.pool_machine.specs.Ids.{found, without, copies_of}
use Rattle.pool_machine.specs.Lending.{next_to_lend, still_idle}
use Rattle.pool_machine.specs.Connections.{SeenLentConnection, idle_connection, lent_connection, birth_in, id_of_idle, id_of_lent, since_of, is_expired, is_kept}
use Rattle.r2d2_core.specs.Records.{SeenRecord, Taken, Ordered, Admitted, Kept, Closed, Reaped, ClosedAll}
use Rattle.r2d2_core.specs.Bases.{SeenBase, BareConnection, ids_in_base, IsLegalBase}
use Rattle.r2d2_core.specs.Folding.{birth_of_idle, birth_of_lent, expired_in, up_to, folded, replay, is_next, fits, may_follow, all_follow}
use Rattle.std.specs.Prelude.{flat_map}
use Rattle.r2d2_core.specs.Folding.{admitted_by, known_in, AreLegalFrom}
use Rattle.pool_machine.proofs.Lists.Filters.{copies_of-filter}
use Rattle.pool_machine.proofs.Lists.Ids.{copies_of-append, copies_of-push, copies_of-without, length-without, All-without, All-found, All-push, All-weaker}
use Rattle.pool_machine.proofs.Lists.Lending.{found-next, without-next, IsNonDecreasingBy-still_idle}

-- TESTS

pub both : (a b : Bool) → a ≡ true → b ≡ true → (a && b) ≡ true
both true b e f = f
both false b e f = absurd cc

pub split : (a b : Bool) → (a && b) ≡ true → (a ≡ true) × (b ≡ true)
split true b e = (refl, e)
split false b e = absurd cc

pub is_le : (a b : ℕ) → nat_le a b ≡ true → a ≤ b
is_le a b e = grind (arith, nat_tests)

pub is_lt : (a b : ℕ) → nat_lt a b ≡ true → a < b
is_lt a b e = grind (arith, nat_tests)

pub is_false : (b : Bool) → not b ≡ true → b ≡ false
is_false true e = absurd cc
is_false false e = refl

-- what is ordered is none once closed, and has room
closed_none : (closed : Bool) (n m : ℕ) → n ≡ cond closed 0 m → closed ≡ true → n ≡ 0
closed_none true n m e c = e
closed_none false n m e c = absurd cc

ordered_fits : (closed : Bool) (n wanted size idle connections pending : ℕ) → connections + pending ≤ size
    → n ≡ cond closed 0 (min (wanted - idle) (size - connections - pending)) → connections + (pending + n) ≤ size
ordered_fits true n wanted size idle connections pending le e = omega (arith, le, e)
ordered_fits false n wanted size idle connections pending le e = omega (arith, le, e)

-- THE ONE THAT A RECORD NAMES

pub record NextIs (limits : LimitSettings) (id : ℕ) (b : SeenBase) : Type 0 where
  pub c : BareConnection
  pub next : next_to_lend limits.order b.idle ≡ Some c
  pub same : c.id ≡ id

next_by : (limits : LimitSettings) (id : ℕ) (b : SeenBase) (o : Option BareConnection) → next_to_lend limits.order b.idle ≡ o
    → unwrap_or (option_map (λ c. c.id == id) o) false ≡ true → NextIs limits id b
next_by limits id b None e is = absurd cc
next_by limits id b (Some c) e is = record { c = c; next = e; same = eqb-true c.id id is }

pub next_is : (limits : LimitSettings) (id : ℕ) (b : SeenBase) → is_next limits id b ≡ true → NextIs limits id b
next_is limits id b is = next_by limits id b (next_to_lend limits.order b.idle) refl is

-- it is the one with the id
pub record StandsNext (limits : LimitSettings) (id : ℕ) (b : SeenBase) : Type 0 where
  pub c : BareConnection
  pub there : found id_of_idle id b.idle ≡ Some c
  pub others : without id_of_idle id b.idle ≡ still_idle limits.order b.idle

pub stands_next : (limits : LimitSettings) (id : ℕ) (b : SeenBase) → ((i : ℕ) → copies_of i (map id_of_idle b.idle) ≤ 1) → is_next limits id b ≡ true
    → StandsNext limits id b
stands_next limits id b apart is =
    let n = next_is limits id b is in
    record {
      c = n.c;
      there = subst (λ i. found id_of_idle i b.idle ≡ Some n.c) n.same (found-next id_of_idle limits.order b.idle n.c n.next apart);
      others = subst (λ i. without id_of_idle i b.idle ≡ still_idle limits.order b.idle) n.same (without-next id_of_idle limits.order b.idle n.c n.next apart);
    }

pub record IsThere (id : ℕ) (b : SeenBase) : Type 0 where
  pub l : SeenLentConnection
  pub there : found id_of_lent id b.lent ≡ Some l

there_by : (id : ℕ) (b : SeenBase) (o : Option SeenLentConnection) → found id_of_lent id b.lent ≡ o
    → is_some (option_map (λ (c : SeenLentConnection). c.birth) o) ≡ true → IsThere id b
there_by id b None e is = absurd cc
there_by id b (Some l) e is = record { l = l; there = e }

pub is_there : (id : ℕ) (b : SeenBase) → is_some (birth_in id b.lent) ≡ true → IsThere id b
is_there id b is = there_by id b (found id_of_lent id b.lent) refl is

-- IDS

pub idle_apart : (b : SeenBase) → ((i : ℕ) → copies_of i (ids_in_base b) ≤ 1) → (i : ℕ) → copies_of i (map id_of_idle b.idle) ≤ 1
idle_apart b apart i = omega (arith, apart i, copies_of-append i (map id_of_idle b.idle) (map id_of_lent b.lent))

pub lent_apart : (b : SeenBase) → ((i : ℕ) → copies_of i (ids_in_base b) ≤ 1) → (i : ℕ) → copies_of i (map id_of_lent b.lent) ≤ 1
lent_apart b apart i = omega (arith, apart i, copies_of-append i (map id_of_idle b.idle) (map id_of_lent b.lent))

-- a record that fits brings no ids but those that it admits
pub ids_folded : (limits : LimitSettings) (r : SeenRecord) (b : SeenBase) → ((i : ℕ) → copies_of i (ids_in_base b) ≤ 1) → fits limits r b ≡ true → (i : ℕ)
    → copies_of i (ids_in_base (folded limits r b)) ≤ copies_of i (ids_in_base b) + copies_of i (admitted_by r)
ids_folded limits (Taken at id n) b apart fit i =
    let l = lent_connection id (birth_of_idle id b.idle) in
    let s = stands_next limits id b (idle_apart b apart) ((split _ _ fit).0) in
    omega (
      arith,
      copies_of-append i (map id_of_idle b.idle) (map id_of_lent b.lent),
      copies_of-append i (map id_of_idle (without id_of_idle id b.idle)) (map id_of_lent (b.lent ++ l ∷ [])),
      copies_of-without id_of_idle id i b.idle s.c s.there,
      copies_of-push id_of_lent i b.lent l,
    )
ids_folded limits (Ordered at n) b apart fit i = omega arith
ids_folded limits (Admitted at id) b apart fit i =
    omega (
      arith,
      copies_of-append i (map id_of_idle b.idle) (map id_of_lent b.lent),
      copies_of-append i (map id_of_idle (b.idle ++ idle_connection id at at tt ∷ [])) (map id_of_lent b.lent),
      copies_of-push id_of_idle i b.idle (idle_connection id at at tt),
    )
ids_folded limits (Kept at id) b apart fit i =
    let c = idle_connection id (birth_of_lent id b.lent) at tt in
    let s = is_there id b ((split _ _ fit).0) in
    omega (
      arith,
      copies_of-append i (map id_of_idle b.idle) (map id_of_lent b.lent),
      copies_of-append i (map id_of_idle (b.idle ++ c ∷ [])) (map id_of_lent (without id_of_lent id b.lent)),
      copies_of-without id_of_lent id i b.lent s.l s.there,
      copies_of-push id_of_idle i b.idle c,
    )
ids_folded limits (Closed at id n) b apart fit i =
    let s = is_there id b ((split _ _ fit).0) in
    omega (
      arith,
      copies_of-append i (map id_of_idle b.idle) (map id_of_lent b.lent),
      copies_of-append i (map id_of_idle b.idle) (map id_of_lent (without id_of_lent id b.lent)),
      copies_of-without id_of_lent id i b.lent s.l s.there,
    )
ids_folded limits (Reaped at n) b apart fit i =
    omega (
      arith,
      copies_of-append i (map id_of_idle b.idle) (map id_of_lent b.lent),
      copies_of-append i (map id_of_idle (filter (is_kept limits at) b.idle)) (map id_of_lent b.lent),
      copies_of-filter (is_kept limits at) id_of_idle i b.idle,
    )
ids_folded limits (ClosedAll at) b apart fit i = omega (arith, copies_of-append i (map id_of_idle b.idle) (map id_of_lent b.lent))

-- THE BASE

-- what is seen and born before stays so
module _ (limits : LimitSettings) (b : SeenBase) (legal : IsLegalBase limits b) where
  seen_at : (at : ℕ) → b.at ≤ at → All (λ c. c.since ≤ at) b.idle
  seen_at at later = All-weaker (λ c. c.since ≤ b.at) (λ c. c.since ≤ at) b.idle (λ c le. omega (arith, le, later)) legal.seen

  born_at : (at : ℕ) → b.at ≤ at → All (λ l. l.birth ≤ at) b.lent
  born_at at later = All-weaker (λ l. l.birth ≤ b.at) (λ l. l.birth ≤ at) b.lent (λ l le. omega (arith, le, later)) legal.born_lent

  -- one more is idle since the latest moment
  sorted_more : (c : BareConnection) → b.at ≤ c.since → IsNonDecreasingBy since_of (b.idle ++ c ∷ [])
  sorted_more c later =
      IsNonDecreasingBy-push since_of b.idle c legal.is_sorted
      (λ d some. omega (arith, legal.seen (length b.idle - 1) d (omega (arith, some)), later))

  legal_taken : (at id n : ℕ) → b.at ≤ at → fits limits (Taken at id n) b ≡ true → ((i : ℕ) → copies_of i (ids_in_base (folded limits (Taken at id n) b)) ≤ 1)
      → IsLegalBase limits (folded limits (Taken at id n) b)
  legal_taken at id n later fit apart =
      let f = split _ _ fit in
      let s = stands_next limits id b (idle_apart b legal.apart) f.0 in
      let l = lent_connection id (birth_of_idle id b.idle) in
      let is : n ≡ top_up limits b.closed (length (without id_of_idle id b.idle)) b.connections b.pending = eqb-true n _ f.1 in
      let since : s.c.since ≤ b.at = All-found (λ c. c.since ≤ b.at) id_of_idle id b.idle s.c legal.seen s.there in
      let birth : s.c.birth ≤ s.c.since = All-found (λ c. c.birth ≤ c.since) id_of_idle id b.idle s.c legal.born s.there in
      let born : birth_of_idle id b.idle ≡ s.c.birth = ap (λ o. unwrap_or (option_map (λ (c : BareConnection). c.birth) o) 0) s.there in
      record {
        apart = apart;
        counted = omega (arith, legal.counted, length-without id_of_idle id b.idle s.c s.there, length_push b.lent l);
        fits = ordered_fits b.closed n (wanted_of limits) limits.max_size (length (without id_of_idle id b.idle)) b.connections b.pending legal.fits is;
        is_sorted = subst (IsNonDecreasingBy since_of) (sym s.others) (IsNonDecreasingBy-still_idle since_of limits.order b.idle legal.is_sorted);
        seen = All-without (λ c. c.since ≤ at) id_of_idle id b.idle (seen_at at later);
        born = All-without (λ c. c.birth ≤ c.since) id_of_idle id b.idle legal.born;
        born_lent = All-push (λ l. l.birth ≤ at) b.lent l (born_at at later) (omega (arith, born, birth, since, later));
        none_idle = λ closed. ap (without id_of_idle id) (legal.none_idle closed);
        none_pending = λ closed. omega (arith, legal.none_pending closed, closed_none b.closed n _ is closed);
      }

  legal_ordered : (at n : ℕ) → b.at ≤ at → fits limits (Ordered at n) b ≡ true → ((i : ℕ) → copies_of i (ids_in_base (folded limits (Ordered at n) b)) ≤ 1)
      → IsLegalBase limits (folded limits (Ordered at n) b)
  legal_ordered at n later fit apart =
      let f = split _ _ ((split _ _ fit).1) in
      let g = split _ _ f.1 in
      let one : n ≡ 1 = eqb-true n 1 f.0 in
      let room : b.connections + b.pending < limits.max_size = is_lt _ _ g.1 in
      record {
        apart = apart;
        counted = legal.counted;
        fits = omega (arith, one, room);
        is_sorted = legal.is_sorted;
        seen = seen_at at later;
        born = legal.born;
        born_lent = born_at at later;
        none_idle = legal.none_idle;
        none_pending = λ closed. absurd (let still = is_false b.closed g.0 in cc (closed, still));
      }

  legal_admitted : (at id : ℕ) → b.at ≤ at → fits limits (Admitted at id) b ≡ true → ((i : ℕ) → copies_of i (ids_in_base (folded limits (Admitted at id) b)) ≤ 1)
      → IsLegalBase limits (folded limits (Admitted at id) b)
  legal_admitted at id later fit apart =
      let some : 0 < b.pending = is_lt _ _ fit in
      let c = idle_connection id at at tt in
      record {
        apart = apart;
        counted = omega (arith, legal.counted, length_push b.idle c);
        fits = omega (arith, legal.fits, some);
        is_sorted = sorted_more c later;
        seen = All-push (λ c. c.since ≤ at) b.idle c (seen_at at later) (omega arith);
        born = All-push (λ c. c.birth ≤ c.since) b.idle c legal.born (omega arith);
        born_lent = born_at at later;
        none_idle = λ closed. absurd (omega (arith, some, legal.none_pending closed));
        none_pending = λ closed. absurd (omega (arith, some, legal.none_pending closed));
      }

  legal_kept : (at id : ℕ) → b.at ≤ at → fits limits (Kept at id) b ≡ true → ((i : ℕ) → copies_of i (ids_in_base (folded limits (Kept at id) b)) ≤ 1)
      → IsLegalBase limits (folded limits (Kept at id) b)
  legal_kept at id later fit apart =
      let f = split _ _ fit in
      let g = split _ _ f.1 in
      let s = is_there id b f.0 in
      let c = idle_connection id (birth_of_lent id b.lent) at tt in
      let birth : s.l.birth ≤ b.at = All-found (λ l. l.birth ≤ b.at) id_of_lent id b.lent s.l legal.born_lent s.there in
      let born : birth_of_lent id b.lent ≡ s.l.birth = ap (λ o. unwrap_or (option_map (λ (c : SeenLentConnection). c.birth) o) 0) s.there in
      record {
        apart = apart;
        counted = omega (arith, legal.counted, length-without id_of_lent id b.lent s.l s.there, length_push b.idle c);
        fits = legal.fits;
        is_sorted = sorted_more c later;
        seen = All-push (λ c. c.since ≤ at) b.idle c (seen_at at later) (omega arith);
        born = All-push (λ c. c.birth ≤ c.since) b.idle c legal.born (omega (arith, born, birth, later));
        born_lent = All-without (λ l. l.birth ≤ at) id_of_lent id b.lent (born_at at later);
        none_idle = λ closed. absurd (let still = is_false b.closed g.0 in cc (closed, still));
        none_pending = legal.none_pending;
      }

  legal_closed : (at id n : ℕ) → b.at ≤ at → fits limits (Closed at id n) b ≡ true → ((i : ℕ) → copies_of i (ids_in_base (folded limits (Closed at id n) b)) ≤ 1)
      → IsLegalBase limits (folded limits (Closed at id n) b)
  legal_closed at id n later fit apart =
      let f = split _ _ fit in
      let s = is_there id b f.0 in
      let is : n ≡ top_up limits b.closed (length b.idle) (b.connections - 1) b.pending = eqb-true n _ f.1 in
      record {
        apart = apart;
        counted = omega (arith, legal.counted, length-without id_of_lent id b.lent s.l s.there);
        fits = ordered_fits b.closed n (wanted_of limits) limits.max_size (length b.idle) (b.connections - 1) b.pending (omega (arith, legal.fits)) is;
        is_sorted = legal.is_sorted;
        seen = seen_at at later;
        born = legal.born;
        born_lent = All-without (λ l. l.birth ≤ at) id_of_lent id b.lent (born_at at later);
        none_idle = legal.none_idle;
        none_pending = λ closed. omega (arith, legal.none_pending closed, closed_none b.closed n _ is closed);
      }

  legal_reaped : (at n : ℕ) → b.at ≤ at → fits limits (Reaped at n) b ≡ true → ((i : ℕ) → copies_of i (ids_in_base (folded limits (Reaped at n) b)) ≤ 1)
      → IsLegalBase limits (folded limits (Reaped at n) b)
  unfolding is_kept is_expired
  legal_reaped at n later fit apart =
      let f = split _ _ fit in
      let is : n ≡ top_up limits b.closed (length (filter (is_kept limits at) b.idle)) (b.connections - expired_in limits (up_to at b)) b.pending = eqb-true n _ f.0 in
      record {
        apart = apart;
        counted = omega (arith, legal.counted, length-filter_both (is_expired limits at) (is_kept limits at) (λ c. refl) b.idle);
        fits = ordered_fits b.closed n (wanted_of limits) limits.max_size (length (filter (is_kept limits at) b.idle))
            (b.connections - expired_in limits (up_to at b)) b.pending (omega (arith, legal.fits)) is;
        is_sorted = IsNonDecreasingBy-filter since_of (is_kept limits at) b.idle legal.is_sorted;
        seen = All-filter (is_kept limits at) (λ c. c.since ≤ at) b.idle (seen_at at later);
        born = All-filter (is_kept limits at) (λ c. c.birth ≤ c.since) b.idle legal.born;
        born_lent = born_at at later;
        none_idle = λ closed. ap (filter (is_kept limits at)) (legal.none_idle closed);
        none_pending = λ closed. omega (arith, legal.none_pending closed, closed_none b.closed n _ is closed);
      }

  legal_closed_all : (at : ℕ) → b.at ≤ at → ((i : ℕ) → copies_of i (ids_in_base (folded limits (ClosedAll at) b)) ≤ 1)
      → IsLegalBase limits (folded limits (ClosedAll at) b)
  legal_closed_all at later apart = record {
    apart = apart;
    counted = omega (arith, legal.counted);
    fits = omega (arith, legal.fits);
    is_sorted = λ i j d le lt. absurd (omega (arith, lt));
    seen = λ k d lt. absurd (omega (arith, lt));
    born = λ k d lt. absurd (omega (arith, lt));
    born_lent = born_at at later;
    none_idle = λ closed. refl;
    none_pending = λ closed. refl;
  }

  legal_by : (r : SeenRecord) → b.at ≤ (folded limits r b).at → fits limits r b ≡ true → ((i : ℕ) → copies_of i (ids_in_base (folded limits r b)) ≤ 1)
      → IsLegalBase limits (folded limits r b)
  legal_by (Taken at id n) later fit apart = legal_taken at id n later fit apart
  legal_by (Ordered at n) later fit apart = legal_ordered at n later fit apart
  legal_by (Admitted at id) later fit apart = legal_admitted at id later fit apart
  legal_by (Kept at id) later fit apart = legal_kept at id later fit apart
  legal_by (Closed at id n) later fit apart = legal_closed at id n later fit apart
  legal_by (Reaped at n) later fit apart = legal_reaped at n later fit apart
  legal_by (ClosedAll at) later fit apart = legal_closed_all at later apart

-- a base with a record that may follow it is legal
pub legal_folded : (limits : LimitSettings) (r : SeenRecord) (b : SeenBase) → IsLegalBase limits b → may_follow limits r b ≡ true
    → ((i : ℕ) → copies_of i (ids_in_base b) + copies_of i (admitted_by r) ≤ 1) → IsLegalBase limits (folded limits r b)
legal_folded limits r b legal may apart =
    let f = split _ _ may in
    legal_by limits b legal r (is_le _ _ f.0) f.1 (λ i. omega (arith, apart i, ids_folded limits r b legal.apart f.1 i))

-- THE LAW

-- records that are legal from a base with one before them are legal from the base with that one
pub record FoldsFirst (limits : LimitSettings) (r : SeenRecord) (rs : List SeenRecord) (b : SeenBase) : Type 0 where
  pub legal : IsLegalBase limits (folded limits r b)
  pub rest : AreLegalFrom limits (folded limits r b) rs
  pub same : replay limits (r ∷ rs) b ≡ replay limits rs (folded limits r b)

pub known_first : (i : ℕ) (b : SeenBase) (r : SeenRecord) (rs : List SeenRecord)
    → copies_of i (known_in b (r ∷ rs)) ≡ copies_of i (ids_in_base b) + (copies_of i (admitted_by r) + copies_of i (flat_map admitted_by rs))
known_first i b r rs = omega (arith, copies_of-append i (ids_in_base b) (flat_map admitted_by (r ∷ rs)), copies_of-append i (admitted_by r) (flat_map admitted_by rs))

-- and no more ids are known
pub known_folded : (limits : LimitSettings) (r : SeenRecord) (rs : List SeenRecord) (b : SeenBase) → ((i : ℕ) → copies_of i (ids_in_base b) ≤ 1)
    → may_follow limits r b ≡ true → (i : ℕ)
    → copies_of i (known_in (folded limits r b) rs) ≤ copies_of i (known_in b (r ∷ rs))
known_folded limits r rs b apart may i =
    omega (arith, ids_folded limits r b apart ((split _ _ may).1) i, known_first i b r rs, copies_of-append i (ids_in_base (folded limits r b)) (flat_map admitted_by rs))

pub folds_first : (limits : LimitSettings) (r : SeenRecord) (rs : List SeenRecord) (b : SeenBase) → IsLegalBase limits b → AreLegalFrom limits b (r ∷ rs)
    → FoldsFirst limits r rs b
folds_first limits r rs b legal are =
    let f = split _ _ are.follow in
    record {
      legal = legal_folded limits r b legal f.0 (λ i. omega (arith, are.apart i, known_first i b r rs));
      rest = record { follow = f.1; apart = λ i. omega (arith, are.apart i, known_folded limits r rs b legal.apart f.0 i) };
      same = refl;
    }

-- ONE MORE

pub replay-push : (limits : LimitSettings) (rs : List SeenRecord) (r : SeenRecord) (b : SeenBase)
    → replay limits (rs ++ r ∷ []) b ≡ folded limits r (replay limits rs b)
replay-push limits [] r b = refl
replay-push limits (s ∷ rs) r b = replay-push limits rs r (folded limits s b)

and_assoc : (a b c : Bool) → (a && (b && c)) ≡ ((a && b) && c)
and_assoc true b c = refl
and_assoc false b c = refl

and_true : (a : Bool) → (a && true) ≡ a
and_true true = refl
and_true false = refl

pub follow-push : (limits : LimitSettings) (rs : List SeenRecord) (r : SeenRecord) (b : SeenBase)
    → all_follow limits (rs ++ r ∷ []) b ≡ (all_follow limits rs b && may_follow limits r (replay limits rs b))
follow-push limits [] r b = and_true (may_follow limits r b)
follow-push limits (s ∷ rs) r b = ap (λ c. may_follow limits s b && c) (follow-push limits rs r (folded limits s b)) ∙ and_assoc (may_follow limits s b) _ _

pub admitted-push : (i : ℕ) (rs : List SeenRecord) (r : SeenRecord) → copies_of i (flat_map admitted_by (rs ++ r ∷ [])) ≡ copies_of i (flat_map admitted_by rs) + copies_of i
    (admitted_by r)
admitted-push i [] r = omega (arith, copies_of-append i (admitted_by r) [])
admitted-push i (s ∷ rs) r =
    omega (arith, admitted-push i rs r, copies_of-append i (admitted_by s) (flat_map admitted_by (rs ++ r ∷ [])), copies_of-append i (admitted_by s) (flat_map admitted_by rs))

pub known-push : (i : ℕ) (b : SeenBase) (rs : List SeenRecord) (r : SeenRecord)
    → copies_of i (known_in b (rs ++ r ∷ [])) ≡ copies_of i (known_in b rs) + copies_of i (admitted_by r)
known-push i b rs r = omega (
  arith,
  admitted-push i rs r,
  copies_of-append i (ids_in_base b) (flat_map admitted_by (rs ++ r ∷ [])),
  copies_of-append i (ids_in_base b) (flat_map admitted_by rs),
)

-- records that are legal from a legal base come to a legal one, with no more ids
pub record ComeToLegal (limits : LimitSettings) (rs : List SeenRecord) (b : SeenBase) : Type 0 where
  pub legal : IsLegalBase limits (replay limits rs b)
  pub ids : (i : ℕ) → copies_of i (ids_in_base (replay limits rs b)) ≤ copies_of i (known_in b rs)

pub comes_to_legal : (limits : LimitSettings) (rs : List SeenRecord) (b : SeenBase) → IsLegalBase limits b → AreLegalFrom limits b rs → ComeToLegal limits rs b
comes_to_legal limits [] b legal are = record { legal = legal; ids = λ i. omega (arith, copies_of-append i (ids_in_base b) []) }
comes_to_legal limits (r ∷ rs) b legal are =
    let first = folds_first limits r rs b legal are in
    let rest = comes_to_legal limits rs (folded limits r b) first.legal first.rest in
    record { legal = rest.legal; ids = λ i. omega (arith, rest.ids i, known_folded limits r rs b legal.apart ((split _ _ are.follow).0) i) }
