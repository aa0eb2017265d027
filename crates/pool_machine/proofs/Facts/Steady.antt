-- What keeps with the changes of a picture that the steps are made of.
use Rattle.std.proofs.Common.{◌≡◌, ◌⊎◌, ℕ, ◌+◌, ◌-◌, ◌<◌, ◌≤◌, min, max, Bool, true, false, cond, List, [], ◌∷◌, ◌++◌, map, length, Option, Some, refl, ap}
use Rattle.std.proofs.Common.{arith, inl, inr}
use Rattle.std.specs.List.{filter}
use Rattle.std.proofs.lemmas.List.{length_push, map-id}
use Rattle.std.proofs.lemmas.List.Elements.{All-filter}
use Rattle.std.proofs.lemmas.List.Filters.{length-filter_both}
use Rattle.std.proofs.lemmas.List.Kept.{IsNonDecreasingBy-filter}
use Rattle.std.proofs.lemmas.List.Sorted.{IsNonDecreasingBy-push}
use Rattle.std.proofs.lemmas.Bool.{cases_lt, cases_eq}
use Rattle.pool_machine.specs.Limits.{wanted_of}
use Rattle.pool_machine.specs.Ids.{same_id, found, without, copies_of}
use Rattle.pool_machine.specs.Lending.{next_to_lend, still_idle}
use Rattle.pool_machine.specs.Openings.{SeenOpening}
use Rattle.pool_machine.specs.Connections.{SeenIdleConnection, SeenLentConnection, idle_connection, lent_connection, id_of_idle, id_of_lent, since_of, is_expired}
use Rattle.pool_machine.specs.Connections.{is_kept}
use Rattle.pool_machine.specs.OnOrder.{IsAccounted, admitted_one, numbered_one}
use Rattle.pool_machine.specs.Picture.{Picture, IsSteady, IsSound, HoldsNothing, ids_in}
use Rattle.pool_machine.specs.Table.{raised_to, with_on_order, ordered, top_up_of, topped_up, miss_order_of, lent_out, admitted_at, kept_one, gone_one, swept}
use Rattle.pool_machine.proofs.Lists.Filters.{copies_of-filter}
use Rattle.pool_machine.proofs.Lists.Ids.{copies_of-append, copies_of-append3, copies_of-one, copies_of-other, copies_of-push, copies_of-without, length-without}
use Rattle.pool_machine.proofs.Lists.Ids.{All-without, All-found, All-push, All-weaker}
use Rattle.pool_machine.proofs.Lists.Lending.{none_next, length-still_idle, copies_of-next, All-next, All-still_idle, IsNonDecreasingBy-still_idle}
use Rattle.pool_machine.proofs.Facts.Accounted.{is_not, accounted_orders, IsEmpty, empty_once_closed}

-- ONCE CLOSED

pub holds_nothing : {T : Type 0} {p : Picture T} → IsSteady p → p.on_order.closed ≡ true → HoldsNothing p
holds_nothing {p = p} s closed =
    let none : IsEmpty p.on_order = empty_once_closed p.on_order s.accounted closed in
    record {
      idle = s.none_once_closed closed;
      pending = none.pending;
      scheduled = none.scheduled;
      in_work = none.in_work;
      numbered = none.numbered;
    }

-- HOW MANY ARE ORDERED

top_up_fits : (closed : Bool) (wanted size idle connections pending : ℕ) → connections + pending ≤ size
    → connections + (pending + cond closed 0 (min (wanted - idle) (size - connections - pending))) ≤ size
top_up_fits true wanted size idle connections pending le = omega arith
top_up_fits false wanted size idle connections pending le = omega arith

miss_fits : (closed or_order : Bool) (size connections pending : ℕ) → connections + pending ≤ size
    → connections + (pending + cond closed 0 (cond or_order (min 1 (size - connections - pending)) 0)) ≤ size
miss_fits true or_order size connections pending le = omega arith
miss_fits false true size connections pending le = omega arith
miss_fits false false size connections pending le = omega arith

-- a closed core orders none
closed_none : (closed : Bool) (n : ℕ) → closed ≡ true → cond closed 0 n ≡ 0
closed_none true n e = refl
closed_none false n e = absurd cc

open_all : (closed : Bool) (n : ℕ) → closed ≡ false → cond closed 0 n ≡ n
open_all true n e = absurd cc
open_all false n e = refl

-- REPLENISHED

-- what is wanted is reached, or the room is used up
abbrev Reaches : ℕ → ℕ → ℕ → ℕ → ℕ → Type 0
Reaches wanted idle pending connections size = (wanted ≤ idle + pending) ⊎ (connections + pending ≡ size)

after_top_up : (wanted size idle connections pending n : ℕ) → connections + pending ≤ size → n ≡ min (wanted - idle) (size - connections - pending)
    → Reaches wanted idle (pending + n) connections size
after_top_up wanted size idle connections pending n le e =
    elim (cases_lt (idle + (pending + n)) wanted) [ inl h ↦ inr (omega arith) | inr h ↦ inl h ]

with_more_pending : (n wanted idle connections pending size : ℕ) → connections + (pending + n) ≤ size → Reaches wanted idle pending connections size
    → Reaches wanted idle (pending + n) connections size
with_more_pending n wanted idle connections pending size fits (inl h) = inl (omega arith)
with_more_pending n wanted idle connections pending size fits (inr h) = inr (omega arith)

with_one_kept : (wanted pending connections size idle more : ℕ) → more ≡ idle + 1 → Reaches wanted idle pending connections size
    → Reaches wanted more pending connections size
with_one_kept wanted pending connections size idle more e (inl h) = inl (omega arith)
with_one_kept wanted pending connections size idle more e (inr h) = inr h

with_one_admitted : (wanted idle more connections pending size : ℕ) → more ≡ idle + 1 → 0 < pending → Reaches wanted idle pending connections size
    → Reaches wanted more (pending - 1) (connections + 1) size
with_one_admitted wanted idle more connections pending size e some (inl h) = inl (omega arith)
with_one_admitted wanted idle more connections pending size e some (inr h) = inr (omega arith)

module _ {T : Type 0} where
  -- ids that stand no more often than before are as far apart
  pub apart_still : (p q : Picture T) → p.on_order.next_id ≡ q.on_order.next_id → ((i : ℕ) → copies_of i (ids_in q) ≤ copies_of i (ids_in p)) → IsSteady p
      → ((i : ℕ) → copies_of i (ids_in q) ≤ 1) × ((i : ℕ) → q.on_order.next_id ≤ i → copies_of i (ids_in q) ≡ 0)
  apart_still p q next le s = (λ i. omega (arith, le i, s.apart i), λ i past. omega (arith, le i, s.below_next i (omega (arith, next, past))))

  -- MOMENTS

  pub steady_at : (t : ℕ) {p : Picture T} → IsSteady p → IsSteady (raised_to t p)
  steady_at t {p} s = record {
    apart = s.apart;
    below_next = s.below_next;
    counted = s.counted;
    accounted = s.accounted;
    fits = s.fits;
    is_sorted = s.is_sorted;
    seen = All-weaker (λ c. c.since ≤ p.latest) (λ c. c.since ≤ max p.latest t) p.idle (λ c le. omega arith) s.seen;
    born = s.born;
    born_lent = All-weaker (λ l. l.birth ≤ p.latest) (λ l. l.birth ≤ max p.latest t) p.lent (λ l le. omega arith) s.born_lent;
    none_once_closed = s.none_once_closed;
  }

  pub sound_at : (t : ℕ) {p : Picture T} → IsSound p → IsSound (raised_to t p)
  sound_at t s = record { steady = steady_at t s.steady; replenished = s.replenished }

  -- ORDERS

  pub steady_orders : (n : ℕ) {p : Picture T} → p.connections + (p.on_order.pending + n) ≤ p.on_order.limits.max_size → (p.on_order.closed ≡ true → n ≡ 0)
      → IsSteady p → IsSteady (ordered n p)
  steady_orders n {p} fits none s = record {
    apart = s.apart;
    below_next = s.below_next;
    counted = s.counted;
    accounted = accounted_orders n p.latest p.on_order (omega (arith, fits)) none s.accounted;
    fits = fits;
    is_sorted = s.is_sorted;
    seen = s.seen;
    born = s.born;
    born_lent = s.born_lent;
    none_once_closed = s.none_once_closed;
  }

  -- after a top-up all is sound
  pub sound_topped_up : {p : Picture T} → IsSteady p → IsSound (topped_up p)
  sound_topped_up {p} s =
      let o = p.on_order in
      record {
        steady = steady_orders (top_up_of p) (top_up_fits o.closed (wanted_of o.limits) o.limits.max_size (length p.idle) p.connections o.pending s.fits)
            (closed_none o.closed _) s;
        replenished = λ is_open. after_top_up (wanted_of o.limits) o.limits.max_size (length p.idle) p.connections o.pending (top_up_of p) s.fits
            (open_all o.closed _ is_open);
      }

  pub sound_missed : (or_order : Bool) {p : Picture T} → IsSound p → IsSound (ordered (miss_order_of or_order p) p)
  sound_missed or_order {p} s =
      let o = p.on_order in
      let fits = miss_fits o.closed or_order o.limits.max_size p.connections o.pending s.steady.fits in
      record {
        steady = steady_orders (miss_order_of or_order p) fits (closed_none o.closed _) s.steady;
        replenished = λ is_open. with_more_pending (miss_order_of or_order p) (wanted_of o.limits)
            (length p.idle) p.connections o.pending o.limits.max_size fits (s.replenished is_open);
      }

  -- what is on order changes, but for its counts, its numbers and its limits
  pub sound_rescheduled : (xs : List SeenOpening) (ws : List ℕ) (r : Option ℕ) {p : Picture T}
      → IsAccounted (record p.on_order { scheduled = xs; in_work = ws; next_reap = r }) → IsSound p
      → IsSound (with_on_order (record p.on_order { scheduled = xs; in_work = ws; next_reap = r }) p)
  sound_rescheduled xs ws r {p} a s = record {
    steady = record {
      apart = s.steady.apart;
      below_next = s.steady.below_next;
      counted = s.steady.counted;
      accounted = a;
      fits = s.steady.fits;
      is_sorted = s.steady.is_sorted;
      seen = s.steady.seen;
      born = s.steady.born;
      born_lent = s.steady.born_lent;
      none_once_closed = s.steady.none_once_closed;
    };
    replenished = s.replenished;
  }

  -- the facts don't speak of the last error
  pub sound_told : (e : Option (List ℕ)) {p : Picture T} → IsSound p → IsSound (record p { last_error = e })
  sound_told e {p} s = record {
    steady = record {
      apart = s.steady.apart;
      below_next = s.steady.below_next;
      counted = s.steady.counted;
      accounted = s.steady.accounted;
      fits = s.steady.fits;
      is_sorted = s.steady.is_sorted;
      seen = s.steady.seen;
      born = s.steady.born;
      born_lent = s.steady.born_lent;
      none_once_closed = s.steady.none_once_closed;
    };
    replenished = s.replenished;
  }

  -- TAKE

  pub steady_lent_out : (c : SeenIdleConnection T) {p : Picture T} → next_to_lend p.on_order.limits.order p.idle ≡ Some c → IsSteady p → IsSteady (lent_out c p)
  steady_lent_out c {p} is s =
      let o = p.on_order.limits.order in
      let l = lent_connection c.id c.birth in
      let ids = apart_still p (lent_out c p) refl (λ i. omega (
        arith,
        copies_of-append3 i (map id_of_idle p.idle) (map id_of_lent p.lent) p.on_order.numbered,
        copies_of-append3 i (map id_of_idle (still_idle o p.idle)) (map id_of_lent (p.lent ++ l ∷ [])) p.on_order.numbered,
        copies_of-next id_of_idle i o p.idle c is,
        copies_of-push id_of_lent i p.lent l,
      )) s in
      let birth : c.birth ≤ c.since = All-next (λ c. c.birth ≤ c.since) o p.idle c s.born is in
      let since : c.since ≤ p.latest = All-next (λ c. c.since ≤ p.latest) o p.idle c s.seen is in
      record {
        apart = ids.0;
        below_next = ids.1;
        counted = omega (arith, s.counted, length-still_idle o p.idle c is, length_push p.lent l);
        accounted = s.accounted;
        fits = s.fits;
        is_sorted = IsNonDecreasingBy-still_idle since_of o p.idle s.is_sorted;
        seen = All-still_idle (λ c. c.since ≤ p.latest) o p.idle s.seen;
        born = All-still_idle (λ c. c.birth ≤ c.since) o p.idle s.born;
        born_lent = All-push (λ l. l.birth ≤ p.latest) p.lent l s.born_lent (omega arith);
        none_once_closed = λ closed. absurd (none_next o p.idle c (s.none_once_closed closed) is);
      }

  -- RETURNS

  -- one that was lent is gone
  pub steady_lost : (id : ℕ) (l : SeenLentConnection) {p : Picture T} → found id_of_lent id p.lent ≡ Some l → IsSteady p → IsSteady (gone_one id p)
  steady_lost id l {p} is s =
      let ids = apart_still p (gone_one id p) refl (λ i. omega (
        arith,
        copies_of-append3 i (map id_of_idle p.idle) (map id_of_lent p.lent) p.on_order.numbered,
        copies_of-append3 i (map id_of_idle p.idle) (map id_of_lent (without id_of_lent id p.lent)) p.on_order.numbered,
        copies_of-without id_of_lent id i p.lent l is,
      )) s in
      let less : length (without id_of_lent id p.lent) + 1 ≡ length p.lent = length-without id_of_lent id p.lent l is in
      record {
        apart = ids.0;
        below_next = ids.1;
        counted = omega (arith, s.counted, less);
        accounted = s.accounted;
        fits = omega (arith, s.fits);
        is_sorted = s.is_sorted;
        seen = s.seen;
        born = s.born;
        born_lent = All-without (λ l. l.birth ≤ p.latest) id_of_lent id p.lent s.born_lent;
        none_once_closed = s.none_once_closed;
      }

  -- it is idle again
  pub sound_kept : (id : ℕ) (value : T) (l : SeenLentConnection) {p : Picture T} → found id_of_lent id p.lent ≡ Some l → p.on_order.closed ≡ false → IsSound p
      → IsSound (kept_one id l.birth value p)
  sound_kept id value l {p} is is_open s =
      let c : SeenIdleConnection T = idle_connection id l.birth p.latest value in
      let ids = apart_still p (kept_one id l.birth value p) refl (λ i. omega (
        arith,
        copies_of-append3 i (map id_of_idle p.idle) (map id_of_lent p.lent) p.on_order.numbered,
        copies_of-append3 i (map id_of_idle (p.idle ++ c ∷ [])) (map id_of_lent (without id_of_lent id p.lent)) p.on_order.numbered,
        copies_of-without id_of_lent id i p.lent l is,
        copies_of-push id_of_idle i p.idle c,
      )) s.steady in
      let less : length (without id_of_lent id p.lent) + 1 ≡ length p.lent = length-without id_of_lent id p.lent l is in
      let more : length (p.idle ++ c ∷ []) ≡ length p.idle + 1 = length_push p.idle c in
      let birth : l.birth ≤ p.latest = All-found (λ l. l.birth ≤ p.latest) id_of_lent id p.lent l s.steady.born_lent is in
      record {
        steady = record {
          apart = ids.0;
          below_next = ids.1;
          counted = omega (arith, s.steady.counted, less, more);
          accounted = s.steady.accounted;
          fits = s.steady.fits;
          is_sorted = IsNonDecreasingBy-push since_of p.idle c s.steady.is_sorted (λ d some. s.steady.seen (length p.idle - 1) d (omega arith));
          seen = All-push (λ c. c.since ≤ p.latest) p.idle c s.steady.seen (omega arith);
          born = All-push (λ c. c.birth ≤ c.since) p.idle c s.steady.born birth;
          born_lent = All-without (λ l. l.birth ≤ p.latest) id_of_lent id p.lent s.steady.born_lent;
          none_once_closed = λ closed. absurd (is_not p.on_order.closed closed is_open);
        };
        replenished = λ still. with_one_kept (wanted_of p.on_order.limits) p.on_order.pending p.connections p.on_order.limits.max_size (length p.idle)
            (length (p.idle ++ c ∷ [])) more (s.replenished still);
      }

  -- NUMBER, ADMIT

  -- the next id is numbered
  pub sound_numbered : (tries : ℕ) {p : Picture T} → IsAccounted (numbered_one tries p.on_order) → IsSound p
      → IsSound (with_on_order (numbered_one tries p.on_order) p)
  sound_numbered tries {p} a s =
      let next = p.on_order.next_id in
      let count : (i : ℕ) → copies_of i (ids_in (with_on_order (numbered_one tries p.on_order) p)) ≡ copies_of i (ids_in p) + copies_of i
      (next ∷ []) = λ i. omega (
        arith,
        copies_of-append3 i (map id_of_idle p.idle) (map id_of_lent p.lent) p.on_order.numbered,
        copies_of-append3 i (map id_of_idle p.idle) (map id_of_lent p.lent) (p.on_order.numbered ++ next ∷ []),
        copies_of-append i p.on_order.numbered (next ∷ []),
      ) in
      record {
        steady = record {
          apart = λ i. elim (cases_eq i next) [
            | inl e ↦ omega (arith, count i, copies_of-one i next, s.steady.below_next i (omega arith))
            | inr ne ↦ omega (arith, count i, copies_of-other i next ne, s.steady.apart i)
          ];
          below_next = λ i past. omega (arith, count i, copies_of-other i next (λ e. absurd (omega arith)), s.steady.below_next i (omega arith));
          counted = s.steady.counted;
          accounted = a;
          fits = s.steady.fits;
          is_sorted = s.steady.is_sorted;
          seen = s.steady.seen;
          born = s.steady.born;
          born_lent = s.steady.born_lent;
          none_once_closed = s.steady.none_once_closed;
        };
        replenished = s.replenished;
      }

  -- a numbered one is idle
  pub sound_admitted : (id : ℕ) (value : T) {p : Picture T} → found same_id id p.on_order.numbered ≡ Some id → p.on_order.closed ≡ false
      → IsAccounted (admitted_one id p.on_order) → IsSound p → IsSound (admitted_at p.latest id value p)
  sound_admitted id value {p} is is_open a s =
      let o = p.on_order in
      let c : SeenIdleConnection T = idle_connection id p.latest p.latest value in
      let ids = apart_still p (admitted_at p.latest id value p) refl (λ i. omega (
        arith,
        copies_of-append3 i (map id_of_idle p.idle) (map id_of_lent p.lent) o.numbered,
        copies_of-append3 i (map id_of_idle (p.idle ++ c ∷ [])) (map id_of_lent p.lent) (without same_id id o.numbered),
        ap (copies_of i) (map-id o.numbered),
        ap (copies_of i) (map-id (without same_id id o.numbered)),
        copies_of-without same_id id i o.numbered id is,
        copies_of-push id_of_idle i p.idle c,
      )) s.steady in
      let less : length (without same_id id o.numbered) + 1 ≡ length o.numbered = length-without same_id id o.numbered id is in
      let some : 0 < o.pending = omega (arith, s.steady.accounted.placed, less) in
      let more : length (p.idle ++ c ∷ []) ≡ length p.idle + 1 = length_push p.idle c in
      record {
        steady = record {
          apart = ids.0;
          below_next = ids.1;
          counted = omega (arith, s.steady.counted, more);
          accounted = a;
          fits = omega (arith, s.steady.fits, some);
          is_sorted = IsNonDecreasingBy-push since_of p.idle c s.steady.is_sorted (λ d some. s.steady.seen (length p.idle - 1) d (omega arith));
          seen = All-push (λ c. c.since ≤ p.latest) p.idle c s.steady.seen (omega arith);
          born = All-push (λ c. c.birth ≤ c.since) p.idle c s.steady.born (omega arith);
          born_lent = s.steady.born_lent;
          none_once_closed = λ closed. absurd (is_not o.closed closed is_open);
        };
        replenished = λ still. with_one_admitted (wanted_of o.limits) (length p.idle) (length
            (p.idle ++ c ∷ [])) p.connections o.pending o.limits.max_size more some (s.replenished still);
      }

  -- REAP

  pub steady_swept : {p : Picture T} → IsSteady p → IsSteady (swept p)
  unfolding is_kept is_expired
  steady_swept {p} s =
      let goes : SeenIdleConnection T → Bool = is_expired p.on_order.limits p.latest in
      let stays : SeenIdleConnection T → Bool = is_kept p.on_order.limits p.latest in
      let ids = apart_still p (swept p) refl (λ i. omega (
        arith,
        copies_of-append3 i (map id_of_idle p.idle) (map id_of_lent p.lent) p.on_order.numbered,
        copies_of-append3 i (map id_of_idle (filter stays p.idle)) (map id_of_lent p.lent) p.on_order.numbered,
        copies_of-filter stays id_of_idle i p.idle,
      )) s in
      record {
        apart = ids.0;
        below_next = ids.1;
        counted = omega (arith, s.counted, length-filter_both goes stays (λ c. refl) p.idle);
        accounted = s.accounted;
        fits = omega (arith, s.fits);
        is_sorted = IsNonDecreasingBy-filter since_of stays p.idle s.is_sorted;
        seen = All-filter stays (λ c. c.since ≤ p.latest) p.idle s.seen;
        born = All-filter stays (λ c. c.birth ≤ c.since) p.idle s.born;
        born_lent = s.born_lent;
        none_once_closed = λ closed. ap (filter stays) (s.none_once_closed closed);
      }
