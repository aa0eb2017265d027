-- The records of takes and admissions.
use Rattle.std.proofs.Common.{◌≡◌, ℕ, ◌+◌, ◌-◌, ◌≤◌, min, Bool, true, false, cond, not, ◌==◌, List, [], ◌∷◌, ◌++◌, map, length, Option, Some, None, refl, sym}
use Rattle.std.proofs.Common.{◌∙◌, ap, arith}
use Rattle.std.specs.Prelude.{unwrap_or, option_map}
use Rattle.std.proofs.lemmas.List.{map-append, length-map, map-id}
use Rattle.std.proofs.lemmas.Bool.{eq-eqb, eqb-true}
use Rattle.std.proofs.lemmas.Bool.Decides.{nat_tests}
use Rattle.pool_machine.specs.declared.schedule.limits.LimitSettings.{LimitSettings}
use Rattle.pool_machine.specs.Limits.{wanted_of}
use Rattle.pool_machine.specs.Ids.{found, without, same_id, copies_of}
use Rattle.pool_machine.specs.Lending.{next_to_lend, still_idle}
use Rattle.pool_machine.specs.Connections.{SeenIdleConnection, idle_connection, lent_connection, id_of_idle}
use Rattle.pool_machine.specs.OnOrder.{room_beside}
use Rattle.pool_machine.specs.Picture.{Picture, IsSound}
use Rattle.pool_machine.specs.Table.{raised_to, ordered, top_up_of, topped_up, miss_order_of, lent_out, take_orders, taken, admitted_at}
use Rattle.pool_machine.specs.Seen.{take_with}
use Rattle.r2d2_core.specs.Records.{SeenRecord, Taken, Ordered, Admitted}
use Rattle.r2d2_core.specs.Recorded.{record_of_take}
use Rattle.r2d2_core.specs.Bases.{SeenBase, BareConnection}
use Rattle.r2d2_core.specs.Folding.{birth_of_idle}
use Rattle.r2d2_core.specs.Journal.{added}
use Rattle.r2d2_core.specs.Book.{bare}
use Rattle.r2d2_core.specs.BookParts.{KeepReplaying}
use Rattle.pool_machine.proofs.Lists.Ids.{copies_of-without, length-without}
use Rattle.pool_machine.proofs.Lists.Lending.{none_is_next, next-map, still_idle-map, found-next, without-next}
use Rattle.r2d2_core.proofs.Recording.Folding.{both}
use Rattle.r2d2_core.proofs.Recording.Replaying.{lt_is, idle_apart, Says, with_one_more, with_none_more}

-- what is ordered beside as many idle ones is the same
pub orders_alike : (closed : Bool) (n m wanted room : ℕ) → n ≡ m → (cond closed 0 (min (wanted - m) room) == cond closed 0 (min (wanted - n) room)) ≡ true
orders_alike closed n m wanted room e = eq-eqb _ _ (ap (λ k. cond closed 0 (min (wanted - k) room)) (sym e))

miss_is : (closed o : Bool) (room : ℕ) → 1 ≤ cond closed 0 (cond o (min 1 room) 0) → (closed ≡ false) × (cond closed 0 (cond o (min 1 room) 0) ≡ 1) × (1 ≤ room)
miss_is true o room h = absurd (omega arith)
miss_is false true room h = (refl, omega arith, omega arith)
miss_is false false room h = absurd (omega arith)

module _ {T : Type 0} where
  -- a step's moment changes nothing that records tell
  pub replaying_at : (t : ℕ) (limits : LimitSettings) (b : SeenBase) (rs : List SeenRecord) (p : Picture T) → KeepReplaying limits b rs p
      → KeepReplaying limits b rs (raised_to t p)
  replaying_at t limits b rs p k = with_none_more limits b rs p (raised_to t p) refl refl refl refl refl refl (omega arith) (λ i past. past)
      (λ i n few none. few) k

  -- TAKE

  -- a take that found
  says_found : (m : ℕ) (p : Picture T) (c : SeenIdleConnection T) → next_to_lend p.on_order.limits.order p.idle ≡ Some c → IsSound p
      → Says m p (Taken p.latest c.id (top_up_of (lent_out c p))) (topped_up (lent_out c p))
  says_found m p c e sound =
      let o = p.on_order.limits.order in
      let idle = map bare p.idle in
      let next : next_to_lend o idle ≡ Some (bare c) = next-map bare o p.idle c e in
      let apart = idle_apart p sound in
      let there : found id_of_idle c.id idle ≡ Some (bare c) = found-next id_of_idle o idle (bare c) next apart in
      let born : birth_of_idle c.id idle ≡ c.birth = ap (λ o. unwrap_or (option_map (λ (c : BareConnection). c.birth) o) 0) there in
      let others : without id_of_idle c.id idle ≡ map bare (still_idle o p.idle) = without-next id_of_idle o idle (bare c) next apart
      ∙ still_idle-map bare o p.idle c e in
      let left : length (without id_of_idle c.id idle) ≡ length (still_idle o p.idle) = ap length others ∙ length-map (still_idle o p.idle) bare in
      record {
        fit = both _ _
            (ap (λ o. unwrap_or (option_map (λ (x : BareConnection). x.id == c.id) o) false) next ∙ eq-eqb c.id c.id refl)
            (orders_alike p.on_order.closed (length (without id_of_idle c.id idle)) (length (still_idle o p.idle)) (wanted_of p.on_order.limits)
            (room_beside p.connections p.on_order) left);
        comes = record {
          idle = others;
          lent = ap (λ b. p.lent ++ lent_connection c.id b ∷ []) born;
          connections = refl;
          pending = refl;
          closed = refl;
        };
        later = omega arith;
        not_after = omega arith;
      }

  -- a take that found none, and ordered
  says_ordered : (m : ℕ) (p : Picture T) (o : Bool) → next_to_lend p.on_order.limits.order p.idle ≡ None → 1 ≤ miss_order_of o p
      → Says m p (Ordered p.latest (miss_order_of o p)) (ordered (miss_order_of o p) p)
  says_ordered m p o e some =
      let n = miss_order_of o p in
      let is = miss_is p.on_order.closed o (room_beside p.connections p.on_order) some in
      record {
        fit = both _ _ (eq-eqb (length (map bare p.idle)) 0 (ap (λ (l : List (SeenIdleConnection T)). length (map bare l))
            (none_is_next p.on_order.limits.order p.idle e)))
            (both _ _ (eq-eqb n 1 is.1)
            (both _ _ (ap not is.0) (lt_is (p.connections + p.on_order.pending) p.on_order.limits.max_size (omega (arith, is.2)))));
        comes = record { idle = refl; lent = refl; connections = refl; pending = refl; closed = refl };
        later = omega arith;
        not_after = omega arith;
      }

  miss_step : (limits : LimitSettings) (b : SeenBase) (rs : List SeenRecord) (p : Picture T) (o none : Bool) → next_to_lend p.on_order.limits.order p.idle ≡ None
      → (miss_order_of o p == 0) ≡ none → IsSound p → KeepReplaying limits b rs p
      → KeepReplaying limits b (added (cond none None (Some (Ordered p.latest (miss_order_of o p)))) rs) (ordered (miss_order_of o p) p)
  miss_step limits b rs p o true e n sound k =
      with_none_more limits b rs p (ordered (miss_order_of o p) p) refl refl refl refl (omega (arith, eqb-true (miss_order_of o p) 0 n)) refl (omega arith)
      (λ i past. past) (λ i n few none. few) k
  miss_step limits b rs p o false e n sound k =
      with_one_more limits b rs _ p _ sound (λ m. says_ordered m p o e (some (miss_order_of o p) n)) refl refl (λ i. omega arith) k where
        some : (k : ℕ) → (k == 0) ≡ false → 1 ≤ k
        some k f = grind (arith, nat_tests)

  -- a take, at its moment
  pub replaying_taken : (limits : LimitSettings) (b : SeenBase) (rs : List SeenRecord) (p : Picture T) (o : Bool) (m : Option (SeenIdleConnection T))
      → next_to_lend p.on_order.limits.order p.idle ≡ m → IsSound p → KeepReplaying limits b rs p
      → KeepReplaying limits b (added (record_of_take p.latest (take_with m (take_orders m o p))) rs) (taken m o p)
  replaying_taken limits b rs p o None e sound k = miss_step limits b rs p o (miss_order_of o p == 0) e refl sound k
  replaying_taken limits b rs p o (Some c) e sound k = with_one_more limits b rs _ p _ sound (λ m. says_found m p c e sound) refl refl (λ i. omega arith) k

  -- ADMIT

  -- an admission, at its moment
  says_admitted : (m : ℕ) (p : Picture T) (id : ℕ) (value : T) → found same_id id p.on_order.numbered ≡ Some id → IsSound p
      → Says m p (Admitted p.latest id) (admitted_at p.latest id value p)
  says_admitted m p id value there sound =
      let c : SeenIdleConnection T = idle_connection id p.latest p.latest value in
      let waits : length (without same_id id p.on_order.numbered) + 1 ≡ length p.on_order.numbered = length-without same_id id p.on_order.numbered id there in
      record {
        fit = lt_is 0 p.on_order.pending (omega (arith, sound.steady.accounted.placed, waits));
        comes = record { idle = sym (map-append bare p.idle (c ∷ [])); lent = refl; connections = refl; pending = refl; closed = refl };
        later = omega arith;
        not_after = omega arith;
      }

  pub replaying_admitted : (limits : LimitSettings) (b : SeenBase) (rs : List SeenRecord) (p : Picture T) (id : ℕ) (value : T)
      → found same_id id p.on_order.numbered ≡ Some id → IsSound p
      → KeepReplaying limits b rs p → KeepReplaying limits b (rs ++ Admitted p.latest id ∷ []) (admitted_at p.latest id value p)
  replaying_admitted limits b rs p id value there sound k =
      let numbered = p.on_order.numbered in
      with_one_more limits b rs _ p _ sound (λ m. says_admitted m p id value there sound) refl refl
      (λ i. omega (
        arith,
        copies_of-without same_id id i numbered id there,
        ap (copies_of i) (map-id numbered),
        ap (copies_of i) (map-id (without same_id id numbered)),
      )) k
