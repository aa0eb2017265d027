-- The records of returns and failed checks.
use Rattle.std.proofs.Common.{◌≡◌, ℕ, ◌-◌, Bool, true, false, ◌||◌, not, List, [], ◌∷◌, ◌++◌, map, length, Ok, refl, sym, ap, arith}
use Rattle.std.specs.Prelude.{is_some}
use Rattle.std.proofs.lemmas.List.{map-append, length-map}
use Rattle.pool_machine.specs.declared.schedule.limits.LimitSettings.{LimitSettings}
use Rattle.pool_machine.specs.Limits.{wanted_of, has_reached}
use Rattle.pool_machine.specs.Connections.{SeenIdleConnection, idle_connection, birth_in}
use Rattle.pool_machine.specs.OnOrder.{room_beside}
use Rattle.pool_machine.specs.Picture.{Picture, IsSound}
use Rattle.pool_machine.specs.Table.{top_up_of, topped_up, lent_birth, is_closing, kept_one, gone_one, return_by, returned_by}
use Rattle.r2d2_core.specs.Records.{SeenRecord, Kept, Closed}
use Rattle.r2d2_core.specs.Recorded.{record_of_return}
use Rattle.r2d2_core.specs.Bases.{SeenBase}
use Rattle.r2d2_core.specs.Journal.{added}
use Rattle.r2d2_core.specs.Book.{bare}
use Rattle.r2d2_core.specs.BookParts.{KeepReplaying}
use Rattle.r2d2_core.proofs.Recording.Folding.{both}
use Rattle.r2d2_core.proofs.Recording.Replaying.{Says, with_one_more}
use Rattle.r2d2_core.proofs.Recording.Takes.{orders_alike}

none_closes : (broken old closed : Bool) → (broken || (old || closed)) ≡ false → (old ≡ false) × (closed ≡ false)
none_closes true old closed e = absurd cc
none_closes false true closed e = absurd cc
none_closes false false closed e = (refl, e)

module _ {T : Type 0} where
  -- a return that is kept, at its moment
  says_kept : (m : ℕ) (p : Picture T) (id : ℕ) (value : T) → p.on_order.closed ≡ false → is_some (birth_in id p.lent) ≡ true
      → has_reached p.on_order.limits.max_lifetime (p.latest - lent_birth id p) ≡ false → Says m p (Kept p.latest id) (kept_one id (lent_birth id p) value p)
  says_kept m p id value is_open lent young =
      let c : SeenIdleConnection T = idle_connection id (lent_birth id p) p.latest value in
      record {
        fit = both _ _ lent (both _ _ (ap not is_open) (ap not young));
        comes = record { idle = sym (map-append bare p.idle (c ∷ [])); lent = refl; connections = refl; pending = refl; closed = refl };
        later = omega arith;
        not_after = omega arith;
      }

  -- one that was lent is gone, at its moment
  says_lost : (m : ℕ) (p : Picture T) (id : ℕ) → is_some (birth_in id p.lent) ≡ true
      → Says m p (Closed p.latest id (top_up_of (gone_one id p))) (topped_up (gone_one id p))
  says_lost m p id lent =
      record {
        fit = both _ _ lent (orders_alike p.on_order.closed (length (map bare p.idle)) (length p.idle) (wanted_of p.on_order.limits)
            (room_beside (p.connections - 1) p.on_order) (length-map p.idle bare));
        comes = record { idle = refl; lent = refl; connections = refl; pending = refl; closed = refl };
        later = omega arith;
        not_after = omega arith;
      }

  pub replaying_lost : (limits : LimitSettings) (b : SeenBase) (rs : List SeenRecord) (p : Picture T) (id : ℕ) → is_some (birth_in id p.lent) ≡ true → IsSound p
      → KeepReplaying limits b rs p
      → KeepReplaying limits b (rs ++ Closed p.latest id (top_up_of (gone_one id p)) ∷ []) (topped_up (gone_one id p))
  replaying_lost limits b rs p id lent sound k = with_one_more limits b rs _ p _ sound (λ m. says_lost m p id lent) refl refl (λ i. omega arith) k

  -- a return, at its moment
  pub replaying_returned : (closes : Bool) (limits : LimitSettings) (b : SeenBase) (rs : List SeenRecord) (p : Picture T) (id : ℕ) (value : T) (broken : Bool)
      → is_closing (lent_birth id p) broken p ≡ closes → is_some (birth_in id p.lent) ≡ true
      → IsSound p → KeepReplaying limits b rs p
      → KeepReplaying limits b (added (record_of_return p.latest id (Ok (return_by closes id (lent_birth id p) value p))) rs)
      (returned_by closes id (lent_birth id p) value p)
  replaying_returned true limits b rs p id value broken e lent sound k = replaying_lost limits b rs p id lent sound k
  replaying_returned false limits b rs p id value broken e lent sound k =
      let none = none_closes broken (has_reached p.on_order.limits.max_lifetime (p.latest - lent_birth id p)) p.on_order.closed e in
      with_one_more limits b rs _ p _ sound (λ m. says_kept m p id value none.1 lent none.0) refl refl (λ i. omega arith) k
