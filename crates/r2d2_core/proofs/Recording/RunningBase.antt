-- What a base that is kept in place comes to, part by part.
use Rattle.std.proofs.Common.{◌≡◌, ℕ, ◌+◌, ◌-◌, ◌≤◌, Bool, List, [], ◌∷◌, ◌++◌, map, length, Some, refl, sym, ◌∙◌, ap, subst, arith}
use Rattle.std.specs.Prelude.{option_map, unwrap_or, filter}
use Rattle.std.proofs.lemmas.List.{length_push}
use Rattle.pool_machine.specs.declared.schedule.limits.LendingOrder.{LendingOrder}
use Rattle.pool_machine.specs.declared.schedule.limits.LimitSettings.{LimitSettings}
use Rattle.circular_buffer.specs.Buffer.{Buffer, buffer}
use Rattle.pool_machine.specs.Ids.{found, without, copies_of}
use Rattle.pool_machine.specs.Lending.{next_to_lend, still_idle}
use Rattle.pool_machine.specs.Connections.{SeenLentConnection, lent_connection, id_of_idle, is_expired, is_kept}
use Rattle.r2d2_core.specs.Bases.{BareConnection, base_of}
use Rattle.r2d2_core.specs.Book.{bare}
use Rattle.r2d2_core.specs.Folding.{birth_of_idle, lent_in, swept_of}
use Rattle.r2d2_core.specs.declared.journal.running_base.Rooms.{Rooms}
use Rattle.r2d2_core.specs.RunningBase.{running_base, rooms}
use Rattle.pool_machine.proofs.Lists.Lending.{found-next, without-next, length-still_idle}

pub same_base : (at pending : ℕ) (closed : Bool) (i i' : List BareConnection) (l l' : List SeenLentConnection) (n n' : ℕ) → i ≡ i' → l ≡ l' → n ≡ n'
    → base_of at i l n pending closed ≡ base_of at i' l' n' pending closed
same_base at pending closed i i' l l' n n' e f h = rw (e, f, h) refl

abbrev pub birth_of : BareConnection → ℕ
birth_of c = c.birth

-- the next one is lent
pub lends : (o : LendingOrder) (at pending : ℕ) (closed : Bool) (idle : List BareConnection) (lent : List SeenLentConnection) (room : Rooms) (id birth : ℕ)
    (c : BareConnection) → ((i : ℕ) → copies_of i (map id_of_idle idle) ≤ 1)
    → next_to_lend o idle ≡ Some c → c.id ≡ id → birth ≡ c.birth
    → (let l = lent_connection id birth in running_base (base_of at (still_idle o idle) (lent ++ l ∷ [])
    (length (still_idle o idle) + length (lent ++ l ∷ [])) pending closed) room
    ≡ running_base (lent_in id (base_of at idle lent (length idle + length lent) pending closed)) room)
lends o at pending closed idle lent room id birth c apart next is born_then =
    let l = lent_connection id birth in
    let others : still_idle o idle ≡ without id_of_idle id idle = sym (subst (λ i. without id_of_idle i idle ≡ still_idle o idle) is
    (without-next id_of_idle o idle c next apart)) in
    let there : found id_of_idle id idle ≡ Some c = subst (λ i. found id_of_idle i idle ≡ Some c) is (found-next id_of_idle o idle c next apart) in
    let born : birth ≡ birth_of_idle id idle = born_then ∙ sym (ap (λ o. unwrap_or (option_map (λ (c : BareConnection). c.birth) o) 0) there) in
    ap (λ b. running_base b room)
    (same_base at pending closed (still_idle o idle) (without id_of_idle id idle) (lent ++ l ∷ []) (lent ++ lent_connection id (birth_of_idle id idle) ∷ []) _
    (length idle + length lent)
    others
    (ap (λ b. lent ++ lent_connection id b ∷ []) born)
    (omega (arith, length-still_idle o idle c next, length_push lent l)))

-- the expired ones are gone
pub sweeps : (limits : LimitSettings) (at pending : ℕ) (closed : Bool) (idle : List BareConnection) (lent : List SeenLentConnection) (room lent_room : ℕ)
    (now : Buffer BareConnection) → now ≡ buffer (filter (is_kept limits at) idle) room
    → length now.items + length (filter (is_expired limits at) idle) ≡ length idle
    → running_base (base_of at now.items lent (length now.items + length lent) pending closed) (rooms now.capacity lent_room) ≡ running_base
    (swept_of limits (base_of at idle lent (length idle + length lent) pending closed)) (rooms room lent_room)
sweeps limits at pending closed idle lent room lent_room now is count =
    let kept : now.items ≡ filter (is_kept limits at) idle = ap (λ (r : Buffer BareConnection). r.items) is in
    let same : now.capacity ≡ room = ap (λ (r : Buffer BareConnection). r.capacity) is in
    ap (λ n. running_base (base_of at now.items lent (length now.items + length lent) pending closed) (rooms n lent_room)) same
    ∙ ap (λ b. running_base b (rooms room lent_room)) (same_base at pending closed now.items (filter (is_kept limits at) idle) lent lent _
    (length idle + length lent - length (filter (is_expired limits at) idle)) kept refl (omega (arith, count)))

-- what is idle in a base has no payload
pub bare_same : (idle : List BareConnection) → map bare idle ≡ idle
bare_same [] = refl
bare_same (c ∷ idle) = ap (λ l. c ∷ l) (bare_same idle)
