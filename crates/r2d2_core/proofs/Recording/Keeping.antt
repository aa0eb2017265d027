-- What a journal does where there is no room for one more record.
use Rattle.std.proofs.Common.{◌≡◌, ℕ, ◌+◌, ◌-◌, ◌<◌, ◌≤◌, Bool, true, false, cond, List, [], ◌∷◌, ◌++◌, map, length, drop, Option, Some, None, refl, sym, ◌∙◌}
use Rattle.std.proofs.Common.{ap, subst, arith}
use Rattle.std.specs.Prelude.{nat_lt, slice_get, is_some}
use Rattle.std.proofs.lemmas.List.{length-map, map-append, length_push, length-drop}
use Rattle.std.proofs.lemmas.Bool.Decides.{nat_tests}
use Rattle.circular_buffer.specs.Buffer.{Buffer, buffer, keep_last}
use Rattle.r2d2_core.specs.declared.journal.record.Record.{Record}
use Rattle.pool_machine.specs.declared.schedule.limits.LimitSettings.{LimitSettings}
use Rattle.r2d2_core.specs.Records.{SeenRecord, Taken, Ordered, Admitted, Kept, Closed, Reaped, ClosedAll, seen_record}
use Rattle.r2d2_core.specs.Bases.{SeenBase, IsLegalBase}
use Rattle.pool_machine.specs.Connections.{SeenLentConnection, birth_in}
use Rattle.r2d2_core.specs.Folding.{is_next, folded, may_follow, all_follow, AreLegalFrom}
use Rattle.r2d2_core.specs.RunningBase.{made_idle_by, made_lent_by}
use Rattle.r2d2_core.specs.Journal.{SeenJournal, next_count, takes_with, with_oldest, with_record}
use Rattle.r2d2_core.proofs.Recording.Folding.{split, is_lt, next_is}
use Rattle.pool_machine.proofs.Lists.Lending.{length-still_idle}

-- what is lent is one of the lent ones, and what is next one of the idle ones
away_some : (id : ℕ) (lent : List SeenLentConnection) → is_some (birth_in id lent) ≡ true → 0 < length lent
away_some id [] is = absurd cc
away_some id (l ∷ ls) is = omega arith

next_some : (limits : LimitSettings) (id : ℕ) (b : SeenBase) → is_next limits id b ≡ true → 0 < length b.idle
next_some limits id b is = let n = next_is limits id b is in omega (arith, length-still_idle limits.order b.idle n.c n.next)

-- a base with room for `max_size`, idle and lent, has room for what a record brings
rest_room : (limits : LimitSettings) (r : SeenRecord) (b : SeenBase) → IsLegalBase limits b → may_follow limits r b ≡ true
    → length b.idle + made_idle_by r ≤ limits.max_size
rest_room limits (Taken at id n) b legal may = omega (arith, legal.counted, legal.fits)
rest_room limits (Ordered at n) b legal may = omega (arith, legal.counted, legal.fits)
rest_room limits (Admitted at id) b legal may = let some : 0 < b.pending = is_lt 0 b.pending ((split _ _ may).1) in
    omega (arith, legal.counted, legal.fits, some)
rest_room limits (Kept at id) b legal may = let some = away_some id b.lent ((split _ _ ((split _ _ may).1)).0) in omega (arith, legal.counted, legal.fits, some)
rest_room limits (Closed at id n) b legal may = omega (arith, legal.counted, legal.fits)
rest_room limits (Reaped at n) b legal may = omega (arith, legal.counted, legal.fits)
rest_room limits (ClosedAll at) b legal may = omega (arith, legal.counted, legal.fits)

leave_room : (limits : LimitSettings) (r : SeenRecord) (b : SeenBase) → IsLegalBase limits b → may_follow limits r b ≡ true
    → length b.lent + made_lent_by r ≤ limits.max_size
leave_room limits (Taken at id n) b legal may = let some = next_some limits id b ((split _ _ ((split _ _ may).1)).0) in
    omega (arith, legal.counted, legal.fits, some)
leave_room limits (Ordered at n) b legal may = omega (arith, legal.counted, legal.fits)
leave_room limits (Admitted at id) b legal may = omega (arith, legal.counted, legal.fits)
leave_room limits (Kept at id) b legal may = omega (arith, legal.counted, legal.fits)
leave_room limits (Closed at id n) b legal may = omega (arith, legal.counted, legal.fits)
leave_room limits (Reaped at n) b legal may = omega (arith, legal.counted, legal.fits)
leave_room limits (ClosedAll at) b legal may = omega (arith, legal.counted, legal.fits)

-- the oldest record is given up, and folded into the base
pub record GivesUp (limits : LimitSettings) (b : SeenBase) (items : List Record) (made oldest : Record) (capacity : ℕ) : Type 0 where
  pub full : nat_lt (length items) capacity ≡ false
  pub may : may_follow limits (seen_record oldest) b ≡ true
  pub base : folded limits (seen_record oldest) b ≡ with_oldest limits (map seen_record items ++ seen_record made ∷ []) b
  pub idle_room : length b.idle + made_idle_by (seen_record oldest) ≤ limits.max_size
  pub lent_room : length b.lent + made_lent_by (seen_record oldest) ≤ limits.max_size

first_may : (limits : LimitSettings) (b : SeenBase) (items : List Record) (made oldest : Record)
    → all_follow limits (map seen_record items ++ seen_record made ∷ []) b ≡ true → slice_get (items ++ made ∷ []) 0 ≡ Some oldest
    → (may_follow limits (seen_record oldest) b ≡ true) × (folded limits (seen_record oldest) b ≡ with_oldest limits
    (map seen_record items ++ seen_record made ∷ []) b)
first_may limits b [] made oldest follow is =
    let same : made ≡ oldest = cc in (
      subst (λ (r : Record). may_follow limits (seen_record r) b ≡ true) same ((split _ _ follow).0),
      ap (λ (r : Record). folded limits (seen_record r) b) (sym same),
    )
first_may limits b (x ∷ items) made oldest follow is =
    let same : x ≡ oldest = cc in (
      subst (λ (r : Record). may_follow limits (seen_record r) b ≡ true) same ((split _ _ follow).0),
      ap (λ (r : Record). folded limits (seen_record r) b) (sym same),
    )

given_by : (has_room : Bool) (given first : Option Record) (oldest : Record) → given ≡ cond has_room None first → given ≡ Some oldest → (has_room ≡ false)
    × (first ≡ Some oldest)
given_by true given first oldest e is = absurd cc
given_by false given first oldest e is = (refl, sym e ∙ is)

pub gives_up : (limits : LimitSettings) (b : SeenBase) (items : List Record) (made oldest : Record) (capacity : ℕ) (given : Option Record) → IsLegalBase limits b
    → AreLegalFrom limits b (map seen_record items ++ seen_record made ∷ [])
    → given ≡ cond (nat_lt (length items) capacity) None (slice_get (items ++ made ∷ []) 0) → given ≡ Some oldest
    → GivesUp limits b items made oldest capacity
gives_up limits b items made oldest capacity given legal are e is =
    let g = given_by (nat_lt (length items) capacity) given (slice_get (items ++ made ∷ []) 0) oldest e is in
    let f = first_may limits b items made oldest are.follow g.1 in
    record {
      full = g.0;
      may = f.0;
      base = f.1;
      idle_room = rest_room limits (seen_record oldest) b legal f.0;
      lent_room = leave_room limits (seen_record oldest) b legal f.0;
    }

-- what is kept where there is no room for more
without_first : {X Y : Type 0} (f : X → Y) (xs : List X) → map f (drop 1 xs) ≡ drop 1 (map f xs)
without_first f [] = refl
without_first f (x ∷ xs) = refl

full_by : (limits : LimitSettings) (b b' : SeenBase) (rs rs' : List SeenRecord) (r : SeenRecord) (made room lost takes takes' : ℕ) (has_room : Bool)
    → nat_lt (length rs) room ≡ has_room → has_room ≡ false
    → b' ≡ with_oldest limits (rs ++ r ∷ []) b → rs' ≡ drop 1 (rs ++ r ∷ []) → takes' ≡ takes_with r takes
    → ◌≡◌ {A = SeenJournal} (record { limits = limits; made = made; base = b'; records = rs'; room = room; lost = next_count lost; takes = takes' })
    (with_record r (record { limits = limits; made = made; base = b; records = rs; room = room; lost = lost; takes = takes }))
full_by limits b b' rs rs' r made room lost takes takes' has_room e none e1 e2 e3 = rw (e1, e2, e3, e, none) refl

pub full_noted : (limits : LimitSettings) (b b' : SeenBase) (items : List Record) (now : Buffer Record) (made : Record)
    (since capacity lost lost' takes takes' : ℕ) → length items ≤ capacity → nat_lt (length items) capacity ≡ false
    → now ≡ buffer (keep_last capacity (items ++ made ∷ [])) capacity → b' ≡ with_oldest limits (map seen_record items ++ seen_record made ∷ []) b
    → lost' ≡ next_count lost → takes' ≡ takes_with (seen_record made) takes
    → ◌≡◌ {A = SeenJournal} (record {
      limits = limits;
      made = since;
      base = b';
      records = map seen_record now.items;
      room = now.capacity;
      lost = lost';
      takes = takes';
    })
    (with_record (seen_record made) (record {
      limits = limits;
      made = since;
      base = b;
      records = map seen_record items;
      room = capacity;
      lost = lost;
      takes = takes;
    }))
full_noted limits b b' items now made since capacity lost lost' takes takes' within full is e1 e2 e3 =
    let long : length items ≡ capacity = grind (arith, nat_tests) in
    let one : length (items ++ made ∷ []) - capacity ≡ 1 = omega (arith, length_push items made, long) in
    let kept : map seen_record now.items ≡ drop 1 (map seen_record items ++ seen_record made ∷ []) =
    ap (λ (l : Buffer Record). map seen_record l.items) is
    ∙ (ap (λ k. map seen_record (drop k (items ++ made ∷ []))) one
    ∙ (without_first seen_record (items ++ made ∷ []) ∙ ap (drop 1) (map-append seen_record items (made ∷ [])))) in
    let room : now.capacity ≡ capacity = ap (λ (l : Buffer Record). l.capacity) is in
    ap (λ n. record { limits = limits; made = since; base = b'; records = map seen_record now.items; room = n; lost = lost'; takes = takes' }) room
    ∙ (ap (λ n. record { limits = limits; made = since; base = b'; records = map seen_record now.items; room = capacity; lost = n; takes = takes' }) e2
    ∙ full_by limits b b' (map seen_record items) (map seen_record now.items) (seen_record made) since capacity lost takes takes' false
    (ap (λ n. nat_lt n capacity) (length-map items seen_record) ∙ full) refl e1 kept e3)

-- and there are no more than there is room for
pub kept_within : (items : List Record) (made : Record) (now : Buffer Record) (capacity : ℕ) → now ≡ buffer (keep_last capacity (items ++ made ∷ [])) capacity
    → (length now.items ≤ now.capacity) × (now.capacity ≡ capacity)
kept_within items made now capacity is =
    let all = items ++ made ∷ [] in
    let size : length now.items ≡ length all - (length all - capacity) = ap (λ (l : Buffer Record). length l.items) is
    ∙ length-drop (length all - capacity) all in
    let room : now.capacity ≡ capacity = ap (λ (l : Buffer Record). l.capacity) is in
    (omega (arith, size, room), room)

pub none_lost : (n : ℕ) → next_count n ≡ 0 → ⊥
none_lost n e = omega (arith, e)
