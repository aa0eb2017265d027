-- That the tests of a report's audit find what the definitions ask for.
use Rattle.std.proofs.Common.{◌≡◌, ℕ, zero, suc, ◌+◌, ◌≤◌, ◌<◌, Bool, true, false, cond, ◌||◌, not, ◌==◌, List, [], ◌∷◌, ◌++◌, map, length, drop, take}
use Rattle.std.proofs.Common.{append_assoc, get_or, set, length-set, get_or-set_same, get_or-set_other, Option, Some, None, refl, sym, ◌∙◌, ap, subst, arith}
use Rattle.std.proofs.Common.{add-one}
use Rattle.std.specs.Prelude.{◌&&◌, nat_le, sum_by, filter, is_some}
use Rattle.std.specs.Prelude.{IsTrue, IfOk, MatchOption, Result, Ok, Err}
use Rattle.std.specs.List.{All, swap}
use Rattle.std.specs.List.Sorted.{IsNonDecreasingBy, IsPermutation}
use Rattle.std.proofs.lemmas.List.{append-nil, length-map, length_push, take_all, take-take}
use Rattle.std.proofs.lemmas.List.Edits.{swap_is}
use Rattle.std.proofs.lemmas.List.Sums.{sum_by-set, sum_by-append}
use Rattle.std.proofs.lemmas.List.Sorted.{IsPermutation-keeps}
use Rattle.std.proofs.lemmas.Bool.{eq-eqb, eqb-true, cases_lt}
use mathlib.Core.Logic.{⊎_elim}
use Rattle.r2d2_core.specs.declared.journal.record.Record.{Record}
use Rattle.r2d2_core.specs.declared.journal.record.Record.TheVariants as record_
use Rattle.pool_machine.specs.declared.schedule.limits.LimitSettings.{LimitSettings}
use Rattle.pool_machine.specs.Ids.{copies_of, without}
use Rattle.pool_machine.specs.Connections.{SeenLentConnection, idle_connection, lent_connection, id_of_idle, id_of_lent, since_of, is_kept}
use Rattle.r2d2_core.specs.Records.{seen_record, SeenRecord, Taken, Ordered, Admitted, Kept, Closed, Reaped, ClosedAll}
use Rattle.r2d2_core.specs.Bases.{SeenBase, BareConnection, ids_in_base, IsLegalBase}
use Rattle.std.specs.Prelude.{flat_map}
use Rattle.r2d2_core.specs.Folding.{birth_of_idle, birth_of_lent, folded, replay, may_follow, all_follow, admitted_by, known_in, AreLegalFrom}
use Rattle.r2d2_core.specs.declared.journal.report.Report.{Report}
use Rattle.pool_machine.specs.Limits.{seen_limits}
use Rattle.r2d2_core.specs.RunningBase.{SeenRunningBase, running_base, made_idle_by, made_lent_by, made_idle_in, made_lent_in, rooms_for}
use Rattle.r2d2_core.specs.Reports.{seen_base, seen_records, told_in, DoesReplay}
use Rattle.r2d2_core.specs.Auditing.{counts_fit, are_in_order, are_born, ShowsCounts}
use Rattle.r2d2_core.specs.declared.journal.running_base.Rooms.{Rooms}
use Rattle.r2d2_core.specs.declared.journal.replaying.Wrong.{Wrong}
use Rattle.r2d2_core.specs.declared.journal.replaying.Wrong.TheVariants as wrong
use Rattle.r2d2_core.specs.Faults.{IsWrong, IsFirstWrong, AreApartUpTo}
use Rattle.r2d2_core.specs.Replays.{IsFollowing}
use Rattle.r2d2_core.proofs.Recording.Folding.{both, split, is_le, legal_folded, known_folded, known_first, replay-push, follow-push}
use Rattle.pool_machine.proofs.Lists.Ids.{copies_of-append}
use Rattle.r2d2_core.proofs.Recording.Replaying.{le_is}

-- COUNTS

none_there : {X : Type 0} (xs : List X) → length xs ≡ 0 → xs ≡ []
none_there [] e = refl
none_there (x ∷ xs) e = absurd (omega (arith, e))

or_is : (closed b : Bool) → (not closed || b) ≡ true → closed ≡ true → b ≡ true
or_is true b e c = e
or_is false b e c = absurd cc

is_or : (closed b : Bool) → (closed ≡ true → b ≡ true) → (not closed || b) ≡ true
is_or true b h = h refl
is_or false b h = refl

pub counts_of_legal : (limits : LimitSettings) (b : SeenBase) → IsLegalBase limits b → counts_fit limits b ≡ true
counts_of_legal limits b legal =
    both _ _ (eq-eqb b.connections _ legal.counted)
    (both _ _ (le_is _ _ legal.fits)
    (is_or b.closed _ (λ c. both _ _ (eq-eqb (length b.idle) 0 (ap (λ (l : List BareConnection). length l) (legal.none_idle c)))
    (eq-eqb b.pending 0 (legal.none_pending c)))))

-- MOMENTS

tail_rises : (c : BareConnection) (cs : List BareConnection) → IsNonDecreasingBy since_of (c ∷ cs) → IsNonDecreasingBy since_of cs
tail_rises c cs h = λ i j d ij lt. h (suc i) (suc j) d (omega (arith, ij)) (omega (arith, lt))

pub order_of_legal : (at last : ℕ) (cs : List BareConnection) → IsNonDecreasingBy since_of cs
    → ((d : BareConnection) → 0 < length cs → last ≤ since_of (get_or cs 0 d)) → All (λ c. c.since ≤ at) cs → All (λ c. c.birth ≤ c.since) cs
    → are_in_order at last cs ≡ true
order_of_legal at last [] rises first seen born = refl
order_of_legal at last (c ∷ cs) rises first seen born =
    both _ _ (both _ _ (le_is c.birth c.since (born 0 c (omega arith))) (both _ _ (le_is last c.since (first c (omega arith)))
    (le_is c.since at (seen 0 c (omega arith)))))
    (order_of_legal at c.since cs (tail_rises c cs rises) (λ d some. rises 0 1 d (omega arith) (omega (arith, some)))
    (λ k d lt. seen (suc k) d (omega (arith, lt))) (λ k d lt. born (suc k) d (omega (arith, lt))))

pub born_of_legal : (at : ℕ) (ls : List SeenLentConnection) → All (λ l. l.birth ≤ at) ls → are_born at ls ≡ true
born_of_legal at [] born = refl
born_of_legal at (l ∷ ls) born = both _ _ (le_is l.birth at (born 0 l (omega arith))) (born_of_legal at ls (λ k d lt. born (suc k) d (omega (arith, lt))))

-- and back
pub record AreOrdered (at last : ℕ) (cs : List BareConnection) : Type 0 where
  pub rises : IsNonDecreasingBy since_of cs
  pub after : (k : ℕ) (d : BareConnection) → k < length cs → last ≤ since_of (get_or cs k d)
  pub seen : All (λ c. c.since ≤ at) cs
  pub born : All (λ c. c.birth ≤ c.since) cs

rises_more : (c : BareConnection) (cs : List BareConnection) → ((k : ℕ) (d : BareConnection) → k < length cs → c.since ≤ since_of (get_or cs k d))
    → IsNonDecreasingBy since_of cs → IsNonDecreasingBy since_of (c ∷ cs)
rises_more c cs after rises zero zero d ij lt = omega arith
rises_more c cs after rises zero (suc j) d ij lt = after j d (omega (arith, lt))
rises_more c cs after rises (suc i) zero d ij lt = absurd (omega (arith, ij))
rises_more c cs after rises (suc i) (suc j) d ij lt = rises i j d (omega (arith, ij)) (omega (arith, lt))

after_more : (last : ℕ) (c : BareConnection) (cs : List BareConnection) → last ≤ c.since
    → ((k : ℕ) (d : BareConnection) → k < length cs → c.since ≤ since_of (get_or cs k d)) → (k : ℕ) (d : BareConnection) → k < suc (length cs)
    → last ≤ since_of (get_or (c ∷ cs) k d)
after_more last c cs le after zero d lt = le
after_more last c cs le after (suc k) d lt = omega (arith, le, after k d (omega (arith, lt)))

all_more : {X : Type 0} (P : X → Type 0) (x : X) (xs : List X) → P x → All P xs → All P (x ∷ xs)
all_more P x xs p all zero d lt = p
all_more P x xs p all (suc k) d lt = all k d (omega (arith, lt))

pub ordered_by : (at last : ℕ) (cs : List BareConnection) → are_in_order at last cs ≡ true → AreOrdered at last cs
ordered_by at last [] e = record {
  rises = λ i j d ij lt. absurd (omega (arith, lt));
  after = λ k d lt. absurd (omega (arith, lt));
  seen = λ k d lt. absurd (omega (arith, lt));
  born = λ k d lt. absurd (omega (arith, lt));
}
ordered_by at last (c ∷ cs) e =
    let f = split _ _ e in
    let g = split _ _ f.0 in
    let h = split _ _ g.1 in
    let rest = ordered_by at c.since cs f.1 in
    record {
      rises = rises_more c cs rest.after rest.rises;
      after = after_more last c cs (is_le last c.since h.0) rest.after;
      seen = all_more (λ c. c.since ≤ at) c cs (is_le c.since at h.1) rest.seen;
      born = all_more (λ c. c.birth ≤ c.since) c cs (is_le c.birth c.since g.0) rest.born;
    }

pub born_by : (at : ℕ) (ls : List SeenLentConnection) → are_born at ls ≡ true → All (λ l. l.birth ≤ at) ls
born_by at [] e = λ k d lt. absurd (omega (arith, lt))
born_by at (l ∷ ls) e = let f = split _ _ e in all_more (λ l. l.birth ≤ at) l ls (is_le l.birth at f.0) (born_by at ls f.1)

-- THE BASE

pub legal_by : (limits : LimitSettings) (b : SeenBase) → counts_fit limits b ≡ true → ((i : ℕ) → copies_of i (ids_in_base b) ≤ 1)
    → (are_in_order b.at 0 b.idle && are_born b.at b.lent) ≡ true → IsLegalBase limits b
legal_by limits b counts apart order =
    let c = split _ _ counts in
    let d = split _ _ c.1 in
    let o = split _ _ order in
    let idle = ordered_by b.at 0 b.idle o.0 in
    record {
      apart = apart;
      counted = eqb-true b.connections _ c.0;
      fits = is_le _ _ d.0;
      is_sorted = idle.rises;
      seen = idle.seen;
      born = idle.born;
      born_lent = born_by b.at b.lent o.1;
      none_idle = λ closed. none_there b.idle (eqb-true (length b.idle) 0 ((split _ _ (or_is b.closed _ d.1 closed)).0));
      none_pending = λ closed. eqb-true b.pending 0 ((split _ _ (or_is b.closed _ d.1 closed)).1);
    }

pub order_in : (limits : LimitSettings) (b : SeenBase) → IsLegalBase limits b → (are_in_order b.at 0 b.idle && are_born b.at b.lent) ≡ true
order_in limits b legal = both _ _ (order_of_legal b.at 0 b.idle legal.is_sorted (λ d some. omega arith) legal.seen legal.born)
    (born_of_legal b.at b.lent legal.born_lent)

-- IDS

head_copy : (x : ℕ) (xs : List ℕ) → copies_of x (x ∷ xs) ≡ 1 + copies_of x xs
head_copy x xs = ap (λ b. cond b 1 0 + copies_of x xs) (eq-eqb x x refl)

-- two that stand side by side and are the same are two copies
pub same_twice : (xs : List ℕ) (k : ℕ) → suc k < length xs → get_or xs k 0 ≡ get_or xs (suc k) 0 → 2 ≤ copies_of (get_or xs k 0) xs
same_twice [] k lt e = absurd (omega (arith, lt))
same_twice (x ∷ []) k lt e = absurd (omega (arith, lt))
same_twice (x ∷ y ∷ ys) zero lt e = subst (λ z. 2 ≤ copies_of x (x ∷ z ∷ ys)) e (omega (arith, head_copy x (x ∷ ys), head_copy x ys))
same_twice (x ∷ y ∷ ys) (suc k) lt e = omega (arith, same_twice (y ∷ ys) k (omega (arith, lt)) e)

-- each is below the next
abbrev pub Rises : List ℕ → Type 0
Rises xs = (j : ℕ) → suc j < length xs → get_or xs j 0 < get_or xs (suc j) 0

rises_tail : (x : ℕ) (xs : List ℕ) → Rises (x ∷ xs) → Rises xs
rises_tail x xs h = λ j lt. h (suc j) (omega (arith, lt))

other_copy : (b : Bool) (y i n : ℕ) → (y == i) ≡ b → (y ≡ i → ⊥) → cond b 1 0 + n ≡ n
other_copy true y i n e ne = absurd (ne (eqb-true y i e))
other_copy false y i n e ne = omega arith

none_above : (x : ℕ) (xs : List ℕ) (i : ℕ) → Rises (x ∷ xs) → i ≤ x → copies_of i xs ≡ 0
none_above x [] i h le = refl
none_above x (y ∷ ys) i h le =
    let up : x < y = h 0 (omega arith) in
    other_copy (y == i) y i (copies_of i ys) refl (λ e. omega (arith, e, up, le)) ∙ none_above y ys i (rises_tail x (y ∷ ys) h) (omega (arith, up, le))

apart_step : (b : Bool) (x i : ℕ) (xs : List ℕ) → (x == i) ≡ b → Rises (x ∷ xs) → copies_of i xs ≤ 1 → cond b 1 0 + copies_of i xs ≤ 1
apart_step true x i xs e h le = omega (arith, none_above x xs i h (omega (arith, eqb-true x i e)))
apart_step false x i xs e h le = omega (arith, le)

-- ids that rise are apart
pub apart_rising : (xs : List ℕ) → Rises xs → (i : ℕ) → copies_of i xs ≤ 1
apart_rising [] h i = omega arith
apart_rising (x ∷ xs) h i = apart_step (x == i) x i xs refl h (apart_rising xs (rises_tail x xs h) i)

abbrev is_here : ℕ → ℕ → ℕ
is_here i x = cond (x == i) 1 0

copies-sum : (i : ℕ) (xs : List ℕ) → copies_of i xs ≡ sum_by (is_here i) xs
copies-sum i [] = refl
copies-sum i (x ∷ xs) = omega (arith, copies-sum i xs, sum_by-append (is_here i) (x ∷ []) xs)

there : (l : List ℕ) (i j b : ℕ) → i < length l → get_or (set l i b) j 0 ≡ cond (j == i) b (get_or l j 0)
there l i j b lt = by (j == i) refl where
  by : (c : Bool) → (j == i) ≡ c → get_or (set l i b) j 0 ≡ cond c b (get_or l j 0)
  by true e = subst (λ k. get_or (set l i b) k 0 ≡ b) (sym (eqb-true j i e)) (get_or-set_same l i b 0 lt)
  by false e = get_or-set_other l i j b 0 (λ f. absurd (cc (e, eq-eqb j i f)))

sums : (i : ℕ) (l : List ℕ) (p q : ℕ) → p < length l → q < length l → sum_by (is_here i) (set (set l p (get_or l q 0)) q (get_or l p 0)) ≡ sum_by (is_here i) l
sums i l p q lp lq =
    let a = get_or l p 0 in
    let b = get_or l q 0 in
    let first = sum_by-set (is_here i) l p b 0 lp in
    let second = sum_by-set (is_here i) (set l p b) q a 0 (omega (arith, lq, length-set l p b)) in
    let at : get_or (set l p b) q 0 ≡ b = there l p q b lp ∙ cond_same (q == p) b in
    omega (arith, first, second, ap (is_here i) at) where
      cond_same : (c : Bool) (b : ℕ) → cond c b b ≡ b
      cond_same true b = refl
      cond_same false b = refl

copies-swap : (i : ℕ) (l : List ℕ) (p q : ℕ) → p < length l → q < length l → copies_of i (swap l p q) ≡ copies_of i l
copies-swap i [] p q lp lq = refl
copies-swap i (x ∷ xs) p q lp lq =
    ap (copies_of i) (sym (swap_is (x ∷ xs) p q 0 lp lq)) ∙ (copies-sum i _ ∙ (sums i (x ∷ xs) p q lp lq ∙ sym (copies-sum i (x ∷ xs))))

-- the order of ids changes no count
pub copies-permutation : (i : ℕ) (xs ys : List ℕ) → IsPermutation xs ys → copies_of i ys ≡ copies_of i xs
copies-permutation i xs ys h = IsPermutation-keeps xs (λ (l : List ℕ). copies_of i l ≡ copies_of i xs) refl
    (λ l p q lp lq e. copies-swap i l p q lp lq ∙ e) ys h

-- RECORDS

fewer_step : {X : Type 0} (c : Bool) (x : X) (xs ws : List X) → length ws ≤ length xs → length (cond c xs (x ∷ ws)) ≤ suc (length xs)
fewer_step true x xs ws le = omega arith
fewer_step false x xs ws le = omega (arith, le)

fewer_without : {X : Type 0} (id_of : X → ℕ) (i : ℕ) (xs : List X) → length (without id_of i xs) ≤ length xs
fewer_without id_of i [] = omega arith
fewer_without id_of i (x ∷ xs) = fewer_step (id_of x == i) x xs (without id_of i xs) (fewer_without id_of i xs)

kept_step : {X : Type 0} (c : Bool) (x : X) (xs ws : List X) → length ws ≤ length xs → length (cond c (x ∷ ws) ws) ≤ suc (length xs)
kept_step true x xs ws le = omega (arith, le)
kept_step false x xs ws le = omega (arith, le)

fewer_kept : {X : Type 0} (p : X → Bool) (xs : List X) → length (filter p xs) ≤ length xs
fewer_kept p [] = omega arith
fewer_kept p (x ∷ xs) = kept_step (p x) x xs (filter p xs) (fewer_kept p xs)

-- so many are idle and lent with a record
rested : (limits : LimitSettings) (r : SeenRecord) (b : SeenBase) → (let now = folded limits r b in length now.idle) ≤ length b.idle + made_idle_by r
rested limits (Taken at id n) b = omega (arith, fewer_without id_of_idle id b.idle)
rested limits (Ordered at n) b = omega arith
rested limits (Admitted at id) b = omega (arith, length_push b.idle (idle_connection id at at tt))
rested limits (Kept at id) b = omega (arith, length_push b.idle (idle_connection id (birth_of_lent id b.lent) at tt))
rested limits (Closed at id n) b = omega arith
rested limits (Reaped at n) b = omega (arith, fewer_kept (is_kept limits at) b.idle)
rested limits (ClosedAll at) b = omega arith

left : (limits : LimitSettings) (r : SeenRecord) (b : SeenBase) → (let now = folded limits r b in length now.lent) ≤ length b.lent + made_lent_by r
left limits (Taken at id n) b = omega (arith, length_push b.lent (lent_connection id (birth_of_idle id b.idle)))
left limits (Ordered at n) b = omega arith
left limits (Admitted at id) b = omega arith
left limits (Kept at id) b = omega (arith, fewer_without id_of_lent id b.lent)
left limits (Closed at id n) b = omega (arith, fewer_without id_of_lent id b.lent)
left limits (Reaped at n) b = omega arith
left limits (ClosedAll at) b = omega arith

pub following_start : (limits : LimitSettings) (rs : List SeenRecord) (b : SeenBase) (room : Rooms) → IsLegalBase limits b
    → ((i : ℕ) → copies_of i (known_in b rs) ≤ 1) → room ≡ rooms_for b rs → IsFollowing limits rs b 0 b room
following_start limits rs b room legal apart is = record {
  legal = legal;
  apart = apart;
  idle_room = omega (arith, ap (λ (r : Rooms). r.idle) is);
  lent_room = omega (arith, ap (λ (r : Rooms). r.lent) is);
  may = refl;
  folds = refl;
}

pub following_more : (limits : LimitSettings) (rs : List SeenRecord) (b : SeenBase) (k : ℕ) (now : SeenBase) (room : Rooms) (r : SeenRecord)
    → drop k rs ≡ r ∷ drop (k + 1) rs → take (k + 1) rs ≡ take k rs ++ r ∷ [] → may_follow limits r now ≡ true
    → IsFollowing limits rs b k now room → IsFollowing limits rs b (k + 1) (folded limits r now) room
following_more limits rs b k now room r next front may h =
    let rest = drop (k + 1) rs in
    let apart : (i : ℕ) → copies_of i (known_in now (r ∷ rest)) ≤ 1 = λ i. subst (λ (l : List SeenRecord). copies_of i (known_in now l) ≤ 1) next (h.apart i) in
    let idle_room : length now.idle + made_idle_in (r ∷ rest) ≤ room.idle = subst (λ (l : List SeenRecord). length now.idle + made_idle_in l ≤ room.idle) next
    h.idle_room in
    let lent_room : length now.lent + made_lent_in (r ∷ rest) ≤ room.lent = subst (λ (l : List SeenRecord). length now.lent + made_lent_in l ≤ room.lent) next
    h.lent_room in
    record {
      legal = legal_folded limits r now h.legal may (λ i. omega (arith, apart i, known_first i now r rest));
      apart = λ i. omega (arith, apart i, known_folded limits r rest now h.legal.apart may i);
      idle_room = omega (arith, idle_room, rested limits r now);
      lent_room = omega (arith, lent_room, left limits r now);
      may = ap (λ (l : List SeenRecord). all_follow limits l b) front ∙ (follow-push limits (take k rs) r b
          ∙ both _ _ h.may (ap (may_follow limits r) h.folds ∙ may));
      folds = ap (λ (l : List SeenRecord). replay limits l b) front ∙ (replay-push limits (take k rs) r b ∙ ap (folded limits r) h.folds);
    }

pub following_stop : (limits : LimitSettings) (rs : List SeenRecord) (b : SeenBase) (k : ℕ) (now : SeenBase) (room : Rooms) (r : SeenRecord)
    → take (k + 1) rs ≡ take k rs ++ r ∷ [] → may_follow limits r now ≡ false
    → IsFollowing limits rs b k now room → all_follow limits (take (k + 1) rs) b ≡ false
following_stop limits rs b k now room r front may h =
    ap (λ (l : List SeenRecord). all_follow limits l b) front
    ∙ (follow-push limits (take k rs) r b
    ∙ (ap (λ c. c && may_follow limits r (replay limits (take k rs) b)) h.may ∙ (ap (may_follow limits r) h.folds ∙ may)))

pub following_fits : (limits : LimitSettings) (rs : List SeenRecord) (b : SeenBase) (k : ℕ) (now : SeenBase) (room : Rooms) (r : SeenRecord)
    → drop k rs ≡ r ∷ drop (k + 1) rs → IsFollowing limits rs b k now room
    → (length now.idle + made_idle_by r ≤ room.idle) × (length now.lent + made_lent_by r ≤ room.lent)
following_fits limits rs b k now room r next h =
    let idle_room : length now.idle + made_idle_in (r ∷ drop (k + 1) rs) ≤ room.idle = subst
    (λ (l : List SeenRecord). length now.idle + made_idle_in l ≤ room.idle) next h.idle_room in
    let lent_room : length now.lent + made_lent_in (r ∷ drop (k + 1) rs) ≤ room.lent = subst
    (λ (l : List SeenRecord). length now.lent + made_lent_in l ≤ room.lent) next h.lent_room in
    (omega (arith, idle_room), omega (arith, lent_room))

pub following_end : (limits : LimitSettings) (rs : List SeenRecord) (b : SeenBase) (k : ℕ) (now : SeenBase) (room : Rooms) → length rs ≤ k
    → IsFollowing limits rs b k now room → replay limits rs b ≡ now
following_end limits rs b k now room past h = ap (λ (l : List SeenRecord). replay limits l b) (sym (take_all k rs past)) ∙ h.folds

next_at : {P X : Type 0} (seen : P → X) (xs : List P) (k : ℕ) (d : P) → k < length xs → drop k (map seen xs) ≡ seen (get_or xs k d) ∷ drop (suc k) (map seen xs)
next_at seen [] k d lt = absurd (omega (arith, lt))
next_at seen (x ∷ xs) zero d lt = refl
next_at seen (x ∷ xs) (suc k) d lt = next_at seen xs k d (omega (arith, lt))

-- a record for places that there are not
abbrev pub some_record : Record
some_record = record_.Taken (record { secs = 0; nanos = 0 }) 0 0

-- the next of a list that is seen
pub seen_next : {P X : Type 0} (seen : P → X) (xs : List P) (k : ℕ) (d : P) → k < length xs
    → drop k (map seen xs) ≡ seen (get_or xs k d) ∷ drop (k + 1) (map seen xs)
seen_next seen xs k d lt = next_at seen xs k d lt ∙ ap (λ n. seen (get_or xs k d) ∷ drop n (map seen xs)) (sym (add-one k))

next_taken : {P X Y : Type 0} (f : X → Y) (seen : P → X) (xs : List P) (k : ℕ) (d : P) → k < length xs
    → take (suc k) (map f (map seen xs)) ≡ take k (map f (map seen xs)) ++ f (seen (get_or xs k d)) ∷ []
next_taken f seen [] k d lt = absurd (omega (arith, lt))
next_taken f seen (x ∷ xs) zero d lt = refl
next_taken f seen (x ∷ xs) (suc k) d lt = ap (λ l. f (seen x) ∷ l) (next_taken f seen xs k d (omega (arith, lt)))

-- the first so many, and one more
pub taken_next : {P X Y : Type 0} (f : X → Y) (seen : P → X) (xs : List P) (k : ℕ) (d : P) → k < length xs
    → take (k + 1) (map f (map seen xs)) ≡ take k (map f (map seen xs)) ++ f (seen (get_or xs k d)) ∷ []
taken_next f seen xs k d lt = ap (λ n. take n (map f (map seen xs))) (add-one k) ∙ next_taken f seen xs k d lt

next_seen : {P X : Type 0} (seen : P → X) (xs : List P) (k : ℕ) (d : P) → k < length xs
    → take (suc k) (map seen xs) ≡ take k (map seen xs) ++ seen (get_or xs k d) ∷ []
next_seen seen [] k d lt = absurd (omega (arith, lt))
next_seen seen (x ∷ xs) zero d lt = refl
next_seen seen (x ∷ xs) (suc k) d lt = ap (λ l. seen x ∷ l) (next_seen seen xs k d (omega (arith, lt)))

pub seen_taken : {P X : Type 0} (seen : P → X) (xs : List P) (k : ℕ) (d : P) → k < length xs
    → take (k + 1) (map seen xs) ≡ take k (map seen xs) ++ seen (get_or xs k d) ∷ []
seen_taken seen xs k d lt = ap (λ n. take n (map seen xs)) (add-one k) ∙ next_seen seen xs k d lt

-- one more is added behind what was added
pub added_more : {X : Type 0} (old now ids front front' : List X) (x : X) → now ≡ ids ++ x ∷ [] → ids ≡ old ++ front → front' ≡ front ++ x ∷ []
    → now ≡ old ++ front'
added_more old now ids front front' x e f h = e ∙ (ap (λ l. l ++ x ∷ []) f ∙ (append_assoc old front (x ∷ []) ∙ ap (λ l. old ++ l) (sym h)))

next_admitted : {P : Type 0} (seen : P → SeenRecord) (xs : List P) (k : ℕ) (d : P) → k < length xs
    → flat_map admitted_by (take (suc k) (map seen xs)) ≡ flat_map admitted_by (take k (map seen xs)) ++ admitted_by (seen (get_or xs k d))
next_admitted seen [] k d lt = absurd (omega (arith, lt))
next_admitted seen (x ∷ xs) zero d lt = append-nil (admitted_by (seen x))
next_admitted seen (x ∷ xs) (suc k) d lt =
    ap (λ l. admitted_by (seen x) ++ l) (next_admitted seen xs k d (omega (arith, lt)))
    ∙ sym (append_assoc (admitted_by (seen x)) (flat_map admitted_by (take k (map seen xs))) (admitted_by (seen (get_or xs k d))))

pub admitted_next : {P : Type 0} (seen : P → SeenRecord) (xs : List P) (k : ℕ) (d : P) (ids : List ℕ) → k < length xs → admitted_by (seen (get_or xs k d)) ≡ ids
    → flat_map admitted_by (take (k + 1) (map seen xs)) ≡ flat_map admitted_by (take k (map seen xs)) ++ ids
admitted_next seen xs k d ids lt e = ap (λ n. flat_map admitted_by (take n (map seen xs))) (add-one k)
    ∙ (next_admitted seen xs k d lt ∙ ap (λ l. flat_map admitted_by (take k (map seen xs)) ++ l) e)

rest-push : (rs : List SeenRecord) (r : SeenRecord) → made_idle_in (rs ++ r ∷ []) ≡ made_idle_in rs + made_idle_by r
rest-push [] r = omega arith
rest-push (s ∷ rs) r = omega (arith, rest-push rs r)

leave-push : (rs : List SeenRecord) (r : SeenRecord) → made_lent_in (rs ++ r ∷ []) ≡ made_lent_in rs + made_lent_by r
leave-push [] r = omega arith
leave-push (s ∷ rs) r = omega (arith, leave-push rs r)

-- what comes with the next of some records
pub rest_next : {P : Type 0} (seen : P → SeenRecord) (xs : List P) (k : ℕ) (d : P) → k < length xs
    → made_idle_in (take (k + 1) (map seen xs)) ≡ made_idle_in (take k (map seen xs)) + made_idle_by (seen (get_or xs k d))
rest_next seen xs k d lt = ap (λ (l : List SeenRecord). made_idle_in l) (seen_taken seen xs k d lt) ∙ rest-push (take k (map seen xs)) (seen (get_or xs k d))

pub leave_next : {P : Type 0} (seen : P → SeenRecord) (xs : List P) (k : ℕ) (d : P) → k < length xs
    → made_lent_in (take (k + 1) (map seen xs)) ≡ made_lent_in (take k (map seen xs)) + made_lent_by (seen (get_or xs k d))
leave_next seen xs k d lt = ap (λ (l : List SeenRecord). made_lent_in l) (seen_taken seen xs k d lt) ∙ leave-push (take k (map seen xs)) (seen (get_or xs k d))

-- idle ones in order, one by one
pub order_more : (at last k : ℕ) (cs : List BareConnection) (c : BareConnection) (whole : Bool) → drop k cs ≡ c ∷ drop (k + 1) cs
    → (nat_le c.birth c.since && (nat_le last c.since && nat_le c.since at)) ≡ true
    → whole ≡ are_in_order at last (drop k cs) → whole ≡ are_in_order at c.since (drop (k + 1) cs)
order_more at last k cs c whole next fits e = e ∙ (ap (are_in_order at last) next ∙ ap (λ b. b && are_in_order at c.since (drop (k + 1) cs)) fits)

pub order_stops : (at last k : ℕ) (cs : List BareConnection) (c : BareConnection) (whole : Bool) → drop k cs ≡ c ∷ drop (k + 1) cs
    → (nat_le c.birth c.since && (nat_le last c.since && nat_le c.since at)) ≡ false
    → whole ≡ are_in_order at last (drop k cs) → false ≡ whole
order_stops at last k cs c whole next fits e = sym (e ∙ (ap (are_in_order at last) next ∙ ap (λ b. b && are_in_order at c.since (drop (k + 1) cs)) fits))

pub born_more : (at k : ℕ) (ls : List SeenLentConnection) (l : SeenLentConnection) (whole : Bool) → drop k ls ≡ l ∷ drop (k + 1) ls → nat_le l.birth at ≡ true
    → whole ≡ are_born at (drop k ls) → whole ≡ are_born at (drop (k + 1) ls)
born_more at k ls l whole next fits e = e ∙ (ap (are_born at) next ∙ ap (λ b. b && are_born at (drop (k + 1) ls)) fits)

pub born_stops : (at k : ℕ) (ls : List SeenLentConnection) (l : SeenLentConnection) (whole : Bool) → drop k ls ≡ l ∷ drop (k + 1) ls → nat_le l.birth at ≡ false
    → whole ≡ are_born at (drop k ls) → false ≡ whole
born_stops at k ls l whole next fits e = sym (e ∙ (ap (are_born at) next ∙ ap (λ b. b && are_born at (drop (k + 1) ls)) fits))

-- ids in order, where none falls
pub twice_in : (xs ys : List ℕ) (k : ℕ) → IsPermutation xs ys → suc k < length ys → get_or ys k 0 ≡ get_or ys (suc k) 0 → ((i : ℕ) → copies_of i xs ≤ 1) → ⊥
twice_in xs ys k h lt e apart = omega (arith, same_twice ys k lt e, copies-permutation (get_or ys k 0) xs ys h, apart (get_or ys k 0))

pub apart_in : (xs ys : List ℕ) → IsPermutation xs ys → Rises ys → (i : ℕ) → copies_of i xs ≤ 1
apart_in xs ys h up i = omega (arith, copies-permutation i xs ys h, apart_rising ys up i)

-- THE AUDIT

-- a base is put in place where its moments are in order, and there alone
abbrev pub IsPut : SeenBase → Rooms → Option SeenRunningBase → Type 0
IsPut b room made = MatchOption made ((are_in_order b.at 0 b.idle && are_born b.at b.lent) ≡ false)
    (λ there. ((are_in_order b.at 0 b.idle && are_born b.at b.lent) ≡ true) × (there ≡ running_base b room))

-- it is put where it is legal, and there alone
abbrev pub IsStart : LimitSettings → SeenBase → Rooms → Option SeenRunningBase → Type 0
IsStart limits b room made = MatchOption made (IsLegalBase limits b → ⊥) (λ there. IsLegalBase limits b × (there ≡ running_base b room))

pub starts : (limits : LimitSettings) (b : SeenBase) (room : Rooms) (made : Option SeenRunningBase) → counts_fit limits b ≡ true
    → ((i : ℕ) → copies_of i (ids_in_base b) ≤ 1) → IsPut b room made → IsStart limits b room made
starts limits b room None counts apart none = λ legal. cc (none, order_in limits b legal)
starts limits b room (Some there) counts apart put = (legal_by limits b counts apart put.0, put.1)

pub no_start : (limits : LimitSettings) (b : SeenBase) → counts_fit limits b ≡ false → IsLegalBase limits b → ⊥
no_start limits b wrong legal = cc (wrong, counts_of_legal limits b legal)

pub start_there : (limits : LimitSettings) (b : SeenBase) (room : Rooms) (made : Option SeenRunningBase) (s : SeenRunningBase) → made ≡ Some s
    → IsStart limits b room made → IsLegalBase limits b × (s ≡ running_base b room)
start_there limits b room made s is h = subst (IsStart limits b room) is h

pub start_none : (limits : LimitSettings) (b : SeenBase) (room : Rooms) (made : Option SeenRunningBase) → made ≡ None → IsStart limits b room made
    → IsLegalBase limits b → ⊥
start_none limits b room made is h = subst (IsStart limits b room) is h

-- the ids of a base are apart where those that are known are
pub base_apart : (b : SeenBase) (rs : List SeenRecord) → ((i : ℕ) → copies_of i (known_in b rs) ≤ 1) → (i : ℕ) → copies_of i (ids_in_base b) ≤ 1
base_apart b rs apart i = omega (arith, apart i, copies_of-append i (ids_in_base b) (flat_map admitted_by rs))

-- fewer records admit no more
admitted_before : (i k : ℕ) (rs : List SeenRecord) → copies_of i (flat_map admitted_by (take k rs)) ≤ copies_of i (flat_map admitted_by rs)
admitted_before i zero rs = omega arith
admitted_before i (suc k) [] = omega arith
admitted_before i (suc k) (r ∷ rs) =
    omega (arith, admitted_before i k rs, copies_of-append i (admitted_by r) (flat_map admitted_by (take k rs)), copies_of-append i (admitted_by r) (flat_map admitted_by rs))

pub known_before : (i k : ℕ) (b : SeenBase) (rs : List SeenRecord) → copies_of i (known_in b (take k rs)) ≤ copies_of i (known_in b rs)
known_before i k b rs = omega (
  arith,
  admitted_before i k rs,
  copies_of-append i (ids_in_base b) (flat_map admitted_by (take k rs)),
  copies_of-append i (ids_in_base b) (flat_map admitted_by rs),
)

follow_before : (limits : LimitSettings) (k : ℕ) (rs : List SeenRecord) (b : SeenBase) → all_follow limits rs b ≡ true → all_follow limits (take k rs) b ≡ true
follow_before limits zero rs b all = refl
follow_before limits (suc k) [] b all = refl
follow_before limits (suc k) (r ∷ rs) b all = let f = split _ _ all in both _ _ f.0 (follow_before limits k rs (folded limits r b) f.1)

pub legal_before : (limits : LimitSettings) (k : ℕ) (rs : List SeenRecord) (b : SeenBase) → AreLegalFrom limits b rs → AreLegalFrom limits b (take k rs)
legal_before limits k rs b are = record {
  follow = follow_before limits k rs b are.follow;
  apart = λ i. omega (arith, known_before i k b rs, are.apart i);
}

-- where all follow, none stops them
pub follows_all : (limits : LimitSettings) (rs : List SeenRecord) (b : SeenBase) (n : ℕ) → n ≤ length rs → all_follow limits rs b ≡ true
    → (n < length rs → all_follow limits (take (n + 1) rs) b ≡ false) → n ≡ length rs
follows_all limits rs b n within all stops = ⊎_elim (λ lt. absurd (cc (stops lt, follow_before limits (n + 1) rs b all))) (λ le. omega (arith, within, le))
    (cases_lt n (length rs))

-- ids that are apart, with and without records
pub apart_same : (b : SeenBase) (rs rs' : List SeenRecord) → rs ≡ rs' → ((i : ℕ) → copies_of i (known_in b rs) ≤ 1) → (i : ℕ) → copies_of i (known_in b rs') ≤ 1
apart_same b rs rs' e h = subst (λ (l : List SeenRecord). (i : ℕ) → copies_of i (known_in b l) ≤ 1) e h

pub some_records : (b : SeenBase) (rs : List Record) → ((i : ℕ) → copies_of i (known_in b []) ≤ 1)
    → (((i : ℕ) → copies_of i (known_in b (map seen_record rs)) ≤ 1) → ⊥) → 0 < length rs
some_records b [] apart twice = absurd (twice apart)
some_records b (r ∷ rs) apart twice = omega arith

-- what an option has, and what is so where it has none
pub some_in : {X : Type 0} (N : Type 0) (S : X → Type 0) (o : Option X) (x : X) → o ≡ Some x → MatchOption o N S → S x
some_in N S o x is h = subst (λ o. MatchOption o N S) is h

pub none_in : {X : Type 0} (N : Type 0) (S : X → Type 0) (o : Option X) → o ≡ None → MatchOption o N S → N
none_in N S o is h = subst (λ o. MatchOption o N S) is h

pub if_ok : {X E : Type 0} (P Q : X → Type 0) (r : Result X E) → ((x : X) → P x → Q x) → IfOk r P → IfOk r Q
if_ok P Q (Ok x) f h = f x h
if_ok P Q (Err e) f h = h

module _ {B : Type 0} (r : Report B) where
  -- what is wrong does not replay
  pub wrong_replays : (w : Wrong) → IsWrong w r → DoesReplay r → ⊥
  wrong_replays wrong.Base none d = none d.base
  wrong_replays (wrong.Record place) at d = at.wrong (legal_before (seen_limits r.limits) (place + 1) (seen_records r) (seen_base r.base) d.legal)
  wrong_replays wrong.Counts comes d = comes.other (record {
    idle = d.idle;
    lent = d.lent;
    connections = d.connections;
    pending = d.pending;
    closed = d.closed;
  })

  pub none_wrong : (found : Option Wrong) (result : Bool) → is_some found ≡ not result → MatchOption found (DoesReplay r) (λ w. IsWrong w r)
      → (IsTrue result → DoesReplay r) × (DoesReplay r → IsTrue result)
  none_wrong None true is does = (λ _. does, λ _. refl)
  none_wrong None false is does = absurd cc
  none_wrong (Some w) true is at = absurd cc
  none_wrong (Some w) false is at = (λ t. absurd (cc t), λ d. absurd (wrong_replays w at d))

  -- records that follow, and admit no id twice
  pub first_wrong_at : (apart followed : ℕ) → IsLegalBase (seen_limits r.limits) (seen_base r.base) → AreApartUpTo r apart → followed ≤ apart
      → followed < length r.records.items
      → all_follow (seen_limits r.limits) (take followed (take apart (seen_records r))) (seen_base r.base) ≡ true
      → (followed < apart → all_follow (seen_limits r.limits) (take (followed + 1) (take apart (seen_records r))) (seen_base r.base) ≡ false)
      → IsFirstWrong r followed
  first_wrong_at apart followed legal upto within here may stops =
      let limits = seen_limits r.limits in
      let base = seen_base r.base in
      let rs = seen_records r in
      let front : take followed (take apart rs) ≡ take followed rs = take-take followed apart rs within in
      record {
        base = legal;
        here = here;
        before = record {
          follow = subst (λ (l : List SeenRecord). all_follow limits l base ≡ true) front may;
          apart = λ i. omega (
            arith,
            upto.apart i,
            known_before i followed base (take apart rs),
            ap (λ (l : List SeenRecord). copies_of i (known_in base l)) front,
          );
        };
        wrong = λ are. ⊎_elim (λ lt. before lt are) (λ le. behind le are) (cases_lt followed apart);
      } where
        before : followed < apart → AreLegalFrom (seen_limits r.limits) (seen_base r.base) (take (followed + 1) (seen_records r)) → ⊥
        before lt are =
            let front : take (followed + 1) (take apart (seen_records r)) ≡ take (followed + 1) (seen_records r) = take-take (followed + 1) apart (seen_records r)
            (omega (arith, lt)) in
            cc (ap (λ (l : List SeenRecord). all_follow (seen_limits r.limits) l (seen_base r.base)) front, stops lt, are.follow)

        behind : apart ≤ followed → AreLegalFrom (seen_limits r.limits) (seen_base r.base) (take (followed + 1) (seen_records r)) → ⊥
        behind le are =
            let same : followed ≡ apart = omega (arith, le, within) in
            upto.stops (omega (arith, same, here)) (subst (λ n. (i : ℕ) → copies_of i (known_in (seen_base r.base)
            (take (n + 1) (seen_records r))) ≤ 1) same are.apart)

  -- all follow
  pub all_legal : (apart followed : ℕ) → AreApartUpTo r apart → followed ≤ apart → length r.records.items ≤ followed
      → all_follow (seen_limits r.limits) (take followed (take apart (seen_records r))) (seen_base r.base) ≡ true
      → AreLegalFrom (seen_limits r.limits) (seen_base r.base) (seen_records r)
  all_legal apart followed upto within past may =
      let rs = seen_records r in
      let many : length rs ≡ length r.records.items = length-map r.records.items seen_record in
      let some : take apart rs ≡ rs = take_all apart rs (omega (arith, within, past, many)) in
      let all : take followed (take apart rs) ≡ rs = ap (take followed) some ∙ take_all followed rs (omega (arith, past, many)) in
      record {
        follow = subst (λ (l : List SeenRecord). all_follow (seen_limits r.limits) l (seen_base r.base) ≡ true) all may;
        apart = λ i. subst (λ (l : List SeenRecord). copies_of i (known_in (seen_base r.base) l) ≤ 1) some (upto.apart i);
      }

  pub does : IsLegalBase (seen_limits r.limits) (seen_base r.base) → AreLegalFrom (seen_limits r.limits) (seen_base r.base) (seen_records r)
      → ShowsCounts (told_in r) r → DoesReplay r
  does base legal s = record { base = base; legal = legal; idle = s.idle; lent = s.lent; connections = s.connections; pending = s.pending; closed = s.closed }
