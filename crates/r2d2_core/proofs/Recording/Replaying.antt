-- What one more record does to what a book keeps.
use Rattle.std.proofs.Common.{◌≡◌, ℕ, ◌+◌, ◌≤◌, Bool, true, List, [], ◌∷◌, ◌++◌, map, drop, refl, sym, ◌∙◌, ap, subst, arith}
use Rattle.std.specs.Prelude.{nat_le, nat_lt}
use Rattle.std.proofs.lemmas.Bool.Decides.{nat_tests}
use Rattle.pool_machine.specs.declared.schedule.limits.LimitSettings.{LimitSettings}
use Rattle.pool_machine.specs.Ids.{copies_of}
use Rattle.pool_machine.specs.Connections.{SeenIdleConnection, SeenLentConnection, id_of_idle, id_of_lent}
use Rattle.pool_machine.specs.Picture.{Picture, IsSound}
use Rattle.r2d2_core.specs.Records.{SeenRecord, Taken, Ordered, Admitted, Kept, Closed, Reaped, ClosedAll}
use Rattle.r2d2_core.specs.Bases.{SeenBase, BareConnection}
use Rattle.r2d2_core.specs.Records.{moment_of_record}
use Rattle.r2d2_core.specs.Folding.{folded, replay, fits, may_follow, all_follow, admitted_by, known_in}
use Rattle.r2d2_core.specs.Book.{ComesTo, bare}
use Rattle.r2d2_core.specs.BookParts.{KeepReplaying, shown_at}
use Rattle.r2d2_core.specs.Journal.{with_oldest}
use Rattle.pool_machine.proofs.Lists.Ids.{copies_of-append3}
use Rattle.r2d2_core.proofs.Recording.Folding.{both, split, folds_first, known_folded, replay-push, follow-push, known-push}

pub le_is : (a b : ℕ) → a ≤ b → nat_le a b ≡ true
le_is a b x = grind (arith, nat_tests)

pub lt_is : (a b : ℕ) → a + 1 ≤ b → nat_lt a b ≡ true
lt_is a b h = grind (arith, nat_tests)

pub at_folded : (limits : LimitSettings) (r : SeenRecord) (b : SeenBase) → (let now = folded limits r b in now.at) ≡ moment_of_record r
at_folded limits (Taken at id n) b = refl
at_folded limits (Ordered at n) b = refl
at_folded limits (Admitted at id) b = refl
at_folded limits (Kept at id) b = refl
at_folded limits (Closed at id n) b = refl
at_folded limits (Reaped at n) b = refl
at_folded limits (ClosedAll at) b = refl

abbrev at_of : SeenBase → ℕ
at_of b = b.at

module _ {T : Type 0} where
  pub ids_bare : (xs : List (SeenIdleConnection T)) → map id_of_idle (map bare xs) ≡ map id_of_idle xs
  ids_bare [] = refl
  ids_bare (x ∷ xs) = ap (λ l. x.id ∷ l) (ids_bare xs)

  -- the ids of what is idle in a sound picture are apart, also without payloads
  pub idle_apart : (p : Picture T) → IsSound p → (i : ℕ) → copies_of i (map id_of_idle (map bare p.idle)) ≤ 1
  idle_apart p sound i =
      omega (
        arith,
        ap (copies_of i) (ids_bare p.idle),
        sound.steady.apart i,
        copies_of-append3 i (map id_of_idle p.idle) (map id_of_lent p.lent) p.on_order.numbered,
      )

  shown_by : (at : ℕ) (i : List BareConnection) (l : List SeenLentConnection) (n m : ℕ) (c : Bool) (p : Picture T) → i ≡ map bare p.idle → l ≡ p.lent
      → n ≡ p.connections → m ≡ p.on_order.pending → c ≡ p.on_order.closed
      → ◌≡◌ {A = SeenBase} (record { at = at; idle = i; lent = l; connections = n; pending = m; closed = c }) (shown_at at p)
  shown_by at i l n m c p e1 e2 e3 e4 e5 = rw (e1, e2, e3, e4, e5) refl

  pub is_shown : (b : SeenBase) (p : Picture T) → ComesTo b p → b ≡ shown_at b.at p
  is_shown b p k = shown_by b.at b.idle b.lent b.connections b.pending b.closed p k.idle k.lent k.connections k.pending k.closed

  -- a record fits what a picture shows, and makes of it what the picture after it shows
  pub record Says (m : ℕ) (p : Picture T) (r : SeenRecord) (p' : Picture T) : Type 0 where
    pub fit : fits p.on_order.limits r (shown_at m p) ≡ true
    pub comes : ComesTo (folded p.on_order.limits r (shown_at m p)) p'
    pub later : p.latest ≤ moment_of_record r
    pub not_after : moment_of_record r ≤ p'.latest

  -- then the records with it are legal, and replay to the picture after it
  pub with_one_more : (limits : LimitSettings) (b : SeenBase) (rs : List SeenRecord) (r : SeenRecord) (p p' : Picture T) → IsSound p → ((m : ℕ) → Says m p r p')
      → p.on_order.limits ≡ p'.on_order.limits → p.on_order.next_id ≡ p'.on_order.next_id
      → ((i : ℕ) → copies_of i (admitted_by r) + copies_of i p'.on_order.numbered ≤ copies_of i p.on_order.numbered)
      → KeepReplaying limits b rs p → KeepReplaying limits b (rs ++ r ∷ []) p'
  with_one_more limits b rs r p p' sound says same next numbers k =
      let now = replay limits rs b in
      let is = is_shown now p k.replays.shows in
      let s = says now.at in
      let fit : fits limits r now ≡ true = subst (λ (l : LimitSettings). fits l r now ≡ true) (sym k.same)
      (subst (λ (x : SeenBase). fits p.on_order.limits r x ≡ true) (sym is) s.fit) in
      let comes : ComesTo (folded limits r now) p' = subst (λ (l : LimitSettings). ComesTo (folded l r now) p') (sym k.same)
      (subst (λ (x : SeenBase). ComesTo (folded p.on_order.limits r x) p') (sym is) s.comes) in
      let late : nat_le now.at (folded limits r now).at ≡ true = le_is now.at (folded limits r now).at
      (omega (arith, k.not_after, s.later, at_folded limits r now)) in
      let numbered = λ (i : ℕ). copies_of-append3 i (map id_of_idle p.idle) (map id_of_lent p.lent) p.on_order.numbered in
      let fresh : (i : ℕ) → copies_of i (known_in b (rs ++ r ∷ [])) + copies_of i p'.on_order.numbered ≤ 1 = λ i. omega
      (arith, known-push i b rs r, numbers i, k.fresh i) in
      record {
        same = k.same ∙ same;
        replays = record {
          base = k.replays.base;
          legal = record {
            follow = follow-push limits rs r b ∙ both (all_follow limits rs b) (may_follow limits r now) k.replays.legal.follow
                (both (nat_le now.at (folded limits r now).at) (fits limits r now) late fit);
            apart = λ i. omega (arith, fresh i);
          };
          shows = subst (λ (x : SeenBase). ComesTo x p') (sym (replay-push limits rs r b)) comes;
        };
        not_after = omega (arith, ap at_of (replay-push limits rs r b), at_folded limits r now, s.not_after);
        fresh = fresh;
        below_next = λ i past. omega (
          arith,
          known-push i b rs r,
          numbers i,
          k.below_next i (omega (arith, next, past)),
          sound.steady.below_next i (omega (arith, next, past)),
          numbered i,
        );
      }

  -- a step with no record
  pub with_none_more : (limits : LimitSettings) (b : SeenBase) (rs : List SeenRecord) (p p' : Picture T) → p.on_order.limits ≡ p'.on_order.limits
      → map bare p.idle ≡ map bare p'.idle → p.lent ≡ p'.lent → p.connections ≡ p'.connections → p.on_order.pending ≡ p'.on_order.pending
      → p.on_order.closed ≡ p'.on_order.closed → p.latest ≤ p'.latest
      → ((i : ℕ) → p'.on_order.next_id ≤ i → p.on_order.next_id ≤ i) → ((i : ℕ) (n : ℕ) → n + copies_of i p.on_order.numbered ≤ 1
      → (p.on_order.next_id ≤ i → n ≡ 0) → n + copies_of i p'.on_order.numbered ≤ 1)
      → KeepReplaying limits b rs p → KeepReplaying limits b rs p'
  with_none_more limits b rs p p' same idle lent connections pending closed later next numbers k =
      let shows = k.replays.shows in
      record {
        same = k.same ∙ same;
        replays = record {
          base = k.replays.base;
          legal = k.replays.legal;
          shows = record {
            idle = shows.idle ∙ idle;
            lent = shows.lent ∙ lent;
            connections = shows.connections ∙ connections;
            pending = shows.pending ∙ pending;
            closed = shows.closed ∙ closed;
          };
        };
        not_after = omega (arith, k.not_after, later);
        fresh = λ i. numbers i (copies_of i (known_in b rs)) (k.fresh i) (k.below_next i);
        below_next = λ i past. k.below_next i (next i past);
      }

  -- the oldest record is folded into the base
  pub with_one_folded : (limits : LimitSettings) (b : SeenBase) (r : SeenRecord) (rs : List SeenRecord) (p : Picture T) → KeepReplaying limits b (r ∷ rs) p
      → KeepReplaying limits (folded limits r b) rs p
  with_one_folded limits b r rs p k =
      let first = folds_first limits r rs b k.replays.base k.replays.legal in
      let known = known_folded limits r rs b k.replays.base.apart ((split (may_follow limits r b) _ k.replays.legal.follow).0) in
      record {
        same = k.same;
        replays = record { base = first.legal; legal = first.rest; shows = k.replays.shows };
        not_after = k.not_after;
        fresh = λ i. omega (arith, known i, k.fresh i);
        below_next = λ i past. omega (arith, known i, k.below_next i past);
      }

  pub with_oldest_folded : (limits : LimitSettings) (b : SeenBase) (rs : List SeenRecord) (p : Picture T) → KeepReplaying limits b rs p
      → KeepReplaying limits (with_oldest limits rs b) (drop 1 rs) p
  with_oldest_folded limits b [] p k = k
  with_oldest_folded limits b (r ∷ rs) p k = with_one_folded limits b r rs p k
