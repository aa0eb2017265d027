-- The records of reaps and of the close.
use Rattle.std.proofs.Common.{◌≡◌, ℕ, ◌-◌, min, Bool, true, false, cond, ◌||◌, not, ◌==◌, List, [], ◌∷◌, map, length, Some, None, refl, sym, ◌∙◌, ap, arith}
use Rattle.std.specs.Prelude.{filter, nat_lt, ◌&&◌}
use Rattle.std.proofs.lemmas.List.{length-map}
use Rattle.std.proofs.lemmas.Bool.{eq-eqb, eqb-true}
use Rattle.std.proofs.lemmas.Bool.Decides.{nat_tests}
use Rattle.pool_machine.specs.declared.schedule.limits.LimitSettings.{LimitSettings}
use Rattle.pool_machine.specs.Limits.{wanted_of}
use Rattle.pool_machine.specs.Connections.{SeenIdleConnection, is_expired, is_kept}
use Rattle.pool_machine.specs.Picture.{Picture, IsSound}
use Rattle.pool_machine.specs.Table.{top_up_of, topped_up, swept, after_close}
use Rattle.r2d2_core.specs.Records.{SeenRecord, Reaped, ClosedAll}
use Rattle.r2d2_core.specs.Recorded.{record_of_reap, record_of_close}
use Rattle.r2d2_core.specs.Bases.{SeenBase, BareConnection}
use Rattle.r2d2_core.specs.Journal.{added}
use Rattle.r2d2_core.specs.Book.{bare}
use Rattle.r2d2_core.specs.BookParts.{KeepReplaying}
use Rattle.r2d2_core.proofs.Recording.Folding.{both}
use Rattle.r2d2_core.proofs.Recording.Replaying.{Says, with_one_more, with_none_more}

map_cond : {X Y : Type 0} (f : X → Y) (b : Bool) (x : X) (xs : List X) → map f (cond b (x ∷ xs) xs) ≡ cond b (f x ∷ map f xs) (map f xs)
map_cond f true x xs = refl
map_cond f false x xs = refl

-- a reap that closed or ordered says so
says_some : (closed gone n : ℕ) → closed ≡ gone → ((gone == 0) && (n == 0)) ≡ false → (nat_lt 0 n || nat_lt 0 closed) ≡ true
says_some closed gone n e some = by (nat_lt 0 n) (nat_lt 0 closed) refl refl where
  by : (a b : Bool) → nat_lt 0 n ≡ a → nat_lt 0 closed ≡ b → (a || b) ≡ true
  by true b f g = refl
  by false true f g = refl
  by false false f g =
      let no_n : n ≡ 0 = grind (arith, nat_tests) in
      let no_closed : closed ≡ 0 = grind (arith, nat_tests) in
      absurd (cc (some, both (gone == 0) (n == 0) (eq-eqb gone 0 (sym e ∙ no_closed)) (eq-eqb n 0 no_n)))

-- a reap that closed and ordered nothing
none_at_all : (closed n : ℕ) → ((closed == 0) && (n == 0)) ≡ true → (closed ≡ 0) × (n ≡ 0)
none_at_all closed n e = by (closed == 0) (n == 0) refl refl e where
  by : (a b : Bool) → (closed == 0) ≡ a → (n == 0) ≡ b → (a && b) ≡ true → (closed ≡ 0) × (n ≡ 0)
  by true true ea eb e = (eqb-true closed 0 ea, eqb-true n 0 eb)
  by true false ea eb e = absurd cc
  by false b ea eb e = absurd cc

all_stay_step : {X : Type 0} (b : Bool) (x : X) (gone stay xs : List X) → length (cond b (x ∷ gone) gone) ≡ 0 → (length gone ≡ 0 → stay ≡ xs)
    → cond (not b) (x ∷ stay) stay ≡ x ∷ xs
all_stay_step true x gone stay xs e h = absurd (omega arith)
all_stay_step false x gone stay xs e h = ap (λ l. x ∷ l) (h e)

-- where none goes, all stay
all_stay : {X : Type 0} (p : X → Bool) (xs : List X) → length (filter p xs) ≡ 0 → filter (λ x. not (p x)) xs ≡ xs
all_stay p [] e = refl
all_stay p (x ∷ xs) e = all_stay_step (p x) x (filter p xs) (filter (λ y. not (p y)) xs) xs e (all_stay p xs)

-- the same is ordered beside as many idle ones and connections
orders_same : (closed : Bool) (n m wanted size c d pending : ℕ) → n ≡ m → c ≡ d
    → (cond closed 0 (min (wanted - m) (size - d - pending)) == cond closed 0 (min (wanted - n) (size - c - pending))) ≡ true
orders_same closed n m wanted size c d pending e f = eq-eqb _ _ (ap (λ k. cond closed 0 (min (wanted - k) (size - d - pending))) (sym e)
    ∙ ap (λ k. cond closed 0 (min (wanted - n) (size - k - pending))) (sym f))

module _ {T : Type 0} where
  filter_bare : (p : BareConnection → Bool) (xs : List (SeenIdleConnection T)) → filter p (map bare xs) ≡ map bare (filter (λ c. p (bare c)) xs)
  filter_bare p [] = refl
  filter_bare p (x ∷ xs) = ap (λ l. cond (p (bare x)) (bare x ∷ l) l) (filter_bare p xs) ∙ sym (map_cond bare (p (bare x)) x (filter (λ c. p (bare c)) xs))

  -- a payload is not asked for
  expired_bare : (limits : LimitSettings) (now : ℕ) (xs : List (SeenIdleConnection T))
      → filter (is_expired limits now) (map bare xs) ≡ map bare (filter (is_expired limits now) xs)
  unfolding is_expired
  expired_bare limits now xs = filter_bare (is_expired limits now) xs

  kept_bare : (limits : LimitSettings) (now : ℕ) (xs : List (SeenIdleConnection T))
      → filter (is_kept limits now) (map bare xs) ≡ map bare (filter (is_kept limits now) xs)
  unfolding is_expired is_kept
  kept_bare limits now xs = filter_bare (is_kept limits now) xs

  -- what a reap closes
  abbrev gone_in : Picture T → List (SeenIdleConnection T)
  gone_in p = filter (is_expired p.on_order.limits p.latest) p.idle

  -- a reap that closed or ordered, at its moment
  says_reaped : (m : ℕ) (p : Picture T) → ((length (gone_in p) == 0) && (top_up_of (swept p) == 0)) ≡ false
      → Says m p (Reaped p.latest (top_up_of (swept p))) (topped_up (swept p))
  says_reaped m p some =
      let limits = p.on_order.limits in
      let still = filter (is_kept limits p.latest) p.idle in
      let kept : filter (is_kept limits p.latest) (map bare p.idle) ≡ map bare still = kept_bare limits p.latest p.idle in
      let gone : length (filter (is_expired limits p.latest) (map bare p.idle)) ≡ length (gone_in p) = ap length (expired_bare limits p.latest p.idle)
      ∙ length-map (gone_in p) bare in
      record {
        fit = both _ _
            (orders_same p.on_order.closed (length (filter (is_kept limits p.latest) (map bare p.idle))) (length still) (wanted_of limits) limits.max_size
            (p.connections - length (filter (is_expired limits p.latest) (map bare p.idle))) (p.connections - length (gone_in p)) p.on_order.pending
            (ap length kept ∙ length-map still bare) (ap (λ n. p.connections - n) gone))
            (says_some _ (length (gone_in p)) (top_up_of (swept p)) gone some);
        comes = record { idle = kept; lent = refl; connections = ap (λ n. p.connections - n) gone; pending = refl; closed = refl };
        later = omega arith;
        not_after = omega arith;
      }

  reap_step : (limits : LimitSettings) (b : SeenBase) (rs : List SeenRecord) (p : Picture T) (none : Bool)
      → ((length (gone_in p) == 0) && (top_up_of (swept p) == 0)) ≡ none → IsSound p
      → KeepReplaying limits b rs p → KeepReplaying limits b (added (cond none None (Some (Reaped p.latest (top_up_of (swept p))))) rs) (topped_up (swept p))
  unfolding is_expired is_kept
  reap_step limits b rs p true e sound k =
      let none = none_at_all (length (gone_in p)) (top_up_of (swept p)) e in
      with_none_more limits b rs p (topped_up (swept p)) refl
      (sym (ap (map bare) (all_stay (is_expired p.on_order.limits p.latest) p.idle none.0))) refl (omega (arith, none.0)) (omega (arith, none.1)) refl
      (omega arith) (λ i past. past) (λ i n few none. few) k
  reap_step limits b rs p false e sound k = with_one_more limits b rs _ p _ sound (λ m. says_reaped m p e) refl refl (λ i. omega arith) k

  -- a reap, at its moment
  pub replaying_reap : (limits : LimitSettings) (b : SeenBase) (rs : List SeenRecord) (p : Picture T) → IsSound p → KeepReplaying limits b rs p
      → KeepReplaying limits b (added (record_of_reap p.latest (length (filter (is_expired p.on_order.limits p.latest) p.idle)) (top_up_of (swept p))) rs)
      (topped_up (swept p))
  replaying_reap limits b rs p sound k = reap_step limits b rs p _ refl sound k

  -- CLOSE

  says_closed : (m : ℕ) (p : Picture T) → p.on_order.closed ≡ false → Says m p (ClosedAll p.latest) (after_close p)
  says_closed m p is_open = record {
    fit = ap not is_open;
    comes = record { idle = refl; lent = refl; connections = ap (λ n. p.connections - n) (length-map p.idle bare); pending = refl; closed = refl };
    later = omega arith;
    not_after = omega arith;
  }

  close_step : (limits : LimitSettings) (b : SeenBase) (rs : List SeenRecord) (p : Picture T) (closed : Bool) → p.on_order.closed ≡ closed → IsSound p
      → KeepReplaying limits b rs p
      → KeepReplaying limits b (added (cond closed None (Some (ClosedAll p.latest))) rs) (after_close p)
  close_step limits b rs p true e sound k =
      with_none_more limits b rs p (after_close p) refl
      (ap (map bare) (sound.steady.none_once_closed e)) refl (omega (arith, ap length (sound.steady.none_once_closed e))) (sound.steady.accounted.none_once_closed e) e (omega arith)
      (λ i past. past) (λ i n few none. omega (arith, few)) k
  close_step limits b rs p false e sound k = with_one_more limits b rs _ p _ sound (λ m. says_closed m p e) refl refl (λ i. omega arith) k

  -- a close
  pub replaying_close : (limits : LimitSettings) (b : SeenBase) (rs : List SeenRecord) (p : Picture T) → IsSound p → KeepReplaying limits b rs p
      → KeepReplaying limits b (added (record_of_close p.latest p.on_order.closed) rs) (after_close p)
  replaying_close limits b rs p sound k = close_step limits b rs p _ refl sound k
