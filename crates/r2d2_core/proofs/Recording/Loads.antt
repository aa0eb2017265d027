-- What a record that may follow a base leaves of its load.
use Rattle.std.proofs.Common.{◌≡◌, ℕ, ◌+◌, ◌-◌, ◌^◌, ◌≤◌, ◌<◌, min, max, Bool, true, false, cond, ◌||◌, length, refl, sym, ◌∙◌, ap, arith}
use Rattle.std.specs.Duration.{as_nanos}
use Rattle.std.proofs.lemmas.List.{length_push}
use Rattle.std.proofs.lemmas.Bool.{eqb-true}
use Rattle.r2d2_core.specs.declared.journal.load.Load.{Load}
use Rattle.pool_machine.specs.declared.schedule.limits.LimitSettings.{LimitSettings}
use Rattle.pool_machine.specs.Limits.{wanted_of}
use Rattle.pool_machine.specs.Ids.{without}
use Rattle.pool_machine.specs.Connections.{lent_connection, id_of_idle, id_of_lent}
use Rattle.r2d2_core.specs.Records.{SeenRecord, Taken, Ordered, Admitted, Kept, Closed, Reaped, ClosedAll}
use Rattle.r2d2_core.specs.Bases.{SeenBase, IsLegalBase}
use Rattle.r2d2_core.specs.Records.{moment_of_record}
use Rattle.r2d2_core.specs.Folding.{birth_of_idle, up_to, swept_of, folded, fits, may_follow}
use Rattle.r2d2_core.specs.Loads.{IsLoadOf, lent_after, pending_after, is_close}
use Rattle.pool_machine.proofs.Lists.Ids.{length-without}
use Rattle.r2d2_core.proofs.Recording.Folding.{split, is_le, is_lt, is_there}
use Rattle.r2d2_core.proofs.Recording.Replaying.{at_folded}

-- what is ordered has room
more_fits : (closed : Bool) (n wanted size idle connections pending : ℕ) → pending ≤ size
    → n ≡ cond closed 0 (min (wanted - idle) (size - connections - pending)) → pending + n ≤ size
more_fits true n wanted size idle connections pending le e = omega (arith, le, e)
more_fits false n wanted size idle connections pending le e = omega (arith, le, e)

module _ (limits : LimitSettings) (b : SeenBase) (small : limits.max_size < 2 ^ 32) (legal : IsLegalBase limits b) where
  pub lent_follows : (r : SeenRecord) → fits limits r b ≡ true → (let now = folded limits r b in length now.lent) ≡ lent_after r (length b.lent)
  lent_follows (Taken at id n) fit =
      omega (arith, small, legal.counted, legal.fits, length_push b.lent (lent_connection id (birth_of_idle id b.idle)))
  lent_follows (Ordered at n) fit = refl
  lent_follows (Admitted at id) fit = refl
  lent_follows (Kept at id) fit = let s = is_there id b ((split _ _ fit).0) in omega (arith, length-without id_of_lent id b.lent s.l s.there)
  lent_follows (Closed at id n) fit = let s = is_there id b ((split _ _ fit).0) in omega (arith, length-without id_of_lent id b.lent s.l s.there)
  lent_follows (Reaped at n) fit = refl
  lent_follows (ClosedAll at) fit = refl

  room : b.pending ≤ limits.max_size
  room = omega (arith, legal.fits)

  ordered : (n idle connections : ℕ) → n ≡ cond b.closed 0 (min (wanted_of limits - idle) (limits.max_size - connections - b.pending))
      → b.pending + n ≡ min (b.pending + n) (2 ^ 32 - 1)
  ordered n idle connections is = omega (arith, small, more_fits b.closed n (wanted_of limits) limits.max_size idle connections b.pending room is)

  pub pending_follows : (r : SeenRecord) → fits limits r b ≡ true → (let now = folded limits r b in now.pending) ≡ pending_after r b.pending
  pending_follows (Taken at id n) fit = ordered n (length (without id_of_idle id b.idle)) b.connections (eqb-true n _ (split _ _ fit).1)
  pending_follows (Ordered at n) fit =
      let f = split _ _ fit in
      let g = split _ _ f.1 in
      let one : n ≡ 1 = eqb-true n 1 g.0 in
      let free : b.connections + b.pending < limits.max_size = is_lt _ _ (split _ _ g.1).1 in
      omega (arith, small, one, free)
  pending_follows (Admitted at id) fit = refl
  pending_follows (Kept at id) fit = refl
  pending_follows (Closed at id n) fit = ordered n (length b.idle) (b.connections - 1) (eqb-true n _ (split _ _ fit).1)
  pending_follows (Reaped at n) fit =
      let swept = swept_of limits (up_to at b) in
      ordered n (length swept.idle) swept.connections (eqb-true n _ (split _ _ fit).0)
  pending_follows (ClosedAll at) fit = refl

or_false : (c : Bool) → (c || false) ≡ c
or_false true = refl
or_false false = refl

or_true : (c : Bool) → (c || true) ≡ true
or_true true = refl
or_true false = refl

closed_follows : (limits : LimitSettings) (r : SeenRecord) (b : SeenBase) → (let now = folded limits r b in now.closed) ≡ (b.closed || is_close r)
closed_follows limits (Taken at id n) b = sym (or_false b.closed)
closed_follows limits (Ordered at n) b = sym (or_false b.closed)
closed_follows limits (Admitted at id) b = sym (or_false b.closed)
closed_follows limits (Kept at id) b = sym (or_false b.closed)
closed_follows limits (Closed at id n) b = sym (or_false b.closed)
closed_follows limits (Reaped at n) b = sym (or_false b.closed)
closed_follows limits (ClosedAll at) b = sym (or_true b.closed)

pub load_follows : (limits : LimitSettings) (r : SeenRecord) (b : SeenBase) (old now : Load) → limits.max_size < 2 ^ 32 → IsLegalBase limits b
    → may_follow limits r b ≡ true → IsLoadOf b old → as_nanos now.at ≡ max (as_nanos old.at) (moment_of_record r) → now.lent ≡ lent_after r old.lent
    → now.pending ≡ pending_after r old.pending → now.closed ≡ (old.closed || is_close r) → IsLoadOf (folded limits r b) now
load_follows limits r b old now small legal may load at lent pending closed =
    let f = split _ _ may in
    record {
      at = omega (arith, at, load.at, is_le b.at (folded limits r b).at f.0, at_folded limits r b);
      lent = lent ∙ (ap (lent_after r) load.lent ∙ sym (lent_follows limits b small legal r f.1));
      pending = pending ∙ (ap (pending_after r) load.pending ∙ sym (pending_follows limits b small legal r f.1));
      closed = closed ∙ (ap (λ c. c || is_close r) load.closed ∙ sym (closed_follows limits r b));
    }
