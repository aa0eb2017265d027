-- What records come to from a base, and which are legal. They stand the oldest first, as in a book
-- and in a report.
use Rattle.std.specs.Prelude.{◌≡◌, ℕ, ◌+◌, ◌-◌, ◌≤◌, Bool, true, false, ◌==◌, ◌||◌, ◌&&◌, not}
use Rattle.std.specs.Prelude.{nat_lt, nat_le, List, [], ◌∷◌, ◌++◌, length, filter, is_some}
use Rattle.std.specs.Prelude.{option_map, unwrap_or, flat_map}
use Rattle.pool_machine.specs.declared.schedule.limits.LimitSettings.{LimitSettings}
use Rattle.pool_machine.specs.Limits.{top_up, has_reached}
use Rattle.pool_machine.specs.Ids.{found, without, copies_of}
use Rattle.pool_machine.specs.Lending.{next_to_lend}
use Rattle.pool_machine.specs.Connections.{SeenLentConnection, idle_connection, lent_connection}
use Rattle.pool_machine.specs.Connections.{id_of_idle, id_of_lent, birth_in, is_expired, is_kept}
use Rattle.r2d2_core.specs.Records.{SeenRecord, Taken, Ordered, Admitted, Kept, Closed, Reaped}
use Rattle.r2d2_core.specs.Records.{ClosedAll}
use Rattle.r2d2_core.specs.Bases.{SeenBase, BareConnection, ids_in_base}

-- the birth of the idle one with the id, and of the lent one
abbrev pub birth_of_idle : ℕ → List BareConnection → ℕ
birth_of_idle id idle = unwrap_or (option_map (λ c. c.birth) (found id_of_idle id idle)) 0

abbrev pub birth_of_lent : ℕ → List SeenLentConnection → ℕ
birth_of_lent id lent = unwrap_or (birth_in id lent) 0

-- how many a reap at the moment of a base closes
abbrev pub expired_in : LimitSettings → SeenBase → ℕ
expired_in limits b = length (filter (is_expired limits b.at) b.idle)

-- WHAT IS DONE TO A BASE, at its moment

-- the base that tells up to a moment
abbrev pub up_to : ℕ → SeenBase → SeenBase
up_to at b = record b { at = at }

-- n more are pending
abbrev pub with_more : ℕ → SeenBase → SeenBase
with_more n b = record b { pending = b.pending + n }

-- the idle one with the id is lent
abbrev pub lent_in : ℕ → SeenBase → SeenBase
lent_in id b = record b {
  idle = without id_of_idle id b.idle;
  lent = b.lent ++ lent_connection id (birth_of_idle id b.idle) ∷ [];
}

-- a pending one is admitted, under the id
abbrev pub admitted_to : ℕ → SeenBase → SeenBase
admitted_to id b = record b {
  idle = b.idle ++ idle_connection id b.at b.at tt ∷ [];
  connections = b.connections + 1;
  pending = b.pending - 1;
}

-- the lent one with the id is idle again
abbrev pub kept_in : ℕ → SeenBase → SeenBase
kept_in id b = record b {
  idle = b.idle ++ idle_connection id (birth_of_lent id b.lent) b.at tt ∷ [];
  lent = without id_of_lent id b.lent;
}

-- the lent one with the id is gone
abbrev pub parted_from : ℕ → SeenBase → SeenBase
parted_from id b = record b { lent = without id_of_lent id b.lent; connections = b.connections - 1 }

-- the expired ones are gone
abbrev pub swept_of : LimitSettings → SeenBase → SeenBase
swept_of limits b = record b {
  idle = filter (is_kept limits b.at) b.idle;
  connections = b.connections - expired_in limits b;
}

-- the idle ones are gone, and nothing is pending
abbrev pub closed_all_in : SeenBase → SeenBase
closed_all_in b =
    record b { idle = []; connections = b.connections - length b.idle; pending = 0; closed = true }

-- WHAT RECORDS COME TO

-- the base with a record
abbrev pub folded : LimitSettings → SeenRecord → SeenBase → SeenBase
folded limits (Taken at id n) b = with_more n (lent_in id (up_to at b))
folded limits (Ordered at n) b = with_more n (up_to at b)
folded limits (Admitted at id) b = admitted_to id (up_to at b)
folded limits (Kept at id) b = kept_in id (up_to at b)
folded limits (Closed at id n) b = with_more n (parted_from id (up_to at b))
folded limits (Reaped at n) b = with_more n (swept_of limits (up_to at b))
folded limits (ClosedAll at) b = closed_all_in (up_to at b)

-- the base with all of them
abbrev pub replay : LimitSettings → List SeenRecord → SeenBase → SeenBase
replay limits [] b = b
replay limits (r ∷ rs) b = replay limits rs (folded limits r b)

-- LEGAL RECORDS

-- whether an id is that of the idle one that is lent next
abbrev pub is_next : LimitSettings → ℕ → SeenBase → Bool
is_next limits id b =
    unwrap_or (option_map (λ c. c.id == id) (next_to_lend limits.order b.idle)) false

-- what a top-up of a base orders
abbrev pub top_up_in : LimitSettings → SeenBase → ℕ
top_up_in limits b = top_up limits b.closed (length b.idle) b.connections b.pending

-- whether a record fits a base, but for its moment. Where a top-up follows, it orders what that
-- orders
abbrev pub fits : LimitSettings → SeenRecord → SeenBase → Bool
-- the one taken is the idle one that is next
fits limits (Taken at id n) b = is_next limits id b && (n == top_up_in limits (lent_in id b))
-- one is ordered alone, where none is idle and there is room
fits limits (Ordered at n) b =
    (length b.idle == 0)
    && ((n == 1) && (not b.closed && nat_lt (b.connections + b.pending) limits.max_size))
-- one is admitted where an opening is pending
fits limits (Admitted at id) b = nat_lt 0 b.pending
-- the one kept is lent, and not to be closed
fits limits (Kept at id) b =
    is_some (birth_in id b.lent)
    && (not b.closed && not (has_reached limits.max_lifetime (at - birth_of_lent id b.lent)))
-- the one closed is lent
fits limits (Closed at id n) b =
    is_some (birth_in id b.lent) && (n == top_up_in limits (parted_from id b))
-- a reap closes or orders
fits limits (Reaped at n) b =
    (n == top_up_in limits (swept_of limits (up_to at b)))
    && (nat_lt 0 n || nat_lt 0 (expired_in limits (up_to at b)))
-- a pool is closed once
fits limits (ClosedAll at) b = not b.closed

-- and the base with it is not earlier: moments never fall
abbrev pub may_follow : LimitSettings → SeenRecord → SeenBase → Bool
may_follow limits r b = nat_le b.at (folded limits r b).at && fits limits r b

-- each may follow what those before it come to
abbrev pub all_follow : LimitSettings → List SeenRecord → SeenBase → Bool
all_follow limits [] b = true
all_follow limits (r ∷ rs) b = may_follow limits r b && all_follow limits rs (folded limits r b)

-- the ids that are admitted
abbrev pub admitted_by : SeenRecord → List ℕ
admitted_by (Admitted at id) = id ∷ []
admitted_by r = []

-- the ids in a base, and those that records admit
abbrev pub known_in : SeenBase → List SeenRecord → List ℕ
known_in b rs = ids_in_base b ++ flat_map admitted_by rs

-- records are legal from a base where each may follow, and none admits an id that was there before
pub record AreLegalFrom (limits : LimitSettings) (b : SeenBase) (rs : List SeenRecord)
    : Type 0 where
  pub follow : all_follow limits rs b ≡ true
  pub apart : (i : ℕ) → copies_of i (known_in b rs) ≤ 1
