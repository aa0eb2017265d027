-- What an eviction does. A moment is raised to the latest so far.
use Rattle.std.specs.Prelude.{◌≡◌, ◌≤◌, ℕ, nat_lt, max, Bool, true, false, ◌||◌, List, [], ◌∷◌, map, reverse, Option, Some, None, is_some}
use Rattle.pool_machine.specs.declared.schedule.limits.LendingOrder.{LendingOrder}
use Rattle.pool_machine.specs.declared.schedule.limits.LendingOrder.TheVariants as lending
use Rattle.pool_machine.specs.Connections.{SeenIdleConnection, SeenReleased, released_at}
use Rattle.pool_machine.specs.Picture.{Picture}
use Rattle.pool_machine.specs.Table.{take_answer, after_take, return_answer, after_return}
use Rattle.r2d2_core.specs.Book.{SeenBook, seen_book}
use Rattle.r2d2_core.specs.Noted.{noted_take, noted_return}
use Rattle.pool_state.specs.declared.reason.ReleaseReason.{ReleaseReason}

-- the idle ones in the order in which they would be lent: the list has the oldest first
abbrev pub in_lending_order : {X : Type 0} → LendingOrder → List X → List X
in_lending_order lending.NewestFirst idle = reverse idle
in_lending_order lending.OldestFirst idle = idle

module _ {T : Type 0} where
  -- what an eviction at the moment t closes: all that is idle
  abbrev pub evicted_of : ℕ → Picture T → List (SeenReleased T)
  evicted_of t p = map (released_at (max p.latest t)) (in_lending_order p.on_order.limits.order p.idle)

  -- a book after a take, and after an id came back broken
  abbrev pub book_taken : ℕ → Bool → SeenBook T → SeenBook T
  book_taken t or_order b = seen_book (after_take t or_order b.picture) (noted_take t (take_answer or_order b.picture) b)

  abbrev pub book_broken : ℕ → ℕ → T → SeenBook T → SeenBook T
  book_broken t id value b = seen_book (after_return t id value true b.picture) (noted_return t id (return_answer t id value true b.picture) b)

  -- after an idle connection was taken and came back broken; where none is idle, after a take that finds none
  abbrev pub one_evicted : ℕ → Option (SeenIdleConnection T) → SeenBook T → SeenBook T
  one_evicted t None b = book_taken t false b
  one_evicted t (Some c) b = book_broken t c.id c.value (book_taken t false b)

  -- after each of some was, and a last take found none
  abbrev pub each_evicted : ℕ → List (SeenIdleConnection T) → SeenBook T → SeenBook T
  each_evicted t [] b = one_evicted t None b
  each_evicted t (c ∷ cs) b = each_evicted t cs (one_evicted t (Some c) b)

  -- a book after an eviction at the moment t: each that was idle went, in the order in which they would be lent
  abbrev pub after_eviction : ℕ → SeenBook T → SeenBook T
  after_eviction t b = each_evicted t (in_lending_order b.picture.on_order.limits.order b.picture.idle) b

  -- which comes to this: nothing is idle, the moment is the raised one, the openings that were ordered are pending too, and all else stays
  pub record IsEvicted (t : ℕ) (old new : Picture T) : Type 0 where
    pub none_idle : new.idle ≡ []
    pub lent : new.lent ≡ old.lent
    pub latest : new.latest ≡ max old.latest t
    pub limits : new.on_order.limits ≡ old.on_order.limits
    pub next_id : new.on_order.next_id ≡ old.on_order.next_id
    pub closed : new.on_order.closed ≡ old.on_order.closed
    pub pending : old.on_order.closed ≡ false → old.on_order.pending ≤ new.on_order.pending
    pub last_error : new.last_error ≡ old.last_error

-- a connection was opened before the latest eviction, from which on ids begin with this one
abbrev pub is_evicted : ℕ → ℕ → Bool
is_evicted id evicted_below = nat_lt id evicted_below

-- a connection that comes back is to be closed: it is unfit for some reason, is past its own lifetime, or was opened before the latest
-- eviction
abbrev pub is_to_close : Option ReleaseReason → Bool → ℕ → ℕ → Bool
is_to_close unfit outlived id evicted_below = is_some unfit || (outlived || is_evicted id evicted_below)
