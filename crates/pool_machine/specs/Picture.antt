-- What a core shows. A contract sees a core as its picture.
use Rattle.std.specs.Prelude.{◌≡◌, ℕ, ◌+◌, ◌≤◌, true, List, [], ◌++◌, length, map, replicate, Option}
use Rattle.std.specs.List.{All}
use Rattle.std.specs.List.Sorted.{IsNonDecreasingBy}
use Rattle.pool_machine.specs.Limits.{wanted_of}
use Rattle.pool_machine.specs.Sums.{FitsIn, IsReplenished}
use Rattle.pool_machine.specs.Ids.{copies_of}
use Rattle.pool_machine.specs.Connections.{SeenIdleConnection, SeenLentConnection, id_of_idle}
use Rattle.pool_machine.specs.Connections.{id_of_lent, since_of}
use Rattle.pool_machine.specs.OnOrder.{SeenOnOrder, IsAccounted}

pub record Picture (T : Type 0) : Type 0 where
  -- the latest moment
  pub latest : ℕ
  -- the oldest first
  pub idle : List (SeenIdleConnection T)
  -- in the order of the takes
  pub lent : List SeenLentConnection
  pub on_order : SeenOnOrder
  pub connections : ℕ
  pub last_error : Option (List ℕ)

module _ {T : Type 0} where
  -- the ids of all that is idle, lent or numbered
  abbrev pub ids_in : Picture T → List ℕ
  ids_in p = map id_of_idle p.idle ++ (map id_of_lent p.lent ++ p.on_order.numbered)

  -- all that holds of each picture of a core, but that what is wanted was ordered
  pub record IsSteady (p : Picture T) : Type 0 where
    -- no id stands twice, and none is one that is still to be given
    pub apart : (i : ℕ) → copies_of i (ids_in p) ≤ 1
    pub below_next : (i : ℕ) → p.on_order.next_id ≤ i → copies_of i (ids_in p) ≡ 0
    -- connections are the idle ones and the lent ones
    pub counted : p.connections ≡ length p.idle + length p.lent
    -- pending openings are scheduled, in work or numbered
    pub accounted : IsAccounted p.on_order
    -- connections and pending openings are at most `max_size`
    pub fits : FitsIn p.on_order.limits.max_size p.connections p.on_order.pending
    -- the idle ones stand in the order in which they came to be idle, none after the latest moment
    pub is_sorted : IsNonDecreasingBy since_of p.idle
    pub seen : All (λ c. c.since ≤ p.latest) p.idle
    -- each was admitted before
    pub born : All (λ c. c.birth ≤ c.since) p.idle
    pub born_lent : All (λ c. c.birth ≤ p.latest) p.lent
    -- once closed, nothing is idle
    pub none_once_closed : p.on_order.closed ≡ true → p.idle ≡ []

  -- what holds of each picture of a core
  pub record IsSound (p : Picture T) : Type 0 where
    pub steady : IsSteady p
    -- unless closed, what is idle and pending reaches what is wanted, or there is no more room
    pub replenished : IsReplenished (wanted_of p.on_order.limits) p.on_order.limits.max_size
        (length p.idle) p.connections p.on_order.pending p.on_order.closed

  -- once closed: nothing is idle, and no opening is pending, scheduled, in work or numbered
  pub record HoldsNothing (p : Picture T) : Type 0 where
    pub idle : p.idle ≡ []
    pub pending : p.on_order.pending ≡ 0
    pub scheduled : p.on_order.scheduled ≡ []
    pub in_work : p.on_order.in_work ≡ replicate 100 0
    pub numbered : p.on_order.numbered ≡ []
