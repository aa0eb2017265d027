-- What openings show, and what keeps of their fields.
use Rattle.std.specs.Prelude.{◌≡◌}
use Rattle.std.specs.Duration.{as_nanos}
use Rattle.pool_machine.specs.declared.machine.on_order.OnOrder.TheInside.{Inside}
use Rattle.pool_machine.specs.Limits.{seen_limits}
use Rattle.pool_machine.specs.OnOrder.{SeenOnOrder, IsAccounted}

module _ {A : Type 0} where
  abbrev pub seen_on_order : Inside A → SeenOnOrder
  seen_on_order o = record {
    limits = seen_limits o.limits;
    scheduled = o.schedule.openings;
    in_work = o.in_work;
    numbered = o.numbered.items;
    next_reap = o.schedule.next_reap;
    next_id = o.next_id;
    pending = o.pending;
    closed = o.closed;
  }

  -- the parts were made with the limits
  pub record HasParts (o : Inside A) : Type 0 where
    pub room : o.schedule.max_size ≡ (seen_limits o.limits).max_size
    pub rate : o.schedule.reap_every ≡ as_nanos (seen_limits o.limits).reap_every
    pub number_room : o.numbered.capacity ≡ (seen_limits o.limits).max_size

  pub record IsKeeping (o : Inside A) : Type 0 where
    pub accounted : IsAccounted (seen_on_order o)
    pub parts : HasParts o
