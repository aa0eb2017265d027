-- What a core and its parts show, and what keeps of their fields.
use Rattle.std.specs.Prelude.{◌≡◌, ◌+◌, false, length, option_map, string_bytes}
use Rattle.std.specs.Duration.{as_nanos}
use Rattle.pool_machine.specs.declared.machine.Core.TheInside.{Inside}
use Rattle.pool_machine.specs.Picture.{Picture, IsSound}

module _ {T A : Type 0} where
  abbrev pub view_of : Inside T A → Picture T
  view_of c = record {
    latest = as_nanos c.latest;
    idle = c.idle.items;
    lent = c.lent.items;
    on_order = c.on_order;
    connections = length c.idle.items + length c.lent.items;
    last_error = option_map string_bytes c.last_error;
  }

  -- each list has room for all that it may come to
  pub record HasRoom (c : Inside T A) : Type 0 where
    pub idle : c.on_order.closed ≡ false → c.idle.capacity ≡ c.on_order.limits.max_size
    pub lent : c.lent.capacity ≡ c.on_order.limits.max_size

  pub record IsWhole (c : Inside T A) : Type 0 where
    pub sound : IsSound (view_of c)
    pub room : HasRoom c
