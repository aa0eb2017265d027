-- A count of lent connections that a caller keeps beside a core.
use Rattle.std.specs.Prelude.{◌≡◌, ℕ, length, Option, Some, None}
use Rattle.pool_machine.specs.Picture.{Picture}
use Rattle.pool_machine.specs.Connections.{SeenIdleConnection}

module _ {T : Type 0} where
  -- the count is that of the core's lent connections
  abbrev pub IsCounted : Picture T → ℕ → Type 0
  IsCounted core lent = lent ≡ length core.lent

  -- the id and the value of a connection
  abbrev pub shown_found : Option (SeenIdleConnection T) → Option (ℕ × T)
  shown_found None = None
  shown_found (Some c) = Some (c.id, c.value)
