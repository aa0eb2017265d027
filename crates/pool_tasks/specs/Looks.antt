-- What a caller comes to.
use Rattle.std.specs.Prelude.{◌≡◌, ℕ, Bool, true, false, Option, Some, None}
use Rattle.futures.specs.declared.task.Poll.{Poll}
use Rattle.futures.specs.declared.task.Poll.TheVariants.{Ready, Pending}
use Rattle.pool_tasks.specs.declared.task_book.Looked.{Looked}
use Rattle.pool_tasks.specs.declared.task_book.Looked.TheVariants as look

module _ {T : Type 0} where
  -- it is lent a connection
  abbrev pub is_found : Looked T → Bool
  is_found (look.Found id payload idle_since) = true
  is_found look.Closed = false
  is_found look.Full = false

  -- there is no room in line
  abbrev pub is_refused : Looked T → Bool
  is_refused (look.Found id payload idle_since) = false
  is_refused look.Closed = false
  is_refused look.Full = true

  -- what it is lent, with its id
  abbrev pub pair_found : Looked T → Option (ℕ × T)
  pair_found (look.Found id payload idle_since) = Some (id, payload)
  pair_found look.Closed = None
  pair_found look.Full = None

  -- it is sent off exactly where the pool is closed
  abbrev pub IsClosedLook : Bool → Looked T → Type 0
  IsClosedLook closed (look.Found id payload idle_since) = closed ≡ false
  IsClosedLook closed look.Closed = closed ≡ true
  IsClosedLook closed look.Full = closed ≡ false

  -- the poll ended, with a connection
  abbrev pub IsServed : Poll (Looked T) → Type 0
  IsServed (Ready l) = is_found l ≡ true
  IsServed Pending = ⊥
