-- Which connections are idle and lent: each accepted step did something to ids, and the latest deed
-- of an id says where its connection is.
use Rattle.std.specs.Prelude.{ℕ, ◌-◌, Bool, true, false, ◌==◌, if◌then◌else◌, List, [], ◌∷◌, ◌++◌}
use Rattle.std.specs.Prelude.{map, filter_map, count_by, Option, Some, None, Ok}
use Rattle.pool_machine.specs.declared.step.Step.{Step}
use Rattle.pool_machine.specs.declared.step.Step.TheVariants as step
use Rattle.pool_machine.specs.Ids.{latest}
use Rattle.pool_machine.specs.Connections.{SeenIdleConnection, SeenLentConnection, idle_connection}
use Rattle.pool_machine.specs.Connections.{lent_connection}
use Rattle.pool_machine.specs.Seen as seen
use Rattle.pool_machine.specs.Seen.{SeenAnswer, Found, PutBack, Closed, Reaped, Close, CheckFailed}
use Rattle.r2d2_core.specs.History.{History, Made, Then, moment_of}

-- what was done to a connection, and when; where it came to be idle, with the payload that was
-- handed in
pub data Deed (T : Type 0) : Type 0 where
  Admitted : (id at : ℕ) (value : T) → Deed T
  Taken : (id at : ℕ) → Deed T
  Kept : (id at : ℕ) (value : T) → Deed T
  Gone : (id at : ℕ) → Deed T

module _ {T : Type 0} where
  abbrev pub id_of_deed : Deed T → ℕ
  id_of_deed (Admitted id at value) = id
  id_of_deed (Taken id at) = id
  id_of_deed (Kept id at value) = id
  id_of_deed (Gone id at) = id

  -- the deeds of a step at a moment t, by its answer
  abbrev pub deeds_in : ℕ → Step T → SeenAnswer T → List (Deed T)
  deeds_in t (step.Take now or_order) (seen.Taken (Found id birth value n)) = Taken id t ∷ []
  deeds_in t (step.Admit now id value) r = Admitted id t value ∷ []
  deeds_in t (step.FailCheck now id text) r = Gone id t ∷ []
  deeds_in t (step.PutBack now id value broken) (PutBack (Ok seen.Kept)) = Kept id t value ∷ []
  deeds_in t (step.PutBack now id value broken) (PutBack (Ok (Closed v age n))) = Gone id t ∷ []
  deeds_in t (step.Reap now) (Reaped closed n) = map (λ c. Gone c.id t) closed
  deeds_in t step.Close (Close left) = map (λ p. Gone p.0 t) left
  deeds_in t s r = []

  -- all deeds, oldest first
  abbrev pub deeds_of : History T → List (Deed T)
  deeds_of (Made limits moment first) = []
  deeds_of (Then h s r) = deeds_of h ++ deeds_in (moment_of h s) s r

  -- BIRTHS

  -- whether a step is the admission of an id
  abbrev pub admits : Step T → ℕ → Bool
  admits (step.Admit now id value) i = id == i
  admits _ i = false

  -- the moment at which an id was admitted; 0 where it never was
  abbrev pub birth_of : History T → ℕ → ℕ
  birth_of (Made limits moment first) i = 0
  birth_of (Then h s r) i = if admits s i then moment_of h s else birth_of h i

  -- IDLE AND LENT

  -- what an admission or a kept return leaves, by the births of ids
  abbrev pub as_idle : (ℕ → ℕ) → Deed T → Option (SeenIdleConnection T)
  as_idle birth (Admitted id at value) = Some (idle_connection id (birth id) at value)
  as_idle birth (Kept id at value) = Some (idle_connection id (birth id) at value)
  as_idle birth _ = None

  -- what a take leaves
  abbrev pub as_lent : (ℕ → ℕ) → Deed T → Option SeenLentConnection
  as_lent birth (Taken id at) = Some (lent_connection id (birth id))
  as_lent birth _ = None

  -- the connections whose latest deed is an admission or a kept return, in the order of those deeds
  unfoldable pub idle_of : History T → List (SeenIdleConnection T)
  idle_of h = filter_map (as_idle (birth_of h)) (latest id_of_deed (deeds_of h))

  -- those whose latest deed is a take, in the order of those deeds
  unfoldable pub lent_of : History T → List SeenLentConnection
  lent_of h = filter_map (as_lent (birth_of h)) (latest id_of_deed (deeds_of h))

  -- HOW MANY

  abbrev pub has_come : Deed T → Bool
  has_come (Admitted id at value) = true
  has_come _ = false

  abbrev pub is_gone : Deed T → Bool
  is_gone (Gone id at) = true
  is_gone _ = false

  -- how many ids were admitted
  abbrev pub admitted_count : History T → ℕ
  admitted_count h = count_by has_come (deeds_of h)

  -- how many ids were admitted, less how many are gone; never more are gone than were admitted
  unfoldable pub connections_of : History T → ℕ
  connections_of h = admitted_count h - count_by is_gone (deeds_of h)
