-- What a caller sees of an answer: moments and ages in nanoseconds, lists as lists, texts as bytes.
use Rattle.std.specs.Prelude.{ℕ, List, Option, Result, Ok, Err, Some, None, String, string_bytes}
use Rattle.std.specs.Prelude.{option_map}
use Rattle.std.specs.Option.{option_or}
use Rattle.std.specs.Duration.{as_nanos}
use Rattle.pool_machine.specs.declared.machine.answers.Refusal.{Refusal}
use Rattle.pool_machine.specs.declared.machine.answers.Take.{Take}
use Rattle.pool_machine.specs.declared.machine.answers.Take.TheVariants as take
use Rattle.pool_machine.specs.declared.machine.answers.Gone.{Gone}
use Rattle.pool_machine.specs.declared.machine.answers.Returned.{Returned}
use Rattle.pool_machine.specs.declared.machine.answers.Returned.TheVariants as returned
use Rattle.pool_machine.specs.declared.machine.answers.Released.{Released}
use Rattle.pool_machine.specs.Connections.{SeenIdleConnection, SeenReleased}
use Rattle.pool_machine.specs.Jobs.{SeenJob}

-- what a take gave
pub data SeenTake (T : Type 0) : Type 0 where
  Found : (id birth : ℕ) (value : T) (ordered : ℕ) → SeenTake T
  Empty : (ordered : ℕ) → SeenTake T

-- what became of a connection that came back
pub data SeenReturned (T : Type 0) : Type 0 where
  Kept : SeenReturned T
  Closed : (value : T) (age ordered : ℕ) → SeenReturned T

-- what a take of that idle connection gives, where it orders n
abbrev pub take_with : {T : Type 0} → Option (SeenIdleConnection T) → ℕ → SeenTake T
take_with None n = Empty n
take_with (Some c) n = Found c.id c.birth c.value n

-- a connection whose check failed is gone
pub record SeenGone : Type 0 where
  pub age : ℕ
  pub ordered : ℕ

-- what a step answers, one case for each kind of step
pub data SeenAnswer (T : Type 0) : Type 0 where
  Taken : SeenTake T → SeenAnswer T
  Begun : SeenJob → SeenAnswer T
  Numbered : Result ℕ Refusal → SeenAnswer T
  Admitted : Result (Unit {0}) (Refusal × T) → SeenAnswer T
  Failed : Result ℕ Refusal → SeenAnswer T
  CheckFailed : Result SeenGone Refusal → SeenAnswer T
  PutBack : Result (SeenReturned T) (Refusal × T) → SeenAnswer T
  Reaped : (closed : List (SeenReleased T)) (ordered : ℕ) → SeenAnswer T
  TakeError : Option (List ℕ) → SeenAnswer T
  Close : List (ℕ × T) → SeenAnswer T

abbrev pub seen_take : {T : Type 0} → Take T → SeenTake T
seen_take (take.Found id birth value ordered) = Found id (as_nanos birth) value ordered
seen_take (take.Empty ordered) = Empty ordered

abbrev pub seen_gone : Gone → SeenGone
seen_gone g = record { age = as_nanos g.age; ordered = g.ordered }

abbrev pub seen_returned : {T : Type 0} → Returned T → SeenReturned T
seen_returned returned.Kept = Kept
seen_returned (returned.Closed value age ordered) = Closed value (as_nanos age) ordered

abbrev pub seen_released : {T : Type 0} → Released T → SeenReleased T
seen_released r = record { id = r.id; age = as_nanos r.age; value = r.value }

abbrev pub map_ok : {X Y E : Type 0} → (X → Y) → Result X E → Result Y E
map_ok f (Ok x) = Ok (f x)
map_ok f (Err e) = Err e

-- a text is recorded; where there is none, what was there stays
abbrev pub or_text : {A : Type 0} → Option (String A) → Option (List ℕ) → Option (List ℕ)
or_text text before = option_or (option_map string_bytes text) before
