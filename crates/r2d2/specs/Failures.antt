-- What the errors of a pool say.
use Rattle.std.specs.Prelude.{◌≡◌, ◌⊎◌, ℕ, List, ◌++◌, Option, Some, None, codes}
use Rattle.std.specs.declared.time.Duration.{Duration}
use Rattle.r2d2.specs.declared.error.ErrorKind.{ErrorKind}
use Rattle.pool_state.specs.declared.status.Status.{Status}
use Rattle.r2d2.specs.declared.error.ErrorKind.TheVariants.{Timeout, Memory, Threads, Closed}
use Rattle.r2d2.specs.declared.error.ErrorKind.TheVariants.{QueueFull}

-- what a contract sees of an error: why the call failed, and the bytes of the latest error of an
-- opening or a check, where one is known, or of why none is opened; of a call that gave up, what the
-- pool showed then, how long it had waited, and how many waited before it in line
pub record Failure : Type 0 where
  pub kind : ErrorKind
  pub message : Option (List ℕ)
  pub status : Option Status
  pub waited : Option Duration
  pub ahead : Option ℕ

-- the text of a failure: a timeout's has the latest error after it, where one is known
abbrev pub text_of : ErrorKind → Option (List ℕ) → List ℕ
text_of Timeout None = codes "timed out waiting for connection"
text_of Timeout (Some message) = codes "timed out waiting for connection: " ++ message
text_of Memory _ = codes "out of memory"
text_of Threads _ = codes "a worker could not be started"
text_of Closed _ = codes "the pool is closed"
text_of QueueFull _ = codes "too many callers are waiting"

-- what an error displays
abbrev pub error_text : Failure → List ℕ
error_text e = text_of e.kind e.message

-- memory was refused
abbrev pub IsOfMemory : Failure → Type 0
IsOfMemory e = e.kind ≡ Memory

-- memory was refused, no connection came in time, the pool is closed, or as many callers wait as may
abbrev pub IsOfAGet : Failure → Type 0
IsOfAGet e = (e.kind ≡ Memory) ⊎ ((e.kind ≡ Timeout) ⊎ ((e.kind ≡ Closed) ⊎ (e.kind ≡ QueueFull)))

-- memory was refused, or a thread
abbrev pub IsOfMemoryOrThreads : Failure → Type 0
IsOfMemoryOrThreads e = (e.kind ≡ Memory) ⊎ (e.kind ≡ Threads)

-- or fewer connections came in time than are wanted idle
abbrev pub IsOfABuild : Failure → Type 0
IsOfABuild e = IsOfMemoryOrThreads e ⊎ (e.kind ≡ Timeout)
