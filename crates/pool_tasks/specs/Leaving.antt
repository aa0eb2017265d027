-- What a task leaves that is dropped, or gives up.
use Rattle.std.specs.Prelude.{◌≡◌, ℕ, Bool, List, Option, Some, None}
use Rattle.std.specs.declared.time.Duration.{Duration}
use Rattle.pool_machine.specs.declared.machine.answers.Gone.{Gone}
use Rattle.r2d2_core.specs.Book.{SeenBook}
use Rattle.pool_state.specs.declared.engine.Outcome.TheVariants as outcome
use Rattle.pool_state.specs.declared.engine.Settled.{Settled}
use Rattle.pool_state.specs.declared.engine.Settled.TheVariants as settled
use Rattle.pool_state.specs.declared.failures.Failures.{Failures}
use Rattle.pool_state.specs.declared.line.place.Place.{Place}
use Rattle.pool_state.specs.Failed.{IsOneCheckMore}
use Rattle.pool_state.specs.Settled.{IsSettling}
use Rattle.pool_state.specs.Waiting.{told_if, left_by, told_by}

module _ {T : Type 0} where
  -- how a connection went whose check was settled so, if it did
  abbrev pub gone_in : Settled T → Option Gone
  gone_in settled.Admitted = None
  gone_in (settled.Retry due) = None
  gone_in (settled.Gone gone) = Some gone
  gone_in (settled.Refused why back) = None

  -- the connection with this id, if there is one, goes as one whose check failed, without a text
  abbrev pub IsLost : Duration → Option ℕ → Option Gone → SeenBook T → SeenBook T → Type 0
  IsLost now None gone old new = (gone ≡ None) × (new ≡ old)
  IsLost now (Some id) gone old new = (answer : Settled T) × (IsSettling now (outcome.Unsound id None) answer old new × (gone ≡ gone_in answer))

-- and is counted as one
abbrev pub CountsLoss : Duration → Duration → Option ℕ → Failures → Failures → Type 0
CountsLoss now distrusted_before None old new = new ≡ old
CountsLoss now distrusted_before (Some id) old new = IsOneCheckMore now distrusted_before old new

-- who stands in line once the caller at this place is gone, whose connection went, or had none that did
abbrev pub without_caller : Bool → Option ℕ → List Place → List Place
without_caller went place ps = left_by place (told_if went ps)

-- and who is told as it leaves
abbrev pub told_without : Bool → Option ℕ → List Place → Option ℕ
told_without went place ps = told_by place (told_if went ps)
