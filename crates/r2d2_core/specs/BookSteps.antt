-- What each step of a book is: that of its core, by its name in CoreSteps, and what is noted of it.
use Rattle.std.specs.Prelude.{◌≡◌, ℕ, Bool, List, Option, Result, String, length}
use Rattle.std.specs.declared.time.Duration.{Duration}
use Rattle.std.specs.Duration.{as_nanos}
use Rattle.pool_machine.specs.declared.schedule.Job.{Job}
use Rattle.pool_machine.specs.declared.machine.answers.Refusal.{Refusal}
use Rattle.pool_machine.specs.declared.machine.answers.Take.{Take}
use Rattle.pool_machine.specs.declared.machine.answers.Gone.{Gone}
use Rattle.pool_machine.specs.declared.machine.answers.Returned.{Returned}
use Rattle.pool_machine.specs.declared.machine.answers.Released.{Released}
use Rattle.pool_machine.specs.Seen.{seen_take, seen_returned, seen_gone, map_ok}
use Rattle.pool_machine.specs.Picture.{Picture}
use Rattle.pool_machine.specs.CoreSteps as core
use Rattle.r2d2_core.specs.Journal.{SeenJournal}
use Rattle.r2d2_core.specs.Book.{SeenBook}
use Rattle.r2d2_core.specs.Noted.{noted_take, noted_admission, noted_return, noted_check}
use Rattle.r2d2_core.specs.Noted.{noted_reap, noted_close}

module _ {T : Type 0} where
  -- its core takes that step, and that is its journal then
  pub record IsStep (is_step : Picture T → Picture T → Type 0) (journal : SeenJournal)
      (old new : SeenBook T) : Type 0 where
    pub of_core : is_step old.picture new.picture
    pub noted : new.journal ≡ journal

  abbrev pub IsTake : Duration → Bool → Take T → SeenBook T → SeenBook T → Type 0
  IsTake now or_order result old new =
      IsStep (core.IsTake now or_order result) (noted_take (as_nanos now) (seen_take result) old)
      old new

  -- where the journal is the old one, the step is never noted
  abbrev pub IsBegin : Duration → Job → SeenBook T → SeenBook T → Type 0
  IsBegin now result old new = IsStep (core.IsBegin now result) old.journal old new

  abbrev pub IsNumbering : ℕ → Result ℕ Refusal → SeenBook T → SeenBook T → Type 0
  IsNumbering tries result old new = IsStep (core.IsNumbering tries result) old.journal old new

  abbrev pub IsAdmission : Duration → ℕ → T → Result (Unit {0}) (Refusal × T)
      → SeenBook T → SeenBook T → Type 0
  IsAdmission now id value result old new =
      IsStep (core.IsAdmission now id value result)
      (noted_admission (as_nanos now) id result old) old new

  abbrev pub IsFailedOpening : {A : Type 0} → Duration → ℕ → Option (String A)
      → Result Duration Refusal → SeenBook T → SeenBook T → Type 0
  IsFailedOpening now tries text result old new =
      IsStep (core.IsFailedOpening now tries text result) old.journal old new

  abbrev pub IsFailedCheck : {A : Type 0} → Duration → ℕ → Option (String A)
      → Result Gone Refusal → SeenBook T → SeenBook T → Type 0
  IsFailedCheck now id text result old new =
      IsStep (core.IsFailedCheck now id text result)
      (noted_check (as_nanos now) id (map_ok seen_gone result) old) old new

  abbrev pub IsReturn : Duration → ℕ → T → Bool → Result (Returned T) (Refusal × T)
      → SeenBook T → SeenBook T → Type 0
  IsReturn now id value broken result old new =
      IsStep (core.IsReturn now id value broken result)
      (noted_return (as_nanos now) id (map_ok seen_returned result) old) old new

  abbrev pub IsReap : Duration → List (Released T) → ℕ → SeenBook T → SeenBook T → Type 0
  IsReap now out result old new =
      IsStep (core.IsReap now out result)
      (noted_reap (as_nanos now) (length out) result old) old new

  abbrev pub IsTelling : {A : Type 0} → Option (String A) → SeenBook T → SeenBook T → Type 0
  IsTelling result old new = IsStep (core.IsTelling result) old.journal old new

  abbrev pub IsClose : List (ℕ × T) → SeenBook T → SeenBook T → Type 0
  IsClose result old new = IsStep (core.IsClose result) (noted_close old) old new
