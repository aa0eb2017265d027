-- A step of a sound core is what the table says, where it answers and leaves that.
use Rattle.std.specs.Prelude.{◌≡◌, ℕ, Bool, Option, Result, String}
use Rattle.std.specs.Duration.{as_nanos}
use Rattle.std.specs.declared.time.Duration.{Duration}
use Rattle.pool_machine.specs.declared.machine.answers.Refusal.{Refusal}
use Rattle.pool_machine.specs.declared.machine.answers.Take.{Take}
use Rattle.pool_machine.specs.declared.machine.answers.Gone.{Gone}
use Rattle.pool_machine.specs.declared.machine.answers.Returned.{Returned}
use Rattle.pool_machine.specs.Picture.{Picture, IsSound}
use Rattle.pool_machine.specs.Seen.{seen_take, seen_returned, seen_gone, map_ok}
use Rattle.pool_machine.specs.Table as table
use Rattle.pool_machine.specs.CoreSteps.{IsTake, IsAdmission, IsFailedOpening, IsFailedCheck, IsReturn}
use Rattle.pool_machine.proofs.Facts.Sounds.{sound_take, sound_admit, sound_fail, sound_check, sound_return}
use Rattle.pool_machine.proofs.Facts.Wholes.{sound_as}

module _ {T : Type 0} where
  pub is_take : (now : Duration) (or_order : Bool) (result : Take T) (old new : Picture T) → IsSound old
      → seen_take result ≡ table.take_answer or_order old → new ≡ table.after_take (as_nanos now) or_order old → IsTake now or_order result old new
  is_take now or_order result old new s answered went = record {
    answer = answered;
    after = went;
    sound = sound_as (table.after_take (as_nanos now) or_order old) went (sound_take (as_nanos now) or_order s);
  }

  pub is_admission : (now : Duration) (id : ℕ) (value : T) (result : Result (Unit {0}) (Refusal × T)) (old new : Picture T) → IsSound old
      → result ≡ table.admit_answer id value old → new ≡ table.after_admit (as_nanos now) id value old → IsAdmission now id value result old new
  is_admission now id value result old new s answered went = record {
    answer = answered;
    after = went;
    sound = sound_as (table.after_admit (as_nanos now) id value old) went (sound_admit (as_nanos now) id value s);
  }

  pub is_failed_opening : {A : Type 0} (now : Duration) (tries : ℕ) (text : Option (String A)) (result : Result Duration Refusal) (old new : Picture T) → IsSound old
      → map_ok as_nanos result ≡ table.fail_answer (as_nanos now) tries old → new ≡ table.after_fail (as_nanos now) tries text old
      → IsFailedOpening now tries text result old new
  is_failed_opening now tries text result old new s answered went = record {
    answer = answered;
    after = went;
    sound = sound_as (table.after_fail (as_nanos now) tries text old) went (sound_fail (as_nanos now) tries text s);
  }

  pub is_failed_check : {A : Type 0} (now : Duration) (id : ℕ) (text : Option (String A)) (result : Result Gone Refusal) (old new : Picture T) → IsSound old
      → map_ok seen_gone result ≡ table.check_answer (as_nanos now) id old → new ≡ table.after_check (as_nanos now) id text old
      → IsFailedCheck now id text result old new
  is_failed_check now id text result old new s answered went = record {
    answer = answered;
    after = went;
    sound = sound_as (table.after_check (as_nanos now) id text old) went (sound_check (as_nanos now) id text s);
  }

  pub is_return : (now : Duration) (id : ℕ) (value : T) (broken : Bool) (result : Result (Returned T) (Refusal × T)) (old new : Picture T) → IsSound old
      → map_ok seen_returned result ≡ table.return_answer (as_nanos now) id value broken old → new ≡ table.after_return (as_nanos now) id value broken old
      → IsReturn now id value broken result old new
  is_return now id value broken result old new s answered went = record {
    answer = answered;
    after = went;
    sound = sound_as (table.after_return (as_nanos now) id value broken old) went (sound_return (as_nanos now) id value broken s);
  }
