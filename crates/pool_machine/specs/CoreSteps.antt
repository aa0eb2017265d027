-- What each step of a core is, from the picture before it to the one after it: what its call
-- answers, and what it leaves.
use Rattle.std.specs.Prelude.{◌≡◌, ℕ, Bool, List, Option, Result, String, map, option_map}
use Rattle.std.specs.Prelude.{string_bytes}
use Rattle.std.specs.declared.time.Duration.{Duration}
use Rattle.std.specs.Duration.{as_nanos}
use Rattle.pool_machine.specs.declared.schedule.Job.{Job}
use Rattle.pool_machine.specs.declared.machine.answers.Refusal.{Refusal}
use Rattle.pool_machine.specs.declared.machine.answers.Take.{Take}
use Rattle.pool_machine.specs.declared.machine.answers.Gone.{Gone}
use Rattle.pool_machine.specs.declared.machine.answers.Returned.{Returned}
use Rattle.pool_machine.specs.declared.machine.answers.Released.{Released}
use Rattle.pool_machine.specs.Jobs.{seen_job}
use Rattle.pool_machine.specs.Seen.{seen_take, seen_returned, seen_gone, seen_released, map_ok}
use Rattle.pool_machine.specs.Picture.{Picture, IsSound}
use Rattle.pool_machine.specs.Table as table

module _ {T : Type 0} where
  -- `take`
  pub record IsTake (now : Duration) (or_order : Bool) (result : Take T) (old new : Picture T)
      : Type 0 where
    pub answer : seen_take result ≡ table.take_answer or_order old
    pub after : new ≡ table.after_take (as_nanos now) or_order old
    pub sound : IsSound new

  -- `begin`
  pub record IsBegin (now : Duration) (result : Job) (old new : Picture T) : Type 0 where
    pub answer : seen_job result ≡ table.begin_answer (as_nanos now) old
    pub after : new ≡ table.after_begin (as_nanos now) old
    pub sound : IsSound new

  -- `number`
  pub record IsNumbering (tries : ℕ) (result : Result ℕ Refusal) (old new : Picture T)
      : Type 0 where
    pub answer : result ≡ table.number_answer tries old
    pub after : new ≡ table.after_number tries old
    pub sound : IsSound new

  -- `admit`
  pub record IsAdmission (now : Duration) (id : ℕ) (value : T)
      (result : Result (Unit {0}) (Refusal × T)) (old new : Picture T) : Type 0 where
    pub answer : result ≡ table.admit_answer id value old
    pub after : new ≡ table.after_admit (as_nanos now) id value old
    pub sound : IsSound new

  -- `fail`
  pub record IsFailedOpening {A : Type 0} (now : Duration) (tries : ℕ) (text : Option (String A))
      (result : Result Duration Refusal) (old new : Picture T) : Type 0 where
    pub answer : map_ok as_nanos result ≡ table.fail_answer (as_nanos now) tries old
    pub after : new ≡ table.after_fail (as_nanos now) tries text old
    pub sound : IsSound new

  -- `fail_check`
  pub record IsFailedCheck {A : Type 0} (now : Duration) (id : ℕ) (text : Option (String A))
      (result : Result Gone Refusal) (old new : Picture T) : Type 0 where
    pub answer : map_ok seen_gone result ≡ table.check_answer (as_nanos now) id old
    pub after : new ≡ table.after_check (as_nanos now) id text old
    pub sound : IsSound new

  -- `put_back`
  pub record IsReturn (now : Duration) (id : ℕ) (value : T) (broken : Bool)
      (result : Result (Returned T) (Refusal × T)) (old new : Picture T) : Type 0 where
    pub answer : map_ok seen_returned result
        ≡ table.return_answer (as_nanos now) id value broken old
    pub after : new ≡ table.after_return (as_nanos now) id value broken old
    pub sound : IsSound new

  -- `reap`, which also hands over what it closed
  pub record IsReap (now : Duration) (out : List (Released T)) (result : ℕ) (old new : Picture T)
      : Type 0 where
    pub released : map seen_released out ≡ table.reap_closed (as_nanos now) old
    pub answer : result ≡ table.reap_orders (as_nanos now) old
    pub after : new ≡ table.after_reap (as_nanos now) old
    pub sound : IsSound new

  -- `take_error`
  pub record IsTelling {A : Type 0} (result : Option (String A)) (old new : Picture T)
      : Type 0 where
    pub answer : option_map string_bytes result ≡ old.last_error
    pub after : new ≡ table.after_take_error old
    pub sound : IsSound new

  -- `close`
  pub record IsClose (result : List (ℕ × T)) (old new : Picture T) : Type 0 where
    pub answer : result ≡ table.close_answer old
    pub after : new ≡ table.after_close old
    pub sound : IsSound new
