-- A step of any kind: what it answers, and what it makes of the picture.
-- Each line is that of the step's own call.
use Rattle.std.specs.Prelude.{Bool, true, false, List, [], ◌∷◌, length, map, option_map}
use Rattle.std.specs.Prelude.{string_bytes}
use Rattle.std.specs.Duration.{as_nanos}
use Rattle.pool_machine.specs.declared.step.Step.{Step}
use Rattle.pool_machine.specs.declared.step.Step.TheVariants as step
use Rattle.pool_machine.specs.declared.step.Answer.{Answer}
use Rattle.pool_machine.specs.declared.step.Answer.TheVariants as answer
use Rattle.pool_machine.specs.Jobs.{seen_job}
use Rattle.pool_machine.specs.Picture.{Picture}
use Rattle.pool_machine.specs.Seen.{SeenAnswer, Taken, Begun, Numbered, Admitted, Failed, CheckFailed}
use Rattle.pool_machine.specs.Seen.{PutBack, Reaped, TakeError, Close, seen_take, seen_returned}
use Rattle.pool_machine.specs.Seen.{seen_gone, seen_released, map_ok}
use Rattle.pool_machine.specs.Table as table

-- what a caller sees of an answer
abbrev pub seen_answer : {T A : Type 0} → Answer T A → SeenAnswer T
seen_answer (answer.Take t) = Taken (seen_take t)
seen_answer (answer.Begin job) = Begun (seen_job job)
seen_answer (answer.Number r) = Numbered r
seen_answer (answer.Admit r) = Admitted r
seen_answer (answer.Fail r) = Failed (map_ok as_nanos r)
seen_answer (answer.FailCheck r) = CheckFailed (map_ok seen_gone r)
seen_answer (answer.PutBack r) = PutBack (map_ok seen_returned r)
seen_answer (answer.Reap released ordered) = Reaped (map seen_released released.items) ordered
seen_answer (answer.TakeError text) = TakeError (option_map string_bytes text)
seen_answer (answer.Close left) = Close left

module _ {T : Type 0} where
  -- the answer to the step, from that picture
  abbrev pub step_answer : Step T → Picture T → SeenAnswer T
  step_answer (step.Take now or_order) p = Taken (table.take_answer or_order p)
  step_answer (step.Begin now) p = Begun (table.begin_answer (as_nanos now) p)
  step_answer (step.Number tries) p = Numbered (table.number_answer tries p)
  step_answer (step.Admit now id value) p = Admitted (table.admit_answer id value p)
  step_answer (step.Fail now tries text) p = Failed (table.fail_answer (as_nanos now) tries p)
  step_answer (step.FailCheck now id text) p = CheckFailed (table.check_answer (as_nanos now) id p)
  step_answer (step.PutBack now id value broken) p =
      PutBack (table.return_answer (as_nanos now) id value broken p)
  step_answer (step.Reap now) p =
      Reaped (table.reap_closed (as_nanos now) p) (table.reap_orders (as_nanos now) p)
  step_answer step.TakeError p = TakeError p.last_error
  step_answer step.Close p = Close (table.close_answer p)

  -- the picture after it
  abbrev pub after_step : Step T → Picture T → Picture T
  after_step (step.Take now or_order) p = table.after_take (as_nanos now) or_order p
  after_step (step.Begin now) p = table.after_begin (as_nanos now) p
  after_step (step.Number tries) p = table.after_number tries p
  after_step (step.Admit now id value) p = table.after_admit (as_nanos now) id value p
  after_step (step.Fail now tries text) p = table.after_fail (as_nanos now) tries text p
  after_step (step.FailCheck now id text) p = table.after_check (as_nanos now) id text p
  after_step (step.PutBack now id value broken) p =
      table.after_return (as_nanos now) id value broken p
  after_step (step.Reap now) p = table.after_reap (as_nanos now) p
  after_step step.TakeError p = table.after_take_error p
  after_step step.Close p = table.after_close p

  abbrev pub is_reap : Step T → Bool
  is_reap (step.Reap now) = true
  is_reap _ = false
