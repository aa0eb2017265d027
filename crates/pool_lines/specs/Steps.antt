-- What the core does at a line, and what the program writes then, in the core's own words.
use Rattle.std.specs.Prelude.{ℕ, List, length, Option, Some, None}
use Rattle.pool_machine.specs.declared.step.Step.{Step}
use Rattle.pool_machine.specs.declared.step.Step.TheVariants as step
use Rattle.pool_machine.specs.OnOrder.{fail_refusal}
use Rattle.pool_machine.specs.Refusals.{unless_refused}
use Rattle.pool_machine.specs.Picture.{Picture}
use Rattle.pool_machine.specs.Seen.{SeenAnswer, Taken, Begun, Numbered, Admitted, Failed, CheckFailed, PutBack, Reaped, TakeError, Close}
use Rattle.pool_machine.specs.Table.{take_answer, begin_answer, number_answer, admit_answer, fail_answer, return_answer, check_answer, reap_closed, reap_orders}
use Rattle.pool_machine.specs.Table.{close_answer}
use Rattle.pool_machine.specs.Table.{after_take, after_begin, after_number, after_admit, after_fail, after_return, lent_refusal, after_check, after_reap}
use Rattle.pool_machine.specs.Table.{after_take_error, after_close}
use Rattle.pool_lines.specs.Lines.{SeenLine, Take, Begin, Number, Admit, Fail, FailCheck, PutBack, Reap, TakeError, Close, State}
use Rattle.pool_lines.specs.Texts.{take_text, task_text, number_text, admission_text, failure_text, check_text, return_text, reap_text, error_text, close_text}
use Rattle.pool_lines.specs.Texts.{state_text}

-- what is written for a step
abbrev pub answer_text : SeenLine → Picture ℕ → List ℕ
answer_text (Take now or_order) p = take_text (take_answer or_order p)
answer_text (Begin now) p = task_text (begin_answer now p)
answer_text (Number tries) p = number_text (number_answer tries p)
answer_text (Admit now id value) p = admission_text (admit_answer id value p)
answer_text (Fail now tries text) p = failure_text (fail_answer now tries p)
answer_text (FailCheck now id text) p = check_text id (check_answer now id p)
answer_text (PutBack now id value broken) p = return_text id (return_answer now id value broken p)
answer_text (Reap now) p = reap_text (reap_closed now p) (reap_orders now p)
answer_text TakeError p = error_text p.last_error
answer_text Close p = close_text (close_answer p)
answer_text State p = state_text p.connections (length p.idle) p.on_order.pending

-- a text of a failure is the last error
abbrev pub with_error : Option (List ℕ) → Picture ℕ → Picture ℕ
with_error None p = p
with_error (Some text) p = record p { last_error = Some text }

-- what the core shows after it; a refused step records no text
abbrev pub after_said : SeenLine → Picture ℕ → Picture ℕ
after_said (Take now or_order) p = after_take now or_order p
after_said (Begin now) p = after_begin now p
after_said (Number tries) p = after_number tries p
after_said (Admit now id value) p = after_admit now id value p
after_said (Fail now tries text) p = unless_refused (fail_refusal tries p.on_order) (with_error text (after_fail {A = ℕ} now tries None p)) p
after_said (FailCheck now id text) p = unless_refused (lent_refusal id p) (with_error text (after_check {A = ℕ} now id None p)) p
after_said (PutBack now id value broken) p = after_return now id value broken p
after_said (Reap now) p = after_reap now p
after_said TakeError p = after_take_error p
after_said Close p = after_close p
after_said State p = p

-- ANSWERS

-- the id that a step of a lent connection names; 0 where it is another step
abbrev pub id_in : Step ℕ → ℕ
id_in (step.FailCheck now id text) = id
id_in (step.PutBack now id value broken) = id
id_in _ = 0

-- what is written for an answer to a step that names the id
abbrev pub reply_text : ℕ → SeenAnswer ℕ → List ℕ
reply_text id (Taken taking) = take_text taking
reply_text id (Begun task) = task_text task
reply_text id (Numbered r) = number_text r
reply_text id (Admitted r) = admission_text r
reply_text id (Failed r) = failure_text r
reply_text id (CheckFailed r) = check_text id r
reply_text id (PutBack r) = return_text id r
reply_text id (Reaped closed n) = reap_text closed n
reply_text id (TakeError text) = error_text text
reply_text id (Close left) = close_text left
