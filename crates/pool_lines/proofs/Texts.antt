-- A step of the core, and what a line says: the text of a failure is a string there, and bytes here.
use Rattle.std.proofs.Common.{◌≡◌, ℕ, Option, Some, None, String, option_map, string_bytes, refl}
use Rattle.pool_machine.specs.declared.step.Step.{Step}
use Rattle.pool_machine.specs.declared.step.Step.TheVariants as step
use Rattle.pool_machine.specs.declared.machine.answers.Refusal.{Refusal}
use Rattle.pool_machine.specs.OnOrder.{fail_refusal}
use Rattle.pool_machine.specs.Picture.{Picture}
use Rattle.pool_machine.specs.Refusals.{unless_refused}
use Rattle.pool_machine.specs.Table.{after_fail, failed, after_check, lent_refusal, topped_up, gone_one, with_text, raised_to}
use Rattle.pool_machine.specs.Steps.{step_answer, after_step}
use Rattle.std.specs.Duration.{as_nanos}
use Rattle.pool_lines.specs.Lines.{Fail, FailCheck, seen_step}
use Rattle.pool_lines.specs.Steps.{answer_text, after_said, with_error, id_in, reply_text}

refused_twice : {X : Type 0} (why : Option Refusal) (x y p : X) (f : X → X) → x ≡ f y
    → unless_refused why x p ≡ unless_refused why (f (unless_refused why y p)) p
refused_twice None x y p f e = e
refused_twice (Some why) x y p f e = refl

module _ {A : Type 0} where
  text_last : (now tries : ℕ) (text : Option (String A)) (p : Picture ℕ) → failed now tries text p ≡ with_error (option_map string_bytes text)
      (failed {A = ℕ} now tries None p)
  text_last now tries None p = refl
  text_last now tries (Some text) p = refl

  text_last_of_check : (now id : ℕ) (text : Option (String A)) (p : Picture ℕ)
      → topped_up (gone_one id (with_text text (raised_to now p))) ≡ with_error (option_map string_bytes text)
      (topped_up (gone_one id (with_text {A = ℕ} None (raised_to now p))))
  text_last_of_check now id None p = refl
  text_last_of_check now id (Some text) p = refl

  failed_with : (now tries : ℕ) (text : Option (String A)) (p : Picture ℕ)
      → after_fail now tries text p ≡ after_said (Fail now tries (option_map string_bytes text)) p
  failed_with now tries text p =
      refused_twice (fail_refusal tries p.on_order) (failed now tries text p) (failed {A = ℕ} now tries None p) p (with_error (option_map string_bytes text))
      (text_last now tries text p)

  check_failed_with : (now id : ℕ) (text : Option (String A)) (p : Picture ℕ)
      → after_check now id text p ≡ after_said (FailCheck now id (option_map string_bytes text)) p
  check_failed_with now id text p =
      refused_twice (lent_refusal id p) (topped_up (gone_one id (with_text text (raised_to now p))))
      (topped_up (gone_one id (with_text {A = ℕ} None (raised_to now p)))) p (with_error (option_map string_bytes text)) (text_last_of_check now id text p)

-- what is written for the answer to a step is what is written for its line
pub text_of_step : (s : Step ℕ) (p : Picture ℕ) → reply_text (id_in s) (step_answer s p) ≡ answer_text (seen_step s) p
text_of_step (step.Take now or_order) p = refl
text_of_step (step.Begin now) p = refl
text_of_step (step.Number tries) p = refl
text_of_step (step.Admit now id value) p = refl
text_of_step (step.Fail now tries text) p = refl
text_of_step (step.FailCheck now id text) p = refl
text_of_step (step.PutBack now id value broken) p = refl
text_of_step (step.Reap now) p = refl
text_of_step step.TakeError p = refl
text_of_step step.Close p = refl

-- and it leaves what its line leaves
pub after_of_step : (s : Step ℕ) (p : Picture ℕ) → after_step s p ≡ after_said (seen_step s) p
after_of_step (step.Take now or_order) p = refl
after_of_step (step.Begin now) p = refl
after_of_step (step.Number tries) p = refl
after_of_step (step.Admit now id value) p = refl
after_of_step (step.Fail now tries text) p = failed_with (as_nanos now) tries text p
after_of_step (step.FailCheck now id text) p = check_failed_with (as_nanos now) id text p
after_of_step (step.PutBack now id value broken) p = refl
after_of_step (step.Reap now) p = refl
after_of_step step.TakeError p = refl
after_of_step step.Close p = refl
