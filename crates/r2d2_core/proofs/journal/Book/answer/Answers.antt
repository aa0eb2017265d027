use Rattle.std.proofs.Common.{sym, ◌∙◌, ap}
use Rattle.std.specs.Duration.{as_nanos}
use Rattle.pool_machine.specs.Seen.{Taken, Begun, Numbered, Admitted, Failed, CheckFailed, PutBack, TakeError, Close}
use Rattle.r2d2_core.specs.Noted.{noted_take, noted_admission, noted_check, noted_return}
use Rattle.pool_machine.specs.Steps.{step_answer, after_step}
use Rattle.r2d2_core.specs.NotedSteps.{noted_step}
use Rattle.r2d2_core.proofs.journal.Book.answer.Goals as goal

pub returns-in-Take-answer_by : goal.returns-in-Take-answer_by
returns-in-Take-answer_by g c =
    let is = sym c.in-Take-answer_by.is in
    record {
      answer = ap Taken c.answer_by-take.ensures.of_core.answer ∙ ap (λ s. step_answer s c.args.self.now.picture) is;
      after = c.answer_by-take.ensures.of_core.after ∙ ap (λ s. after_step s c.args.self.now.picture) is;
      noted = c.answer_by-take.ensures.noted ∙ (ap (λ r. noted_take (as_nanos c.in-Take-answer_by.now) r c.args.self.now) c.answer_by-take.ensures.of_core.answer
          ∙ ap (λ s. noted_step s c.args.self.now) is);
      unchanged = tt;
      only_reaps = tt;
      sound = c.answer_by-take.ensures.of_core.sound;
    }

pub returns-in-Begin-answer_by : goal.returns-in-Begin-answer_by
returns-in-Begin-answer_by g c =
    let is = sym c.in-Begin-answer_by.is in
    record {
      answer = ap Begun c.answer_by-begin.ensures.of_core.answer ∙ ap (λ s. step_answer s c.args.self.now.picture) is;
      after = c.answer_by-begin.ensures.of_core.after ∙ ap (λ s. after_step s c.args.self.now.picture) is;
      noted = c.answer_by-begin.ensures.noted ∙ ap (λ s. noted_step s c.args.self.now) is;
      unchanged = tt;
      only_reaps = tt;
      sound = c.answer_by-begin.ensures.of_core.sound;
    }

pub returns-in-Number-answer_by : goal.returns-in-Number-answer_by
returns-in-Number-answer_by g c =
    let is = sym c.in-Number-answer_by.is in
    record {
      answer = ap Numbered c.answer_by-number.ensures.of_core.answer ∙ ap (λ s. step_answer s c.args.self.now.picture) is;
      after = c.answer_by-number.ensures.of_core.after ∙ ap (λ s. after_step s c.args.self.now.picture) is;
      noted = c.answer_by-number.ensures.noted ∙ ap (λ s. noted_step s c.args.self.now) is;
      unchanged = tt;
      only_reaps = tt;
      sound = c.answer_by-number.ensures.of_core.sound;
    }

pub returns-in-Admit-answer_by : goal.returns-in-Admit-answer_by
returns-in-Admit-answer_by g c =
    let is = sym c.in-Admit-answer_by.is in
    record {
      answer = ap Admitted c.answer_by-admit.ensures.of_core.answer ∙ ap (λ s. step_answer s c.args.self.now.picture) is;
      after = c.answer_by-admit.ensures.of_core.after ∙ ap (λ s. after_step s c.args.self.now.picture) is;
      noted = c.answer_by-admit.ensures.noted ∙ (ap (λ r. noted_admission (as_nanos c.in-Admit-answer_by.now) c.in-Admit-answer_by.id r c.args.self.now) c.answer_by-admit.ensures.of_core.answer
          ∙ ap (λ s. noted_step s c.args.self.now) is);
      unchanged = tt;
      only_reaps = tt;
      sound = c.answer_by-admit.ensures.of_core.sound;
    }

pub returns-in-Fail-answer_by : goal.returns-in-Fail-answer_by
returns-in-Fail-answer_by g c =
    let is = sym c.in-Fail-answer_by.is in
    record {
      answer = ap Failed c.answer_by-fail.ensures.of_core.answer ∙ ap (λ s. step_answer s c.args.self.now.picture) is;
      after = c.answer_by-fail.ensures.of_core.after ∙ ap (λ s. after_step s c.args.self.now.picture) is;
      noted = c.answer_by-fail.ensures.noted ∙ ap (λ s. noted_step s c.args.self.now) is;
      unchanged = tt;
      only_reaps = tt;
      sound = c.answer_by-fail.ensures.of_core.sound;
    }

pub returns-in-FailCheck-answer_by : goal.returns-in-FailCheck-answer_by
returns-in-FailCheck-answer_by g c =
    let is = sym c.in-FailCheck-answer_by.is in
    record {
      answer = ap CheckFailed c.answer_by-fail_check.ensures.of_core.answer ∙ ap (λ s. step_answer s c.args.self.now.picture) is;
      after = c.answer_by-fail_check.ensures.of_core.after ∙ ap (λ s. after_step s c.args.self.now.picture) is;
      noted = c.answer_by-fail_check.ensures.noted ∙ (ap (λ r. noted_check (as_nanos c.in-FailCheck-answer_by.now) c.in-FailCheck-answer_by.id r c.args.self.now) c.answer_by-fail_check.ensures.of_core.answer
          ∙ ap (λ s. noted_step s c.args.self.now) is);
      unchanged = tt;
      only_reaps = tt;
      sound = c.answer_by-fail_check.ensures.of_core.sound;
    }

pub returns-in-PutBack-answer_by : goal.returns-in-PutBack-answer_by
returns-in-PutBack-answer_by g c =
    let is = sym c.in-PutBack-answer_by.is in
    record {
      answer = ap PutBack c.answer_by-put_back.ensures.of_core.answer ∙ ap (λ s. step_answer s c.args.self.now.picture) is;
      after = c.answer_by-put_back.ensures.of_core.after ∙ ap (λ s. after_step s c.args.self.now.picture) is;
      noted = c.answer_by-put_back.ensures.noted ∙ (ap (λ r. noted_return (as_nanos c.in-PutBack-answer_by.now) c.in-PutBack-answer_by.id r c.args.self.now) c.answer_by-put_back.ensures.of_core.answer
          ∙ ap (λ s. noted_step s c.args.self.now) is);
      unchanged = tt;
      only_reaps = tt;
      sound = c.answer_by-put_back.ensures.of_core.sound;
    }

pub returns-in-TakeError-answer_by : goal.returns-in-TakeError-answer_by
returns-in-TakeError-answer_by g c =
    let is = sym c.in-TakeError-answer_by.is in
    record {
      answer = ap TakeError c.answer_by-take_error.ensures.of_core.answer ∙ ap (λ s. step_answer s c.args.self.now.picture) is;
      after = c.answer_by-take_error.ensures.of_core.after ∙ ap (λ s. after_step s c.args.self.now.picture) is;
      noted = c.answer_by-take_error.ensures.noted ∙ ap (λ s. noted_step s c.args.self.now) is;
      unchanged = tt;
      only_reaps = tt;
      sound = c.answer_by-take_error.ensures.of_core.sound;
    }

pub returns-in-Close-answer_by : goal.returns-in-Close-answer_by
returns-in-Close-answer_by g c =
    let is = sym c.in-Close-answer_by.is in
    record {
      answer = ap Close c.answer_by-close.ensures.of_core.answer ∙ ap (λ s. step_answer s c.args.self.now.picture) is;
      after = c.answer_by-close.ensures.of_core.after ∙ ap (λ s. after_step s c.args.self.now.picture) is;
      noted = c.answer_by-close.ensures.noted ∙ ap (λ s. noted_step s c.args.self.now) is;
      unchanged = tt;
      only_reaps = tt;
      sound = c.answer_by-close.ensures.of_core.sound;
    }
