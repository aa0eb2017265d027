use Rattle.std.proofs.Common.{sym, ◌∙◌, ap}
use Rattle.pool_machine.specs.Seen.{Taken, Begun, Numbered, Admitted, Failed, CheckFailed, PutBack, TakeError, Close}
use Rattle.pool_machine.specs.Steps.{step_answer, after_step}
use Rattle.pool_machine.proofs.machine.Core.answer.Goals as goal

pub returns-in-Take : goal.returns-in-Take
returns-in-Take g c =
    let is = sym c.in-Take.is in
    record {
      answer = ap Taken c.take.ensures.answer ∙ ap (λ s. step_answer s c.args.self.now) is;
      after = c.take.ensures.after ∙ ap (λ s. after_step s c.args.self.now) is;
      unchanged = tt;
      only_reaps = tt;
      sound = c.take.ensures.sound;
    }

pub returns-in-Begin : goal.returns-in-Begin
returns-in-Begin g c =
    let is = sym c.in-Begin.is in
    record {
      answer = ap Begun c.begin.ensures.answer ∙ ap (λ s. step_answer s c.args.self.now) is;
      after = c.begin.ensures.after ∙ ap (λ s. after_step s c.args.self.now) is;
      unchanged = tt;
      only_reaps = tt;
      sound = c.begin.ensures.sound;
    }

pub returns-in-Number : goal.returns-in-Number
returns-in-Number g c =
    let is = sym c.in-Number.is in
    record {
      answer = ap Numbered c.number.ensures.answer ∙ ap (λ s. step_answer s c.args.self.now) is;
      after = c.number.ensures.after ∙ ap (λ s. after_step s c.args.self.now) is;
      unchanged = tt;
      only_reaps = tt;
      sound = c.number.ensures.sound;
    }

pub returns-in-Admit : goal.returns-in-Admit
returns-in-Admit g c =
    let is = sym c.in-Admit.is in
    record {
      answer = ap Admitted c.admit.ensures.answer ∙ ap (λ s. step_answer s c.args.self.now) is;
      after = c.admit.ensures.after ∙ ap (λ s. after_step s c.args.self.now) is;
      unchanged = tt;
      only_reaps = tt;
      sound = c.admit.ensures.sound;
    }

pub returns-in-Fail : goal.returns-in-Fail
returns-in-Fail g c =
    let is = sym c.in-Fail.is in
    record {
      answer = ap Failed c.fail.ensures.answer ∙ ap (λ s. step_answer s c.args.self.now) is;
      after = c.fail.ensures.after ∙ ap (λ s. after_step s c.args.self.now) is;
      unchanged = tt;
      only_reaps = tt;
      sound = c.fail.ensures.sound;
    }

pub returns-in-FailCheck : goal.returns-in-FailCheck
returns-in-FailCheck g c =
    let is = sym c.in-FailCheck.is in
    record {
      answer = ap CheckFailed c.fail_check.ensures.answer ∙ ap (λ s. step_answer s c.args.self.now) is;
      after = c.fail_check.ensures.after ∙ ap (λ s. after_step s c.args.self.now) is;
      unchanged = tt;
      only_reaps = tt;
      sound = c.fail_check.ensures.sound;
    }

pub returns-in-PutBack : goal.returns-in-PutBack
returns-in-PutBack g c =
    let is = sym c.in-PutBack.is in
    record {
      answer = ap PutBack c.put_back.ensures.answer ∙ ap (λ s. step_answer s c.args.self.now) is;
      after = c.put_back.ensures.after ∙ ap (λ s. after_step s c.args.self.now) is;
      unchanged = tt;
      only_reaps = tt;
      sound = c.put_back.ensures.sound;
    }

pub returns-in-TakeError : goal.returns-in-TakeError
returns-in-TakeError g c =
    let is = sym c.in-TakeError.is in
    record {
      answer = ap TakeError c.take_error.ensures.answer ∙ ap (λ s. step_answer s c.args.self.now) is;
      after = c.take_error.ensures.after ∙ ap (λ s. after_step s c.args.self.now) is;
      unchanged = tt;
      only_reaps = tt;
      sound = c.take_error.ensures.sound;
    }

pub returns-in-Close : goal.returns-in-Close
returns-in-Close g c =
    let is = sym c.in-Close.is in
    record {
      answer = ap Close c.close.ensures.answer ∙ ap (λ s. step_answer s c.args.self.now) is;
      after = c.close.ensures.after ∙ ap (λ s. after_step s c.args.self.now) is;
      unchanged = tt;
      only_reaps = tt;
      sound = c.close.ensures.sound;
    }
