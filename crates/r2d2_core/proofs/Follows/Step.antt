-- A step of any kind follows the history.
use Rattle.std.proofs.Common.{◌≡◌, ◌∙◌, ap}
use Rattle.pool_machine.specs.declared.step.Step.{Step}
use Rattle.pool_machine.specs.declared.step.Step.TheVariants as step
use Rattle.pool_machine.specs.Picture.{Picture}
use Rattle.pool_machine.specs.Seen.{SeenAnswer}
use Rattle.r2d2_core.specs.History.{History}
use Rattle.r2d2_core.specs.Answers.{picture_of}
use Rattle.r2d2_core.proofs.Histories.Kept.{IsKept, Follows}
use Rattle.pool_machine.specs.Steps.{step_answer, after_step}
use Rattle.r2d2_core.proofs.Follows.Take.{follows_take}
use Rattle.r2d2_core.proofs.Follows.Begin.{follows_begin}
use Rattle.r2d2_core.proofs.Follows.Number.{follows_number}
use Rattle.r2d2_core.proofs.Follows.Admit.{follows_admit}
use Rattle.r2d2_core.proofs.Follows.Fail.{follows_fail}
use Rattle.r2d2_core.proofs.Follows.Check.{follows_check}
use Rattle.r2d2_core.proofs.Follows.Return.{follows_return}
use Rattle.r2d2_core.proofs.Follows.Reap.{follows_reap}
use Rattle.r2d2_core.proofs.Follows.TakeError.{follows_take_error}
use Rattle.r2d2_core.proofs.Follows.Close.{follows_close}

module _ {T : Type 0} where
  pub follows_step : (h : History T) (s : Step T) → IsKept h → Follows h s (step_answer s (picture_of h)) (after_step s (picture_of h))
  follows_step h (step.Take now or_order) kept = follows_take h now or_order kept
  follows_step h (step.Begin now) kept = follows_begin h now kept
  follows_step h (step.Number tries) kept = follows_number h tries kept
  follows_step h (step.Admit now id value) kept = follows_admit h now id value kept
  follows_step h (step.Fail now tries text) kept = follows_fail h now tries text kept
  follows_step h (step.FailCheck now id text) kept = follows_check h now id text kept
  follows_step h (step.PutBack now id value broken) kept = follows_return h now id value broken kept
  follows_step h (step.Reap now) kept = follows_reap h now kept
  follows_step h step.TakeError kept = follows_take_error h kept
  follows_step h step.Close kept = follows_close h kept

  -- a core that shows h answers, and goes on, as the table says of the picture of h
  pub follows_there : (h : History T) (s : Step T) {core new : Picture T} {reply : SeenAnswer T} → IsKept h → core ≡ picture_of h → reply ≡ step_answer s core
      → new ≡ after_step s core → Follows h s reply new
  follows_there h s kept is answered went =
      let f = follows_step h s kept in
      record {
        answer_is = answered ∙ (ap (step_answer s) is ∙ f.answer_is);
        picture_is = went ∙ (ap (after_step s) is ∙ f.picture_is);
        kept = f.kept;
      }
