-- How an accepted step follows a history, and a refused one.
use Rattle.std.proofs.Common.{◌≡◌, Some, None, sym, ◌∙◌, ap, subst}
use Rattle.std.specs.Prelude.{if◌then◌else◌, is_some}
use Rattle.pool_machine.specs.declared.step.Step.{Step}
use Rattle.pool_machine.specs.declared.machine.answers.Refusal.{Refusal}
use Rattle.pool_machine.specs.Picture.{Picture}
use Rattle.pool_machine.specs.Seen.{SeenAnswer}
use Rattle.r2d2_core.specs.History.{History, Then, moment_of}
use Rattle.r2d2_core.specs.Answers.{refusal_of, reply_at, orders_of, after, picture_of}
use Rattle.r2d2_core.proofs.Histories.Kept.{IsKept, Follows}
use Rattle.r2d2_core.proofs.Histories.Orders.{accepted_with}

module _ {T : Type 0} where
  -- nothing refuses the step
  pub follows_accepted : (h : History T) (s : Step T) (reply : SeenAnswer T) (new : Picture T) → refusal_of h s ≡ None
      → reply ≡ accepted_with h (orders_of h s) s → new ≡ picture_of (Then h s (accepted_with h (orders_of h s) s))
      → IsKept (Then h s (accepted_with h (orders_of h s) s)) → Follows h s reply new
  follows_accepted h s reply new none is picture kept =
      let next : after h s ≡ Then h s (accepted_with h (orders_of h s) s) = ap
      (λ o. if is_some o then h else Then h s (reply_at h o (moment_of h s) (orders_of h s) s)) none in
      record {
        answer_is = is ∙ sym (ap (λ o. reply_at h o (moment_of h s) (orders_of h s) s) none);
        picture_is = picture ∙ ap picture_of (sym next);
        kept = subst IsKept (sym next) kept;
      }

  -- something does
  pub follows_refused : (h : History T) (s : Step T) (reply : SeenAnswer T) (new : Picture T) (why : Refusal) → refusal_of h s ≡ Some why
      → reply ≡ reply_at h (Some why) (moment_of h s) (orders_of h s) s → new ≡ picture_of h → IsKept h → Follows h s reply new
  follows_refused h s reply new why some is picture kept =
      let next : after h s ≡ h = ap (λ o. if is_some o then h else Then h s (reply_at h o (moment_of h s) (orders_of h s) s)) some in
      record {
        answer_is = is ∙ sym (ap (λ o. reply_at h o (moment_of h s) (orders_of h s) s) some);
        picture_is = picture ∙ ap picture_of (sym next);
        kept = subst IsKept (sym next) kept;
      }
