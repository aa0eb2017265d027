-- A taking of the last error follows the history.
use Rattle.std.proofs.Common.{◌≡◌, refl, sym, subst, arith}
use Rattle.pool_machine.specs.declared.step.Step.TheVariants as step
use Rattle.pool_machine.specs.Seen.{SeenAnswer, TakeError}
use Rattle.pool_machine.specs.Picture.{IsSound}
use Rattle.pool_machine.specs.Table.{after_take_error}
use Rattle.r2d2_core.specs.History.{History, Then}
use Rattle.r2d2_core.specs.Answers.{last_error_of, picture_of}
use Rattle.r2d2_core.proofs.Histories.Kept.{IsKept, Follows}
use Rattle.r2d2_core.proofs.Histories.Counts.{none_admitted, none_gone, connections_of-same}
use Rattle.r2d2_core.proofs.Histories.Deeds.{idle_of-none, lent_of-none}
use Rattle.r2d2_core.proofs.Histories.Orders.{IsOrdering, picture_of-unordered, kept_ordered}
use Rattle.r2d2_core.proofs.Histories.Following.{follows_accepted}
use Rattle.pool_machine.proofs.Facts.Sounds.{sound_take_error}

module _ {T : Type 0} where
  ordering_take_error : (h : History T) → IsOrdering h step.TakeError (TakeError (last_error_of h))
  ordering_take_error h = record {
    closed = refl;
    scheduled = refl;
    begun = λ k. refl;
    ended = λ k. refl;
    ids = refl;
    admitted = λ i. refl;
    count = none_admitted h step.TakeError (TakeError (last_error_of h)) refl;
    reaps = refl;
  }

  picture_of-take_error : (h : History T) → IsKept h → picture_of (Then h step.TakeError (TakeError (last_error_of h))) ≡ after_take_error (picture_of h)
  unfolding picture_of
  picture_of-take_error h kept =
      let r : SeenAnswer T = TakeError (last_error_of h) in
      picture_of-unordered h step.TakeError r (after_take_error (picture_of h)) (ordering_take_error h) kept refl
      refl (idle_of-none h step.TakeError r refl (λ i. refl)) (lent_of-none h step.TakeError r refl (λ i. refl)) refl
      (connections_of-same h step.TakeError r refl refl) refl

  pub follows_take_error : (h : History T) → IsKept h → Follows h step.TakeError (TakeError (picture_of h).last_error) (after_take_error (picture_of h))
  unfolding picture_of
  follows_take_error h kept =
      let picture = picture_of-take_error h kept in
      follows_accepted h step.TakeError (TakeError (picture_of h).last_error) (after_take_error (picture_of h)) refl refl
      (sym picture)
      (kept_ordered h step.TakeError (TakeError (last_error_of h)) (ordering_take_error h) kept (subst IsSound (sym picture)
      (sound_take_error kept.sound))
      (omega (arith, kept.gone_were_admitted, none_gone h step.TakeError (TakeError (last_error_of h)) refl)))
