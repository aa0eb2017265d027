-- A history that was only made.
use Rattle.std.proofs.Common.{◌≡◌, ℕ, ◌+◌, ◌*◌, ◌≤◌, cond, Some, None, refl, sym, ap, subst, arith}
use Rattle.std.specs.Duration.{as_nanos}
use Rattle.pool_machine.specs.declared.schedule.limits.LimitSettings.{LimitSettings}
use Rattle.pool_machine.specs.Limits.{wanted_of, later_by, has_reaps}
use Rattle.pool_machine.specs.Picture.{IsSound}
use Rattle.pool_machine.specs.Table.{first_picture}
use Rattle.r2d2_core.specs.History.{History, Made}
use Rattle.r2d2_core.specs.Deeds.{idle_of, lent_of, connections_of}
use Rattle.r2d2_core.specs.Pending.{pending_of, in_work_at, in_work_of, next_id_of, numbered_of, next_reap_of, on_order_of}
use Rattle.r2d2_core.specs.Answers.{picture_of}
use Rattle.r2d2_core.proofs.Histories.Kept.{IsKept}
use Rattle.r2d2_core.proofs.Histories.Orders.{same_on_order, picture_of-is}
use Rattle.pool_machine.proofs.Facts.Sounds.{sound_first}

module _ {T : Type 0} where
  pub picture_of-made : (limits : LimitSettings) (moment first : ℕ) → picture_of {T = T} (Made limits moment first) ≡ first_picture limits moment first
  unfolding on_order_of idle_of lent_of connections_of pending_of in_work_of in_work_at next_id_of numbered_of next_reap_of
  picture_of-made limits moment first =
      let h : History T = Made limits moment first in
      let once : as_nanos limits.reap_every * (1 + 0) ≡ as_nanos limits.reap_every = omega arith in
      picture_of-is h (first_picture limits moment first) refl refl refl
      (same_on_order (on_order_of h) refl refl refl
      (ap (λ n. cond (has_reaps limits) (Some (later_by moment n)) None) once)
      (omega arith) (omega arith) refl)
      refl refl

  -- what keeps with each step holds at the start
  pub kept_made : (limits : LimitSettings) (moment first : ℕ) → wanted_of limits ≤ limits.max_size → IsKept {T = T} (Made limits moment first)
  unfolding next_id_of
  kept_made limits moment first legal = record {
    sound = subst IsSound (sym (picture_of-made limits moment first)) (sound_first limits moment first legal);
    gone_were_admitted = omega arith;
    admitted_were_ordered = λ is_open. omega arith;
    ended_were_begun = λ k. omega arith;
    few_tries = λ k few. refl;
    none_admitted_ahead = λ i ahead. refl;
  }
