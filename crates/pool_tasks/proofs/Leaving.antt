-- How a check or an opening that was given up is settled, and whom that tells.
use Rattle.std.proofs.Common.{◌≡◌, ◌≢◌, ◌<◌, ℕ, Bool, true, false, List, Option, Some, None, Result, Ok, Err, refl, sym, ◌∙◌, ap, subst, arith}
use Rattle.std.specs.Prelude.{IfSome, IsTrue, is_some, nat_lt}
use Rattle.std.proofs.lemmas.Bool.Decides.{nat_tests}
use Rattle.pool_machine.specs.declared.machine.answers.Refusal.{Refusal}
use Rattle.pool_machine.specs.Seen.{SeenGone}
use Rattle.pool_state.specs.declared.engine.Settled.{Settled}
use Rattle.pool_state.specs.declared.engine.Settled.TheVariants as settled
use Rattle.pool_state.specs.declared.line.place.Place.{Place}
use Rattle.pool_state.specs.Settled.{seen_settled, settled_check, settled_failure, wakes_of_settled}
use Rattle.pool_state.specs.Waiting.{told_if, slot_if, told_by, left_by}
use Rattle.pool_state.specs.Order.{Event, IsHistoryOf, with_told, with_leave}
use Rattle.pool_tasks.specs.Leaving.{gone_in, without_caller, told_without}

module _ {T : Type 0} where
  pub check_tells : (s : Settled T) (a : Result SeenGone Refusal) → seen_settled s ≡ settled_check a → (let w = wakes_of_settled (seen_settled s) in w.caller) ≡ is_some (gone_in s)
  check_tells settled.Admitted (Ok gone) e = absurd cc
  check_tells settled.Admitted (Err why) e = absurd cc
  check_tells (settled.Retry due) (Ok gone) e = absurd cc
  check_tells (settled.Retry due) (Err why) e = absurd cc
  check_tells (settled.Gone gone) a e = refl
  check_tells (settled.Refused why back) a e = refl

  pub failure_tells_nobody : (s : Settled T) (a : Result ℕ Refusal) → seen_settled s ≡ settled_failure a → (let w = wakes_of_settled (seen_settled s) in w.caller) ≡ false
  failure_tells_nobody settled.Admitted (Ok due) e = absurd cc
  failure_tells_nobody settled.Admitted (Err why) e = absurd cc
  failure_tells_nobody (settled.Retry due) a e = refl
  failure_tells_nobody (settled.Gone gone) (Ok due) e = absurd cc
  failure_tells_nobody (settled.Gone gone) (Err why) e = absurd cc
  failure_tells_nobody (settled.Refused why back) a e = refl

  pub loss_wakes : (W : Type 0) (s : Settled T) → ((let w = wakes_of_settled (seen_settled s) in w.workers) ≡ true → W)
      → IfSome (gone_in s) (λ gone. 0 < gone.ordered → W)
  loss_wakes W settled.Admitted woken = tt
  loss_wakes W (settled.Retry due) woken = tt
  loss_wakes W (settled.Gone gone) woken = λ some. woken (grind (arith, nat_tests))
  loss_wakes W (settled.Refused why back) woken = tt

-- one leaves after the other was told
pub left_line : (place : Option ℕ) (went : Bool) (ps qs rs : List Place) → qs ≡ told_if went ps → rs ≡ left_by place qs → rs ≡ without_caller went place ps
left_line place went ps qs rs told left = left ∙ ap (left_by place) told

pub left_history : (place : Option ℕ) (went : Bool) (ps qs rs : List Place) → qs ≡ told_if went ps
    → ((h : List Event) → IsHistoryOf h ps → IsHistoryOf (with_told (slot_if went ps) h) qs)
    → ((h : List Event) → IsHistoryOf h qs → IsHistoryOf (with_told (told_by place qs) (with_leave place h)) rs)
    → (h : List Event) → IsHistoryOf h ps → IsHistoryOf (with_told (told_without went place ps) (with_leave place (with_told (slot_if went ps) h))) rs
left_history place went ps qs rs line told left h is =
    subst (λ v. IsHistoryOf (with_told (told_by place v) (with_leave place (with_told (slot_if went ps) h))) rs) line (left (with_told (slot_if went ps) h) (told h is))
