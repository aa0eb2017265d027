-- What the calls of tasks add to the history of the line keeps it one.
use Rattle.std.proofs.Common.{◌≡◌, ℕ, zero, suc, Bool, true, false, List, ◌∷◌, Option, Some, None, IsSome, refl, sym, ◌∙◌, ap, subst}
use Rattle.std.specs.Prelude.{IfSome, Vec, is_some}
use Rattle.std.specs.declared.time.Duration.{Duration}
use Rattle.futures.specs.declared.task.Poll.{Poll}
use Rattle.futures.specs.declared.task.Poll.TheVariants.{Ready, Pending}
use Rattle.futures.specs.declared.task.waker.Waker.{Waker}
use Rattle.pool_state.specs.declared.line.place.Place.{Place}
use Rattle.pool_state.specs.declared.line.place.Standing.TheVariants.{Aside}
use Rattle.pool_state.specs.Waiting.{first_late, first_quiet, passed_by, passed_late, told_first, told_instead, with_standing}
use Rattle.pool_state.specs.Lined.{told_looked}
use Rattle.pool_state.specs.Order.{Event, Passed, IsHistoryOf, IsPlaceIn, with_told, with_wait, with_pass, with_look}
use Rattle.pool_state.proofs.Order.{was_told, passed, late_in}
use Rattle.pool_state.proofs.Loops.{tell_nobody}
use Rattle.pool_tasks.specs.declared.task_book.Looked.{Looked}
use Rattle.pool_tasks.specs.Wakers.{waker_at}
use Rattle.pool_tasks.specs.History.{is_asleep, with_poll, with_all_late}
use Rattle.pool_tasks.proofs.Awake.{look_tells_nobody}

-- THOSE WHO ARE LATE
told_next : (h : List Event) (o : Option ℕ) (ps : List Place) → first_quiet ps ≡ o → IsHistoryOf h ps → IsHistoryOf (with_told o h) (told_first ps)
told_next h None ps e is = subst (IsHistoryOf h) (sym (tell_nobody ps e)) is
told_next h (Some s) ps e is = was_told h s ps e is

one_late : (h : List Event) (o : Option ℕ) (t : ℕ) (ends : List Duration) (ps : List Place) → first_late t ends ps ≡ o → IsHistoryOf h ps
    → IsHistoryOf (with_told (told_instead o ps) (with_pass o h)) (passed_by o ps)
one_late h None t ends ps e is = is
one_late h (Some s) t ends ps e is =
    let qs = with_standing s Aside ps in
    told_next (Passed s ∷ h) (first_quiet qs) qs refl (passed h s ps (late_in h t s ends ps e is) is)

pub all_late : (n t : ℕ) (ends : List Duration) (ps : List Place) (h : List Event) → IsHistoryOf h ps → IsHistoryOf (with_all_late n t ends ps h) (passed_late n t ends ps)
all_late zero t ends ps h is = is
all_late (suc n) t ends ps h is =
    let qs = passed_late n t ends ps in
    one_late (with_all_late n t ends ps h) (first_late t ends qs) t ends qs refl (all_late n t ends ps h is)

pub all_late_of : (n t : ℕ) (ends : List Duration) (ps qs : List Place) → qs ≡ passed_late n t ends ps
    → (h : List Event) → IsHistoryOf h ps → IsHistoryOf (with_all_late n t ends ps h) qs
all_late_of n t ends ps qs line h is = subst (IsHistoryOf (with_all_late n t ends ps h)) (sym line) (all_late n t ends ps h is)

-- WHO IS TOLD
pub told_by_step : (o t : Option ℕ) (ps qs : List Place) → o ≡ t → ((h : List Event) → IsHistoryOf h ps → IsHistoryOf (with_told o h) qs)
    → (h : List Event) → IsHistoryOf h ps → IsHistoryOf (with_told t h) qs
told_by_step o t ps qs same step h is = subst (λ v. IsHistoryOf (with_told v h) qs) same (step h is)

-- A POLL
module _ {A : Type 0} where
  pub awake_at : (wakers : Vec (Option Waker) A) (o : Option ℕ) → IfSome o (λ s. waker_at wakers s ≡ None) → is_asleep wakers o ≡ false
  awake_at wakers None awake = refl
  awake_at wakers (Some s) awake = ap is_some awake

module _ {T : Type 0} where
  -- one looked in vain, and waits
  pub waited : (r : Poll (Looked T)) (asleep keeps : Bool) (o q : Option ℕ) (idle : ℕ) (t : Option ℕ) (ps qs rs : List Place) → r ≡ Pending → asleep ≡ false
      → rs ≡ qs → ((h : List Event) → IsHistoryOf h ps → IsPlaceIn h o → IsHistoryOf (with_wait o q h) qs)
      → (h : List Event) → IsHistoryOf h ps → IsPlaceIn h o → IsHistoryOf (with_poll r asleep keeps o q idle t h) rs
  waited r asleep keeps o q idle t ps qs rs pending awake same look h is stands =
      subst (λ (v : Poll (Looked T)). IsHistoryOf (with_poll v asleep keeps o q idle t h) rs) (sym pending)
      (subst (λ b. IsHistoryOf (with_poll {T = T} Pending b keeps o q idle t h) rs) (sym awake)
      (subst (IsHistoryOf (with_wait o q h)) (sym same) (look h is stands)))

-- a look tells nobody
pub looked_history : (found is_so keeps : Bool) (o q t : Option ℕ) (idle : ℕ) (ps qs : List Place) → found ≡ is_so → t ≡ told_looked found keeps o ps
    → ((h : List Event) → IsHistoryOf h ps → IsPlaceIn h o → IsHistoryOf (with_told t (with_look found keeps o q idle h)) qs)
    → (h : List Event) → IsHistoryOf h ps → IsPlaceIn h o → IsHistoryOf (with_look is_so keeps o q idle h) qs
looked_history found is_so keeps o q t idle ps qs same told look h is stands =
    subst (λ b. IsHistoryOf (with_look b keeps o q idle h) qs) same
    (subst (λ v. IsHistoryOf (with_told v (with_look found keeps o q idle h)) qs) (told ∙ look_tells_nobody found keeps o ps) (look h is stands))
