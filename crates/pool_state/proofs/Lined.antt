-- What a step of the book does to the number of idle connections, beside whom it wakes.
use Rattle.std.proofs.Common.{◌≡◌, ℕ, ◌+◌, ◌*◌, ◌<◌, ◌≤◌, Bool, true, false, cond, List, [], ◌∷◌, length, filter, Option, Some, None, Result, refl, sym, ◌∙◌, ap, subst, arith}
use Rattle.std.specs.declared.time.Duration.{Duration}
use Rattle.std.specs.Duration.{as_nanos}
use Rattle.std.proofs.lemmas.List.{length_push}
use Rattle.std.specs.Prelude.{String}
use Rattle.pool_machine.specs.declared.schedule.Job.{Job}
use Rattle.pool_machine.specs.declared.machine.answers.Refusal.{Refusal}
use Rattle.pool_machine.specs.declared.machine.answers.Returned.{Returned}
use Rattle.pool_machine.specs.declared.machine.answers.Released.{Released}
use Rattle.pool_machine.specs.declared.machine.answers.Take.{Take}
use Rattle.pool_machine.specs.declared.machine.answers.Take.TheVariants as take
use Rattle.pool_machine.specs.Connections.{SeenIdleConnection, is_kept, idle_connection, lent_connection}
use Rattle.pool_machine.specs.Refusals.{ok_or_back, unless_refused}
use Rattle.pool_machine.specs.OnOrder.{admit_refusal, fail_refusal}
use Rattle.pool_machine.specs.Picture.{Picture}
use Rattle.pool_machine.specs.Seen.{take_with, seen_take, seen_returned, map_ok}
use Rattle.pool_machine.specs.Table as table
use Rattle.pool_machine.specs.CoreSteps as core
use Rattle.pool_machine.proofs.Lists.Lending.{none_is_next, length-still_idle}
use Rattle.pool_state.specs.declared.engine.Wakes.{Wakes}
use Rattle.pool_state.specs.declared.engine.Outcome.{Outcome}
use Rattle.pool_state.specs.declared.engine.Outcome.TheVariants as outcome
use Rattle.pool_state.specs.declared.engine.Settled.{Settled}
use Rattle.pool_state.specs.declared.line.place.Place.{Place}
use Rattle.pool_state.specs.Counted.{found_by}
use Rattle.pool_state.specs.Wakes.{wakes_of_return}
use Rattle.pool_state.specs.Settled.{seen_settled, settle_answer, after_settle, wakes_of_settled, settled_admission}
use Rattle.pool_state.specs.declared.line.place.Standing.TheVariants.{Aside}
use Rattle.pool_state.specs.Waiting.{AreTold, told_if, told_at, without, with_standing}
use Rattle.pool_state.proofs.Waiting.{told_ahead-tell, waiting_in-tell, kept_served, kept_left_told, kept_left}

-- those who wait stay told, where at most one connection more is idle, and then one more is told
pub one_told : (grown : Bool) (before after : ℕ) (ps : List Place) → AreTold before ps → after ≤ before + cond grown 1 0 → AreTold after (told_if grown ps)
one_told true before after ps told more = omega (arith, told, more, told_ahead-tell ps, waiting_in-tell ps)
one_told false before after ps told more = omega (arith, told, more)

pub still_told : (before after : ℕ) (ps : List Place) → AreTold before ps → after ≤ before → AreTold after ps
still_told before after ps told less = omega (arith, told, less)

pub one_less_served : (before after s : ℕ) (ps : List Place) → AreTold before ps → before ≡ after + 1 → AreTold after (with_standing s Aside ps)
one_less_served before after s ps told one = omega (arith, one, kept_served before s ps told)

left_by : (was_told : Bool) (idle s : ℕ) (ps : List Place) → told_at s ps ≡ was_told → AreTold idle ps → AreTold idle (told_if was_told (without s ps))
left_by true idle s ps e told = kept_left_told idle s ps e told
left_by false idle s ps e told = kept_left idle s ps e told

-- one leaves, and the next is told where it was
pub left_told : (idle s : ℕ) (ps : List Place) → AreTold idle ps → AreTold idle (told_if (told_at s ps) (without s ps))
left_told idle s ps told = left_by (told_at s ps) idle s ps refl told

pub none_counted : (before after found per_take : ℕ) → after ≡ before + found * per_take → found ≡ 0 → after ≡ before
none_counted before after found per_take e none = e ∙ (ap (λ n. before + n * per_take) none ∙ omega arith)

fewer : {X : Type 0} (f : X → Bool) (xs : List X) → length (filter f xs) ≤ length xs
fewer f [] = omega arith
fewer f (x ∷ xs) = grind (arith, fewer f xs)

not_both : ◌≡◌ {A = ℕ} 0 1 → ⊥
not_both e = cc

module _ {T : Type 0} where
  -- A RETURN
  returned_by : (r : Option Refusal) (closing : Bool) (id birth : ℕ) (value : T) (p : Picture T) (q : Picture T) → p.idle ≡ q.idle
      → length (unless_refused r (table.returned_by closing id birth value p) q).idle
      ≤ length q.idle + cond (wakes_of_return (ok_or_back r value (table.return_by closing id birth value p))).caller 1 0
  returned_by (Some why) closing id birth value p q same = omega arith
  returned_by None true id birth value p q same = omega (arith, ap length same)
  returned_by None false id birth value p q same = omega (arith, ap length same, length_push p.idle (idle_connection id birth p.latest value))

  pub one_returned : (now : Duration) (id : ℕ) (value : T) (broken : Bool) (result : Result (Returned T) (Refusal × T)) (old new : Picture T) (w : Wakes)
      → core.IsReturn now id value broken result old new → w ≡ wakes_of_return (map_ok seen_returned result)
      → length new.idle ≤ length old.idle + cond w.caller 1 0
  one_returned now id value broken result old new w step woken =
      let t : ℕ = as_nanos now in
      let p : Picture T = table.raised_to t old in
      let birth : ℕ = table.lent_birth id old in
      let same : w ≡ wakes_of_return (table.return_answer t id value broken old) = woken ∙ ap wakes_of_return step.answer in
      omega (
        arith,
        ap (λ (s : Picture T). length s.idle) step.after,
        ap {B = ℕ} (λ (v : Wakes). cond v.caller 1 0) same,
        returned_by (table.lent_refusal id old) (table.is_closing birth broken p) id birth value p old refl,
      )

  -- AN OUTCOME
  admitted_by : (r : Option Refusal) (m id : ℕ) (value : T) (p : Picture T)
      → length (unless_refused r (table.admitted_at m id value p) p).idle
      ≤ length p.idle + cond (wakes_of_settled (settled_admission (ok_or_back r value tt))).caller 1 0
  admitted_by (Some why) m id value p = omega arith
  admitted_by None m id value p = omega (arith, length_push p.idle (idle_connection id m m value))

  failed_by : (r : Option Refusal) (p q : Picture T) → q.idle ≡ p.idle → length (unless_refused r q p).idle ≡ length p.idle
  failed_by (Some why) p q same = refl
  failed_by None p q same = ap length same

  settled_by : (t : ℕ) (o : Outcome T) (p : Picture T)
      → length (after_settle t o p).idle ≤ length p.idle + cond (wakes_of_settled (settle_answer t o p)).caller 1 0
  settled_by t (outcome.Opened id value) p = admitted_by (admit_refusal id p.on_order) _ id value p
  settled_by t (outcome.Failed tries text) p = omega (arith, failed_by (fail_refusal tries p.on_order) p (table.failed t tries text p) refl)
  settled_by t (outcome.Unsound id text) p = omega (
    arith,
    failed_by (table.lent_refusal id p) p
        (table.topped_up (table.gone_one id (table.with_text text (table.raised_to t p)))) refl,
  )

  pub one_settled : (now : Duration) (o : Outcome T) (result : Settled T) (old new : Picture T) (w : Wakes)
      → seen_settled result ≡ settle_answer (as_nanos now) o old → new ≡ after_settle (as_nanos now) o old
      → w ≡ wakes_of_settled (seen_settled result) → length new.idle ≤ length old.idle + cond w.caller 1 0
  one_settled now o result old new w answer after woken =
      let same : w ≡ wakes_of_settled (settle_answer (as_nanos now) o old) = woken ∙ ap wakes_of_settled answer in
      omega (arith, ap (λ (s : Picture T). length s.idle) after, ap {B = ℕ} (λ (v : Wakes). cond v.caller 1 0) same, settled_by (as_nanos now) o old)

  -- A REAP
  pub none_more_reaped : (now : Duration) (out : List (Released T)) (n : ℕ) (old new : Picture T) (grown : Bool) → core.IsReap now out n old new
      → length new.idle ≤ length old.idle + cond grown 1 0
  none_more_reaped now out n old new grown step =
      let p : Picture T = table.raised_to (as_nanos now) old in
      omega (arith, ap (λ (s : Picture T). length s.idle) step.after, fewer (is_kept p.on_order.limits p.latest) old.idle)

  -- STEPS THAT LEAVE WHAT IS IDLE
  pub none_more_begun : (now : Duration) (job : Job) (old new : Picture T) → core.IsBegin now job old new → length new.idle ≤ length old.idle
  none_more_begun now job old new step = omega (arith, ap (λ (s : Picture T). length s.idle) step.after)

  pub none_more_numbered : (tries : ℕ) (result : Result ℕ Refusal) (old new : Picture T) → core.IsNumbering tries result old new
      → length new.idle ≤ length old.idle
  none_more_numbered tries result old new step = omega (arith, ap (λ (s : Picture T). length s.idle) step.after)

  pub none_more_told : {A : Type 0} (text : Option (String A)) (old new : Picture T) → core.IsTelling text old new → length new.idle ≤ length old.idle
  none_more_told text old new step = omega (arith, ap (λ (s : Picture T). length s.idle) step.after)

  pub none_more_closed : (left : List (ℕ × T)) (old new : Picture T) → core.IsClose left old new → length new.idle ≤ length old.idle
  none_more_closed left old new step = omega (arith, ap (λ (s : Picture T). length s.idle) step.after)

  -- A TAKE
  taken_by : (n : Option (SeenIdleConnection T)) (or_order : Bool) (orders : ℕ) (p : Picture T) → table.next_of p ≡ n
      → length p.idle ≡ length (table.taken n or_order p).idle + found_by (take_with n orders)
  taken_by None or_order orders p e = omega arith
  taken_by (Some c) or_order orders p e = omega (arith, length-still_idle p.on_order.limits.order p.idle c e)

  -- of a take that found, one less is idle
  pub one_taken : (now : Duration) (or_order : Bool) (result : Take T) (old new : Picture T) → core.IsTake now or_order result old new
      → length old.idle ≡ length new.idle + found_by (seen_take result)
  one_taken now or_order result old new step =
      let p : Picture T = table.raised_to (as_nanos now) old in
      omega (
        arith,
        ap (λ (s : Picture T). length s.idle) step.after,
        ap found_by step.answer,
        taken_by (table.next_of old) or_order (table.take_orders (table.next_of old) or_order old) p refl,
      )

  found_by_some : (n : Option (SeenIdleConnection T)) (m : ℕ) (p : Picture T) → table.next_of p ≡ n → 0 < length p.idle → found_by (take_with n m) ≡ 1
  found_by_some None m p e some = absurd (omega (arith, some, ap length (none_is_next p.on_order.limits.order p.idle e)))
  found_by_some (Some c) m p e some = refl

  -- where something is idle, a take finds
  pub found_where_idle : (now : Duration) (or_order : Bool) (result : Take T) (old new : Picture T) → core.IsTake now or_order result old new
      → 0 < length old.idle → found_by (seen_take result) ≡ 1
  found_where_idle now or_order result old new step some =
      ap found_by step.answer ∙ found_by_some (table.next_of old) _ old refl some

  pub one_found : (now : Duration) (or_order : Bool) (result : Take T) (old new : Picture T) → core.IsTake now or_order result old new
      → 0 < length old.idle → length old.idle ≡ length new.idle + 1
  one_found now or_order result old new step some =
      omega (arith, one_taken now or_order result old new step, found_where_idle now or_order result old new step some)

  taken_lent : (n : Option (SeenIdleConnection T)) (m : ℕ) (p q : Picture T) → p.lent ≡ q.lent → found_by (take_with n m) ≡ 1
      → length q.lent + 1 ≤ length (table.taken n false p).lent
  taken_lent None m p q same found = absurd (not_both found)
  taken_lent (Some c) m p q same found = omega (arith, ap length same, length_push p.lent (lent_connection c.id c.birth))

  -- and one more is lent
  pub one_lent : (now : Duration) (result : Take T) (old new : Picture T) → core.IsTake now false result old new → 0 < length old.idle
      → length old.lent + 1 ≤ length new.lent
  one_lent now result old new step some =
      subst (λ (q : Picture T). length old.lent + 1 ≤ length q.lent) (sym step.after)
      (taken_lent (table.next_of old) _ (table.raised_to (as_nanos now) old) old refl (sym (ap found_by step.answer) ∙ found_where_idle now false result old new step some))

  pub never_empty : (now : Duration) (result : Take T) (old new : Picture T) (n : ℕ) → core.IsTake now false result old new → 0 < length old.idle
      → result ≡ take.Empty n → ⊥
  never_empty now result old new n step some is =
      not_both (sym (ap (λ (r : Take T). found_by (seen_take r)) is) ∙ found_where_idle now false result old new step some)
