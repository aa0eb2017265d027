-- Which steps are refused, what each step answers, and what a core shows.
use Rattle.std.specs.Prelude.{ℕ, ◌+◌, ◌-◌, min, ◌^◌, Bool, false, ◌==◌, ◌||◌, not, nat_lt}
use Rattle.std.specs.Prelude.{if◌then◌else◌, List, [], ◌∷◌, map, length, Option, None, is_some}
use Rattle.std.specs.Prelude.{Ok}
use Rattle.std.specs.List.{list_any}
use Rattle.pool_machine.specs.declared.step.Step.{Step}
use Rattle.pool_machine.specs.declared.step.Step.TheVariants as step
use Rattle.pool_machine.specs.declared.machine.answers.Refusal.{Refusal}
use Rattle.pool_machine.specs.declared.machine.answers.Refusal.TheVariants as refusal
use Rattle.pool_machine.specs.Limits.{wanted_of, top_up, later_by, delay_of, has_reached}
use Rattle.pool_machine.specs.Sums.{FitsIn, IsReplenished}
use Rattle.pool_machine.specs.Lending.{next_to_lend}
use Rattle.pool_machine.specs.Connections.{closed_of, pair_of}
use Rattle.pool_machine.specs.Refusals.{refused_if, ok_unless, ok_or_back}
use Rattle.pool_machine.specs.Seen.{SeenAnswer, Taken, Found, Empty, Begun, Numbered, Admitted, Failed}
use Rattle.pool_machine.specs.Seen.{CheckFailed, PutBack, Kept, Closed, Reaped}
use Rattle.pool_machine.specs.Seen.{TakeError, Close}
use Rattle.pool_machine.specs.Picture.{Picture}
use Rattle.pool_machine.specs.Seen.{take_with}
use Rattle.pool_machine.specs.Seen.{or_text}
use Rattle.r2d2_core.specs.History.{History, Made, Then, limits_of, is_closed, now_of, moment_of}
use Rattle.r2d2_core.specs.Deeds.{connections_of, idle_of, lent_of, birth_of}
use Rattle.r2d2_core.specs.Pending.{pending_of, job_of, in_work_at, next_id_of, numbered_of}
use Rattle.r2d2_core.specs.Pending.{on_order_of}

module _ {T : Type 0} where
  -- REFUSALS

  abbrev pub is_lent : History T → ℕ → Bool
  is_lent h id = list_any (λ c. c.id == id) (lent_of h)

  abbrev pub is_numbered : History T → ℕ → Bool
  is_numbered h id = list_any (λ i. i == id) (numbered_of h)

  abbrev pub is_in_work : History T → ℕ → Bool
  is_in_work h tries = nat_lt 0 (in_work_at h tries)

  -- why a step after h is refused, if it is
  abbrev pub refusal_of : History T → Step T → Option Refusal
  refusal_of h (step.Number tries) =
      refused_if (is_closed h) refusal.Closed
      (refused_if (not (is_in_work h tries)) refusal.NoOpening
      (refused_if (next_id_of h == 2 ^ 64 - 1) refusal.IdsUsedUp None))
  refusal_of h (step.Admit now id value) =
      refused_if (is_closed h) refusal.Closed
      (refused_if (not (is_numbered h id)) refusal.NotNumbered None)
  refusal_of h (step.Fail now tries text) =
      refused_if (is_closed h) refusal.Closed
      (refused_if (not (is_in_work h tries)) refusal.NoOpening None)
  refusal_of h (step.FailCheck now id text) = refused_if (not (is_lent h id)) refusal.NotLent None
  refusal_of h (step.PutBack now id value broken) =
      refused_if (not (is_lent h id)) refusal.NotLent None
  refusal_of h _ = None

  -- THE LAST ERROR

  -- the latest text since the last admission or taking of it
  abbrev pub last_error_of : History T → Option (List ℕ)
  last_error_of (Made limits moment first) = None
  last_error_of (Then h (step.Admit now id value) r) = None
  last_error_of (Then h step.TakeError r) = None
  last_error_of (Then h (step.Fail now tries text) r) = or_text text (last_error_of h)
  last_error_of (Then h (step.FailCheck now id text) r) = or_text text (last_error_of h)
  last_error_of (Then h _ r) = last_error_of h

  -- ANSWERS

  -- how long ago an id was admitted
  abbrev pub age_of : History T → ℕ → ℕ → ℕ
  age_of h t id = t - birth_of h id

  -- one that comes back is closed where it is broken or too old, or the core is closed
  abbrev pub closes : History T → ℕ → ℕ → Bool → Bool
  closes h t id broken =
      broken || (has_reached (limits_of h).max_lifetime (age_of h t id) || is_closed h)

  -- the answer to a step at the raised moment t, where it orders n openings; or why it is refused,
  -- with its payload. The kinds that are never refused do not look at that
  abbrev pub reply_at : History T → Option Refusal → ℕ → ℕ → Step T → SeenAnswer T
  reply_at h why t n (step.Take now or_order) =
      Taken (take_with (next_to_lend (limits_of h).order (idle_of h)) n)
  reply_at h why t n (step.Begin now) = Begun (job_of h t)
  reply_at h why t n (step.Number tries) = Numbered (ok_unless why (next_id_of h))
  reply_at h why t n (step.Admit now id value) = Admitted (ok_or_back why value tt)
  reply_at h why t n (step.Fail now tries text) =
      Failed (ok_unless why (later_by t (delay_of (limits_of h) (tries + 1))))
  reply_at h why t n (step.FailCheck now id text) =
      CheckFailed (ok_unless why (record { age = age_of h t id; ordered = n }))
  reply_at h why t n (step.PutBack now id value broken) = PutBack (ok_or_back why value
      (if closes h t id broken then Closed value (age_of h t id) n else Kept))
  reply_at h why t n (step.Reap now) = Reaped (closed_of (limits_of h) t (idle_of h)) n
  reply_at h why t n step.TakeError = TakeError (last_error_of h)
  reply_at h why t n step.Close = Close (map pair_of (idle_of h))

  -- the same, with its own refusal and at its own raised moment
  abbrev pub reply_with : History T → ℕ → Step T → SeenAnswer T
  reply_with h n s = reply_at h (refusal_of h s) (moment_of h s) n s

  -- ORDERS

  -- what a top-up orders after a step, where there was no close
  abbrev pub top_up_after : History T → History T → ℕ
  top_up_after h after =
      top_up (limits_of h) false (length (idle_of after)) (connections_of after) (pending_of h)

  -- one where a miss asks for it, as far as there is room
  abbrev pub order_on_miss : History T → Bool → ℕ
  order_on_miss h or_order =
      if or_order then min 1 ((limits_of h).max_size - connections_of h - pending_of h) else 0

  -- how many openings a step with that answer orders, where after is h and the step
  abbrev pub orders_by : History T → History T → Step T → SeenAnswer T → ℕ
  orders_by h after s (Taken (Found id birth value n)) = top_up_after h after
  orders_by h after (step.Take now or_order) (Taken (Empty n)) = order_on_miss h or_order
  orders_by h after s (CheckFailed (Ok gone)) = top_up_after h after
  orders_by h after s (PutBack (Ok (Closed value age n))) = top_up_after h after
  orders_by h after s (Reaped closed n) = top_up_after h after
  orders_by h after s _ = 0

  -- how many openings a step orders. It is read off the history with the step, answered as if it
  -- ordered none: what is idle and connected after a step does not depend on the number that its
  -- answer names
  unfoldable pub orders_of : History T → Step T → ℕ
  orders_of h s =
      let r = reply_with h 0 s in
      if is_closed h then 0 else orders_by h (Then h s r) s r

  -- A STEP

  -- the answer to a step after h
  abbrev pub answer_of : History T → Step T → SeenAnswer T
  answer_of h s = reply_with h (orders_of h s) s

  -- the history with a step, if it is accepted
  abbrev pub after : History T → Step T → History T
  after h s = if is_some (refusal_of h s) then h else Then h s (answer_of h s)

  -- A LIST OF STEPS

  -- the answers, each after the accepted ones before it
  abbrev pub answers_of : History T → List (Step T) → List (SeenAnswer T)
  answers_of h [] = []
  answers_of h (s ∷ steps) = answer_of h s ∷ answers_of (after h s) steps

  -- the history with the accepted ones
  abbrev pub after_all : History T → List (Step T) → History T
  after_all h [] = h
  after_all h (s ∷ steps) = after_all (after h s) steps

  -- THE PICTURE

  unfoldable pub picture_of : History T → Picture T
  picture_of h = record {
    latest = now_of h;
    idle = idle_of h;
    lent = lent_of h;
    on_order = on_order_of h;
    connections = connections_of h;
    last_error = last_error_of h;
  }

  -- THE TWO SUMS

  -- what the steps of a history come to keeps both
  pub record HasSums (h : History T) : Type 0 where
    pub fits : FitsIn (limits_of h).max_size (connections_of h) (pending_of h)
    pub replenished : IsReplenished (wanted_of (limits_of h)) (limits_of h).max_size
        (length (idle_of h)) (connections_of h) (pending_of h) (is_closed h)
