-- A worker's asking what to do follows the history.
use Rattle.std.proofs.Common.{◌≡◌, ℕ, ◌+◌, ◌*◌, ◌≤◌, Bool, true, false, cond, Some, None, refl, sym, ◌∙◌, ap, subst, arith}
use Rattle.std.specs.Prelude.{◌==◌, ◌&&◌, not}
use Rattle.std.specs.Duration.{as_nanos}
use Rattle.std.specs.declared.time.Duration.{Duration}
use Rattle.std.proofs.lemmas.Bool.{ne_eqb}
use Rattle.pool_machine.specs.declared.step.Step.TheVariants as step
use Rattle.pool_machine.specs.Limits.{later_by, has_reaps}
use Rattle.pool_machine.specs.Jobs.{SeenJob, Open, Reap, Wait, Nothing, Closed, first_job}
use Rattle.pool_machine.specs.Schedule.{next_by}
use Rattle.pool_machine.specs.Seen.{Begun}
use Rattle.pool_machine.specs.OnOrder.{begun_by}
use Rattle.pool_machine.specs.Picture.{IsSound}
use Rattle.pool_machine.specs.Table.{raised_to, with_on_order, begin_answer, after_begin}
use Rattle.r2d2_core.specs.History.{History, Then, limits_of, start_of, is_closed, moment_of}
use Rattle.r2d2_core.specs.Deeds.{admitted_count}
use Rattle.r2d2_core.proofs.Histories.Kept.{gone_count}
use Rattle.r2d2_core.specs.Pending.{begun_of, scheduled_of, next_id_of, numbered_of, reaps_of, next_reap_of, job_of, on_order_of}
use Rattle.r2d2_core.specs.Answers.{picture_of}
use Rattle.r2d2_core.proofs.Histories.Kept.{IsKept, Follows}
use Rattle.r2d2_core.proofs.Histories.Counts.{none_admitted, none_gone, connections_of-same}
use Rattle.r2d2_core.proofs.Histories.Deeds.{idle_of-none, lent_of-none}
use Rattle.pool_machine.proofs.Facts.Accounted.{begins_within}
use Rattle.r2d2_core.proofs.Histories.InWork.{in_work_of-one_more}
use Rattle.r2d2_core.proofs.Histories.Orders.{IsOrdering, same_on_order, picture_of-is, picture_of-unordered, pending_of-same, in_work_of-same}
use Rattle.r2d2_core.proofs.Histories.Orders.{next_reap_of-same, kept_ordered}
use Rattle.r2d2_core.proofs.Histories.Following.{follows_accepted}
use Rattle.pool_machine.proofs.Facts.Sounds.{sound_begin}

-- the next reap is one more length after the making
next_by-later : (start every n : ℕ) → later_by (later_by start (every * (1 + n))) every ≡ later_by start (every * (1 + (n + 1)))
next_by-later start every n = let more : every * (1 + (n + 1)) ≡ every * (1 + n) + every = omega arith in omega (arith, more)

next_by-reap : (b : Bool) (start every n : ℕ) → cond b (Some (later_by start (every * (1 + (n + 1))))) None ≡ next_by every
    (cond b (Some (later_by start (every * (1 + n)))) None)
next_by-reap true start every n = ap Some (sym (next_by-later start every n))
next_by-reap false start every n = refl

-- what opens is open
opens_open : (closed : Bool) (k : ℕ) (task : SeenJob) → cond closed Closed task ≡ Open k → (closed ≡ false) × (Open k ≡ task)
opens_open true k task e = absurd cc
opens_open false k task e = (refl, sym e)

-- none is begun with more tries
begun_few : (tries k n : ℕ) → tries ≤ 99 → 100 ≤ k → n ≡ 0 → n + cond (tries == k) 1 0 ≡ 0
begun_few tries k n few many none = let other : (tries == k) ≡ false = ne_eqb tries k (λ e. absurd (omega arith)) in ap (λ b. n + cond b 1 0) other
    ∙ omega (arith, none)

module _ {T : Type 0} where
  next_reap_of-reap : (h : History T) (now : Duration) → next_reap_of (Then h (step.Begin now) (Begun Reap)) ≡ next_by (as_nanos (limits_of h).reap_every)
      (next_reap_of h)
  unfolding next_reap_of
  next_reap_of-reap h now = next_by-reap (not (is_closed h) && has_reaps (limits_of h)) (start_of h) (as_nanos (limits_of h).reap_every) (reaps_of h)

  -- what waits, and what has nothing to do, changes nothing
  waiting : (h : History T) (now : Duration) (due : ℕ) → IsOrdering h (step.Begin now) (Begun (Wait due))
  waiting h now due = record {
    closed = refl;
    scheduled = refl;
    begun = λ k. refl;
    ended = λ k. refl;
    ids = refl;
    admitted = λ i. refl;
    count = none_admitted h (step.Begin now) (Begun (Wait due)) refl;
    reaps = refl;
  }

  idling : (h : History T) (now : Duration) → IsOrdering h (step.Begin now) (Begun Nothing)
  idling h now = record { closed = refl; scheduled = refl; begun = λ k. refl; ended = λ k. refl; ids = refl; admitted = λ i. refl; count = none_admitted h (step.Begin now) (Begun Nothing) refl; reaps = refl }

  ending : (h : History T) (now : Duration) → IsOrdering h (step.Begin now) (Begun Closed)
  ending h now = record { closed = refl; scheduled = refl; begun = λ k. refl; ended = λ k. refl; ids = refl; admitted = λ i. refl; count = none_admitted h (step.Begin now) (Begun Closed) refl; reaps = refl }

  picture_of-begin : (h : History T) (now : Duration) (task : SeenJob) → job_of h (moment_of h (step.Begin now)) ≡ task → IsKept h
      → picture_of (Then h (step.Begin now) (Begun task)) ≡ with_on_order (begun_by task (on_order_of h)) (raised_to (as_nanos now) (picture_of h))
  unfolding picture_of on_order_of numbered_of next_id_of
  picture_of-begin h now (Open tries) e kept =
      let s = step.Begin now in
      let r = Begun (Open tries) in
      let opens = opens_open (is_closed h) tries (first_job (moment_of h s) (scheduled_of h) (next_reap_of h)) e in
      picture_of-is (Then h s r) (with_on_order (begun_by (Open tries) (on_order_of h)) (raised_to (as_nanos now) (picture_of h))) refl
      (idle_of-none h s r refl (λ i. refl)) (lent_of-none h s r refl (λ i. refl))
      (same_on_order (on_order_of h) refl
      (in_work_of-one_more h (Then h s r) tries opens.0 refl (kept.ended_were_begun tries) (λ k. refl) (λ k. refl))
      refl (next_reap_of-same h s r refl refl) refl (pending_of-same h s r refl refl (none_admitted h s r refl)) refl)
      (connections_of-same h s r refl refl) refl
  picture_of-begin h now Reap e kept =
      let s = step.Begin now in
      let r = Begun Reap in
      picture_of-is (Then h s r) (with_on_order (begun_by Reap (on_order_of h)) (raised_to (as_nanos now) (picture_of h))) refl
      (idle_of-none h s r refl (λ i. refl)) (lent_of-none h s r refl (λ i. refl))
      (same_on_order (on_order_of h) refl
      (in_work_of-same h s r refl (λ k. refl) (λ k. refl))
      refl (next_reap_of-reap h now) refl (pending_of-same h s r refl refl (none_admitted h s r refl)) refl)
      (connections_of-same h s r refl refl) refl
  picture_of-begin h now (Wait due) e kept =
      let s = step.Begin now in
      let r = Begun (Wait due) in
      picture_of-unordered h s r (raised_to (as_nanos now) (picture_of h)) (waiting h now due) kept refl refl (idle_of-none h s r refl (λ i. refl))
      (lent_of-none h s r refl (λ i. refl)) refl (connections_of-same h s r refl refl) refl
  picture_of-begin h now Nothing e kept =
      let s = step.Begin now in
      let r = Begun Nothing in
      picture_of-unordered h s r (raised_to (as_nanos now) (picture_of h)) (idling h now) kept refl refl (idle_of-none h s r refl (λ i. refl))
      (lent_of-none h s r refl (λ i. refl)) refl (connections_of-same h s r refl refl) refl
  picture_of-begin h now Closed e kept =
      let s = step.Begin now in
      let r = Begun Closed in
      picture_of-unordered h s r (raised_to (as_nanos now) (picture_of h)) (ending h now) kept refl refl (idle_of-none h s r refl (λ i. refl))
      (lent_of-none h s r refl (λ i. refl)) refl (connections_of-same h s r refl refl) refl

  gone_fewer : (h : History T) (now : Duration) (task : SeenJob) → IsKept h
      → gone_count (Then h (step.Begin now) (Begun task)) ≤ admitted_count (Then h (step.Begin now) (Begun task))
  gone_fewer h now task kept =
      let s = step.Begin now in
      omega (arith, kept.gone_were_admitted, none_gone h s (Begun task) refl, none_admitted h s (Begun task) refl)

  kept_begin : (h : History T) (now : Duration) (task : SeenJob) → job_of h (moment_of h (step.Begin now)) ≡ task → IsKept h
      → IsSound (picture_of (Then h (step.Begin now) (Begun task))) → IsKept (Then h (step.Begin now) (Begun task))
  unfolding picture_of on_order_of next_id_of
  kept_begin h now (Open tries) e kept sound =
      let s = step.Begin now in
      let opens = opens_open (is_closed h) tries (first_job (moment_of h s) (scheduled_of h) (next_reap_of h)) e in
      let few = begins_within (moment_of h s) tries (on_order_of h) opens.1 kept.sound.steady.accounted in
      record {
        sound = sound;
        gone_were_admitted = gone_fewer h now (Open tries) kept;
        admitted_were_ordered = λ is_open. omega (arith, kept.admitted_were_ordered is_open, none_admitted h s (Begun (Open tries)) refl);
        ended_were_begun = λ k. omega (arith, kept.ended_were_begun k);
        few_tries = λ k many. begun_few tries k (begun_of h k) (omega (arith, few)) many (kept.few_tries k many);
        none_admitted_ahead = kept.none_admitted_ahead;
      }
  kept_begin h now Reap e kept sound = record {
    sound = sound;
    gone_were_admitted = gone_fewer h now Reap kept;
    admitted_were_ordered = λ is_open. omega (arith, kept.admitted_were_ordered is_open, none_admitted h (step.Begin now) (Begun Reap) refl);
    ended_were_begun = kept.ended_were_begun;
    few_tries = kept.few_tries;
    none_admitted_ahead = kept.none_admitted_ahead;
  }
  kept_begin h now (Wait due) e kept sound = kept_ordered h (step.Begin now) (Begun (Wait due)) (waiting h now due) kept sound
      (omega (arith, kept.gone_were_admitted, none_gone h (step.Begin now) (Begun (Wait due)) refl))
  kept_begin h now Nothing e kept sound = kept_ordered h (step.Begin now) (Begun Nothing) (idling h now) kept sound
      (omega (arith, kept.gone_were_admitted, none_gone h (step.Begin now) (Begun Nothing) refl))
  kept_begin h now Closed e kept sound = kept_ordered h (step.Begin now) (Begun Closed) (ending h now) kept sound
      (omega (arith, kept.gone_were_admitted, none_gone h (step.Begin now) (Begun Closed) refl))

  pub follows_begin : (h : History T) (now : Duration) → IsKept h → Follows h (step.Begin now) (Begun (begin_answer (as_nanos now) (picture_of h)))
      (after_begin (as_nanos now) (picture_of h))
  unfolding picture_of on_order_of
  follows_begin h now kept =
      let s = step.Begin now in
      let task = job_of h (moment_of h s) in
      let picture : picture_of (Then h s (Begun task)) ≡ after_begin (as_nanos now) (picture_of h) = picture_of-begin h now task refl kept in
      follows_accepted h s (Begun task) (after_begin (as_nanos now) (picture_of h)) refl refl (sym picture)
      (kept_begin h now task refl kept (subst IsSound (sym picture) (sound_begin (as_nanos now) kept.sound)))
