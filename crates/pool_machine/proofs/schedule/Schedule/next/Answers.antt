use Rattle.std.proofs.Common.{arith, rules, ◌≡◌, ℕ, ◌+◌, ◌*◌, ◌≤◌, ◌∙◌, List, true, false, ap, sym, refl, take, length, Option, Some, subst}
use Rattle.std.specs.Option.{option_map}
use Rattle.std.specs.Duration.{as_nanos}
use Rattle.std.specs.declared.time.Duration.{Duration}
use Rattle.std.proofs.lemmas.List.{get_or_read}
use Rattle.pool_machine.specs.Openings.{SeenOpening, sorted}
use Rattle.pool_machine.specs.Heap.{binary_digits}
use Rattle.pool_machine.specs.Schedule.{SeenSchedule, is_due_before}
use Rattle.pool_machine.specs.Jobs.{Wait, Open, first_job}
use Rattle.pool_machine.proofs.Scheduling.Jobs.{reap_or_wait}
use Rattle.pool_machine.proofs.Scheduling.Jobs.{opening_first, reap_first, opening_waits, opening_opens, reap_waits, reap_reaps}
use Rattle.pool_machine.proofs.Scheduling.Held.{length-held, first_held}
use Rattle.pool_machine.proofs.schedule.Schedule.next.Goals as goal
use Rattle.pool_machine.proofs.schedule.Schedule.next.Goals.{then-self-gt0+else-not-is_reap_before, else-self-gt0}

pub returns-then-as_nanos-clause-answer : goal.returns-then-as_nanos-clause-answer
returns-then-as_nanos-clause-answer g c =
    let now = as_nanos c.args.now in
    let s = c.self.inside in
    let x = c.index.result.now in
    let within : s.held ≤ length s.entries.items = omega (arith, s.entries.ok.0, c.self.invariant.filled, c.self.invariant.within) in
    let first = first_held s.entries.items s.held x c.self.invariant.heap c.if-self-gt0.true within c.index.ensures in
    let no_reap : is_due_before s.next_reap x.due ≡ false = search rules in
    rw (← c.self.view_is) (ap Wait c.due-due.ensures ∙ sym (opening_first now (sorted (take s.held s.entries.items)) _ x s.next_reap first no_reap
    ∙ opening_waits now x (omega arith)))

pub returns-then-not-is_reap_before-clause-answer : goal.returns-then-not-is_reap_before-clause-answer
returns-then-not-is_reap_before-clause-answer g c =
    let now = as_nanos c.args.now in
    let s = c.self.inside in
    let x = c.index.result.now in
    let y = c.index-then-not-is_reap_before.result.now in
    let within : s.held ≤ length s.entries.items = omega (arith, s.entries.ok.0, c.self.invariant.filled, c.self.invariant.within) in
    let first = first_held s.entries.items s.held x c.self.invariant.heap c.if-self-gt0.true within c.index.ensures in
    let same : y ≡ x = get_or_read s.entries.items 0 y (omega arith) c.index-then-not-is_reap_before.ensures x ∙ sym c.index.ensures in
    let tries : c.tries-tries.result ≡ x.tries = c.tries-tries.ensures ∙ ap (λ (o : SeenOpening). o.tries) same in
    let no_reap : is_due_before s.next_reap x.due ≡ false = search rules in
    rw (← c.self.view_is) (ap Open tries ∙ sym (opening_first now (sorted (take s.held s.entries.items)) _ x s.next_reap first no_reap
    ∙ opening_opens now x (omega arith)))

pub returns-then-not-is_reap_before-clause-cost : goal.returns-then-not-is_reap_before-clause-cost
returns-then-not-is_reap_before-clause-cost g c =
    let s = c.self.inside in
    let held : length c.args.self.now.openings ≡ s.held = ap (λ (p : SeenSchedule). length p.openings) (sym c.self.view_is)
    ∙ length-held s.entries.items s.held (omega (arith, s.entries.ok.0, c.self.invariant.filled, c.self.invariant.within)) in
    subst (λ (n : ℕ). c.remove_least.new.steps ≤ c.args.steps.now + 2 * binary_digits n) (sym held) c.remove_least.ensures.cost

-- the reap comes first: no opening is held, or the least one is due later
reap_job_is : (now : ℕ) (xs : List SeenOpening) (next_reap : Option Duration) (reap : Duration) → next_reap ≡ Some reap
    → first_job now xs (Some (as_nanos reap)) ≡ reap_or_wait now (as_nanos reap)
    → first_job now xs (option_map as_nanos next_reap) ≡ reap_or_wait now (as_nanos reap)
reap_job_is now xs next_reap reap e h = rw e h

alone : (now : ℕ) (items : List SeenOpening) (held r : ℕ) → held ≡ 0 → first_job now (sorted (take held items)) (Some r) ≡ reap_or_wait now r
alone now items held r e = rw e refl

pub returns-then-as_nanos-2-clause-answer : goal.returns-then-as_nanos-2-clause-answer
returns-then-as_nanos-2-clause-answer g c =
    let now = as_nanos c.args.now in
    let s = c.self.inside in
    let xs = sorted (take s.held s.entries.items) in
    let reap = c.in-Some.reap in
    let there : s.next_reap ≡ Some reap = search rules in
    let reap_is_first : first_job now xs (Some (as_nanos reap)) ≡ reap_or_wait now (as_nanos reap) = elim c.if-self-gt0.branch [
      | then-self-gt0+else-not-is_reap_before w ↦
          let x = w.index.result.now in
          let within : s.held ≤ length s.entries.items = omega (arith, s.entries.ok.0, c.self.invariant.filled, c.self.invariant.within) in
          let first = first_held s.entries.items s.held x c.self.invariant.heap w.if-self-gt0.true within w.index.ensures in
          let before : is_due_before (Some reap) x.due ≡ true =
          sym (ap (λ (o : Option Duration). is_due_before o x.due) there)
          ∙ sym (ap (λ (n : ℕ). is_due_before s.next_reap n) w.due-due.ensures)
          ∙ sym w.is_reap_before.ensures ∙ w.if-not-is_reap_before.false in
          reap_first now xs _ x (as_nanos reap) first before
      | else-self-gt0 w ↦ alone now s.entries.items s.held (as_nanos reap) (omega arith)
    ] in
    rw (← c.self.view_is) (sym (reap_job_is now xs s.next_reap reap there reap_is_first ∙ reap_waits now (as_nanos reap) (omega arith)))

pub returns-else-as_nanos-2-clause-answer : goal.returns-else-as_nanos-2-clause-answer
returns-else-as_nanos-2-clause-answer g c =
    let now = as_nanos c.args.now in
    let s = c.self.inside in
    let xs = sorted (take s.held s.entries.items) in
    let reap = c.in-Some.reap in
    let there : s.next_reap ≡ Some reap = search rules in
    let reap_is_first : first_job now xs (Some (as_nanos reap)) ≡ reap_or_wait now (as_nanos reap) = elim c.if-self-gt0.branch [
      | then-self-gt0+else-not-is_reap_before w ↦
          let x = w.index.result.now in
          let within : s.held ≤ length s.entries.items = omega (arith, s.entries.ok.0, c.self.invariant.filled, c.self.invariant.within) in
          let first = first_held s.entries.items s.held x c.self.invariant.heap w.if-self-gt0.true within w.index.ensures in
          let before : is_due_before (Some reap) x.due ≡ true =
          sym (ap (λ (o : Option Duration). is_due_before o x.due) there)
          ∙ sym (ap (λ (n : ℕ). is_due_before s.next_reap n) w.due-due.ensures)
          ∙ sym w.is_reap_before.ensures ∙ w.if-not-is_reap_before.false in
          reap_first now xs _ x (as_nanos reap) first before
      | else-self-gt0 w ↦ alone now s.entries.items s.held (as_nanos reap) (omega arith)
    ] in
    rw (← c.self.view_is) (sym (reap_job_is now xs s.next_reap reap there reap_is_first ∙ reap_reaps now (as_nanos reap) (omega arith)))
