use Rattle.std.proofs.Common.{arith, ◌≡◌, ℕ, ◌+◌, ◌≤◌, ◌∙◌, List, ap, sym, length, take, subst}
use Rattle.std.specs.Vec.{with_items}
use Rattle.std.proofs.lemmas.List.{with_items_is}
use Rattle.pool_machine.specs.Openings.{SeenOpening, sorted}
use Rattle.pool_machine.specs.Heap.{IsHeap, binary_digits}
use Rattle.pool_machine.specs.Schedule.{SeenSchedule}
use Rattle.pool_machine.proofs.Scheduling.Held.{length-held}
use Rattle.pool_machine.proofs.schedule.Schedule.order.Goals as goal

pub add-requires-clause-room : goal.add-requires-clause-room
add-requires-clause-room g c =
    let s = c.self.inside in
    let held : length c.args.self.now.openings ≡ s.held = ap (λ (p : SeenSchedule). length p.openings) (sym c.self.view_is)
    ∙ length-held s.entries.items s.held (omega (arith, s.entries.ok.0, c.self.invariant.filled, c.self.invariant.within)) in
    let size : c.args.self.now.max_size ≡ s.max_size = ap (λ (p : SeenSchedule). p.max_size) (sym c.self.view_is) in
    omega (arith, c.requires, c.deref_mut.ensures.len, c.self.invariant.filled)

pub overflow_add-self : goal.overflow_add-self
overflow_add-self g c =
    let s = c.self.inside in
    let held : length c.args.self.now.openings ≡ s.held = ap (λ (p : SeenSchedule). length p.openings) (sym c.self.view_is)
    ∙ length-held s.entries.items s.held (omega (arith, s.entries.ok.0, c.self.invariant.filled, c.self.invariant.within)) in
    let size : c.args.self.now.max_size ≡ s.max_size = ap (λ (p : SeenSchedule). p.max_size) (sym c.self.view_is) in
    omega (arith, c.requires, c.self.invariant.small)

pub invariant_of-self : goal.invariant_of-self
invariant_of-self g c =
    let s = c.self.inside in
    let held : length c.args.self.now.openings ≡ s.held = ap (λ (p : SeenSchedule). length p.openings) (sym c.self.view_is)
    ∙ length-held s.entries.items s.held (omega (arith, s.entries.ok.0, c.self.invariant.filled, c.self.invariant.within)) in
    let size : c.args.self.now.max_size ≡ s.max_size = ap (λ (p : SeenSchedule). p.max_size) (sym c.self.view_is) in
    let items : (with_items s.entries c.add.new.entries).items ≡ c.add.new.entries = with_items_is s.entries c.add.new.entries
    (omega (arith, c.add.auto.entries, c.deref_mut.ensures.len)) in
    record {
      filled = c.self.invariant.filled;
      within = omega (arith, c.requires);
      small = c.self.invariant.small;
      heap = subst (λ (xs : List SeenOpening). IsHeap (take (s.held + 1) xs)) (sym items) c.add.ensures.heap;
    }

pub returns-clause-cost : goal.returns-clause-cost
returns-clause-cost g c =
    let s = c.self.inside in
    let held : length c.args.self.now.openings ≡ s.held = ap (λ (p : SeenSchedule). length p.openings) (sym c.self.view_is)
    ∙ length-held s.entries.items s.held (omega (arith, s.entries.ok.0, c.self.invariant.filled, c.self.invariant.within)) in
    let size : c.args.self.now.max_size ≡ s.max_size = ap (λ (p : SeenSchedule). p.max_size) (sym c.self.view_is) in
    let same : length c.add.new.entries ≡ s.entries.len = omega (arith, c.add.auto.entries, c.deref_mut.ensures.len) in
    let items : (with_items s.entries c.add.new.entries).items ≡ c.add.new.entries = with_items_is s.entries c.add.new.entries same in
    let more : length (sorted (take (s.held + 1) (with_items s.entries c.add.new.entries).items)) ≡ s.held + 1 =
    ap (λ (xs : List SeenOpening). length (sorted (take (s.held + 1) xs))) items
    ∙ length-held c.add.new.entries (s.held + 1) (omega (arith, c.requires, c.self.invariant.filled)) in
    subst (λ (n : ℕ). c.add.new.steps ≤ c.args.steps.now + binary_digits n) (sym more) c.add.ensures.cost
