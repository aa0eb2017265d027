use Rattle.std.proofs.Common.{arith, ◌≡◌, ◌∙◌, ap, sym, length}
use Rattle.pool_machine.specs.Schedule.{SeenSchedule}
use Rattle.pool_machine.proofs.Scheduling.Held.{length-held}
use Rattle.pool_machine.proofs.schedule.Schedule.len.Goals as goal

pub returns-clause-value : goal.returns-clause-value
returns-clause-value g c =
    let s = c.self.inside in
    let held : length c.args.self.now.openings ≡ s.held = ap (λ (p : SeenSchedule). length p.openings) (sym c.self.view_is)
    ∙ length-held s.entries.items s.held (omega (arith, s.entries.ok.0, c.self.invariant.filled, c.self.invariant.within)) in
    sym held
