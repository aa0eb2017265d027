use Rattle.std.proofs.Common.{arith, ◌≡◌, ℕ, ◌+◌, ◌∙◌, ap, sym, length, add-one}
use Rattle.std.specs.Duration.{as_nanos}
use Rattle.pool_machine.specs.Openings.{opening, with_many}
use Rattle.pool_machine.specs.Schedule.{SeenSchedule, joined, with_openings}
use Rattle.pool_machine.proofs.Scheduling.Openings.{length-with_many}
use Rattle.pool_machine.proofs.schedule.Schedule.order_many.Goals as goal

pub order_uncounted-requires : goal.order_uncounted-requires
order_uncounted-requires g c =
    let x = opening (as_nanos c.args.due) 0 in
    let held : length c.loop.self.openings ≡ length c.args.self.now.openings + c.loop.counter =
    ap (λ (p : SeenSchedule). length p.openings) c.loop.invariant ∙ length-with_many c.loop.counter x c.args.self.now.openings in
    let size : c.loop.self.max_size ≡ c.args.self.now.max_size = ap (λ (p : SeenSchedule). p.max_size) c.loop.invariant in
    omega (arith, c.requires)

pub loop-preserved : goal.loop-preserved
loop-preserved g c =
    let x = opening (as_nanos c.args.due) 0 in
    c.order_uncounted.ensures ∙ ap (joined x) c.loop.invariant
    ∙ ap (λ (n : ℕ). with_openings (with_many n x c.args.self.now.openings) c.args.self.now) (sym (add-one c.loop.counter))
