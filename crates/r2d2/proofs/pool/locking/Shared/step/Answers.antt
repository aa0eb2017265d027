use Rattle.r2d2.proofs.pool.locking.Shared.step.Goals as goal

pub returns : goal.returns
returns g c = (_, _, c.call-answer.result.1, _, c.call-answer.ensures)
