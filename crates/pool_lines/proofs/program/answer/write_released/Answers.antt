use Rattle.std.proofs.Common.{◌≡◌, [], drop, arith}
use Rattle.std.proofs.lemmas.Grind.{common_steps}
use Rattle.pool_lines.proofs.Writing.{nothing}
use Rattle.pool_lines.proofs.program.answer.write_released.Goals as goal

-- the list has come to its end
pub returns-clause-written : goal.returns-clause-written
returns-clause-written g c =
    let ended : drop c.loop-connection.connection-index c.args.released.now ≡ [] = grind (arith, common_steps) in
    let now = g.W.Write.contents c.loop-connection.output in
    c.loop-connection.invariant now (rw ended (nothing now))
