use Rattle.std.proofs.Common.{◌≡◌, [], arith, rules}
use Rattle.std.proofs.lemmas.Grind.{common_steps}
use Rattle.pool_lines.proofs.Writing.{nothing}
use Rattle.pool_lines.proofs.program.answer.write_left.Goals as goal

-- the list has come to its end
pub returns-clause-written : goal.returns-clause-written
returns-clause-written g c =
    let ended : c.loop-id.id-iterator ≡ [] = first_of (search rules, grind (arith, common_steps)) in
    let now = g.W.Write.contents c.loop-id.output in
    c.loop-id.invariant now (rw ended (nothing now))
