use Rattle.std.proofs.Common.{rules, arith, None}
use Rattle.std.proofs.lemmas.Grind.{common_steps}
use Rattle.pool_lines.proofs.Fields.{number_exact}
use Rattle.pool_lines.proofs.program.line.number.Goals as goal

pub returns-in-43-clause-exact : goal.returns-in-43-clause-exact
returns-in-43-clause-exact c = number_exact 64 c.args.field.now None (first_of (search rules, grind (arith, common_steps)))
    (first_of (search rules, grind (arith, common_steps)))

pub returns-in_default-clause-exact : goal.returns-in_default-clause-exact
returns-in_default-clause-exact c = number_exact 64 c.args.field.now _ (first_of (search rules, grind (arith, common_steps)))
    (first_of (search rules, grind (arith, common_steps)))
