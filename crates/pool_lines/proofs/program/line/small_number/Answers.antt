use Rattle.std.proofs.Common.{rules, arith}
use Rattle.std.proofs.lemmas.Grind.{common_steps}
use Rattle.pool_lines.proofs.Fields.{number_exact}
use Rattle.pool_lines.proofs.program.line.small_number.Goals as goal

pub returns-in_err-number-clause-exact : goal.returns-in_err-number-clause-exact
returns-in_err-number-clause-exact c = number_exact 32 c.args.field.now _ (first_of (search rules, grind (arith, common_steps)))
    (first_of (search rules, grind (arith, common_steps)))

pub returns-clause-exact : goal.returns-clause-exact
returns-clause-exact c = number_exact 32 c.args.field.now _ (first_of (search rules, grind (arith, common_steps)))
    (first_of (search rules, grind (arith, common_steps)))
