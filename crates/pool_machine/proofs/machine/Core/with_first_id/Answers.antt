use Rattle.std.proofs.Common.{rules, arith}
use Rattle.std.proofs.lemmas.Grind.{common_steps}
use Rattle.std.specs.Duration.{as_nanos}
use Rattle.pool_machine.specs.Limits.{seen_limits}
use Rattle.pool_machine.specs.Table.{first_picture}
use Rattle.pool_machine.proofs.Facts.Sounds.{sound_first}
use Rattle.pool_machine.proofs.Facts.Wholes.{whole}
use Rattle.pool_machine.proofs.Facts.Legal.{legal}
use Rattle.pool_machine.proofs.machine.Core.with_first_id.Goals as goal

pub invariant_of-result : goal.invariant_of-result
invariant_of-result g c =
    let le = legal c.args.limits in
    whole (first_picture (seen_limits c.args.limits) (as_nanos c.args.now) c.args.first_id) (grind (arith, common_steps))
    (sound_first (seen_limits c.args.limits) (as_nanos c.args.now) c.args.first_id le) (search rules)
