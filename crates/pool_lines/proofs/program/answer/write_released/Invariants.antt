use Rattle.std.proofs.Common.{ℕ, List, Option, drop, flat_map, map}
use Rattle.std.specs.Io.KnownBytes.{Appends}
use Rattle.pool_machine.specs.Seen.{seen_released}
use Rattle.pool_lines.specs.Texts.{then_number}
use Rattle.pool_lines.proofs.program.answer.write_released.Given as goal

-- with what is left of the list, all is written
abbrev pub invariant-loop-connection : goal.invariant-loop-connection
invariant-loop-connection g l = (new : Option (List ℕ)) → Appends (g.W.Write.contents l.output) new
    (flat_map (λ c. then_number c.id) (map seen_released (drop l.connection-index l.released)))
    → Appends (g.W.Write.contents l.initial.output) new (flat_map (λ c. then_number c.id) (map seen_released l.released))
