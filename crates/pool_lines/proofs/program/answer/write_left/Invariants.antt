use Rattle.std.proofs.Common.{ℕ, List, Option, flat_map}
use Rattle.std.specs.Io.KnownBytes.{Appends}
use Rattle.pool_lines.specs.Texts.{then_number}
use Rattle.pool_lines.proofs.program.answer.write_left.Given as goal

-- with what is left of the list, all is written
abbrev pub invariant-loop-id : goal.invariant-loop-id
invariant-loop-id g l = (new : Option (List ℕ)) → Appends (g.W.Write.contents l.output) new (flat_map (λ c. then_number c.0) l.id-iterator)
    → Appends (g.W.Write.contents l.initial.output) new (flat_map (λ c. then_number c.0) l.fn.leftover)
