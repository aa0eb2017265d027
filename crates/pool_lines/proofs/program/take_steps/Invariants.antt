use Rattle.std.proofs.Common.{ℕ, List, Option, Result, IfSome}
use Rattle.std.specs.Io.Buffered.{reader_remaining, writer_contents}
use Rattle.pool_lines.specs.declared.program.Fault.{Fault}
use Rattle.pool_lines.specs.Script.{Goes}
use Rattle.pool_lines.proofs.program.take_steps.Given as goal

-- what is left goes on as the whole
abbrev pub invariant-loop-number : goal.invariant-loop-number
invariant-loop-number g l = (r : Result (Unit {0}) Fault) (new : Option (List ℕ)) →
    IfSome (reader_remaining g.R.Read.remaining l.input) (λ bytes. Goes l.number l.core bytes r (writer_contents g.W.Write.contents l.output) new) →
    IfSome (reader_remaining g.R.Read.remaining l.initial.input) (λ bytes. Goes 2 l.initial.core bytes r
    (writer_contents g.W.Write.contents l.initial.output) new)
