use Rattle.std.specs.Io.Buffered.{reader_remaining, writer_contents}
use Rattle.pool_machine.specs.Limits.{seen_limits}
use Rattle.pool_lines.proofs.Playing.{says_no_limits, starts}
use Rattle.pool_lines.proofs.program.run.Goals as goal

-- the first line gives no limits
pub returns-in_err-limits-clause-answers : goal.returns-in_err-limits-clause-answers
returns-in_err-limits-clause-answers g c =
    says_no_limits c.next_line.new.line.items c.in_ok-next_line.field-0 (reader_remaining g.R.Read.remaining c.next_line.new.input)
    (writer_contents g.W.Write.contents c.args.output.now) c.deref.result.now c.deref.ensures.value (reader_remaining g.R.Read.remaining c.args.input.now)
    c.from_residual-in_err-limits.result c.in_err-limits.field-0.0 c.in_ok-next_line.ensures.line c.from_residual-in_err-limits.ensures.1
    c.in_err-limits.ensures.fault c.in_err-limits.ensures.no_limits c.in_err-limits.ensures.refused

-- the pool is made, and the other lines are its steps
pub returns-clause-answers : goal.returns-clause-answers
returns-clause-answers g c =
    starts c.next_line.new.line.items c.in_ok-next_line.field-0 (reader_remaining g.R.Read.remaining c.next_line.new.input)
    (writer_contents g.W.Write.contents c.args.output.now) c.deref.result.now c.deref.ensures.value (reader_remaining g.R.Read.remaining c.args.input.now)
    c.take_steps.result (writer_contents g.W.Write.contents c.take_steps.new.output) (seen_limits c.in_ok-limits.field-0) c.in_ok-core.core
    c.in_ok-next_line.ensures.line c.in_ok-limits.ensures.given c.in_ok-limits.ensures.legal c.in_ok-core.ensures c.take_steps.ensures.answers
