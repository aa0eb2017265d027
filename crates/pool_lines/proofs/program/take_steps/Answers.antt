use Rattle.std.proofs.Common.{◌≡◌, ◌+◌, None, Ok, Err, option_map, refl, sym, ap, ◌∙◌, arith, rules}
use Rattle.std.specs.Io.Buffered.{reader_remaining, writer_contents}
use Rattle.std.proofs.lemmas.Grind.{common_steps}
use Rattle.pool_lines.specs.declared.program.Fault.TheVariants.{NotAStep}
use Rattle.pool_lines.specs.Lines.{step_in, seen_line}
use Rattle.pool_lines.proofs.Playing.{goes_on, stops, is_no_step}
use Rattle.pool_lines.proofs.program.take_steps.Goals as goal

-- the input is at its end
pub returns-then-not-branch-clause-answers : goal.returns-then-not-branch-clause-answers
returns-then-not-branch-clause-answers g c =
    let old = writer_contents g.W.Write.contents c.loop-number.output in
    let new = writer_contents g.W.Write.contents c.send_before_waiting.new.output in
    c.loop-number.invariant (Ok tt) new
    (stops c.loop-number.number c.loop-number.core c.next_line.new.line.items (reader_remaining g.R.Read.remaining c.next_line.new.input) old new
    (reader_remaining g.R.Read.remaining c.loop-number.input) c.in_ok-next_line.field-0 c.in_ok-next_line.ensures.line c.if-not-branch.true
    c.in_ok-send_before_waiting.ensures.kept)

-- the line is no step
pub returns-in_default-clause-answers : goal.returns-in_default-clause-answers
returns-in_default-clause-answers g c =
    let old = writer_contents g.W.Write.contents c.loop-number.output in
    let new = writer_contents g.W.Write.contents c.send_before_waiting.new.output in
    let none : c.in_ok-said.field-0 ≡ None = first_of (search rules, grind (arith, common_steps)) in
    c.loop-number.invariant (Err (NotAStep c.loop-number.number)) new
    (is_no_step c.loop-number.number c.loop-number.core c.next_line.new.line.items (reader_remaining g.R.Read.remaining c.next_line.new.input) old new
    (reader_remaining g.R.Read.remaining c.loop-number.input) c.in_ok-next_line.field-0 c.in_ok-next_line.ensures.line c.if-not-branch.false
    (ap step_in (sym c.deref.ensures.value) ∙ sym c.in_ok-said.ensures ∙ ap (option_map seen_line) none) c.in_ok-send_before_waiting.ensures.kept)

-- the step is taken and answered
pub loop-number-preserved : goal.loop-number-preserved
loop-number-preserved g c =
    λ r new later. c.loop-number.invariant r new
    (goes_on c.loop-number.number c.loop-number.core c.next_line.new.line.items (reader_remaining g.R.Read.remaining c.next_line.new.input)
    (writer_contents g.W.Write.contents c.loop-number.output) new (reader_remaining g.R.Read.remaining c.loop-number.input)
    c.in_ok-next_line.field-0 (seen_line c.in-Some.said) r (writer_contents g.W.Write.contents c.send_before_waiting.new.output)
    (writer_contents g.W.Write.contents c.answer.new.output) (c.loop-number.number + 1) c.answer.new.core
    c.in_ok-next_line.ensures.line c.if-not-branch.false
    (ap step_in (sym c.deref.ensures.value) ∙ sym c.in_ok-said.ensures ∙ ap (option_map seen_line) c.in-Some.is)
    c.in_ok-send_before_waiting.ensures.kept c.in_ok-answer.ensures.written refl c.in_ok-answer.ensures.after later)
