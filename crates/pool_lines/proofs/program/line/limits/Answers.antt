use Rattle.std.proofs.Common.{option_map, sym, ap, ◌∙◌}
use Rattle.pool_lines.specs.Lines.{sizes_of}
use Rattle.pool_lines.proofs.Fields.{refused_limits}
use Rattle.pool_lines.proofs.program.line.limits.Goals as goal

pub returns-clause-refused : goal.returns-clause-refused
returns-clause-refused c =
    refused_limits c.args.line.now c.in_ok-said.said c.limits.result c.ok_or-2.result c.ok_or-2.ensures.value c.limits.ensures.legal
    (sym c.read_limits.ensures ∙ ap (option_map sizes_of) c.in_ok-said.ensures.ok_part)
