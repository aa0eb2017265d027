use Rattle.std.proofs.Common.{◌≡◌, drop, true}
use Rattle.postgres_codec.specs.Messages.{field_from}
use Rattle.postgres_codec.proofs.text.field.Given as goal

abbrev pub invariant-loop-at : goal.invariant-loop-at
invariant-loop-at l = field_from l.begins l.letter (drop l.at l.bytes) ≡ field_from true l.letter l.bytes
