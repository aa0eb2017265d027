use Rattle.std.proofs.Common.{◌≡◌, drop, None}
use Rattle.postgres_codec.specs.Messages.{number_after}
use Rattle.postgres_codec.proofs.text.last_number.Given as goal

abbrev pub invariant-loop-byte : goal.invariant-loop-byte
invariant-loop-byte l = number_after l.number (drop l.byte-index l.text) ≡ number_after None l.text
