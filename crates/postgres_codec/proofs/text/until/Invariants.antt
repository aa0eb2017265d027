use Rattle.std.proofs.Common.{◌≡◌, ◌++◌, take, drop}
use Rattle.postgres_codec.specs.Messages.{until}
use Rattle.postgres_codec.proofs.text.until.Given as goal

abbrev pub invariant-loop-at : goal.invariant-loop-at
invariant-loop-at l = until l.low l.high l.bytes ≡ take l.at l.bytes ++ until l.low l.high (drop l.at l.bytes)
