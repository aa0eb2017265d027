use Rattle.std.proofs.Common.{◌≡◌, ◌<◌, drop}
use Rattle.redis_codec.specs.Resp.{number_after}
use Rattle.redis_codec.proofs.reading.number.Given as goal

-- what is left of the digits goes on as the whole
abbrev pub invariant-loop-digit : goal.invariant-loop-digit
invariant-loop-digit l = (number_after l.number (drop l.digit-index l.text) ≡ number_after 0 l.text) × (l.number < 1_000_000_000_000_000_000)
