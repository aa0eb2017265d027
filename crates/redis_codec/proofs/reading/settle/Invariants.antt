use Rattle.std.proofs.Common.{◌≡◌}
use Rattle.std.specs.Prelude.{length}
use Rattle.redis_codec.specs.Answers.{settled}
use Rattle.redis_codec.proofs.reading.settle.Given as goal

abbrev pub invariant-loop-lacking : goal.invariant-loop-lacking
invariant-loop-lacking l = settled l.lacking.items ≡ settled l.initial.lacking.items

abbrev pub decreases-loop-lacking : goal.decreases-loop-lacking
decreases-loop-lacking l = length l.lacking.items
