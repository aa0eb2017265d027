use Rattle.redis_codec.specs.Answers.{Follows}
use Rattle.redis_codec.proofs.reading.Progress.read_on.Given as goal

-- it is on its way to the same answer
abbrev pub invariant-loop-alloc : goal.invariant-loop-alloc
invariant-loop-alloc l = Follows l.depth l.initial.self l.self l.bytes

abbrev pub decreases-loop-alloc : goal.decreases-loop-alloc
decreases-loop-alloc l = l.self.left
