use Rattle.std.proofs.Common.{◌<◌, length, arith}
use Rattle.pool_state.specs.Waiting.{before}
use Rattle.pool_state.proofs.Lined.{never_empty}
use Rattle.pool_state.proofs.state.PoolState.look_in_line.Goals as goal

-- what has its turn finds
pub unreachable-requires : goal.unreachable-requires
unreachable-requires g c =
    let old = c.args.self.now in
    let turn : before c.args.place.now old.places < length old.book.picture.idle = c.has_turn.ensures.0 c.if-not-has_turn.false in
    never_empty c.args.now c.take-taken.result.0 old.book.picture c.take-taken.new.self.book.picture c.in-Empty.ordered c.take-taken.ensures.step.of_core
    (omega (arith, turn)) c.in-Empty.is
