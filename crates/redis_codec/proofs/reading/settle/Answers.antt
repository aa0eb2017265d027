use Rattle.std.proofs.Common.{◌∙◌, sym, ap}
use Rattle.redis_codec.specs.Answers.{settled}
use Rattle.redis_codec.proofs.Wholes.{settled-step, settled-end}
use Rattle.redis_codec.proofs.reading.settle.Goals as goal

pub loop-lacking-preserved : goal.loop-lacking-preserved
loop-lacking-preserved c =
    ap settled c.pop_front.ensures.rest
    ∙ settled-step c.loop-lacking.lacking.items c.front.result c.front.ensures.item.0 c.front.ensures.lookup (cc)
    ∙ c.loop-lacking.invariant

pub returns : goal.returns
returns c =
    sym (settled-end c.loop-lacking.lacking.items c.front.result c.front.ensures.item.0 c.front.ensures.lookup (cc))
    ∙ c.loop-lacking.invariant
