use Rattle.redis_codec.proofs.Wholes.{leads_first}
use Rattle.redis_codec.proofs.decoder.Decoder.new.Goals as goal

pub invariant_of-result : goal.invariant_of-result
invariant_of-result c = leads_first c.args.limits c.in_ok-new.field-0 c.new.result.items c.in_ok-new.ensures
