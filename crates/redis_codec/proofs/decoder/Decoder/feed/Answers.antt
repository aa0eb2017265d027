use Rattle.redis_codec.proofs.Wholes.{answer_at-again, leads_fed}
use Rattle.redis_codec.proofs.decoder.Decoder.feed.Goals as goal

pub invariant_of-self : goal.invariant_of-self
invariant_of-self c = leads_fed _ c.self.inside.limits c.self.inside.progress c.self.inside.bytes.items c.args.piece.now _ c.extend_from_slice.ensures.items c.self.invariant

pub returns-clause-same : goal.returns-clause-same
returns-clause-same c = answer_at-again c.args.self.now.limits c.args.self.now.bytes c.args.piece.now
