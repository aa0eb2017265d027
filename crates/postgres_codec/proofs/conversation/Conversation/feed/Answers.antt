use Rattle.postgres_codec.proofs.Again.{message_at-again}
use Rattle.postgres_codec.proofs.conversation.Conversation.feed.Goals as goal

pub returns-clause-same : goal.returns-clause-same
returns-clause-same c = message_at-again c.args.self.now.room c.args.self.now.bytes c.args.piece.now
