use Rattle.std.proofs.Common.{arith}
use Rattle.postgres_codec.proofs.Encoded.{sasl_long}
use Rattle.postgres_codec.proofs.requests.sasl_first.Goals as goal

pub returns-then-words-gt-LONGEST : goal.returns-then-words-gt-LONGEST
returns-then-words-gt-LONGEST c = sasl_long c.args.way.now c.args.words.now (omega arith)
