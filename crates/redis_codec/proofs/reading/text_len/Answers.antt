use Rattle.std.proofs.Common.{arith}
use Rattle.redis_codec.proofs.Again.{text_len-far, text_len-near}
use Rattle.redis_codec.proofs.reading.text_len.Goals as goal

pub returns-then-unwrap_or-most-clause-exact : goal.returns-then-unwrap_or-most-clause-exact
returns-then-unwrap_or-most-clause-exact c = text_len-far c.args.most c.args.bytes.now c.memchr-found.result c.memchr-found.ensures (omega arith)

pub returns-clause-exact : goal.returns-clause-exact
returns-clause-exact c = text_len-near c.args.most c.args.bytes.now c.memchr-found.result c.memchr-found.ensures (omega arith)
