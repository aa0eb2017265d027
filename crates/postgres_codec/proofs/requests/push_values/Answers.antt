use Rattle.std.proofs.Common.{None, arith}
use Rattle.std.proofs.lemmas.Result.{err_from_is_err_and}
use Rattle.postgres_codec.specs.Requests.{value, bytes_of_value, all_values, bytes_of}
use Rattle.std.proofs.Common.{get_or}
use Rattle.postgres_codec.proofs.Encoded.{value_within, why_longer}
use Rattle.postgres_codec.proofs.requests.push_values.Goals as goal

pub returns-in_err-push_value-clause-why : goal.returns-in_err-push_value-clause-why
returns-in_err-push_value-clause-why c =
    let p = err_from_is_err_and c.from_residual.result c.from_residual.ensures.1 in
    rw (p.1, p.2) (why_longer c.in_err-push_value.field-0.0 (value (bytes_of_value (get_or c.args.values.now c.loop-words.words-index None))) (all_values (bytes_of c.args.values.now))
    (value_within c.args.values.now c.loop-words.words-index None (omega arith)) c.in_err-push_value.ensures.why)
