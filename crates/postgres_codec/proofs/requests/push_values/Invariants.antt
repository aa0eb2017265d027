use Rattle.std.proofs.Common.{◌≡◌, ◌++◌, drop}
use Rattle.postgres_codec.specs.Requests.{all_values, bytes_of}
use Rattle.postgres_codec.proofs.requests.push_values.Given as goal

-- with what is left it is as with all
abbrev pub invariant-loop-words : goal.invariant-loop-words
invariant-loop-words l = l.body.items ++ all_values (bytes_of (drop l.words-index l.values)) ≡ l.initial.body.items ++ all_values (bytes_of l.values)
