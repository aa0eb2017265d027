use Rattle.std.proofs.Common.{◌≡◌, ◌++◌, drop}
use Rattle.redis_codec.specs.Requests.{all_words, bytes_of}
use Rattle.redis_codec.proofs.requests.push_words.Given as goal

-- with what is left it is as with all
abbrev pub invariant-loop-word : goal.invariant-loop-word
invariant-loop-word l = l.bytes.items ++ all_words (bytes_of (drop l.word-index l.words)) ≡ l.initial.bytes.items ++ all_words (bytes_of l.words)
