use Rattle.std.proofs.Common.{◌≡◌, ◌-◌, []}
use Rattle.postgres_codec.specs.Messages.{seen_values, values_after}
use Rattle.postgres_codec.proofs.row.values_in.Given as goal

-- with what is left it is as with all
abbrev pub invariant-loop : goal.invariant-loop
invariant-loop l = values_after (seen_values l.values.items) (l.count - l.counter) l.rest ≡ values_after [] l.count l.bytes
