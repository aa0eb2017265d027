use Rattle.std.proofs.Common.{◌≡◌, length, sym, ap, ◌∙◌, rules}
use Rattle.postgres_codec.specs.declared.message.Message.{Message}
use Rattle.postgres_codec.specs.Messages.{seen}
use Rattle.postgres_codec.specs.Talks.{count_in}
use Rattle.postgres_codec.proofs.Again.{seen_values-length}
use Rattle.postgres_codec.proofs.conversation.count_in.Goals as goal

pub returns-in-Row : goal.returns-in-Row
returns-in-Row c =
    let many : c.len.result ≡ length c.in-Row.values.items = search rules in
    many ∙ sym (seen_values-length c.in-Row.values.items) ∙ sym (ap (λ (m : Message). count_in (seen m)) c.in-Row.is)
