use Rattle.std.proofs.Common.{◌≡◌, ◌<◌, ◌-◌, ℕ, List, length, drop, sym, ap, subst, ◌∙◌, arith}
use Rattle.postgres_codec.specs.Frames.{Found}
use Rattle.postgres_codec.specs.Messages.{seen, message_at}
use Rattle.postgres_codec.specs.Talks.{Talk}
use Rattle.postgres_codec.proofs.Again.{gives_none, gives_some, message_left, told_bytes}
use Rattle.postgres_codec.proofs.Kept.{message_at-kept, message_at-within}
use Rattle.postgres_codec.proofs.conversation.Conversation.next.Goals as goal

pub overflow_sub-size : goal.overflow_sub-size
overflow_sub-size c =
    (message_left c.self.inside.room c.unread-unread.result.now (seen c.in-Some.message) c.in-Some.rest.now (gives_some _ c.in_ok-message.field-0 _ _ c.in_ok-message.ensures c.in-Some.is)).within

pub returns-clause-exact : goal.returns-clause-exact
returns-clause-exact c = λ some.
    let found : message_at c.self.inside.room c.unread-unread.result.now ≡ Found (seen c.in-Some.message, c.in-Some.rest.now) = gives_some _ c.in_ok-message.field-0 _ _ c.in_ok-message.ensures c.in-Some.is in
    let left : drop (length c.unread-unread.result.now - length c.in-Some.rest.now) c.unread-unread.result.now ≡ c.in-Some.rest.now =
    (message_left c.self.inside.room c.unread-unread.result.now (seen c.in-Some.message) c.in-Some.rest.now found).dropped in
    let bytes : c.told.new.self.bytes ≡ c.in-Some.rest.now =
    ap (λ (t : Talk). t.bytes) c.told.ensures ∙ told_bytes (seen c.in-Some.message) c.spend.new.self ∙ ap (λ (t : Talk). t.bytes) c.spend.ensures ∙ c.take.ensures
    ∙ ap (λ (z : List ℕ). drop (length c.unread-unread.result.now - length c.in-Some.rest.now) z) (sym c.unread-unread.ensures) ∙ left in
    sym (ap (λ (t : Talk). message_at t.room t.bytes) c.self.view_is)
    ∙ ap (λ (z : List ℕ). message_at c.self.inside.room z) (sym c.unread-unread.ensures) ∙ found ∙ ap (λ (z : List ℕ). Found (seen c.in-Some.message, z)) (sym bytes)

pub returns-clause-within : goal.returns-clause-within
returns-clause-within c = message_at-within c.args.self.now.room c.args.self.now.bytes (seen c.in-Some.message) c.told.new.self.bytes
    (returns-clause-exact c (omega (arith, c.if-self-eq0.false, ap (λ (t : Talk). t.owed) c.self.view_is)))

pub returns-in_default-clause-bounded : goal.returns-in_default-clause-bounded
returns-in_default-clause-bounded c =
    message_at-kept c.args.self.now.room c.args.self.now.bytes (sym (ap (λ (t : Talk). message_at t.room t.bytes) c.self.view_is)
    ∙ ap (λ (z : List ℕ). message_at c.self.inside.room z) (sym c.unread-unread.ensures) ∙ gives_none _ c.in_ok-message.field-0 _ c.in_ok-message.ensures c.in_default.is)
