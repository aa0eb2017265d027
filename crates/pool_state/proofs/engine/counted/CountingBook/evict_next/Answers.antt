use Rattle.std.proofs.Common.{◌-◌, max, false, Ok, sym, ◌∙◌, ap}
use Rattle.std.specs.Duration.{as_nanos}
use Rattle.pool_machine.specs.Seen.{seen_take, seen_returned, map_ok}
use Rattle.pool_state.proofs.Evicting.{next, idle_of_none, lent_after, closing, lent_then, released_next, never_refused, same_age, same_value, latest_after, taken_is, broken_is, one_went, none_went}
use Rattle.pool_state.proofs.Waits.{more_pending_taken, more_pending}
use Rattle.pool_state.proofs.engine.counted.CountingBook.evict_next.Goals as goal

pub returns-in_default-clause-idle : goal.returns-in_default-clause-idle
returns-in_default-clause-idle g c =
    let lending = c.lend-taken.ensures.step in
    let t = as_nanos c.args.now in
    let p = c.args.self.now.book.picture in
    idle_of_none t _ p c.lend-taken.new.self.book.picture (sym (ap seen_take c.in_default.is) ∙ lending.of_core.answer) lending.of_core.after

pub unreachable-requires-in-Err : goal.unreachable-requires-in-Err
unreachable-requires-in-Err g c =
    let lending = c.lend-taken.ensures.step in
    let returning = c.give_back-answer.ensures.step in
    let t = as_nanos c.args.now in
    let p = c.args.self.now.book.picture in
    let q = c.lend-taken.new.self.book.picture in
    let n = next _ _ c.in-Found.id (as_nanos c.in-Found.birth) _ c.in-Found.value (sym (ap seen_take c.in-Found.is) ∙ lending.of_core.answer) in
    let lent = lent_after t c.in-Found.id (as_nanos c.in-Found.birth) c.in-Found.value p q n lending.of_core.after in
    let closed = closing t c.in-Found.id (as_nanos c.in-Found.birth) c.in-Found.value q p.lent lending.of_core.sound lent in
    let came = sym (ap (map_ok seen_returned) c.in-Err.is) ∙ (returning.of_core.answer ∙ closed) in
    never_refused _ _ _ _ came

pub returns-clause-released : goal.returns-clause-released
returns-clause-released g c =
    let lending = c.lend-taken.ensures.step in
    let returning = c.give_back-answer.ensures.step in
    let t = as_nanos c.args.now in
    let p = c.args.self.now.book.picture in
    let q = c.lend-taken.new.self.book.picture in
    let n = next _ _ c.in-Found.id (as_nanos c.in-Found.birth) _ c.in-Found.value (sym (ap seen_take c.in-Found.is) ∙ lending.of_core.answer) in
    let lent = lent_after t c.in-Found.id (as_nanos c.in-Found.birth) c.in-Found.value p q n lending.of_core.after in
    let closed = closing t c.in-Found.id (as_nanos c.in-Found.birth) c.in-Found.value q p.lent lending.of_core.sound lent in
    let back = map_ok seen_returned c.give_back-answer.result.0 in
    let is = ap (map_ok seen_returned) (c.in-Ok-Closed.is ∙ ap Ok c.in-Ok-Closed.field-0-is) in
    let was = returning.of_core.answer ∙ closed in
    let birth = as_nanos c.in-Found.birth in
    let age = same_age back c.in-Found.value c.in-Ok-Closed.value (as_nanos c.in-Ok-Closed.age) (max q.latest t - birth) _ _ is was in
    let value = same_value back c.in-Found.value c.in-Ok-Closed.value (as_nanos c.in-Ok-Closed.age) (max q.latest t - birth) _ _ is was in
    released_next t c.in-Found.id birth (as_nanos c.in-Ok-Closed.age) c.in-Found.value c.in-Ok-Closed.value p n
    (age ∙ ap (λ m. m - birth) (latest_after t p q lending.of_core.after)) value

pub returns-clause-lent : goal.returns-clause-lent
returns-clause-lent g c =
    let lending = c.lend-taken.ensures.step in
    let returning = c.give_back-answer.ensures.step in
    let t = as_nanos c.args.now in
    let p = c.args.self.now.book.picture in
    let q = c.lend-taken.new.self.book.picture in
    let n = next _ _ c.in-Found.id (as_nanos c.in-Found.birth) _ c.in-Found.value (sym (ap seen_take c.in-Found.is) ∙ lending.of_core.answer) in
    let lent = lent_after t c.in-Found.id (as_nanos c.in-Found.birth) c.in-Found.value p q n lending.of_core.after in
    lent_then t c.in-Found.id (as_nanos c.in-Found.birth) c.in-Found.value q c.give_back-answer.new.self.book.picture p.lent lending.of_core.sound lent
    returning.of_core.after

pub returns-in_default-clause-after : goal.returns-in_default-clause-after
returns-in_default-clause-after g c =
    let lending = c.lend-taken.ensures.step in
    let t = as_nanos c.args.now in
    let b = c.args.self.now.book in
    let q = c.lend-taken.new.self.book in
    let taken = taken_is t false b q _ lending.of_core.answer lending.of_core.after lending.noted in
    none_went t _ b q (sym (ap seen_take c.in_default.is) ∙ lending.of_core.answer) taken

pub returns-clause-after : goal.returns-clause-after
returns-clause-after g c =
    let lending = c.lend-taken.ensures.step in
    let returning = c.give_back-answer.ensures.step in
    let t = as_nanos c.args.now in
    let b = c.args.self.now.book in
    let q = c.lend-taken.new.self.book in
    let back = c.give_back-answer in
    let n = next _ _ c.in-Found.id (as_nanos c.in-Found.birth) _ c.in-Found.value (sym (ap seen_take c.in-Found.is) ∙ lending.of_core.answer) in
    let taken = taken_is t false b q _ lending.of_core.answer lending.of_core.after lending.noted in
    let came = broken_is t c.in-Found.id c.in-Found.value q back.new.self.book _ returning.of_core.answer returning.of_core.after returning.noted in
    one_went t c.in-Found.id (as_nanos c.in-Found.birth) c.in-Found.value b q back.new.self.book n taken came

pub returns-in_default-clause-pending : goal.returns-in_default-clause-pending
returns-in_default-clause-pending g c =
    more_pending_taken c.args.now c.lend-taken.result.0 c.args.self.now.book.picture c.lend-taken.new.self.book.picture c.lend-taken.ensures.step.of_core

pub returns-clause-pending : goal.returns-clause-pending
returns-clause-pending g c =
    let taken = c.lend-taken in
    let back = c.give_back-answer in
    more_pending c.args.now c.in-Found.id c.in-Found.value taken.result.0 back.result.0 c.args.self.now.book.picture taken.new.self.book.picture back.new.self.book.picture
    taken.ensures.step.of_core back.ensures.step.of_core
