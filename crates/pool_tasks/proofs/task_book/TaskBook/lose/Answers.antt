use Rattle.std.proofs.Common.{◌≡◌, ◌<◌, None, List, refl, sym, ◌∙◌, ap, subst}
use Rattle.std.specs.Prelude.{IfSome, is_some}
use Rattle.pool_state.specs.Order.{Event, IsHistoryOf, with_told}
use Rattle.pool_state.specs.Waiting.{told_if, slot_if}
use Rattle.pool_tasks.specs.Leaving.{IsLost, CountsLoss}
use Rattle.pool_tasks.specs.Wakers.{KeepsOthers, NobodySleeps}
use Rattle.pool_tasks.proofs.Leaving.{check_tells, loss_wakes}
use Rattle.pool_tasks.proofs.task_book.TaskBook.lose.Goals as goal

pub returns-in_default-clause-lost : goal.returns-in_default-clause-lost
returns-in_default-clause-lost g c =
    let book = c.args.self.now.guarded.book in
    subst (λ o. IsLost c.args.now o None book book) (sym c.in_default.is) (refl, refl)

pub returns-in_default-clause-failures : goal.returns-in_default-clause-failures
returns-in_default-clause-failures g c =
    let failures = c.args.self.now.guarded.failures in
    subst (λ o. CountsLoss c.args.now c.args.distrusted_before o failures failures) (sym c.in_default.is) refl

pub returns-clause-lost : goal.returns-clause-lost
returns-clause-lost g c =
    let step = c.fail_check in
    subst (λ o. IsLost c.args.now o c.gone_of.result c.args.self.now.guarded.book step.new.self.guarded.book) (sym c.in-Some.is)
    (step.result, (step.ensures.step, c.gone_of.ensures))

pub returns-clause-failures : goal.returns-clause-failures
returns-clause-failures g c =
    let step = c.fail_check in
    subst (λ o. CountsLoss c.args.now c.args.distrusted_before o c.args.self.now.guarded.failures step.new.self.guarded.failures) (sym c.in-Some.is)
    step.ensures.failures

pub returns-clause-line : goal.returns-clause-line
returns-clause-line g c =
    let step = c.fail_check in
    step.ensures.told ∙ ap (λ b. told_if b c.args.self.now.guarded.places) (check_tells step.result _ step.ensures.step.answer ∙ ap is_some (sym c.gone_of.ensures))

pub returns-clause-history : goal.returns-clause-history
returns-clause-history g c =
    let step = c.fail_check in
    let ps = c.args.self.now.guarded.places in
    subst (λ b. (h : List Event) → IsHistoryOf h ps → IsHistoryOf (with_told (slot_if b ps) h) step.new.self.guarded.places)
    (check_tells step.result _ step.ensures.step.answer ∙ ap is_some (sym c.gone_of.ensures)) step.ensures.history

pub returns-clause-alone : goal.returns-clause-alone
returns-clause-alone g c =
    let step = c.fail_check in
    subst (λ b. KeepsOthers (slot_if b c.args.self.now.guarded.places) c.args.self.now.wakers step.new.self.wakers)
    (check_tells step.result _ step.ensures.step.answer ∙ ap is_some (sym c.gone_of.ensures)) step.ensures.alone

pub returns-clause-workers : goal.returns-clause-workers
returns-clause-workers g c =
    let step = c.fail_check in
    subst (λ o. IfSome o (λ gone. 0 < gone.ordered → NobodySleeps step.new.self.workers)) (sym c.gone_of.ensures)
    (loss_wakes (NobodySleeps step.new.self.workers) step.result step.ensures.workers)
