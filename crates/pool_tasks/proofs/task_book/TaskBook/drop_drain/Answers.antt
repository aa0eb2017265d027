use Rattle.std.proofs.Common.{subst}
use Rattle.futures.specs.WaitList.{Leaves}
use Rattle.pool_tasks.proofs.task_book.TaskBook.drop_drain.Goals as goal

pub returns-clause-leaves : goal.returns-clause-leaves
returns-clause-leaves g c =
    let new = c.remove.new.self in
    let old = c.args.self.now.drains in
    subst (λ key. Leaves old new key) c.redeem-key.ensures (subst (λ list. Leaves list new c.redeem-key.result) c.uncount_drain.ensures.drains c.remove.ensures.leaves)
