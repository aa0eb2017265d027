use Rattle.std.proofs.Common.{◌≡◌, refl}
use Rattle.futures.specs.Task.{Hears}
use Rattle.r2d2_async.specs.declared.worker.Sleeping.{Sleeping}
use Rattle.r2d2_async.specs.Sources.{orders_of}
use Rattle.r2d2_async.proofs.Needs.{covered}
use Rattle.r2d2_async.proofs.worker.WorkerFuture.poll.Goals as goal

pub returns-in-Idle-clause-registered : goal.returns-in-Idle-clause-registered
returns-in-Idle-clause-registered g c =
    let covers = c.in-Idle.ensures.idle refl in
    let asked = c.ask-next.new.self in (
      covers.0,
      λ s needed. covered asked.opening c.take-slept.new.self (λ o. g.M.Connect.Future.needs o.connect s) (λ (l : Sleeping _). g.T.Sleep.Future.needs l.sleep s)
          (Hears c.ask-next.new.cx s) (s ≡ orders_of asked.shared) c.ask-next.ensures.opening c.take-slept.ensures.after (covers.1 s) needed,
    )
