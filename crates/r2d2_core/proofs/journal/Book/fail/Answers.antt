use Rattle.std.proofs.Common.{◌≡◌, None, refl, subst}
use Rattle.std.specs.Duration.{as_nanos}
use Rattle.pool_machine.specs.CoreSteps.{IsFailedOpening}
use Rattle.r2d2_core.specs.Book.{SeenBook}
use Rattle.r2d2_core.specs.BookParts.{beside, book_in}
use Rattle.r2d2_core.proofs.Recording.Beside.{keeps_as, none_alone, noted_beside, faithful}
use Rattle.r2d2_core.proofs.Recording.Books.{keeps_fail}
use Rattle.r2d2_core.proofs.journal.Book.fail.Goals as goal

pub returns : goal.returns
returns g c =
    let old = c.self.inside.machine in
    let l = c.self.inside.journal in
    let keeps = keeps_as (beside old l) None None _ c.fail.new.self refl c.fail.ensures.after
    (keeps_fail (as_nanos c.args.now) c.args.tries c.args.text (book_in old l) c.self.invariant.recorded) in
    record {
      of_core = subst
          (λ (b : SeenBook _). IsFailedOpening c.args.now c.args.tries c.args.text
          c.fail.result b.picture c.fail.new.self)
          c.self.view_is c.fail.ensures;
      noted = subst (λ (b : SeenBook _). beside c.fail.new.self l ≡ b.journal) c.self.view_is (noted_beside l l None old c.fail.new.self c.self.invariant keeps
          (none_alone l));
    }

pub invariant_of-self : goal.invariant_of-self
invariant_of-self g c =
    let old = c.self.inside.machine in
    let l = c.self.inside.journal in
    let keeps = keeps_as (beside old l) None None _ c.fail.new.self refl c.fail.ensures.after
    (keeps_fail (as_nanos c.args.now) c.args.tries c.args.text (book_in old l) c.self.invariant.recorded) in
    faithful l l None old c.fail.new.self c.self.invariant c.fail.ensures.sound keeps (none_alone l)
