use Rattle.std.proofs.Common.{◌≡◌, None, refl, subst}
use Rattle.std.specs.Duration.{as_nanos}
use Rattle.pool_machine.specs.CoreSteps.{IsBegin}
use Rattle.r2d2_core.specs.Book.{SeenBook}
use Rattle.r2d2_core.specs.BookParts.{beside, book_in}
use Rattle.r2d2_core.proofs.Recording.Beside.{keeps_as, none_alone, noted_beside, faithful}
use Rattle.r2d2_core.proofs.Recording.Books.{keeps_begin}
use Rattle.r2d2_core.proofs.journal.Book.begin.Goals as goal

pub returns : goal.returns
returns g c =
    let old = c.self.inside.machine in
    let l = c.self.inside.journal in
    let keeps = keeps_as (beside old l) None None _ c.begin.new.self refl c.begin.ensures.after
    (keeps_begin (as_nanos c.args.now) (book_in old l) c.self.invariant.recorded) in
    record {
      of_core = subst
          (λ (b : SeenBook _). IsBegin c.args.now
          c.begin.result b.picture c.begin.new.self)
          c.self.view_is c.begin.ensures;
      noted = subst (λ (b : SeenBook _). beside c.begin.new.self l ≡ b.journal) c.self.view_is (noted_beside l l None old c.begin.new.self c.self.invariant keeps
          (none_alone l));
    }

pub invariant_of-self : goal.invariant_of-self
invariant_of-self g c =
    let old = c.self.inside.machine in
    let l = c.self.inside.journal in
    let keeps = keeps_as (beside old l) None None _ c.begin.new.self refl c.begin.ensures.after
    (keeps_begin (as_nanos c.args.now) (book_in old l) c.self.invariant.recorded) in
    faithful l l None old c.begin.new.self c.self.invariant c.begin.ensures.sound keeps (none_alone l)
