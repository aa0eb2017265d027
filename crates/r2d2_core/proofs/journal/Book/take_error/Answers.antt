use Rattle.std.proofs.Common.{◌≡◌, None, refl, subst}
use Rattle.pool_machine.specs.CoreSteps.{IsTelling}
use Rattle.r2d2_core.specs.Book.{SeenBook}
use Rattle.r2d2_core.specs.BookParts.{beside, book_in}
use Rattle.r2d2_core.proofs.Recording.Beside.{keeps_as, none_alone, noted_beside, faithful}
use Rattle.r2d2_core.proofs.Recording.Books.{keeps_take_error}
use Rattle.r2d2_core.proofs.journal.Book.take_error.Goals as goal

pub returns : goal.returns
returns g c =
    let old = c.self.inside.machine in
    let l = c.self.inside.journal in
    let keeps = keeps_as (beside old l) None None _ c.take_error.new.self refl c.take_error.ensures.after
    (keeps_take_error (book_in old l) c.self.invariant.recorded) in
    record {
      of_core = subst
          (λ (b : SeenBook _). IsTelling
          c.take_error.result b.picture c.take_error.new.self)
          c.self.view_is c.take_error.ensures;
      noted = subst (λ (b : SeenBook _). beside c.take_error.new.self l ≡ b.journal) c.self.view_is (noted_beside l l None old c.take_error.new.self c.self.invariant
          keeps (none_alone l));
    }

pub invariant_of-self : goal.invariant_of-self
invariant_of-self g c =
    let old = c.self.inside.machine in
    let l = c.self.inside.journal in
    let keeps = keeps_as (beside old l) None None _ c.take_error.new.self refl c.take_error.ensures.after
    (keeps_take_error (book_in old l) c.self.invariant.recorded) in
    faithful l l None old c.take_error.new.self c.self.invariant c.take_error.ensures.sound keeps (none_alone l)
