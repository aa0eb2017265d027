use Rattle.std.proofs.Common.{◌≡◌, None, refl, subst}
use Rattle.pool_machine.specs.CoreSteps.{IsNumbering}
use Rattle.r2d2_core.specs.Book.{SeenBook}
use Rattle.r2d2_core.specs.BookParts.{beside, book_in}
use Rattle.r2d2_core.proofs.Recording.Beside.{keeps_as, none_alone, noted_beside, faithful}
use Rattle.r2d2_core.proofs.Recording.Books.{keeps_number}
use Rattle.r2d2_core.proofs.journal.Book.number.Goals as goal

pub returns : goal.returns
returns g c =
    let old = c.self.inside.machine in
    let l = c.self.inside.journal in
    let keeps = keeps_as (beside old l) None None _ c.number.new.self refl c.number.ensures.after
    (keeps_number c.args.tries (book_in old l) c.self.invariant.sound c.self.invariant.recorded) in
    record {
      of_core = subst
          (λ (b : SeenBook _). IsNumbering c.args.tries
          c.number.result b.picture c.number.new.self)
          c.self.view_is c.number.ensures;
      noted = subst (λ (b : SeenBook _). beside c.number.new.self l ≡ b.journal) c.self.view_is (noted_beside l l None old c.number.new.self c.self.invariant keeps
          (none_alone l));
    }

pub invariant_of-self : goal.invariant_of-self
invariant_of-self g c =
    let old = c.self.inside.machine in
    let l = c.self.inside.journal in
    let keeps = keeps_as (beside old l) None None _ c.number.new.self refl c.number.ensures.after
    (keeps_number c.args.tries (book_in old l) c.self.invariant.sound c.self.invariant.recorded) in
    faithful l l None old c.number.new.self c.self.invariant c.number.ensures.sound keeps (none_alone l)
