use Rattle.r2d2_async.proofs.Making.{begins_in_order}
use Rattle.r2d2_async.proofs.building.first_book.Goals as goal

pub returns-in-Ok-clause-in_order : goal.returns-in-Ok-clause-in_order
returns-in-Ok-clause-in_order g c = begins_in_order c.args.builder _ c.in-Ok.ensures.book
