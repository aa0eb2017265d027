use Rattle.r2d2.proofs.Places.{place_none, place_removes_none, place_some}
use Rattle.r2d2.proofs.extensions.place_of.Goals as goal

pub returns-clause-none : goal.returns-clause-none
returns-clause-none g c = place_none _ c.args.entries.now _ c.position_of.ensures

pub returns-clause-nothing_to_remove : goal.returns-clause-nothing_to_remove
returns-clause-nothing_to_remove g c = place_removes_none _ c.args.entries.now _ c.position_of.ensures

pub returns-clause-some : goal.returns-clause-some
returns-clause-some g c = place_some _ c.args.entries.now _ c.position_of.ensures
