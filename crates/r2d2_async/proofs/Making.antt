-- In a book that begins with its settings, what it orders first stands in order.
use Rattle.std.proofs.Common.{sym, subst}
use Rattle.r2d2_core.specs.Book.{SeenBook}
use Rattle.r2d2.specs.declared.config.Settings.{Settings}
use Rattle.r2d2.specs.Settings.{BeginsWith, limits_within}
use Rattle.pool_tasks.specs.InTime.{IsInOrder}
use Rattle.pool_tasks.proofs.InTime.{first_in_order}

pub begins_in_order : {H V Z T : Type 0} (s : Settings H V Z) (book : SeenBook T) → BeginsWith s book → IsInOrder book.picture.on_order
begins_in_order s book begins =
    subst (λ (b : SeenBook _). IsInOrder b.picture.on_order) (sym begins.2) (first_in_order (limits_within begins.0 s.config) 0 s.first_id)
