use Rattle.std.proofs.Common.{ap, sym, subst, arith}
use Rattle.r2d2_core.specs.declared.journal.bounded.Before.{Before}
use Rattle.pool_machine.specs.declared.schedule.limits.LimitSettings.{LimitSettings}
use Rattle.r2d2_core.specs.Bases.{SeenBase, IsLegalBase}
use Rattle.r2d2_core.specs.JournalParts.{IsBefore}
use Rattle.r2d2_core.proofs.Recording.Beside.{before_folded}
use Rattle.r2d2_core.proofs.journal.Book.base.Goals as goal

pub copied-requires : goal.copied-requires
copied-requires g c =
    let l = c.self.inside.journal in
    let folded = subst (λ (b : Before _). IsBefore l b) c.in-Folded.is c.before-2.ensures in
    let legal : IsLegalBase l.limits l.base = subst (IsLegalBase l.limits) (sym (before_folded c.self.inside.machine l folded.0))
    c.self.invariant.recorded.replays.base in
    omega (
      arith,
      legal.fits,
      ap (λ (b : SeenBase). b.connections) folded.1,
      ap (λ (limits : LimitSettings). limits.max_size) c.self.invariant.recorded.same,
      ap (λ (limits : LimitSettings). limits.max_size) c.limits.ensures.value,
      c.max_size-max_size.ensures,
    )
