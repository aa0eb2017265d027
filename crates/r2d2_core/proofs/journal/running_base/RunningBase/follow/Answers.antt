use Rattle.std.proofs.Common.{sym, subst}
use Rattle.pool_machine.specs.Limits.{seen_limits}
use Rattle.r2d2_core.specs.Bases.{IsLegalBase}
use Rattle.r2d2_core.specs.RunningBase.{SeenRunningBase, base_in}
use Rattle.r2d2_core.proofs.Recording.Folding.{idle_apart, lent_apart}
use Rattle.r2d2_core.proofs.journal.running_base.RunningBase.follow.Goals as goal

pub lend-requires-clause-apart : goal.lend-requires-clause-apart
lend-requires-clause-apart g c =
    let legal : IsLegalBase (seen_limits c.args.limits.now) (base_in c.self.inside) = subst
    (λ (v : SeenRunningBase). IsLegalBase (seen_limits c.args.limits.now) v.base) (sym c.self.view_is) c.requires.legal in
    idle_apart (base_in c.self.inside) legal.apart

pub keep-requires-clause-apart : goal.keep-requires-clause-apart
keep-requires-clause-apart g c =
    let legal : IsLegalBase (seen_limits c.args.limits.now) (base_in c.self.inside) = subst
    (λ (v : SeenRunningBase). IsLegalBase (seen_limits c.args.limits.now) v.base) (sym c.self.view_is) c.requires.legal in
    lent_apart (base_in c.self.inside) legal.apart c.in-Kept.id

pub part-requires : goal.part-requires
part-requires g c =
    let legal : IsLegalBase (seen_limits c.args.limits.now) (base_in c.self.inside) = subst
    (λ (v : SeenRunningBase). IsLegalBase (seen_limits c.args.limits.now) v.base) (sym c.self.view_is) c.requires.legal in
    lent_apart (base_in c.self.inside) legal.apart c.in-Closed.id
