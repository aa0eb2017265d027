use Rattle.std.proofs.Common.{◌∙◌, ap, map, length, ◌+◌, arith}
use Rattle.std.specs.Duration.{as_nanos}
use Rattle.r2d2_core.specs.Bases.{seen_bare, seen_lent}
use Rattle.r2d2_core.specs.RunningBase.{SeenRunningBase}
use Rattle.r2d2_core.proofs.Recording.RunningBase.{bare_same, same_base}
use Rattle.r2d2_core.proofs.journal.running_base.RunningBase.copied.Goals as goal

pub returns : goal.returns
returns g c =
    let s = c.self.inside in
    same_base (as_nanos s.at) s.pending s.closed (map seen_bare c.in_ok-idle.idle.items) s.idle.items (map seen_lent c.in_ok-lent.lent.items) s.lent.items
    (c.len.result + c.len-2.result) (length s.idle.items + length s.lent.items)
    (c.in_ok-idle.ensures ∙ bare_same s.idle.items) c.in_ok-lent.ensures (omega (arith, c.len.ensures, c.len-2.ensures))
    ∙ ap (λ (n : SeenRunningBase). n.base) c.self.view_is
