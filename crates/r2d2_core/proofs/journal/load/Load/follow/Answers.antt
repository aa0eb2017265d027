use Rattle.std.proofs.Common.{ap, arith, ◌||◌}
use Rattle.r2d2_core.specs.declared.journal.load.Load.{Load}
use Rattle.pool_machine.specs.Limits.{seen_limits}
use Rattle.r2d2_core.specs.Records.{seen_record}
use Rattle.r2d2_core.proofs.Recording.Loads.{load_follows}
use Rattle.r2d2_core.proofs.journal.load.Load.follow.Goals as goal

pub returns-clause-load : goal.returns-clause-load
returns-clause-load c =
    let old = c.args.self.now in
    let now : Load = record {
      limits = old.limits;
      at = c.later-at.result;
      lent = c.lent_after-self.result;
      pending = c.pending_after-self.result;
      closed = old.closed || c.is_close.result;
      exhausted = c.exhausted_until-self.result;
    } in
    λ base legal may load.
    load_follows (seen_limits old.limits) (seen_record c.args.made.now) base old now (omega (arith, c.max_size-max_size.ensures, c.max_size-max_size.type_inv))
    legal may load (omega (arith, c.later-at.ensures.later, c.at.ensures)) c.lent_after-self.ensures c.pending_after-self.ensures
    (ap (λ b. old.closed || b) c.is_close.ensures)
