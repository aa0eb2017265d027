use Rattle.std.proofs.Common.{subst}
use Rattle.r2d2_core.specs.Replays.{Stands}
use Rattle.r2d2_core.proofs.Recording.Following.{does_in, other_in}
use Rattle.r2d2_core.proofs.journal.replay.Replay.wrong.Goals as goal

pub returns-in-Legal : goal.returns-in-Legal
returns-in-Legal g c =
    let r = c.args.report.now in
    let p = c.args.self.now in
    let h = subst (λ s. Stands s r p.apart p.followed) c.in-Legal.is c.requires.of in
    does_in r p.apart p.followed c.in-Legal.running_base h c.requires.all (c.shows.ensures.0 cc)

pub returns-in-Legal-2 : goal.returns-in-Legal-2
returns-in-Legal-2 g c =
    let r = c.args.report.now in
    let p = c.args.self.now in
    let h = subst (λ s. Stands s r p.apart p.followed) c.in-Legal.is c.requires.of in
    other_in r p.apart p.followed c.in-Legal.running_base h c.requires.all (λ s. cc (c.shows.ensures.1 s, c.if-shows.false))
