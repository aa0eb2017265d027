use Rattle.std.proofs.Common.{◌≡◌, ◌∙◌, sym, ap, arith, List, get_or}
use Rattle.pool_machine.specs.Limits.{seen_limits}
use Rattle.r2d2_core.specs.declared.journal.record.Record.{Record}
use Rattle.r2d2_core.specs.Records.{seen_record}
use Rattle.r2d2_core.specs.Folding.{folded, may_follow}
use Rattle.r2d2_core.specs.RunningBase.{running_base}
use Rattle.r2d2_core.proofs.Recording.Auditing.{some_record}
use Rattle.r2d2_core.proofs.Recording.Following.{next_in, fits_in, more_in, stop_in, twice_in}
use Rattle.r2d2_core.proofs.journal.report.Report.follow_in.Goals as goal

pub follow-requires-clause-idle_room : goal.follow-requires-clause-idle_room
follow-requires-clause-idle_room g c =
    rw c.as_slice-records.ensures.value (fits_in c.args.self.now c.args.apart c.args.place c.args.running_base.now c.requires.stands (omega (arith, c.if-place-apart.true))).0

pub follow-requires-clause-lent_room : goal.follow-requires-clause-lent_room
follow-requires-clause-lent_room g c =
    rw c.as_slice-records.ensures.value (fits_in c.args.self.now c.args.apart c.args.place c.args.running_base.now c.requires.stands (omega (arith, c.if-place-apart.true))).1

pub returns-then-place-apart-clause-may : goal.returns-then-place-apart-clause-may
returns-then-place-apart-clause-may g c =
    λ t.
    let r = c.args.self.now in
    let k = c.args.place in
    let item : seen_record (get_or c.as_slice-records.result.now k some_record) ≡ next_in r c.args.apart k =
    ap (λ (l : List Record). seen_record (get_or l k some_record)) c.as_slice-records.ensures.value in
    more_in r c.args.apart k c.args.running_base.now c.follow.new.self c.requires.stands (omega (arith, c.if-place-apart.true))
    (ap (λ x. may_follow (seen_limits r.limits) x c.args.running_base.now.base) (sym item) ∙ (sym c.follow.ensures.may ∙ t))
    (c.follow.ensures.folded t ∙ ap (λ x. running_base (folded (seen_limits r.limits) x c.args.running_base.now.base) c.args.running_base.now.room) item)

pub returns-then-place-apart-clause-may_not : goal.returns-then-place-apart-clause-may_not
returns-then-place-apart-clause-may_not g c =
    λ f.
    let r = c.args.self.now in
    let k = c.args.place in
    let item : seen_record (get_or c.as_slice-records.result.now k some_record) ≡ next_in r c.args.apart k =
    ap (λ (l : List Record). seen_record (get_or l k some_record)) c.as_slice-records.ensures.value in
    stop_in r c.args.apart k c.args.running_base.now c.requires.stands c.requires.here (omega (arith, c.if-place-apart.true))
    (ap (λ x. may_follow (seen_limits r.limits) x c.args.running_base.now.base) (sym item) ∙ (sym c.follow.ensures.may ∙ f))

pub returns-else-place-apart-clause-may_not : goal.returns-else-place-apart-clause-may_not
returns-else-place-apart-clause-may_not g c =
    λ f. twice_in c.args.self.now c.args.apart c.args.place c.args.running_base.now c.requires.stands c.requires.here (omega (arith, c.if-place-apart.false))
