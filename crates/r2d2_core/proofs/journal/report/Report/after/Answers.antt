use Rattle.std.proofs.Common.{◌≡◌, ◌≤◌, true, ℕ, List, map, take, sym, ◌∙◌, ap, subst, arith}
use Rattle.std.proofs.lemmas.List.{take-map, length-map}
use Rattle.pool_machine.specs.Limits.{seen_limits}
use Rattle.pool_machine.specs.Ids.{copies_of}
use Rattle.r2d2_core.specs.declared.journal.record.Record.{Record}
use Rattle.r2d2_core.specs.Records.{seen_record, SeenRecord}
use Rattle.r2d2_core.specs.Bases.{SeenBase}
use Rattle.r2d2_core.specs.Folding.{replay, all_follow, known_in}
use Rattle.r2d2_core.specs.RunningBase.{SeenRunningBase, rooms_for}
use Rattle.r2d2_core.specs.Reports.{seen_base, seen_records}
use Rattle.r2d2_core.proofs.Recording.Folding.{comes_to_legal}
use Rattle.r2d2_core.proofs.Recording.Auditing.{start_there, follows_all, apart_same, if_ok}
use Rattle.r2d2_core.proofs.journal.report.Report.after.Goals as goal

pub follow_all-requires-clause-apart : goal.follow_all-requires-clause-apart
follow_all-requires-clause-apart g c =
    let r = c.args.self.now in
    let limits = seen_limits r.limits in
    let base = seen_base r.base in
    let rs = map seen_record (take c.args.count c.as_slice.result.now) in
    let same : take c.args.count (seen_records r) ≡ rs = ap (λ (l : List Record). take c.args.count (map seen_record l)) (sym c.as_slice.ensures.value) ∙ take-map seen_record c.args.count c.as_slice.result.now in
    let there = start_there limits base (rooms_for base rs) c.in_ok-running_base.field-0 c.in-Some.running_base c.in-Some.is c.in_ok-running_base.ensures in
    subst (λ (s : SeenRunningBase). (i : ℕ) → copies_of i (known_in s.base rs) ≤ 1) (sym there.1)
    (apart_same base (take c.args.count (seen_records r)) rs same c.requires.legal.apart)

pub copied-requires : goal.copied-requires
copied-requires g c =
    let r = c.args.self.now in
    let limits = seen_limits r.limits in
    let base = seen_base r.base in
    let front = take c.args.count c.as_slice.result.now in
    let rs = map seen_record front in
    let same : take c.args.count (seen_records r) ≡ rs = ap (λ (l : List Record). take c.args.count (map seen_record l)) (sym c.as_slice.ensures.value) ∙ take-map seen_record c.args.count c.as_slice.result.now in
    let there = start_there limits base (rooms_for base rs) c.in_ok-running_base.field-0 c.in-Some.running_base c.in-Some.is c.in_ok-running_base.ensures in
    let start : c.in-Some.running_base.base ≡ base = ap (λ (s : SeenRunningBase). s.base) there.1 in
    let all : all_follow limits rs c.in-Some.running_base.base ≡ true = ap (all_follow limits rs) start
    ∙ (ap (λ (l : List SeenRecord). all_follow limits l base) (sym same) ∙ c.requires.legal.follow) in
    let whole = follows_all limits rs c.in-Some.running_base.base c.follow_all.result (omega
    (arith, c.follow_all.ensures.within, length-map front seen_record)) all (λ lt. c.follow_all.ensures.stops
    (omega (arith, lt, length-map front seen_record))) in
    let is : c.follow_all.new.self.base ≡ replay limits (take c.args.count (seen_records r)) base =
    ap (λ (s : SeenRunningBase). s.base) (c.follow_all.ensures.folded (omega (arith, whole, length-map front seen_record)))
    ∙ (ap (replay limits rs) start ∙ ap (λ (l : List SeenRecord). replay limits l base) (sym same)) in
    let legal = comes_to_legal limits (take c.args.count (seen_records r)) base c.requires.base c.requires.legal in
    omega (arith, ap (λ (b : SeenBase). b.connections) is, legal.legal.fits, c.max_size-max_size.ensures)

pub returns : goal.returns
returns g c =
    let r = c.args.self.now in
    let limits = seen_limits r.limits in
    let base = seen_base r.base in
    let front = take c.args.count c.as_slice.result.now in
    let rs = map seen_record front in
    let same : take c.args.count (seen_records r) ≡ rs = ap (λ (l : List Record). take c.args.count (map seen_record l)) (sym c.as_slice.ensures.value) ∙ take-map seen_record c.args.count c.as_slice.result.now in
    let there = start_there limits base (rooms_for base rs) c.in_ok-running_base.field-0 c.in-Some.running_base c.in-Some.is c.in_ok-running_base.ensures in
    let start : c.in-Some.running_base.base ≡ base = ap (λ (s : SeenRunningBase). s.base) there.1 in
    let all : all_follow limits rs c.in-Some.running_base.base ≡ true = ap (all_follow limits rs) start
    ∙ (ap (λ (l : List SeenRecord). all_follow limits l base) (sym same) ∙ c.requires.legal.follow) in
    let whole = follows_all limits rs c.in-Some.running_base.base c.follow_all.result (omega
    (arith, c.follow_all.ensures.within, length-map front seen_record)) all (λ lt. c.follow_all.ensures.stops
    (omega (arith, lt, length-map front seen_record))) in
    let is : c.follow_all.new.self.base ≡ replay limits (take c.args.count (seen_records r)) base =
    ap (λ (s : SeenRunningBase). s.base) (c.follow_all.ensures.folded (omega (arith, whole, length-map front seen_record)))
    ∙ (ap (replay limits rs) start ∙ ap (λ (l : List SeenRecord). replay limits l base) (sym same)) in
    if_ok (λ made. seen_base made ≡ c.follow_all.new.self.base) (λ made. seen_base made ≡ replay limits (take c.args.count (seen_records r)) base) c.copied.result
    (λ made e. e ∙ is) c.copied.ensures
