use Rattle.std.proofs.Common.{◌≡◌, ◌≤◌, ◌-◌, ◌+◌, ◌/◌, ℕ, List, [], length, map, take, sym, ◌∙◌, ap, arith}
use Rattle.std.proofs.lemmas.List.{take_all, take-map, length-map}
use Rattle.pool_machine.specs.Ids.{copies_of}
use Rattle.r2d2_core.specs.declared.journal.record.Record.{Record}
use Rattle.r2d2_core.specs.Records.{seen_record}
use Rattle.r2d2_core.specs.Folding.{known_in}
use Rattle.r2d2_core.specs.Reports.{seen_base, seen_records}
use Rattle.r2d2_core.proofs.Recording.Auditing.{apart_same, some_records}
use Rattle.r2d2_core.proofs.journal.report.Report.count_apart.Goals as goal

pub halving-init : goal.halving-init
halving-init g c =
    let rs = c.as_slice-records.result.now in
    let base = seen_base c.args.self.now.base in
    let none : (i : ℕ) → copies_of i (known_in base []) ≤ 1 = c.in_ok-are_apart-2.ensures.0 cc in
    let all : ((i : ℕ) → copies_of i (known_in base (map seen_record rs)) ≤ 1) → ⊥ = λ h. cc (c.in_ok-are_apart.ensures.1 h, c.if-branch.false) in
    record {
      order = some_records base rs none all;
      within = omega arith;
      apart = none;
      twice = λ h. all (apart_same base _ (map seen_record rs) (take_all (length rs) (map seen_record rs) (omega (arith, length-map rs seen_record))) h);
    }

pub halving-preserved-then-branch-2 : goal.halving-preserved-then-branch-2
halving-preserved-then-branch-2 g c =
    let rs = c.as_slice-records.result.now in
    let base = seen_base c.args.self.now.base in
    let middle = c.halving.apart + (c.halving.twice - c.halving.apart) / 2 in
    record {
      order = omega (arith, c.halving.invariant.order);
      within = c.halving.invariant.within;
      apart = apart_same base (map seen_record (take middle rs)) _ (sym (take-map seen_record middle rs)) (c.in_ok-are_apart-3.ensures.0 cc);
      twice = c.halving.invariant.twice;
    }

pub halving-preserved : goal.halving-preserved
halving-preserved g c =
    let rs = c.as_slice-records.result.now in
    let base = seen_base c.args.self.now.base in
    let middle = c.halving.apart + (c.halving.twice - c.halving.apart) / 2 in
    record {
      order = omega (arith, c.halving-test.true);
      within = omega (arith, c.halving.invariant.order, c.halving.invariant.within);
      apart = c.halving.invariant.apart;
      twice = λ h. cc (
        c.in_ok-are_apart-3.ensures.1 (apart_same base _ (map seen_record (take middle rs)) (take-map seen_record middle rs) h),
        c.if-branch-2.false,
      );
    }

pub returns-then-branch : goal.returns-then-branch
returns-then-branch g c =
    let r = c.args.self.now in
    let rs = c.as_slice-records.result.now in
    let many : length rs ≡ length r.records.items = ap (λ (l : List Record). length l) c.as_slice-records.ensures.value in
    let whole : take (length rs) (seen_records r) ≡ map seen_record rs =
    take_all (length rs) (seen_records r) (omega (arith, many, length-map r.records.items seen_record))
    ∙ ap (λ (l : List Record). map seen_record l) (sym c.as_slice-records.ensures.value) in
    record {
      within = omega (arith, many);
      apart = apart_same (seen_base r.base) (map seen_record rs) (take (length rs) (seen_records r)) (sym whole) (c.in_ok-are_apart.ensures.0 cc);
      stops = λ lt h. omega (arith, lt, many);
    }

pub returns : goal.returns
returns g c =
    let r = c.args.self.now in
    let rs = c.as_slice-records.result.now in
    let apart = c.halving.apart in
    let twice = c.halving.twice in
    let kept = c.halving.invariant in
    let many : length rs ≡ length r.records.items = ap (λ (l : List Record). length l) c.as_slice-records.ensures.value in
    let next : twice ≡ apart + 1 = omega (arith, kept.order, c.halving-test.false) in
    let front : take apart (map seen_record rs) ≡ take apart (seen_records r) =
    ap (λ (l : List Record). take apart (map seen_record l)) c.as_slice-records.ensures.value in
    let further : take (apart + 1) (seen_records r) ≡ take twice (map seen_record rs) = ap (λ n. take n (seen_records r)) (sym next)
    ∙ ap (λ (l : List Record). take twice (map seen_record l)) (sym c.as_slice-records.ensures.value) in
    record {
      within = omega (arith, kept.order, kept.within, many);
      apart = apart_same (seen_base r.base) (take apart (map seen_record rs)) (take apart (seen_records r)) front kept.apart;
      stops = λ lt h. kept.twice (apart_same (seen_base r.base) (take (apart + 1) (seen_records r)) (take twice (map seen_record rs)) further h);
    }
