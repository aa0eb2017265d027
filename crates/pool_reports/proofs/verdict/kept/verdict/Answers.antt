use Rattle.std.proofs.Common.{◌∙◌, ap, List, map, arith}
use Rattle.r2d2_core.specs.declared.journal.record.Record.{Record}
use Rattle.r2d2_core.specs.Records.{seen_record, takes_in}
use Rattle.r2d2_core.specs.Reports.{IsSoundReport}
use Rattle.pool_reports.proofs.Kept.{sound_counts}
use Rattle.pool_reports.proofs.verdict.kept.verdict.Goals.{then-report-eq0+else-not-is_first+else-report-due, else-report-eq0}
use Rattle.pool_reports.proofs.verdict.kept.verdict.Goals as goal

pub returns : goal.returns
returns g c =
    let r = c.args.report.now in
    let counts = sound_counts r c.requires.replays (c.is_replenished.ensures.0 c.if-not-is_replenished.false) in
    elim c.if-report-eq0.branch as (λ _. IsSoundReport r) [
      | then-report-eq0+else-not-is_first+else-report-due w ↦ record {
        replays = c.requires.replays;
        begins = λ none. w.is_first.ensures.0 w.if-not-is_first.false;
        counted = λ none. w.if-report-due.false ∙ (w.takes-due.ensures ∙ ap (λ (l : List Record). takes_in (map seen_record l)) w.as_slice.ensures.value);
        sound = counts;
      }
      | else-report-eq0 w ↦ record {
        replays = c.requires.replays;
        begins = λ none. absurd (omega (arith, none, w.if-report-eq0.false));
        counted = λ none. absurd (omega (arith, none, w.if-report-eq0.false));
        sound = counts;
      }
    ]
