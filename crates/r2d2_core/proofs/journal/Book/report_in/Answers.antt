use Rattle.std.proofs.Common.{◌∙◌, ap, sym, subst}
use Rattle.r2d2_core.specs.Journal.{CountsTakes, BeginsAtTheMaking}
use Rattle.r2d2_core.specs.Book.{SeenBook, IsReplayed}
use Rattle.r2d2_core.specs.BookParts.{IsRecorded, book_in}
use Rattle.r2d2_core.specs.Reports.{IsReportOf}
use Rattle.pool_machine.specs.Picture.{IsSound}
use Rattle.r2d2_core.proofs.Recording.Reporting.{is_replayed, facts_of, report_replays, report_sound, report_counts, report_since, report_whole}
use Rattle.r2d2_core.proofs.journal.Book.report_in.Goals as goal

pub returns-clause-given : goal.returns-clause-given
returns-clause-given g c =
    subst (λ (a : SeenBook _). IsReportOf a (record {
      limits = c.limits.result;
      base = c.in_ok-base.base;
      records = c.in_ok-records.records;
      lost = c.lost.result;
      takes = c.takes.result;
      idle = c.in_ok-idle.idle;
      lent = c.in_ok-lent.lent;
      connections = c.connections.result;
      pending = c.pending.result;
      closed = c.is_closed.result;
    })) c.self.view_is
    (record {
      limits = c.limits.ensures.value;
      base = c.in_ok-base.ensures ∙ ap (λ (a : SeenBook _). a.journal.base) (sym c.self.view_is);
      records = c.in_ok-records.ensures;
      lost = c.lost.ensures;
      takes = c.takes.ensures.value;
      idle = c.in_ok-idle.ensures;
      lent = c.in_ok-lent.ensures;
      connections = c.connections.ensures.value;
      pending = c.pending.ensures.value;
      closed = c.is_closed.ensures.value;
    })

pub returns-clause-sound : goal.returns-clause-sound
returns-clause-sound g c =
    let given = returns-clause-given g c in
    record {
      replays = report_replays c.args.self.now _ given
          (subst IsReplayed c.self.view_is (is_replayed (book_in c.self.inside.machine c.self.inside.journal) c.self.invariant.recorded));
      begins = report_whole c.args.self.now _ given (subst IsRecorded c.self.view_is c.self.invariant.recorded)
          (subst (λ (a : SeenBook _). BeginsAtTheMaking a.journal) c.self.view_is c.self.invariant.begins);
      counted = report_counts c.args.self.now _ given (subst (λ (a : SeenBook _). CountsTakes a.journal) c.self.view_is c.takes.ensures.counted);
      sound = report_sound c.args.self.now _ given (subst (λ (a : SeenBook _). IsSound a.picture) c.self.view_is c.self.invariant.sound);
    }

pub returns-clause-since : goal.returns-clause-since
returns-clause-since g c = report_since c.args.self.now _ (returns-clause-given g c) (subst IsRecorded c.self.view_is c.self.invariant.recorded)
    (subst (λ (a : SeenBook _). BeginsAtTheMaking a.journal) c.self.view_is c.self.invariant.begins)

pub returns-clause-facts : goal.returns-clause-facts
returns-clause-facts g c = facts_of (book_in c.self.inside.machine c.self.inside.journal) c.args.self.now c.self.invariant c.self.view_is
