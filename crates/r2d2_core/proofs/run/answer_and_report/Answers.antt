use Rattle.std.proofs.Common.{refl, sym, ◌∙◌, ap, map, subst}
use Rattle.std.proofs.lemmas.List.{map-id}
use Rattle.std.proofs.lemmas.Iterator.Consumers.{YieldsList-end}
use Rattle.std.proofs.lemmas.Iterator.Adapters.{YieldsList-from_vec}
use Rattle.r2d2_core.specs.History.{Made}
use Rattle.r2d2_core.specs.Answers.{answers_of}
use Rattle.pool_machine.specs.Steps.{seen_answer}
use Rattle.r2d2_core.specs.NotedSteps.{book_after}
use Rattle.r2d2_core.specs.Book.{HasFacts}
use Rattle.r2d2_core.specs.Reports.{IsReportOf}
use Rattle.r2d2_core.proofs.Histories.Made.{kept_made, picture_of-made}
use Rattle.r2d2_core.proofs.Follows.Runs.{run_more, book_more}
use Rattle.r2d2_core.proofs.run.answer_and_report.Goals as goal

pub loop-step-init : goal.loop-step-init
loop-step-init g c = record {
  run = λ limits now legal is. record {
    answers_are = ap (map seen_answer) c.in_ok-answers.ensures.items;
    picture_is = is ∙ sym (picture_of-made limits now 0);
    kept = kept_made limits now 0 legal;
  };
  book_is = refl;
}

pub loop-step-preserved : goal.loop-step-preserved
loop-step-preserved g c = record {
  run = λ limits now legal is.
      run_more (Made limits now 0) c.loop-step.yielded c.loop-step.answers.items c.push.new.self.items c.loop-step.book.picture
      c.answer.new.self.picture c.in-Some.step c.in_ok-answer.answer
      (c.loop-step.invariant.run limits now legal is) c.in_ok-push.ensures.items c.in_ok-answer.ensures.answer c.in_ok-answer.ensures.after;
  book_is = book_more c.args.book.now c.loop-step.yielded c.loop-step.book c.answer.new.self c.in-Some.step
      c.loop-step.invariant.book_is c.in_ok-answer.ensures.after c.in_ok-answer.ensures.noted;
}

pub returns-clause-answers : goal.returns-clause-answers
returns-clause-answers g c =
    let e = c.into_iter-step-iterator.ensures.into_iter_gives in
    let whole = YieldsList-end (YieldsList-from_vec c.args.steps.items e.0 (e.1
    ∙ c.args.steps.ok.0)) c.loop-step.yielded c.loop-step.step-iterator c.loop-step.yielded_by c.next.result c.next.new.self c.in-None.is
    c.next.ensures.steps in
    λ limits now legal is. (c.loop-step.invariant.run limits now legal is).answers_are
    ∙ ap (answers_of (Made limits now 0)) (sym (map-id c.loop-step.yielded) ∙ whole.0)

pub returns-clause-facts : goal.returns-clause-facts
returns-clause-facts g c =
    let e = c.into_iter-step-iterator.ensures.into_iter_gives in
    let whole = YieldsList-end (YieldsList-from_vec c.args.steps.items e.0 (e.1
    ∙ c.args.steps.ok.0)) c.loop-step.yielded c.loop-step.step-iterator c.loop-step.yielded_by c.next.result c.next.new.self c.in-None.is
    c.next.ensures.steps in
    subst HasFacts (c.loop-step.invariant.book_is ∙ ap (λ l. book_after l c.args.book.now) (sym (map-id c.loop-step.yielded) ∙ whole.0)) c.in_ok-report.ensures.facts

pub returns-clause-given : goal.returns-clause-given
returns-clause-given g c =
    let e = c.into_iter-step-iterator.ensures.into_iter_gives in
    let whole = YieldsList-end (YieldsList-from_vec c.args.steps.items e.0 (e.1
    ∙ c.args.steps.ok.0)) c.loop-step.yielded c.loop-step.step-iterator c.loop-step.yielded_by c.next.result c.next.new.self c.in-None.is
    c.next.ensures.steps in
    subst (λ b. IsReportOf b c.in_ok-report.report)
    (c.loop-step.invariant.book_is ∙ ap (λ l. book_after l c.args.book.now) (sym (map-id c.loop-step.yielded) ∙ whole.0))
    c.in_ok-report.ensures.given
