use Rattle.std.proofs.Common.{sym, ◌∙◌, ap, map}
use Rattle.std.proofs.lemmas.List.{map-id}
use Rattle.std.proofs.lemmas.Iterator.Consumers.{YieldsList-end}
use Rattle.std.proofs.lemmas.Iterator.Adapters.{YieldsList-from_vec}
use Rattle.r2d2_core.specs.History.{Made}
use Rattle.r2d2_core.specs.Answers.{answers_of, after_all, picture_of}
use Rattle.pool_machine.specs.Steps.{seen_answer}
use Rattle.r2d2_core.proofs.Histories.Made.{kept_made, picture_of-made}
use Rattle.r2d2_core.proofs.Follows.Runs.{run_more}
use Rattle.r2d2_core.proofs.run.answer_all.Goals as goal

pub loop-step-init : goal.loop-step-init
loop-step-init g c = λ limits now legal is. record {
  answers_are = ap (map seen_answer) c.in_ok-answers.ensures.items;
  picture_is = is ∙ sym (picture_of-made limits now 0);
  kept = kept_made limits now 0 legal;
}

pub loop-step-preserved : goal.loop-step-preserved
loop-step-preserved g c = λ limits now legal is.
    run_more (Made limits now 0) c.loop-step.yielded c.loop-step.answers.items c.push.new.self.items c.loop-step.core
    c.answer.new.self c.in-Some.step c.in_ok-answer.answer
    (c.loop-step.invariant limits now legal is) c.in_ok-push.ensures.items c.in_ok-answer.ensures.answer c.in_ok-answer.ensures.after

pub returns-clause-answers : goal.returns-clause-answers
returns-clause-answers g c =
    let e = c.into_iter-step-iterator.ensures.into_iter_gives in
    let whole = YieldsList-end (YieldsList-from_vec c.args.steps.items e.0 (e.1
    ∙ c.args.steps.ok.0)) c.loop-step.yielded c.loop-step.step-iterator c.loop-step.yielded_by c.next.result c.next.new.self c.in-None.is
    c.next.ensures.steps in
    λ limits now legal is. (c.loop-step.invariant limits now legal is).answers_are ∙ ap (answers_of (Made limits now 0)) (sym (map-id c.loop-step.yielded) ∙ whole.0)

pub returns-clause-picture : goal.returns-clause-picture
returns-clause-picture g c =
    let e = c.into_iter-step-iterator.ensures.into_iter_gives in
    let whole = YieldsList-end (YieldsList-from_vec c.args.steps.items e.0 (e.1
    ∙ c.args.steps.ok.0)) c.loop-step.yielded c.loop-step.step-iterator c.loop-step.yielded_by c.next.result c.next.new.self c.in-None.is
    c.next.ensures.steps in
    λ limits now legal is. (c.loop-step.invariant limits now legal is).picture_is ∙ ap (λ l. picture_of (after_all (Made limits now 0) l))
    (sym (map-id c.loop-step.yielded) ∙ whole.0)
