-- Histories that lists of steps make.
use Rattle.std.proofs.Common.{◌≡◌, List, [], ◌∷◌, ◌++◌, map, refl, sym, ◌∙◌, ap, subst}
use Rattle.std.specs.Prelude.{Result, Ok, Err, IfOk, OnOk}
use Rattle.std.proofs.lemmas.List.{map-append}
use Rattle.pool_machine.specs.declared.step.Step.{Step}
use Rattle.pool_machine.specs.declared.step.Answer.{Answer}
use Rattle.pool_machine.specs.Picture.{Picture, IsSound}
use Rattle.r2d2_core.specs.Pending.{on_order_of}
use Rattle.r2d2_core.specs.History.{History}
use Rattle.r2d2_core.specs.Answers.{answer_of, after, answers_of, after_all, picture_of, HasSums}
use Rattle.r2d2_core.specs.Book.{SeenBook, seen_book, bare, HasFacts}
use Rattle.r2d2_core.specs.Reports.{IsReportOf, IsReportAfter}
use Rattle.r2d2_core.specs.declared.journal.report.Report.{Report}
use Rattle.r2d2_core.proofs.Histories.Kept.{IsKept}
use Rattle.pool_machine.specs.Steps.{seen_answer, step_answer, after_step}
use Rattle.r2d2_core.specs.NotedSteps.{noted_step, book_after}
use Rattle.r2d2_core.proofs.Follows.Step.{follows_step, follows_there}
use Rattle.r2d2_core.proofs.Recording.Reporting.{report_comes_to}

module _ {T : Type 0} where
  pub after_all-push : (h : History T) (steps : List (Step T)) (s : Step T) → after_all h (steps ++ s ∷ []) ≡ after (after_all h steps) s
  after_all-push h [] s = refl
  after_all-push h (x ∷ steps) s = after_all-push (after h x) steps s

  pub answers_of-push : (h : History T) (steps : List (Step T)) (s : Step T)
      → answers_of h (steps ++ s ∷ []) ≡ answers_of h steps ++ answer_of (after_all h steps) s ∷ []
  answers_of-push h [] s = refl
  answers_of-push h (x ∷ steps) s = ap (λ l. answer_of h x ∷ l) (answers_of-push (after h x) steps s)

  pub book_after-push : (b : SeenBook T) (steps : List (Step T)) (s : Step T)
      → book_after (steps ++ s ∷ []) b ≡ (let c = book_after steps b in seen_book (after_step s c.picture) (noted_step s c))
  book_after-push b [] s = refl
  book_after-push b (x ∷ steps) s = book_after-push (seen_book (after_step x b.picture) (noted_step x b)) steps s

module _ {T A : Type 0} where
  -- the answers and the picture are those of the steps
  pub record IsRun (start : History T) (steps : List (Step T)) (answers : List (Answer T A)) (core : Picture T) : Type 0 where
    pub answers_are : map seen_answer answers ≡ answers_of start steps
    pub picture_is : core ≡ picture_of (after_all start steps)
    pub kept : IsKept (after_all start steps)

  -- a run goes on with a step that the core answers as the table says
  pub run_more : (start : History T) (steps : List (Step T)) (answers more : List (Answer T A)) (core new : Picture T) (s : Step T) (a : Answer T A)
      → IsRun start steps answers core → more ≡ answers ++ a ∷ [] → seen_answer a ≡ step_answer s core → new ≡ after_step s core
      → IsRun start (steps ++ s ∷ []) more new
  run_more start steps answers more core new s a run pushed answered went =
      let f = follows_there (after_all start steps) s run.kept run.picture_is answered went in
      let next : after_all start (steps ++ s ∷ []) ≡ after (after_all start steps) s = after_all-push start steps s in
      record {
        answers_are = ap (map seen_answer) pushed ∙ (map-append seen_answer answers (a ∷ [])
            ∙ (ap (λ l. l ++ seen_answer a ∷ []) run.answers_are ∙ (ap (λ r. answers_of start steps ++ r ∷ []) f.answer_is
            ∙ sym (answers_of-push start steps s))));
        picture_is = f.picture_is ∙ ap picture_of (sym next);
        kept = subst IsKept (sym next) f.kept;
      }

module _ {T : Type 0} where
  -- what the steps make of a book, and then one more
  pub book_more : (first : SeenBook T) (steps : List (Step T)) (book new : SeenBook T) (s : Step T) → book ≡ book_after steps first
      → new.picture ≡ after_step s book.picture → new.journal ≡ noted_step s book → new ≡ book_after (steps ++ s ∷ []) first
  book_more first steps book new s is went noted =
      ap (λ p. seen_book p new.journal) went ∙ (ap (λ j. seen_book (after_step s book.picture) j) noted
      ∙ (ap (λ b. seen_book (after_step s b.picture) (noted_step s b)) is ∙ sym (book_after-push first steps s)))

  -- what keeps with each step keeps with all
  pub kept_after_all : (h : History T) (steps : List (Step T)) → IsKept h → IsKept (after_all h steps)
  kept_after_all h [] kept = kept
  kept_after_all h (s ∷ steps) kept = kept_after_all (after h s) steps (follows_step h s kept).kept

  -- a book that shows a history shows it with the steps
  pub book_shows : (h : History T) (steps : List (Step T)) (b : SeenBook T) → IsKept h → b.picture ≡ picture_of h
      → (book_after steps b).picture ≡ picture_of (after_all h steps)
  book_shows h [] b kept is = is
  book_shows h (s ∷ steps) b kept is =
      let f = follows_step h s kept in
      book_shows (after h s) steps (seen_book (after_step s b.picture) (noted_step s b)) f.kept (ap (after_step s) is ∙ f.picture_is)

  -- the limits and counts of a history are those of its picture
  pub has_sums : (h : History T) → IsSound (picture_of h) → HasSums h
  unfolding picture_of on_order_of
  has_sums h sound = record { fits = sound.steady.fits; replenished = sound.replenished }

  -- the records of a report come to a history, where its book shows the picture of that history
  pub told_after : {B : Type 0} (h : History T) (b : SeenBook T) (r : Report B) → b.picture ≡ picture_of h → IsReportOf b r → HasFacts b → IsReportAfter h r
  unfolding picture_of on_order_of
  told_after h b r shown given facts =
      let k = report_comes_to b r given facts.replayed in
      record {
        limits = given.limits ∙ ap (λ p. p.on_order.limits) shown;
        idle = k.shows.idle ∙ ap (λ p. map bare p.idle) shown;
        lent = k.shows.lent ∙ ap (λ p. p.lent) shown;
        connections = k.shows.connections ∙ ap (λ p. p.connections) shown;
        pending = k.shows.pending ∙ ap (λ p. p.on_order.pending) shown;
        closed = k.shows.closed ∙ ap (λ p. p.on_order.closed) shown;
      }

-- what two clauses of a result come to, where it is there
pub if_ok : {X E : Type 0} {R : Type 0} {P Q : X → Type 0} (r : Result X E) → OnOk r R → IfOk r P → ((x : X) → R → P x → Q x) → IfOk r Q
if_ok (Ok x) fact is so = so x fact is
if_ok (Err e) fact is so = tt
