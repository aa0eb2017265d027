use Rattle.std.proofs.Common.{◌≡◌, refl, ◌∙◌, ap, arith}
use Rattle.std.specs.Duration.{as_nanos}
use Rattle.pool_state.specs.Waiting.{waiting_in, passed_late}
use Rattle.pool_tasks.proofs.Passing.{ended_by}
use Rattle.pool_tasks.proofs.History.{all_late_of}
use Rattle.pool_tasks.proofs.task_book.TaskBook.pass_late.Goals as goal

pub loop-init : goal.loop-init
loop-init g c = record {
  searches = c.late_search-search.ensures (as_nanos c.args.now) c.args.self.now.ends.items;
  line = refl;
  book = refl;
  ends = refl;
  waiting = refl;
}

pub returns-then-not-pass_one-clause-line : goal.returns-then-not-pass_one-clause-line
returns-then-not-pass_one-clause-line g c =
    let old = c.args.self.now in
    let ps = old.guarded.places in
    let here = c.loop.self in
    ended_by c.loop.counter (waiting_in ps) (as_nanos c.args.now) old.ends.items here.ends.items ps here.guarded.places
    c.pass_one.new.self.guarded.places (ap (λ ends. ends.items) c.loop.invariant.ends) c.loop.invariant.line
    c.if-not-pass_one.ensures.whether (omega (arith, c.loop-test.true, c.in_line-end.ensures)) c.pass_one.ensures.line

pub returns-then-not-pass_one-clause-history : goal.returns-then-not-pass_one-clause-history
returns-then-not-pass_one-clause-history g c =
    let old = c.args.self.now in
    all_late_of (waiting_in old.guarded.places) (as_nanos c.args.now) old.ends.items old.guarded.places c.pass_one.new.self.guarded.places
    (returns-then-not-pass_one-clause-line g c)

pub returns-after-loop-clause-history : goal.returns-after-loop-clause-history
returns-after-loop-clause-history g c =
    let old = c.args.self.now in
    let ps = old.guarded.places in
    let here = c.loop.self in
    let all : c.loop.counter ≡ waiting_in ps = omega arith in
    all_late_of (waiting_in ps) (as_nanos c.args.now) old.ends.items ps here.guarded.places
    (c.loop.invariant.line ∙ ap (λ n. passed_late n (as_nanos c.args.now) old.ends.items ps) all)
