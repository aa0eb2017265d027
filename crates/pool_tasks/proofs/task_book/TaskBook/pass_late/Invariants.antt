use Rattle.std.proofs.Common.{◌≡◌}
use Rattle.std.specs.Duration.{as_nanos}
use Rattle.pool_state.specs.Waiting.{passed_late}
use Rattle.pool_state.specs.Search.{AreSearches}
use Rattle.pool_tasks.proofs.task_book.TaskBook.pass_late.Given as goal

-- the first late one was passed in each turn
abbrev pub invariant-loop : goal.invariant-loop
invariant-loop g l = record {
  searches : AreSearches (as_nanos l.now) l.self.ends.items l.search l.self.guarded.places;
  line : l.self.guarded.places ≡ passed_late l.counter (as_nanos l.now) l.fn.self.ends.items l.fn.self.guarded.places;
  book : l.self.guarded.book ≡ l.fn.self.guarded.book;
  ends : l.self.ends ≡ l.fn.self.ends;
  waiting : l.self.guarded.waiting ≡ l.fn.self.guarded.waiting;
}
