use Rattle.std.proofs.Common.{◌≡◌, ◌≤◌, length}
use Rattle.std.specs.Duration.{as_nanos}
use Rattle.pool_state.specs.Lined.{book_asked, has_ordered}
use Rattle.pool_state.proofs.state.PoolState.pay.Given as goal

-- nothing is idle, one was ordered in each turn, nobody came or went, and nothing was counted
abbrev pub invariant-loop : goal.invariant-loop
invariant-loop g l = record {
  none : length l.self.book.picture.idle ≡ 0;
  book : l.self.book ≡ book_asked (as_nanos l.now) l.counter l.fn.self.book;
  more : l.fn.self.book.picture.on_order.pending ≤ l.self.book.picture.on_order.pending;
  ordered : l.ordered ≡ has_ordered l.fn.self.book l.self.book;
  same : l.self ≡ record l.fn.self { book = l.self.book };
  parts : g.C.TakeCounter.parts l.tally ≡ g.C.TakeCounter.parts l.fn.tally;
  amount : g.C.TakeCounter.amount l.tally ≡ g.C.TakeCounter.amount l.fn.tally;
}
