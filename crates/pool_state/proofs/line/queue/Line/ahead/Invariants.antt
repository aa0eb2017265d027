use Rattle.std.proofs.Common.{◌≡◌, ◌+◌, ◌-◌, ◌<◌, ◌≤◌, length}
use Rattle.pool_state.specs.Ring.{next_of, places_in, row_of, walk}
use Rattle.pool_state.specs.Waiting.{ahead}
use Rattle.pool_state.proofs.line.queue.Line.ahead.Given as goal

abbrev pub invariant-loop : goal.invariant-loop
invariant-loop l = record {
  inside : l.at < length l.self.ring.links.items;
  few : l.count ≤ l.counter;
  most : l.count ≤ l.most;
  far : l.count + ahead l.slot (row_of l.self.ring.standings.items (walk (next_of l.self.ring.links.items) (l.self.ring.len - l.counter) l.at))
      ≡ ahead l.slot (places_in l.self.ring);
}
