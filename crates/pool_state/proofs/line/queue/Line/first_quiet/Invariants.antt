use Rattle.std.proofs.Common.{◌≡◌, None}
use Rattle.pool_state.specs.Ring.{places_in}
use Rattle.pool_state.specs.Search.{IsSearch}
use Rattle.pool_state.proofs.line.queue.Line.first_quiet.Given as goal

abbrev pub invariant-loop : goal.invariant-loop
invariant-loop l = record {
  none : IsSearch l.here (places_in l.self.ring);
  found : l.found ≡ None;
  gone : l.here.gone ≡ l.counter;
}
