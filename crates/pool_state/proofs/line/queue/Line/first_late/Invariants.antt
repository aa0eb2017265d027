use Rattle.std.proofs.Common.{◌≡◌, None}
use Rattle.std.specs.Duration.{as_nanos}
use Rattle.pool_state.specs.Ring.{places_in}
use Rattle.pool_state.specs.Search.{IsLateSearch}
use Rattle.pool_state.proofs.line.queue.Line.first_late.Given as goal

abbrev pub invariant-loop : goal.invariant-loop
invariant-loop l = record {
  none : IsLateSearch (as_nanos l.now) l.ends l.here (places_in l.self.ring);
  found : l.found ≡ None;
  gone : l.here.gone ≡ l.counter;
}
