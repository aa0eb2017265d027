use Rattle.std.proofs.Common.{◌≡◌, ◌+◌, ◌*◌, map, length}
use Rattle.std.specs.Prelude.{vec_capacity}
use Rattle.std.specs.Duration.{as_nanos}
use Rattle.pool_machine.specs.Seen.{seen_released}
use Rattle.pool_machine.specs.Picture.{IsSound}
use Rattle.pool_state.specs.Evicted.{in_lending_order, each_evicted, after_eviction}
use Rattle.pool_state.proofs.Evicting.{Evicting}
use Rattle.pool_state.proofs.engine.counted.CountingBook.evict.Given as goal

abbrev pub invariant-loop-released : goal.invariant-loop-released
invariant-loop-released g l = record {
  evicting : Evicting (as_nanos l.now) l.fn.self.book.picture l.self.book.picture (map seen_released l.out.items);
  whole : each_evicted (as_nanos l.now) (in_lending_order l.fn.self.book.picture.on_order.limits.order l.self.book.picture.idle) l.self.book
      ≡ after_eviction (as_nanos l.now) l.fn.self.book;
  sound : IsSound l.fn.self.book.picture;
  room : vec_capacity l.out ≡ vec_capacity l.fn.out;
  parts : g.C.TakeCounter.parts l.tally ≡ g.C.TakeCounter.parts l.fn.tally;
  amount : g.C.TakeCounter.amount l.tally ≡ g.C.TakeCounter.amount l.fn.tally + length l.out.items * g.C.TakeCounter.per_take;
}

-- how many are left
abbrev pub decreases-loop-released : goal.decreases-loop-released
decreases-loop-released g l = length l.self.book.picture.idle
