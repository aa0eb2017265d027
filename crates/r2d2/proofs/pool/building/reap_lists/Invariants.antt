use Rattle.std.proofs.Common.{◌≡◌, length}
use Rattle.std.specs.Prelude.{All}
use Rattle.pool_state.specs.Room.{HasRoom}
use Rattle.r2d2.proofs.pool.building.reap_lists.Given as goal

-- as many lists as there were turns, each with room
abbrev pub invariant-loop : goal.invariant-loop
invariant-loop g l = record {
  workers : length l.lists.items ≡ l.counter;
  room : All (HasRoom l.room) l.lists.items;
}
