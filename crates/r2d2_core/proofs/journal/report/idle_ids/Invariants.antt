use Rattle.std.proofs.Common.{◌≡◌, length, vec_capacity}
use Rattle.pool_machine.specs.Connections.{id_of_idle}
use Rattle.r2d2_core.proofs.Recording.Listing.{IsListed}
use Rattle.r2d2_core.proofs.journal.report.idle_ids.Given as goal

abbrev pub invariant-loop-place : goal.invariant-loop-place
invariant-loop-place g l = record {
  listed : IsListed id_of_idle l.fn.machine.idle l.place l.ids.items;
  len : length l.ids.items ≡ l.place;
  room : vec_capacity l.ids ≡ length l.fn.machine.idle;
}
