use Rattle.std.proofs.Common.{◌≡◌, length, map, vec_capacity}
use Rattle.r2d2_core.specs.Bases.{seen_bare}
use Rattle.r2d2_core.specs.Book.{bare}
use Rattle.r2d2_core.proofs.Recording.Listing.{IsListed}
use Rattle.r2d2_core.proofs.journal.base.copied_idle.Given as goal

abbrev pub invariant-loop-place : goal.invariant-loop-place
invariant-loop-place g l = record {
  listed : IsListed bare l.fn.idle.items l.place (map seen_bare l.list.items);
  len : length l.list.items ≡ l.place;
  room : vec_capacity l.list ≡ length l.fn.idle.items;
}
