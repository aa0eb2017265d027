-- In a sound picture an id stands once at most in each list.
use Rattle.std.proofs.Common.{ℕ, ◌≤◌, map, arith}
use Rattle.pool_machine.specs.Ids.{copies_of}
use Rattle.pool_machine.specs.Connections.{id_of_idle, id_of_lent}
use Rattle.pool_machine.specs.Picture.{Picture, IsSound}
use Rattle.pool_machine.proofs.Lists.Ids.{copies_of-append3}

module _ {T : Type 0} where
  pub lent_once : (i : ℕ) (p : Picture T) → IsSound p → copies_of i (map id_of_lent p.lent) ≤ 1
  lent_once i p s = omega (arith, s.steady.apart i, copies_of-append3 i (map id_of_idle p.idle) (map id_of_lent p.lent) p.on_order.numbered)

  pub numbered_once : (i : ℕ) (p : Picture T) → IsSound p → copies_of i p.on_order.numbered ≤ 1
  numbered_once i p s = omega (arith, s.steady.apart i, copies_of-append3 i (map id_of_idle p.idle) (map id_of_lent p.lent) p.on_order.numbered)
