-- A core is whole where its picture is a sound one, and openings keep where what is on order is accounted for.
use Rattle.std.proofs.Common.{◌≡◌, sym, subst}
use Rattle.pool_machine.specs.declared.machine.Core.TheInside.{Inside}
use Rattle.pool_machine.specs.declared.machine.on_order.OnOrder.TheInside.{Inside as OpeningsInside}
use Rattle.pool_machine.specs.OnOrder.{SeenOnOrder, IsAccounted}
use Rattle.pool_machine.specs.OnOrderParts.{seen_on_order, HasParts, IsKeeping}
use Rattle.pool_machine.specs.Picture.{Picture, IsSound}
use Rattle.pool_machine.specs.CoreParts.{view_of, HasRoom, IsWhole}

pub whole : {T A : Type 0} {c : Inside T A} (p : Picture T) → view_of c ≡ p → IsSound p → HasRoom c → IsWhole c
whole {c = c} p is s room = record { sound = subst IsSound (sym is) s; room = room }

pub keeping : {A : Type 0} {c : OpeningsInside A} (o : SeenOnOrder) → seen_on_order c ≡ o → IsAccounted o → HasParts c → IsKeeping c
keeping {c = c} o is a parts = record { accounted = subst IsAccounted (sym is) a; parts = parts }

-- a picture is sound where it is a sound one
pub sound_as : {T : Type 0} {q : Picture T} (p : Picture T) → q ≡ p → IsSound p → IsSound q
sound_as p is s = subst IsSound (sym is) s
