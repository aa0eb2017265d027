use Rattle.std.proofs.Common.{◌≡◌, true, false, Some, None, length, ◌-◌, length-drop, refl, arith}
use Rattle.std.specs.Duration.{as_nanos}
use Rattle.std.specs.List.{slice_get}
use Rattle.pool_machine.specs.Limits.{seen_limits}
use Rattle.pool_machine.specs.Connections.{is_expired, is_kept}
use Rattle.pool_machine.proofs.Lists.Shedding.{sifted_there, sifted_gone, sifted_kept, sifted_fits, sifted_all, some_there}
use Rattle.pool_machine.proofs.machine.idle.shedding.shed_each.Goals as goal
use Rattle.pool_machine.proofs.machine.idle.shedding.shed_each.Goals.{in-Some+then-not-is_expired, in-Some+else-not-is_expired, in_default}

pub push_back-requires : goal.push_back-requires
push_back-requires g c =
    let goes = is_expired (seen_limits c.args.limits.now) (as_nanos c.args.now) in
    let fits = sifted_fits goes c.args.ring.now.items c.loop.counter c.loop.ring.items c.loop.invariant.sifted (omega arith) in
    let there : slice_get c.loop.ring.items 0 ≡ Some c.in-Some.entry = cc in
    let some = some_there c.loop.ring.items c.in-Some.entry there in
    let rest : length c.pop_front.new.self.items ≡ length c.loop.ring.items - 1 = rw c.pop_front.ensures.items (length-drop 1 c.loop.ring.items) in
    let cap : c.pop_front.new.self.capacity ≡ c.loop.ring.capacity = rw c.pop_front.ensures.items refl in
    omega (arith, fits, rest, cap, some)

pub loop-preserved : goal.loop-preserved
loop-preserved g c =
    let goes = is_expired (seen_limits c.args.limits.now) (as_nanos c.args.now) in
    record {
      sifted = elim c.match-pop_front.branch [
        | in-Some+then-not-is_expired w ↦
            let first : slice_get c.loop.ring.items 0 ≡ Some w.in-Some.entry = cc in
            let isnt : goes w.in-Some.entry ≡ false = cc in
            rw (w.ring-is, w.push_back.ensures, c.pop_front.ensures.items)
            (sifted_kept goes c.args.ring.now.items c.loop.counter c.loop.ring.items w.in-Some.entry c.loop.invariant.sifted (omega arith) first isnt)
        | in-Some+else-not-is_expired w ↦
            let first : slice_get c.loop.ring.items 0 ≡ Some w.in-Some.entry = cc in
            let is : goes w.in-Some.entry ≡ true = cc in
            rw (w.ring-is, c.pop_front.ensures.items)
            (sifted_gone goes c.args.ring.now.items c.loop.counter c.loop.ring.items w.in-Some.entry c.loop.invariant.sifted (omega arith) first is)
        | in_default w ↦
            let first : slice_get c.loop.ring.items 0 ≡ None = cc in
            absurd (sifted_there goes c.args.ring.now.items c.loop.counter c.loop.ring.items c.loop.invariant.sifted (omega arith) first)
      ];
      fixed = elim c.match-pop_front.branch [
        | in-Some+then-not-is_expired w ↦ rw (
          w.ring-is,
          w.push_back.ensures,
          c.pop_front.ensures.items,
        ) c.loop.invariant.fixed
        | in-Some+else-not-is_expired w
            ↦ rw (w.ring-is, c.pop_front.ensures.items) c.loop.invariant.fixed
        | in_default w
            ↦ rw (w.ring-is, c.pop_front.ensures.items) c.loop.invariant.fixed
      ];
      over = c.loop.invariant.over;
    }

pub returns : goal.returns
unfolding is_kept is_expired
returns g c = rw (
  ← sifted_all (is_expired (seen_limits c.args.limits.now) (as_nanos c.args.now)) c.args.ring.now.items c.loop.counter c.loop.ring.items
      c.loop.invariant.sifted (omega (arith, c.loop.invariant.over)),
  ← c.loop.invariant.fixed,
) refl
