use Rattle.std.proofs.Common.{◌≡◌, true, false, Some, None, length, ◌-◌, length-drop, refl, arith}
use Rattle.std.specs.Duration.{as_nanos}
use Rattle.std.specs.List.{slice_get}
use Rattle.pool_machine.specs.Limits.{seen_limits}
use Rattle.pool_machine.specs.Connections.{is_expired, is_kept}
use Rattle.pool_machine.proofs.Lists.Turning.{turned_closed, turned_kept, turned_there, turned_fits, turned_all}
use Rattle.pool_machine.proofs.machine.reaping.reap_each.Goals as goal
use Rattle.pool_machine.proofs.machine.reaping.reap_each.Goals.{in-Some+then-is_expired, in-Some+else-is_expired, in_default}

pub push_reserved-requires : goal.push_reserved-requires
push_reserved-requires g c =
    let fits = turned_fits c.loop.invariant.turned (omega arith) in
    omega (arith, fits.0)

pub move_in-requires : goal.move_in-requires
move_in-requires g c =
    let fits = turned_fits c.loop.invariant.turned (omega arith) in
    let rest : length c.move_out.new.ring.items ≡ length c.loop.ring.items - 1 = rw c.move_out.ensures.rest (length-drop 1 c.loop.ring.items) in
    let cap : c.move_out.new.ring.capacity ≡ c.loop.ring.capacity = rw c.move_out.ensures.rest refl in
    omega (arith, fits.1, rest, cap)

pub loop-preserved : goal.loop-preserved
loop-preserved g c = record {
  turned = elim c.match-move_out.branch [
    | in-Some+then-is_expired w ↦
        let first : slice_get c.loop.ring.items 0 ≡ Some w.in-Some.entry = cc in
        let is : is_expired (seen_limits c.args.limits.now) (as_nanos c.args.now) w.in-Some.entry ≡ true = cc in
        rw (w.ring-is, w.out-is, c.move_out.ensures.rest, w.push_reserved.ensures.items)
        (turned_closed w.in-Some.entry w.released.result c.loop.invariant.turned (omega arith) first is w.released.ensures)
    | in-Some+else-is_expired w ↦
        let first : slice_get c.loop.ring.items 0 ≡ Some w.in-Some.entry = cc in
        let isnt : is_expired (seen_limits c.args.limits.now) (as_nanos c.args.now) w.in-Some.entry ≡ false = cc in
        rw (w.ring-is, w.out-is, w.move_in.ensures.items, c.move_out.ensures.rest)
        (turned_kept w.in-Some.entry c.loop.invariant.turned (omega arith) first isnt)
    | in_default w ↦
        let first : slice_get c.loop.ring.items 0 ≡ None = cc in
        absurd (turned_there c.loop.invariant.turned (omega arith) first)
  ];
  fixed = elim c.match-move_out.branch [
    | in-Some+then-is_expired w ↦ rw (w.ring-is, c.move_out.ensures.rest) c.loop.invariant.fixed
    | in-Some+else-is_expired w
        ↦ rw (w.ring-is, w.move_in.ensures.items, c.move_out.ensures.rest) c.loop.invariant.fixed
    | in_default w
        ↦ rw (w.ring-is, c.move_out.ensures.rest) c.loop.invariant.fixed
  ];
  fits = c.loop.invariant.fits;
  room = elim c.match-move_out.branch [ in-Some+then-is_expired w ↦ cc | in-Some+else-is_expired w ↦ cc | in_default w ↦ cc ];
  over = c.loop.invariant.over;
  cost = elim c.match-move_out.branch [ in-Some+then-is_expired w ↦ omega arith | in-Some+else-is_expired w ↦ omega arith | in_default w ↦ omega arith ];
}

pub returns-clause-kept : goal.returns-clause-kept
unfolding is_kept is_expired
returns-clause-kept g c = rw (← (turned_all c.loop.invariant.turned (omega (arith, c.loop.invariant.over))).0, ← c.loop.invariant.fixed) refl

pub returns-clause-released : goal.returns-clause-released
returns-clause-released g c = (turned_all c.loop.invariant.turned (omega (arith, c.loop.invariant.over))).1
