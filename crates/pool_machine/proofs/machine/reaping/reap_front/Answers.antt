use Rattle.std.proofs.Common.{◌≡◌, true, Some, None, [], get_or, sym, refl, arith, rules}
use Rattle.std.specs.Duration.{as_nanos}
use Rattle.std.specs.List.{slice_get}
use Rattle.std.proofs.lemmas.List.{nil_from_length}
use Rattle.std.proofs.lemmas.Option.{get_or_from_slice_get}
use Rattle.pool_machine.specs.Limits.{seen_limits}
use Rattle.pool_machine.specs.Connections.{is_expired, is_kept, since_of}
use Rattle.pool_machine.proofs.Lists.Expiring.{expires_earlier, never_expires}
use Rattle.pool_machine.proofs.Lists.Turning.{none_passes, fronted_more, fronted_stop, fronted_there, fronted_all}
use Rattle.pool_machine.proofs.machine.reaping.reap_front.Goals as goal
use Rattle.pool_machine.proofs.machine.reaping.reap_front.Goals.{in-Some-move_out, in_default-move_out}

pub returns-then-not-is_expired-clause-released : goal.returns-then-not-is_expired-clause-released
returns-then-not-is_expired-clause-released g c =
    let end = fronted_stop since_of (expires_earlier (seen_limits c.args.limits.now) (as_nanos c.args.now) c.requires.births_alike) c.requires.in_order
    c.loop.invariant.fronted
    (λ d lt. let at : slice_get c.loop.ring.items 0 ≡ Some c.in-Some.oldest.now = sym c.in-Some.ensures.value in
    let is : get_or c.loop.ring.items 0 d ≡ c.in-Some.oldest.now = get_or_from_slice_get c.loop.ring.items 0 c.in-Some.oldest.now d at in
    rw is cc) in
    end.1

pub returns-then-not-is_expired-clause-kept : goal.returns-then-not-is_expired-clause-kept
unfolding is_kept is_expired
returns-then-not-is_expired-clause-kept g c =
    let end = fronted_stop since_of (expires_earlier (seen_limits c.args.limits.now) (as_nanos c.args.now) c.requires.births_alike) c.requires.in_order
    c.loop.invariant.fronted
    (λ d lt. let at : slice_get c.loop.ring.items 0 ≡ Some c.in-Some.oldest.now = sym c.in-Some.ensures.value in
    let is : get_or c.loop.ring.items 0 d ≡ c.in-Some.oldest.now = get_or_from_slice_get c.loop.ring.items 0 c.in-Some.oldest.now d at in
    rw is cc) in
    rw (← end.0, ← c.loop.invariant.fixed) refl

pub loop-preserved : goal.loop-preserved
loop-preserved g c = record {
  fronted = elim c.match-move_out.branch [
    | in-Some-move_out w ↦
        let first : slice_get c.loop.ring.items 0 ≡ Some w.in-Some-move_out.closed = cc in
        let at : slice_get c.loop.ring.items 0 ≡ Some c.in-Some.oldest.now = sym c.in-Some.ensures.value in
        let same : w.in-Some-move_out.closed ≡ c.in-Some.oldest.now = cc in
        let is : is_expired (seen_limits c.args.limits.now) (as_nanos c.args.now) w.in-Some-move_out.closed ≡ true = rw same cc in
        rw (w.out-is, c.move_out.ensures.rest, w.push_reserved.ensures.items)
        (fronted_more w.in-Some-move_out.closed w.released.result c.loop.invariant.fronted (omega arith) first is w.released.ensures)
    | in_default-move_out w ↦
        let none : slice_get c.loop.ring.items 0 ≡ None = cc in
        absurd (fronted_there c.loop.invariant.fronted (omega arith) none)
  ];
  fixed = rw c.move_out.ensures.rest c.loop.invariant.fixed;
  room = elim c.match-move_out.branch [ in-Some-move_out w ↦ cc | in_default-move_out w ↦ cc ];
  over = c.loop.invariant.over;
  count = elim c.match-move_out.branch [
    | in-Some-move_out w ↦ rw (w.out-is, w.push_reserved.ensures.len) (omega arith)
    | in_default-move_out w ↦
        let none : slice_get c.loop.ring.items 0 ≡ None = cc in
        absurd (fronted_there c.loop.invariant.fronted (omega arith) none)
  ];
  cost = omega arith;
}

pub returns-clause-kept : goal.returns-clause-kept
unfolding is_kept is_expired
returns-clause-kept g c = rw (← (fronted_all c.loop.invariant.fronted (omega (arith, c.loop.invariant.over))).0, ← c.loop.invariant.fixed) refl

pub returns-clause-released : goal.returns-clause-released
returns-clause-released g c = (fronted_all c.loop.invariant.fronted (omega (arith, c.loop.invariant.over))).1

pub returns-then-is_none-clause-released : goal.returns-then-is_none-clause-released
returns-then-is_none-clause-released g c =
    let idle : (seen_limits c.args.limits.now).idle_timeout ≡ None = search rules in
    let none : c.args.out.now.items ≡ [] = nil_from_length c.args.out.now.items (omega (arith, c.requires.empty, c.args.out.now.ok.0)) in
    let all = none_passes (is_expired (seen_limits c.args.limits.now) (as_nanos c.args.now))
    (never_expires (seen_limits c.args.limits.now) (as_nanos c.args.now) c.requires.births_alike idle) c.args.ring.now.items in
    rw (none, all.0) refl

pub returns-then-is_none-clause-kept : goal.returns-then-is_none-clause-kept
unfolding is_kept is_expired
returns-then-is_none-clause-kept g c =
    let idle : (seen_limits c.args.limits.now).idle_timeout ≡ None = search rules in
    let all = none_passes (is_expired (seen_limits c.args.limits.now) (as_nanos c.args.now))
    (never_expires (seen_limits c.args.limits.now) (as_nanos c.args.now) c.requires.births_alike idle) c.args.ring.now.items in
    rw all.1 refl
