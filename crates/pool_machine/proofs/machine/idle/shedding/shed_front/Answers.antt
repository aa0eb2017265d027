use Rattle.std.proofs.Common.{◌≡◌, None, Some, get_or, sym, rules, refl, arith}
use Rattle.std.specs.Duration.{as_nanos}
use Rattle.std.specs.List.{slice_get}
use Rattle.std.proofs.lemmas.Option.{get_or_from_slice_get}
use Rattle.pool_machine.specs.Limits.{seen_limits}
use Rattle.pool_machine.specs.Connections.{is_expired, is_kept, since_of}
use Rattle.pool_machine.proofs.Lists.Expiring.{expires_earlier, never_expires}
use Rattle.pool_machine.proofs.Lists.Turning.{none_passes, fronted_stop, fronted_all}
use Rattle.pool_machine.proofs.Lists.Shedding.{fronted_gone}
use Rattle.pool_machine.proofs.machine.idle.shedding.shed_front.Goals as goal

pub returns-then-is_none : goal.returns-then-is_none
unfolding is_kept is_expired
returns-then-is_none g c =
    let idle : (seen_limits c.args.limits.now).idle_timeout ≡ None = search rules in
    let all = none_passes (is_expired (seen_limits c.args.limits.now) (as_nanos c.args.now))
    (never_expires (seen_limits c.args.limits.now) (as_nanos c.args.now) c.requires.births_alike idle) c.args.ring.now.items in
    rw all.1 refl

pub returns-then-not-is_expired : goal.returns-then-not-is_expired
unfolding is_kept is_expired
returns-then-not-is_expired g c =
    let end = fronted_stop since_of (expires_earlier (seen_limits c.args.limits.now) (as_nanos c.args.now) c.requires.births_alike) c.requires.in_order
    c.loop.invariant.fronted
    (λ d lt. let at : slice_get c.loop.ring.items 0 ≡ Some c.in-Some.oldest.now = sym c.in-Some.ensures in
    let is : get_or c.loop.ring.items 0 d ≡ c.in-Some.oldest.now = get_or_from_slice_get c.loop.ring.items 0 c.in-Some.oldest.now d at in
    rw is cc) in
    rw (← end.0, ← c.loop.invariant.fixed) refl

pub loop-preserved : goal.loop-preserved
loop-preserved g c =
    let at : slice_get c.loop.ring.items 0 ≡ Some c.in-Some.oldest.now = sym c.in-Some.ensures in
    record {
      fronted = rw c.pop_front.ensures.items (fronted_gone (is_expired (seen_limits c.args.limits.now)
          (as_nanos c.args.now)) c.args.ring.now.items c.loop.counter c.loop.ring.items c.in-Some.oldest.now c.loop.invariant.fronted (omega arith) at cc);
      fixed = rw c.pop_front.ensures.items c.loop.invariant.fixed;
      over = c.loop.invariant.over;
    }

pub returns : goal.returns
unfolding is_kept is_expired
returns g c = rw (← (fronted_all c.loop.invariant.fronted (omega (arith, c.loop.invariant.over))).0, ← c.loop.invariant.fixed) refl
