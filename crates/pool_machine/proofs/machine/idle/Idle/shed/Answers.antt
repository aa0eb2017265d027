use Rattle.std.proofs.Common.{◌≡◌, rules, arith, refl, filter}
use Rattle.std.specs.Duration.{as_nanos}
use Rattle.std.proofs.lemmas.List.Filters.{length-filter_both}
use Rattle.pool_machine.specs.Limits.{seen_limits}
use Rattle.pool_machine.specs.Connections.{is_expired, is_kept}
use Rattle.circular_buffer.specs.Buffer.{buffer}
use Rattle.pool_machine.specs.Roster.{roster_of}
use Rattle.pool_machine.proofs.machine.idle.Idle.shed.Goals as goal

pub returns-clause-count : goal.returns-clause-count
unfolding is_kept is_expired
returns-clause-count g c =
    let kept : roster_of c.match-self.self-inside.ring ≡ buffer (filter (is_kept (seen_limits c.args.limits.now)
    (as_nanos c.args.now)) c.args.self.now.items) c.args.self.now.capacity = search rules in
    rw kept (omega (
      arith,
      length-filter_both (is_expired (seen_limits c.args.limits.now) (as_nanos c.args.now))
          (is_kept (seen_limits c.args.limits.now) (as_nanos c.args.now)) (λ e. refl) c.args.self.now.items,
    ))
