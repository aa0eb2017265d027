use Rattle.std.proofs.Common.{arith, rules, ◌≡◌, ◌*◌, ◌^◌, ◌<◌, ◌∙◌}
use Rattle.std.specs.Duration.{as_nanos}
use Rattle.pool_machine.proofs.Scheduling.Delays.{min-doubled_long, doubled_fits, doubled-mod}
use Rattle.pool_machine.proofs.schedule.delay.Goals as goal

pub returns-then-k-ge67 : goal.returns-then-k-ge67
returns-then-k-ge67 c =
    let fits : c.div-half.result.secs < 2 ^ 64 = search rules in
    let long = min-doubled_long (as_nanos c.div-half.result) c.args.k (omega arith) (omega arith) in
    omega arith

pub from_nanos_u128-doubled-requires : goal.from_nanos_u128-doubled-requires
from_nanos_u128-doubled-requires c = omega (arith, doubled-mod c.args.k (omega arith), doubled_fits c.args.k (omega arith))

pub returns-then-as_nanos : goal.returns-then-as_nanos
returns-then-as_nanos c =
    let doubled : as_nanos c.from_nanos_u128-doubled.result ≡ 200_000_000 * 2 ^ c.args.k = c.from_nanos_u128-doubled.ensures
    ∙ doubled-mod c.args.k (omega arith) in
    omega arith

pub returns-else-as_nanos : goal.returns-else-as_nanos
returns-else-as_nanos c =
    let doubled : as_nanos c.from_nanos_u128-doubled.result ≡ 200_000_000 * 2 ^ c.args.k = c.from_nanos_u128-doubled.ensures
    ∙ doubled-mod c.args.k (omega arith) in
    omega arith
