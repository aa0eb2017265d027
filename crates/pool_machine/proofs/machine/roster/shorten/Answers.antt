use Rattle.std.proofs.Common.{◌≡◌, ◌<◌, ◌+◌, ◌-◌, ◌∙◌, false, sym, ap, length, take, get_or, arith}
use Rattle.std.specs.Option.{is_some}
use Rattle.pool_machine.specs.Slots.{held}
use Rattle.pool_machine.proofs.Lists.Slots.{held-take_less}
use Rattle.pool_machine.proofs.machine.roster.shorten.Goals as goal

pub holes-preserved : goal.holes-preserved
holes-preserved g c =
    let xs = c.args.slots.now.items in
    let slot = c.index.result.now in
    let nothing : is_some slot ≡ false = c.if-is_none.ensures in
    let hole : is_some (get_or xs (c.holes.len - 1) slot) ≡ false = ap is_some (sym c.index.ensures) ∙ nothing in
    let lt : c.holes.len - 1 < length xs = omega arith in
    let more : c.holes.len - 1 + 1 ≡ c.holes.len = omega arith in
    record {
      within = omega arith;
      same = sym (held-take_less xs (c.holes.len - 1) slot lt hole) ∙ ap (λ m. held (take m xs)) more ∙ c.holes.invariant.same;
    }
