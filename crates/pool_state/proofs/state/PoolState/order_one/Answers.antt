use Rattle.pool_state.specs.Ring.{places_in}
use Rattle.std.proofs.Common.{◌≡◌, length, sym, subst, arith}
use Rattle.std.proofs.Common.{true}
use Rattle.pool_state.proofs.Lined.{one_taken, none_counted}
use Rattle.pool_state.proofs.Guarded.{kept_quiet}
use Rattle.pool_state.proofs.Waits.{goes_take}
use Rattle.pool_state.proofs.state.PoolState.order_one.Goals as goal

pub invariant_of-self : goal.invariant_of-self
invariant_of-self g c =
    let ps = places_in c.self.inside.line.ring in
    let old = c.self.inside.book.book.picture in
    let new = c.lend-empty.new.self.book.picture in
    let less = one_taken c.args.now true c.lend-empty.result.0 old new c.lend-empty.ensures.step.of_core in
    kept_quiet old new ps c.self.inside.owed c.self.inside.waiting c.self.invariant (omega (arith, less))
    (goes_take c.args.now true c.lend-empty.result.0 old new c.lend-empty.ensures.step.of_core)

pub returns-clause-none : goal.returns-clause-none
returns-clause-none g c =
    let old = c.self.inside.book.book.picture in
    let new = c.lend-empty.new.self.book.picture in
    let none = subst (λ v. length v.book.picture.idle ≡ 0) (sym c.self.view_is) c.requires.none in
    omega (arith, none, one_taken c.args.now true c.lend-empty.result.0 old new c.lend-empty.ensures.step.of_core)

pub returns-clause-amount : goal.returns-clause-amount
returns-clause-amount g c =
    let old = c.self.inside.book.book.picture in
    let new = c.lend-empty.new.self.book.picture in
    let none = subst (λ v. length v.book.picture.idle ≡ 0) (sym c.self.view_is) c.requires.none in
    none_counted _ _ _ _ c.lend-empty.ensures.amount
    (omega (arith, none, one_taken c.args.now true c.lend-empty.result.0 old new c.lend-empty.ensures.step.of_core))
