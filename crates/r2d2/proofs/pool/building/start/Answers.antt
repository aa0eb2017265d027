use Rattle.r2d2.proofs.pool.building.start.Goals as goal
use contract.BorrowLft.{⊑_meet}
use mathlib.Core.List.{[]}
use denote.Param.{param, copied}
use borrow.Author.Rules.{in_twice, in_meet, in_static, both_so, in_told}
use Rattle.std.specs.contracts.alloc.Global as global
use Rattle.std.specs.contracts.impls.GlobalAllocator.TheImpl as global_impl
use Rattle.std.specs.contracts.sync.Arc as arc
use Rattle.std.specs.contracts.vec.Vec as vec
use Rattle.r2d2.specs.contracts.pool.locking.Shared as shared
use Rattle.pool_state.specs.contracts.state.PoolState as state
use Rattle.r2d2.specs.contracts.payload.Payload as payload
use Rattle.pool_machine.specs.contracts.machine.answers.Released as released

-- What goes to the thread outlives all: the goal is too large for one `simp`, so it is shown of the shared state and of the list apart.
pub spawn-requires-static-F : goal.spawn-requires-static-F
spawn-requires-static-F g c κs within =
    let t = c.type_bounds in
    let p = payload.the_row (param 4 g.row.M-Connection) (param 6 g.row.M-Extension) (param 7 g.row.M-Extension-Kind) g.M.Extension.Extension
    g.M.Extension.Kind.PartialEq in
    let b = state.the_row p (param 0 g.row.C) g.C.TakeTotal in
    let s = shared.the_row b (param 1 g.row.M) (param 2 g.row.K) (copied 3 g.row.R) in
    let a = arc.the_row s global.the_row global_impl.ghosts in
    let v = vec.the_row (released.the_row p) global.the_row global_impl.ghosts in
    simp in_twice
    (⊑_meet [] a.lives _
    (simp (
      in_twice,
      in_meet,
      in_static,
      both_so,
      in_told,
      t.static-C,
      t.static-M,
      t.static-M-Connection,
      t.static-M-Extension,
      t.static-M-Extension-Kind,
      t.static-K,
      t.static-R,
    ) tt)
    (⊑_meet [] v.lives [] (simp (in_twice, in_meet, in_static, both_so, in_told, t.static-M-Connection, t.static-M-Extension, t.static-M-Extension-Kind) tt)
    (λ a m. m)))
