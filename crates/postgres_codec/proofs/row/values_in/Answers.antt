use Rattle.std.proofs.Common.{◌≡◌, ◌+◌, ◌-◌, ◌∷◌, ◌++◌, [], ℕ, List, Option, sym, ap, subst, ◌∙◌, arith, eqb-true}
use Rattle.std.proofs.lemmas.Bool.{eqb-false}
use Rattle.std.proofs.lemmas.Result.{err_from_is_err_and}
use Rattle.postgres_codec.specs.Frames.{Read, Fails}
use Rattle.postgres_codec.specs.Messages.{seen_value, seen_values, values_after}
use Rattle.postgres_codec.proofs.Rows.{seen_values-append, row_stops, row_goes, row_ends, row_goes_on}
use Rattle.postgres_codec.proofs.row.values_in.Goals as goal

pub loop-preserved : goal.loop-preserved
loop-preserved c =
    let seen : seen_values c.push.new.self.items ≡ seen_values c.loop.values.items ++ seen_value c.in_ok-value.value ∷ [] =
    ap seen_values c.in_ok-push.ensures.items ∙ seen_values-append c.loop.values.items c.in_ok-value.value in
    ap (λ (z : List (Option (List ℕ))). values_after z (c.args.count - (c.loop.counter + 1)) c.in_ok-value.after.now) seen
    ∙ sym (row_goes (seen_values c.loop.values.items) (c.args.count - c.loop.counter) (c.args.count - (c.loop.counter + 1)) c.loop.rest.now (seen_value c.in_ok-value.value) c.in_ok-value.after.now (omega arith) c.in_ok-value.ensures)
    ∙ c.loop.invariant

pub returns-in_err-value : goal.returns-in_err-value
returns-in_err-value c =
    let p = err_from_is_err_and c.from_residual.result c.from_residual.ensures.1 in
    rw (p.1, p.2) (subst (λ (z : Read (List (Option (List ℕ)))). Fails c.in_err-value.field-0.0 z) c.loop.invariant
    (row_stops (seen_values c.loop.values.items) (c.args.count - c.loop.counter) c.loop.rest.now c.in_err-value.field-0.0 (omega arith) c.in_err-value.ensures))

pub returns-then-not-is_empty : goal.returns-then-not-is_empty
returns-then-not-is_empty c =
    sym c.loop.invariant ∙ row_goes_on (seen_values c.loop.values.items) (c.args.count - c.loop.counter) c.loop.rest.now (omega arith) (omega (arith, eqb-false _ 0 (sym c.is_empty.ensures ∙ c.if-not-is_empty.true)))

pub returns : goal.returns
returns c =
    sym c.loop.invariant ∙ row_ends (seen_values c.loop.values.items) (c.args.count - c.loop.counter) c.loop.rest.now (omega arith) (eqb-true _ 0 (sym c.is_empty.ensures ∙ c.if-not-is_empty.false))
