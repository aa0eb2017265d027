use Rattle.std.proofs.Common.{◌≡◌, ◌≤◌, ℕ, List, sym, ◌∙◌, ap, arith, length, subst}
use Rattle.std.proofs.lemmas.Result.{err_from_is_err_and}
use Rattle.postgres_codec.specs.Requests.{bytes_of, bind_body, Makes, IsWhy, is_long, prepared_made, bound_made, Made}
use Rattle.postgres_codec.proofs.Encoded.{as_many, prepared_zero, prepared_many, prepared_few, bound_long, makes_why}
use Rattle.postgres_codec.proofs.requests.prepared.Goals as goal

pub returns-then-has_zero : goal.returns-then-has_zero
returns-then-has_zero c = prepared_zero c.args.name.now (bytes_of c.args.values.now) (sym c.has_zero.ensures ∙ c.if-has_zero.true)

pub returns-then-values-gt-MOST : goal.returns-then-values-gt-MOST
returns-then-values-gt-MOST c =
    prepared_many c.args.name.now (bytes_of c.args.values.now) (sym c.has_zero.ensures ∙ c.if-has_zero.false) (omega (arith, as_many c.args.values.now))

pub returns-in_err-bind : goal.returns-in_err-bind
returns-in_err-bind c =
    let few : length (bytes_of c.args.values.now) ≤ 65535 = omega (arith, as_many c.args.values.now) in
    let p = err_from_is_err_and c.from_residual.result c.from_residual.ensures.1 in
    rw (p.1, p.2) (makes_why c.in_err-bind.field-0.0 (prepared_made c.args.name.now (bytes_of c.args.values.now)) (is_long (bind_body c.args.name.now (bytes_of c.args.values.now)))
    (λ long. prepared_few c.args.name.now (bytes_of c.args.values.now) (sym c.has_zero.ensures ∙ c.if-has_zero.false) few
    ∙ bound_long (bind_body c.args.name.now (bytes_of c.args.values.now)) long)
    (subst (λ (name : List ℕ). IsWhy c.in_err-bind.field-0.0 (is_long (bind_body name (bytes_of c.args.values.now)))) c.as_bytes.ensures.value c.in_err-bind.ensures.why))

pub returns : goal.returns
returns c =
    let few : length (bytes_of c.args.values.now) ≤ 65535 = omega (arith, as_many c.args.values.now) in
    let q : c.as_slice.result.now ≡ bind_body c.args.name.now (bytes_of c.args.values.now) =
    c.as_slice.ensures.value ∙ c.in_ok-bind.ensures.ok ∙ ap (λ (name : List ℕ). bind_body name (bytes_of c.args.values.now)) c.as_bytes.ensures.value in
    subst (λ (m : Made). Makes c.bound.result m) (ap bound_made q ∙ sym (prepared_few c.args.name.now (bytes_of c.args.values.now) (sym c.has_zero.ensures ∙ c.if-has_zero.false) few)) c.bound.ensures
