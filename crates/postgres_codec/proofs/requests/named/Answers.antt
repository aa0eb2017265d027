use Rattle.std.proofs.Common.{◌≡◌, ◌≤◌, sym, ◌∙◌, arith, length, subst}
use Rattle.std.proofs.lemmas.Result.{err_from_is_err_and}
use Rattle.postgres_codec.specs.Requests.{bytes_of, parse_body, bind_body, Makes, is_long, named_made, statement_made, Made}
use Rattle.postgres_codec.proofs.Encoded.{as_many, made_zero, made_many, made_few, statement_long, makes_why}
use Rattle.postgres_codec.proofs.requests.named.Goals as goal

pub returns-then-has_zero : goal.returns-then-has_zero
returns-then-has_zero c = made_zero c.args.name.now c.args.words.now (bytes_of c.args.values.now) (sym c.has_zero.ensures ∙ c.if-has_zero.true)

pub returns-then-values-gt-MOST : goal.returns-then-values-gt-MOST
returns-then-values-gt-MOST c =
    made_many c.args.name.now c.args.words.now (bytes_of c.args.values.now) (sym c.has_zero.ensures ∙ c.if-has_zero.false) (omega (arith, as_many c.args.values.now))

pub returns-in_err-bind : goal.returns-in_err-bind
returns-in_err-bind c =
    let few : length (bytes_of c.args.values.now) ≤ 65535 = omega (arith, as_many c.args.values.now) in
    let p = err_from_is_err_and c.from_residual-in_err-bind.result c.from_residual-in_err-bind.ensures.1 in
    rw (p.1, p.2) (makes_why c.in_err-bind.field-0.0 (named_made c.args.name.now c.args.words.now (bytes_of c.args.values.now)) (is_long (bind_body c.args.name.now (bytes_of c.args.values.now)))
    (λ long. made_few c.args.name.now c.args.words.now (bytes_of c.args.values.now) (sym c.has_zero.ensures ∙ c.if-has_zero.false) few
    ∙ statement_long (parse_body c.args.name.now c.args.words.now) (bind_body c.args.name.now (bytes_of c.args.values.now)) long) c.in_err-bind.ensures.why)

pub returns : goal.returns
returns c =
    let few : length (bytes_of c.args.values.now) ≤ 65535 = omega (arith, as_many c.args.values.now) in
    let p : c.as_slice.result.now ≡ parse_body c.args.name.now c.args.words.now = c.as_slice.ensures.value ∙ c.in_ok-parse.ensures in
    let q : c.as_slice-2.result.now ≡ bind_body c.args.name.now (bytes_of c.args.values.now) = c.as_slice-2.ensures.value ∙ c.in_ok-bind.ensures.ok in
    let e : statement_made c.as_slice.result.now c.as_slice-2.result.now ≡ statement_made (parse_body c.args.name.now c.args.words.now) (bind_body c.args.name.now (bytes_of c.args.values.now)) = λ i. statement_made (p i) (q i) in
    subst (λ (m : Made). Makes c.statement.result m) (e ∙ sym (made_few c.args.name.now c.args.words.now (bytes_of c.args.values.now) (sym c.has_zero.ensures ∙ c.if-has_zero.false) few)) c.statement.ensures
