use Rattle.std.proofs.Common.{ℕ, List, [], ◌∷◌, ◌++◌, sym, ap, ◌∙◌}
use Rattle.std.specs.Int.{w16, to_be_bytes}
use Rattle.postgres_codec.specs.Requests.{text, all_values, bytes_of}
use Rattle.postgres_codec.proofs.Encoded.{as_many}
use Rattle.postgres_codec.proofs.requests.bind_body.Goals as goal

pub returns-clause-ok : goal.returns-clause-ok
returns-clause-ok c =
    let values : List ℕ = all_values (bytes_of c.args.values.now) in
    let name : List ℕ = text c.args.name.now in
    c.in_ok-extend_from_slice-3.ensures.items ∙ ap (λ (z : List ℕ). z ++ 0 ∷ 0 ∷ [])
    (c.in_ok-push_values.ensures.ok ∙ ap (λ (z : List ℕ). z ++ values)
    (c.in_ok-extend_from_slice-2.ensures.items
    ∙ ap (λ (z : List ℕ). z ++ c.to_be_bytes.result)
    (c.in_ok-extend_from_slice.ensures.items ∙ ap (λ (z : List ℕ). z ++ 0 ∷ 0 ∷ [])
    (c.in_ok-push_text-2.ensures ∙ ap (λ (z : List ℕ). z ++ name)
    (c.in_ok-push_text.ensures ∙ ap (λ (z : List ℕ). z ++ 0 ∷ []) c.new-body.ensures.items)))
    ∙ ap (λ (z : List ℕ). 0 ∷ (name ++ 0 ∷ 0 ∷ [] ++ z)) (c.to_be_bytes.ensures ∙ ap (to_be_bytes w16) (sym (as_many c.args.values.now)))))
