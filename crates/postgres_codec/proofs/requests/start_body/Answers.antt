use Rattle.std.proofs.Common.{◌≡◌, ℕ, List, [], ◌∷◌, ◌++◌, ap, ◌∙◌}
use Rattle.postgres_codec.specs.Requests.{setting}
use Rattle.std.specs.Prelude.{codes}
use Rattle.postgres_codec.proofs.requests.start_body.Goals as goal

pub returns : goal.returns
returns c =
    c.in_ok-push.ensures.items ∙ ap (λ (z : List ℕ). z ++ 0 ∷ [])
    (c.in_ok-push_setting-3.ensures ∙ ap (λ (z : List ℕ). z ++ setting (codes "client_encoding") (codes "UTF8"))
    (c.in_ok-push_setting-2.ensures ∙ ap (λ (z : List ℕ). z ++ setting (codes "database") c.as_bytes-2.result.now)
    (c.in_ok-push_setting.ensures ∙ ap (λ (z : List ℕ). z ++ setting (codes "user") c.as_bytes.result.now)
    (c.in_ok-push_number.ensures ∙ ap (λ (z : List ℕ). z ++ (0 ∷ 3 ∷ 0 ∷ 0 ∷ [])) c.new-body.ensures.items))))
    ∙ (let u : c.as_bytes.result.now ≡ c.args.user.now = c.as_bytes.ensures.value in
    let d : c.as_bytes-2.result.now ≡ c.args.database.now = c.as_bytes-2.ensures.value in
    λ i. 0 ∷ 3 ∷ 0 ∷ 0 ∷ (setting (codes "user") (u i) ++ setting (codes "database") (d i) ++ setting (codes "client_encoding") (codes "UTF8") ++ 0 ∷ []))
