use Rattle.std.proofs.Common.{◌≡◌, ◌++◌, ℕ, suc, List, [], ◌∷◌, length, refl, sym, ap, ◌∙◌}
use Rattle.std.specs.Borrow.{Bor}
use Rattle.redis_codec.specs.Requests.{head, all_words, request, bytes_of}
use Rattle.redis_codec.proofs.Words.{request_alone}
use Rattle.redis_codec.proofs.requests.request.Goals as goal

as_many : (words : List (Bor (List ℕ))) → length (bytes_of words) ≡ length words
as_many [] = refl
as_many (w ∷ words) = ap suc (as_many words)

pub returns-clause-alone : goal.returns-clause-alone
returns-clause-alone c = request_alone (bytes_of c.args.words.now)

pub returns-clause-bytes : goal.returns-clause-bytes
unfolding request
returns-clause-bytes c =
    c.in_ok-push_words.ensures
    ∙ ap (λ (z : List ℕ). z ++ all_words (bytes_of c.args.words.now)) (c.in_ok-push_head.ensures ∙ ap (λ (z : List ℕ). z ++ head 42 (length c.args.words.now)) c.in_ok-bytes.ensures.items)
    ∙ ap (λ (n : ℕ). head 42 n ++ all_words (bytes_of c.args.words.now)) (sym (as_many c.args.words.now))
