use Rattle.std.proofs.Common.{sym, ap, ◌∙◌, arith, drop, ◌+◌, Option, ℕ}
use Rattle.std.specs.Prelude.{unwrap_or}
use Rattle.postgres_codec.specs.Messages.{number_after}
use Rattle.postgres_codec.proofs.Texts.{number_goes, number_ends}
use Rattle.postgres_codec.proofs.text.last_number.Goals as goal

pub loop-byte-preserved : goal.loop-byte-preserved
loop-byte-preserved c =
    ap (λ (n : Option ℕ). number_after n (drop (c.loop-byte.byte-index + 1) c.args.text.now)) c.number_with-number.ensures
    ∙ sym (number_goes c.loop-byte.number c.loop-byte.byte-index c.args.text.now (omega arith)) ∙ c.loop-byte.invariant

pub returns : goal.returns
returns c =
    c.unwrap_or.ensures
    ∙ ap (λ (n : Option ℕ). unwrap_or n 0) (sym (number_ends c.loop-byte.number c.loop-byte.byte-index c.args.text.now (omega arith)) ∙ c.loop-byte.invariant)
