use Rattle.std.proofs.Common.{◌≡◌, false, ◌&&◌, sym, ap, ◌∙◌, arith, get_or}
use Rattle.std.specs.Prelude.{◌==◌}
use Rattle.std.proofs.lemmas.Bool.{and_left, and_right, ne_eqb}
use Rattle.postgres_codec.specs.Messages.{until}
use Rattle.postgres_codec.proofs.Texts.{field_found, field_goes, field_ends}
use Rattle.postgres_codec.proofs.text.field.Goals as goal
use Rattle.postgres_codec.proofs.text.field.Goals.{else-begins-via-then-begins+else-byte-letter, else-begins-via-else-begins}

pub returns-then-byte-letter : goal.returns-then-byte-letter
returns-then-byte-letter c =
    c.until.ensures ∙ ap (until 0 0) c.split_at.ensures.back
    ∙ sym (field_found c.loop-at.begins c.args.letter c.loop-at.at c.args.bytes.now (omega arith) c.if-begins.true c.if-byte-letter.true) ∙ c.loop-at.invariant

pub loop-at-preserved : goal.loop-at-preserved
loop-at-preserved c =
    let f : (c.loop-at.begins && (get_or c.args.bytes.now c.loop-at.at 0 == c.args.letter)) ≡ false =
    elim c.else-begins.branch [
      | else-begins-via-then-begins+else-byte-letter w ↦ and_right c.loop-at.begins (get_or c.args.bytes.now c.loop-at.at 0 == c.args.letter) (ne_eqb _ _ w.if-byte-letter.false)
      | else-begins-via-else-begins w ↦ and_left c.loop-at.begins (get_or c.args.bytes.now c.loop-at.at 0 == c.args.letter) w.if-begins.false
    ] in
    sym (field_goes c.loop-at.begins c.args.letter c.loop-at.at c.args.bytes.now (omega arith) f) ∙ c.loop-at.invariant

pub returns : goal.returns
returns c = sym (field_ends c.loop-at.begins c.args.letter c.loop-at.at c.args.bytes.now (omega arith)) ∙ c.loop-at.invariant
