use Rattle.std.proofs.Common.{sym, ◌∙◌, inl, inr, arith}
use Rattle.postgres_codec.proofs.Texts.{IsOutside, until_stops, until_goes, until_ends}
use Rattle.std.proofs.Common.{get_or}
use Rattle.postgres_codec.proofs.text.until.Goals as goal
use Rattle.postgres_codec.proofs.text.until.Goals.{else-byte-low-via-then-byte-low+else-byte-high, else-byte-low-via-else-byte-low}

pub returns-then-byte-high : goal.returns-then-byte-high
returns-then-byte-high c =
    c.split_at.ensures.front ∙ sym (c.loop-at.invariant ∙ until_stops c.args.low c.args.high c.loop-at.at c.args.bytes.now (omega arith) (omega arith) (omega arith))

pub loop-at-preserved : goal.loop-at-preserved
loop-at-preserved c =
    let o : IsOutside c.args.low c.args.high (get_or c.args.bytes.now c.loop-at.at 0) =
    elim c.else-byte-low.branch [
      | else-byte-low-via-then-byte-low+else-byte-high w ↦ inr (omega arith)
      | else-byte-low-via-else-byte-low w ↦ inl (omega arith)
    ] in
    c.loop-at.invariant ∙ until_goes c.args.low c.args.high c.loop-at.at c.args.bytes.now (omega arith) o

pub returns : goal.returns
returns c = sym (c.loop-at.invariant ∙ until_ends c.args.low c.args.high c.loop-at.at c.args.bytes.now (omega arith))
