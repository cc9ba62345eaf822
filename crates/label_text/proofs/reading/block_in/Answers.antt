use Rattle.std.proofs.Common.{rules, sym, ◌∙◌}
use Rattle.label_text.proofs.Hexed.{full_block}
use Rattle.label_text.proofs.reading.block_in.Goals as goal

pub returns-in_default-try_push : goal.returns-in_default-try_push
returns-in_default-try_push c =
    full_block c.args.digits.now c.loop-rest.bytes.items c.loop-rest.rest.now c.in_ok-byte.byte (sym c.is_empty.ensures ∙ c.if-is_empty.false) c.loop-rest.invariant c.in-len2-up.len_at_least
    (search rules) (search rules)
