use Rattle.std.proofs.Common.{◌∙◌, sym}
use Rattle.label_text.proofs.Filling.{no_digits, one_left, too_many}
use Rattle.label_text.proofs.decoding.decoded.Goals.{then-is_empty-via-then-is_empty, then-is_empty-via-else-is_empty+then-digits-ne0, then-is_empty-via-else-is_empty+else-digits-ne0+then-count-gt-MOST_BYTES}
use Rattle.label_text.proofs.decoding.decoded.Goals as goal

pub returns-then-is_empty : goal.returns-then-is_empty
returns-then-is_empty c = elim c.then-is_empty.branch [
  | then-is_empty-via-then-is_empty w ↦ sym (no_digits c.args.digits.now (sym c.is_empty.ensures ∙ w.if-is_empty.true))
  | then-is_empty-via-else-is_empty+then-digits-ne0 w ↦ sym (one_left c.args.digits.now w.if-digits-ne0.true)
  | then-is_empty-via-else-is_empty+else-digits-ne0+then-count-gt-MOST_BYTES w ↦ sym (too_many c.args.digits.now w.if-count-gt-MOST_BYTES.true)
]
