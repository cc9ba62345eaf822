use Rattle.std.proofs.Common.{lit<, sym, ◌∙◌}
use Rattle.script.proofs.Spelled.{byte_found}
use Rattle.script.proofs.orders.words.byte.Goals as goal

pub returns : goal.returns
returns c = byte_found c.args.word.now c.from_str_radix.result c.ok.result c.from_str_radix.ensures.value
    (sym (c.starts_with.ensures.byte (lit< tt) (lit< tt) (λ t o h. h)) ∙ c.if-starts_with.false) c.if-word-ne2.false c.ok.ensures.value
