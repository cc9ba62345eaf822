use Rattle.std.proofs.Common.{◌≡◌, ◌∙◌, rules, take_at}
use Rattle.miniport.proofs.carrying.read.Goals as goal

pub returns-then-is_err : goal.returns-then-is_err
returns-then-is_err g c =
    let whole : c.new.result ≡ c.read-read.new.buffer =
    c.new.ensures ∙ take_at c.read-read.new.buffer _ c.into_vec-bytes.result.len (c.read-read.auto.buffer ∙ c.as_mut_slice.ensures.len) in
    search rules

pub returns : goal.returns
returns g c =
    let whole : c.new.result ≡ c.read-read.new.buffer =
    c.new.ensures ∙ take_at c.read-read.new.buffer _ c.into_vec-bytes.result.len (c.read-read.auto.buffer ∙ c.as_mut_slice.ensures.len) in
    search rules
