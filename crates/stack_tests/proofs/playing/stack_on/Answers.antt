use Rattle.std.proofs.Common.{◌≡◌, true, sym, ap, ◌∙◌, rules}
use Rattle.stack_tests.proofs.playing.stack_on.Goals as goal

pub returns-in-Ok-clause-bytes : goal.returns-in-Ok-clause-bytes
returns-in-Ok-clause-bytes g c =
    let told : c.keeps_bytes-keeps_bytes.result ≡ true = search rules in
    ap (λ r. r.keeps_bytes) c.in-Ok.ensures.view.rules ∙ (sym c.keeps_bytes-keeps_bytes.ensures ∙ told)
