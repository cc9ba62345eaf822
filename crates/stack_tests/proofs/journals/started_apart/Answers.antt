use Rattle.std.proofs.Common.{◌≡◌, false, true, length, sym, ap, ◌∙◌, rules}
use Rattle.stack_tests.proofs.journals.started_apart.Goals as goal

pub returns-in-Ok-clause-apart : goal.returns-in-Ok-clause-apart
returns-in-Ok-clause-apart g c =
    let same : c.in-Ok.stack.adapter.faithful ≡ c.is_faithful-faithful.result = c.in-Ok.ensures.view.same_disk.faithful ∙ sym c.is_faithful-faithful.ensures in
    let told : c.is_faithful-faithful.result ≡ false = search rules in
    same ∙ told

pub returns-in-Ok-clause-sizes : goal.returns-in-Ok-clause-sizes
returns-in-Ok-clause-sizes g c =
    let size : c.sector_size-size.result ≡ 512 = search rules in
    let many : c.sectors-sectors.result ≡ 4096 = search rules in
    let most : c.max_transfer-most.result ≡ 2 = search rules in (
      ap (λ r. r.sector_size) c.in-Ok.ensures.view.rules ∙ sym c.sector_size-size.ensures.exact ∙ size,
      ap (λ r. r.disk_sectors) c.in-Ok.ensures.view.rules ∙ sym c.sectors-sectors.ensures.exact ∙ many,
      ap (λ r. r.max_transfer) c.in-Ok.ensures.view.rules ∙ sym c.max_transfer-most.ensures.exact ∙ most,
    )

pub returns-in-Ok-clause-bytes : goal.returns-in-Ok-clause-bytes
returns-in-Ok-clause-bytes g c =
    let told : c.keeps_bytes-keeps_bytes.result ≡ true = search rules in
    ap (λ r. r.keeps_bytes) c.in-Ok.ensures.view.rules ∙ (sym c.keeps_bytes-keeps_bytes.ensures ∙ told)
