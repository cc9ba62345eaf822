use Rattle.std.proofs.Common.{◌≡◌, ◌∙◌, sym, subst, true, List, Some, None, Err, rules}
use Rattle.sector.specs.declared.Extent.{Extent}
use Rattle.mbr.specs.Table.{is_signed}
use Rattle.mbr.specs.Faults.{partitions_fault}
use Rattle.mbr.proofs.Answering.{exactly, partitions_in, too_few, unsigned}
use Rattle.mbr.proofs.Mapped.{told_is_map}
use Rattle.mbr.proofs.reading.parse.Goals as goal

pub returns-then-sector-lt512-clause-answer : goal.returns-then-sector-lt512-clause-answer
returns-then-sector-lt512-clause-answer c = too_few c.args.sectors c.args.sector.now c.if-sector-lt512.true

pub returns-then-not-has_signature-clause-answer : goal.returns-then-not-has_signature-clause-answer
returns-then-not-has_signature-clause-answer c =
    unsigned c.args.sectors c.args.sector.now c.if-sector-lt512.false (sym c.has_signature.ensures ∙ c.if-not-has_signature.true)

pub returns-in_err-check-clause-answer : goal.returns-in_err-check-clause-answer
returns-in_err-check-clause-answer c =
    let given : c.from_residual.result ≡ Err c.in_err-check.field-0.0 = search rules in
    let signed : is_signed c.args.sector.now ≡ true = sym c.has_signature.ensures ∙ c.if-not-has_signature.false in
    let items : c.as_slice.result.now ≡ partitions_in c.args.sector.now = c.as_slice.ensures.value ∙ c.partitions-partitions.ensures in
    let fault = Some c.in_err-check.field-0.0 in
    let long = c.if-sector-lt512.false in
    rw given (exactly c.args.sectors c.args.sector.now c.as_slice.result.now fault long signed items c.in_err-check.ensures)

pub returns-clause-answer : goal.returns-clause-answer
returns-clause-answer c =
    let signed : is_signed c.args.sector.now ≡ true = sym c.has_signature.ensures ∙ c.if-not-has_signature.false in
    exactly c.args.sectors c.args.sector.now c.partitions-partitions.result.items None c.if-sector-lt512.false signed
    c.partitions-partitions.ensures
    (subst (λ (xs : List Extent). None ≡ partitions_fault c.args.sectors xs) c.as_slice.ensures.value c.in_ok-check.ensures)

pub returns-clause-map : goal.returns-clause-map
returns-clause-map c =
    told_is_map c.args.sectors c.args.sector.now c.partitions-partitions.result.items (sym (returns-clause-answer c))
