use Rattle.std.proofs.Common.{sym, ◌∙◌, subst}
use Rattle.judge.specs.Breaking.{Differs}
use Rattle.judge.proofs.ReadBlocks.{same_if, differs_if, read_plain, read_spare}
use Rattle.judge.proofs.reading.plainly.Goals as goal

pub returns-in-None : goal.returns-in-None
returns-in-None c =
    read_plain c.one_meaning.ensures c.args.block.now c.encode-own.result.items c.args.command c.requires c.encode-own.ensures.plain
    (sym c.as_slice.ensures.value ∙ same_if c.as_slice.result.now c.args.block.now c.in-None.ensures)

pub returns-in-Some : goal.returns-in-Some
returns-in-Some c =
    read_spare c.one_meaning.ensures c.args.block.now c.encode-own.result.items c.args.command c.requires c.encode-own.ensures.plain
    c.one_spelling.ensures c.encode-own.ensures.meaning c.in-Some.byte
    (subst (λ own. Differs own c.args.block.now c.in-Some.byte) c.as_slice.ensures.value (differs_if c.as_slice.result.now c.args.block.now c.in-Some.byte c.in-Some.ensures))
