use Rattle.std.proofs.Common.{length, arith, ap, ◌∙◌, length-append, ◌++◌, ℕ, List}
use Rattle.mbr.specs.Faults.{told_by}
use Rattle.mbr.proofs.ReadBack.{read_back, read_back_followed, whole}
use Rattle.mbr.proofs.Filling.{ended, one_more}
use Rattle.mbr.proofs.writing.render.Goals as goal

pub loop-kind-preserved : goal.loop-kind-preserved
loop-kind-preserved c =
    let before = c.loop-kind.sector.items in
    let long = length-append before c.entry.result in
    let kept = c.loop-kind.invariant in
    record {
      bytes = c.put.ensures
          ∙ one_more c.args.entries.now c.loop-kind.kind-index before c.entry.result _ c.loop-kind-test.true c.entry.ensures kept.bytes;
      long = omega (arith, ap length c.put.ensures, ap length c.entry.ensures);
    }

pub returns-clause-bytes : goal.returns-clause-bytes
returns-clause-bytes c =
    ended c.args.entries.now c.loop-kind.kind-index c.loop-kind.sector.items c.put-2.new.sector.items c.put-3.new.sector.items
    c.loop-kind-test.false c.loop-kind.invariant.bytes c.put-2.ensures c.put-3.ensures

pub returns-clause-whole : goal.returns-clause-whole
returns-clause-whole c = ap length (returns-clause-bytes c) ∙ whole c.args.entries.now c.requires.few

pub returns-clause-read_back : goal.returns-clause-read_back
returns-clause-read_back c sectors =
    ap (told_by sectors) (returns-clause-bytes c) ∙ read_back c.args.entries.now sectors c.requires.few c.requires.fit

pub returns-clause-followed : goal.returns-clause-followed
returns-clause-followed c sectors more =
    ap (λ (bytes : List ℕ). told_by sectors (bytes ++ more)) (returns-clause-bytes c)
    ∙ read_back_followed c.args.entries.now sectors more c.requires.few c.requires.fit
