use Rattle.serving.proofs.Common.{ℕ, List, TraceView, subst}
use Rattle.std.specs.Prelude.{IsTrue}
use Rattle.std.specs.Io.KnownBytes.{Appends}
use Rattle.serving.proofs.Writing.{lines_given}
use Rattle.serving.proofs.pens.Trace.tell.Goals as goal

pub returns-clause-wrote : goal.returns-clause-wrote
returns-clause-wrote g c =
    lines_given c.args.self.now (record { whole = c.put-self-inside.result; bytes = g.W.Write.contents c.put-self-inside.new.out })
    c.args.stack.now.rules.keeps_bytes c.args.stack.now.labels _ _ c.write_lines-all.result c.clear.ensures.items c.write_lines-all.ensures.text
    (subst
    (λ (old : TraceView). IsTrue c.put-self-inside.result → IsTrue old.whole × IsTrue c.write_lines-all.result × Appends old.bytes (g.W.Write.contents c.put-self-inside.new.out) c.write_lines-all.new.text.items)
    c.self.view_is
    (subst
    (λ (text : List ℕ). IsTrue c.put-self-inside.result → IsTrue c.self.inside.whole × IsTrue c.write_lines-all.result × Appends (g.W.Write.contents c.self.inside.out) (g.W.Write.contents c.put-self-inside.new.out) text)
    c.as_slice.ensures.value c.put-self-inside.ensures))
