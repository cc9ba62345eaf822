use Rattle.std.proofs.Common.{Bool, List, ℕ, OnOk, string_bytes, subst, sym, true}
use Rattle.std.specs.Io.KnownBytes.{Appends}
use Rattle.judging.specs.Checked.{refused_line}
use Rattle.judging.proofs.course.write_refused.Goals as goal

pub returns-then-json : goal.returns-then-json
returns-then-json g c =
    subst (λ (json : Bool). OnOk c.writeln.result (Appends (g.O.Write.contents c.args.out.now) (g.O.Write.contents c.writeln.new.self) (refused_line json c.args.stop.line c.args.stop.misstep (string_bytes c.args.more.now)))) (sym c.if-json.true)
    (subst (λ (more : List ℕ). OnOk c.writeln.result (Appends (g.O.Write.contents c.args.out.now) (g.O.Write.contents c.writeln.new.self) (refused_line true c.args.stop.line c.args.stop.misstep more))) c.as_str-more.ensures.value c.writeln.ensures.bytes)
