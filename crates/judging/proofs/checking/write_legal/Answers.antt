use Rattle.std.proofs.Common.{Bool, List, ℕ, OnOk, string_bytes, subst, sym, true}
use Rattle.std.specs.Io.KnownBytes.{Appends}
use Rattle.judging.specs.inside.Checked.{tally_line}
use Rattle.judging.proofs.checking.write_legal.Goals as goal

pub returns-then-json : goal.returns-then-json
returns-then-json g c =
    subst (λ (json : Bool). OnOk c.writeln.result (Appends (g.O.Write.contents c.args.out.now) (g.O.Write.contents c.writeln.new.self) (tally_line json c.args.tally (string_bytes c.args.left.now)))) (sym c.if-json.true)
    (subst (λ (left : List ℕ). OnOk c.writeln.result (Appends (g.O.Write.contents c.args.out.now) (g.O.Write.contents c.writeln.new.self) (tally_line true c.args.tally left))) c.as_str-left.ensures.value c.writeln.ensures.bytes)
