use Rattle.serving.proofs.Common.{ℕ, List, Option, ◌∙◌, subst, sym}
use Rattle.std.specs.Result.{result_err}
use Rattle.read_ahead.specs.Standing.{behind}
use Rattle.serving.specs.BesideFile.{IsFileSessionBeside}
use Rattle.serving.proofs.Whole.{behind_none, of_filed}
use Rattle.serving.proofs.beside.serve_file_beside.Goals as goal

pub returns-in-Ok : goal.returns-in-Ok
returns-in-Ok g c =
    subst
    (λ (i : Option (List ℕ)). IsFileSessionBeside c.args.threaded.filed i (g.W.Write.contents c.args.out.now) (result_err c.serve_busy.result.0) (g.W.Write.contents c.serve_busy.new.out))
    (behind_none g.J.Naming.given ∙ sym c.requires.given)
    (of_filed c.args.threaded.filed (behind 0 g.J.Naming.given) _ _ _ c.in-Ok.busy c.in-Ok.ensures.first c.serve_busy.ensures)
