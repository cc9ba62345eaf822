use Rattle.class_disk.specs.inside.TableView.{books_of}
use Rattle.class_disk.proofs.AllSent.{SentSoFar}
use Rattle.class_disk.proofs.Extension.send_parts.Given as goal

-- the parts before this one were sent
abbrev pub invariant-loop-part : goal.invariant-loop-part
invariant-loop-part g l =
    SentSoFar (g.D.Shown.view l.initial.self.device) (books_of l.initial.self.table) l.slot l.part (g.D.Shown.view l.self.device) (books_of l.self.table)
