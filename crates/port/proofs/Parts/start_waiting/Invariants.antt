use Rattle.std.proofs.Common.{◌≡◌, List}
use Rattle.machine.specs.declared.Request.{Request}
use Rattle.port.specs.inside.TableView.{books_of}
use Rattle.port.specs.inside.Invariant.{PortKept}
use Rattle.port.specs.inside.Releases.{Releases, AreLowerInUse}
use Rattle.port.proofs.Parts.start_waiting.Given as goal

abbrev pub invariant-loop-tag : goal.invariant-loop-tag
invariant-loop-tag g l = record {
  kept : (rooms : List Request) → PortKept (books_of l.initial.self.queues) (g.A.Adapter.view l.initial.self.adapter) rooms → PortKept (books_of l.self.queues) (g.A.Adapter.view l.self.adapter) rooms;
  releases : Releases (books_of l.initial.self.queues) (g.A.Adapter.view l.initial.self.adapter) (books_of l.self.queues) (g.A.Adapter.view l.self.adapter);
  lower : AreLowerInUse (books_of l.self.queues) (g.A.Adapter.view l.self.adapter) l.tag;
  end : l.tag-end ≡ (books_of l.initial.self.queues).sizes.depth;
}
