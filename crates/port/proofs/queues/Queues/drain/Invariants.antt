use Rattle.std.proofs.Common.{◌≡◌, ◌≤◌, ◌+◌, List, ◌++◌, map, length}
use Rattle.port.specs.declared.queues.PortPacket.{PortPacket}
use Rattle.port.specs.inside.TableView.{books_of}
use Rattle.port.specs.inside.TableCalls.{gone}
use Rattle.port.proofs.queues.Queues.drain.Given as goal

abbrev pub invariant-loop-spot : goal.invariant-loop-spot
invariant-loop-spot l = record {
  before : List PortPacket;
  waited : (books_of l.initial.self).waiting ≡ before ++ (books_of l.self).waiting;
  went : l.self.done.list.items ≡ l.initial.self.done.list.items ++ map gone before;
  others : books_of l.self ≡ record (books_of l.initial.self) { waiting = (books_of l.self).waiting; done = l.self.done.list.items };
  few : length (books_of l.self).waiting + length l.self.done.list.items ≤ (books_of l.self).places;
}

abbrev pub decreases-loop-spot : goal.decreases-loop-spot
decreases-loop-spot l = length (books_of l.self).waiting
