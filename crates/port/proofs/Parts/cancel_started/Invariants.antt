use Rattle.std.proofs.Common.{◌≡◌, ◌<◌, ℕ}
use Rattle.std.specs.Prelude.{Any}
use Rattle.adapter.specs.View.{HasTag}
use Rattle.port.specs.inside.TableView.{books_of, visits_of}
use Rattle.port.specs.inside.TableCalls.{CannotCancelOn}
use Rattle.port.proofs.Parts.cancel_started.Given as goal

abbrev pub invariant-loop-tag : goal.invariant-loop-tag
invariant-loop-tag g l = record {
  adapter : g.A.Adapter.view l.self.adapter ≡ g.A.Adapter.view l.initial.self.adapter;
  visits : visits_of l.self.queues ≡ visits_of l.initial.self.queues;
  queues : books_of l.self.queues ≡ books_of l.initial.self.queues;
  none : (lower : ℕ) → lower < l.tag → Any (HasTag lower) (g.A.Adapter.view l.initial.self.adapter).tags → CannotCancelOn (books_of l.initial.self.queues).started l.number lower;
}
