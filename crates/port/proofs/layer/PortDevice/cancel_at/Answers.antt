use Rattle.std.proofs.Common.{◌+◌, ◌∙◌, sym, ap, subst}
use Rattle.linked.specs.Queue.{VisitsAtMost}
use Rattle.port.specs.inside.TableView.{Visited, books_of, visits_of}
use Rattle.port.specs.Shown.{reserved_of}
use Rattle.port.proofs.Spots.{at_queued, at_started, at_last}
use Rattle.port.proofs.Sound.{sound_on, same_cancelled_at}
use Rattle.port.proofs.Seeing.{shown_is, visits_are, walks_are, unwalked, walked_once}
use Rattle.port.proofs.layer.PortDevice.cancel_at.Goals as goal

pub invariant_of-self : goal.invariant_of-self
invariant_of-self g c =
    sound_on (books_of c.self.inside.parts.queues) (books_of c.cancel_queued.new.self.queues) (g.A.Adapter.view c.self.inside.parts.adapter) (g.A.Adapter.view c.cancel_queued.new.self.adapter) (same_cancelled_at (books_of c.self.inside.parts.queues) (books_of c.cancel_queued.new.self.queues) (g.A.Adapter.view c.self.inside.parts.adapter) (g.A.Adapter.view c.cancel_queued.new.self.adapter) c.args.spot c.args.number (at_queued (books_of c.self.inside.parts.queues) (books_of c.cancel_queued.new.self.queues) (g.A.Adapter.view c.self.inside.parts.adapter) (g.A.Adapter.view c.cancel_queued.new.self.adapter) _ c.args.spot c.args.number c.self.invariant c.cancel_queued.ensures.adapter c.if-cancel_queued.ensures.cancels)) (c.cancel_queued.ensures.rooms (reserved_of (books_of c.self.inside.parts.queues).rooms) c.self.invariant)

pub invariant_of-self-then-cancel_started : goal.invariant_of-self-then-cancel_started
invariant_of-self-then-cancel_started g c =
    sound_on (books_of c.self.inside.parts.queues) (books_of c.cancel_started.new.self.queues) (g.A.Adapter.view c.self.inside.parts.adapter) (g.A.Adapter.view c.cancel_started.new.self.adapter) (same_cancelled_at (books_of c.self.inside.parts.queues) (books_of c.cancel_started.new.self.queues) (g.A.Adapter.view c.self.inside.parts.adapter) (g.A.Adapter.view c.cancel_started.new.self.adapter) c.args.spot c.args.number (at_started (books_of c.self.inside.parts.queues) (books_of c.cancel_queued.new.self.queues) (books_of c.cancel_started.new.self.queues) (g.A.Adapter.view c.self.inside.parts.adapter) (g.A.Adapter.view c.cancel_queued.new.self.adapter) (g.A.Adapter.view c.cancel_started.new.self.adapter) _ c.args.spot c.args.number c.self.invariant c.if-cancel_queued.ensures.cancels c.cancel_queued.ensures.adapter c.cancel_started.ensures.adapter c.if-cancel_started.ensures.cancels).cancels) ((at_started (books_of c.self.inside.parts.queues) (books_of c.cancel_queued.new.self.queues) (books_of c.cancel_started.new.self.queues) (g.A.Adapter.view c.self.inside.parts.adapter) (g.A.Adapter.view c.cancel_queued.new.self.adapter) (g.A.Adapter.view c.cancel_started.new.self.adapter) _ c.args.spot c.args.number c.self.invariant c.if-cancel_queued.ensures.cancels c.cancel_queued.ensures.adapter c.cancel_started.ensures.adapter c.if-cancel_started.ensures.cancels).rooms (reserved_of (books_of c.self.inside.parts.queues).rooms) c.self.invariant)

pub invariant_of-self-2 : goal.invariant_of-self-2
invariant_of-self-2 g c =
    sound_on (books_of c.self.inside.parts.queues) (books_of c.cancel_done.new.self) (g.A.Adapter.view c.self.inside.parts.adapter) (g.A.Adapter.view c.cancel_started.new.self.adapter) (same_cancelled_at (books_of c.self.inside.parts.queues) (books_of c.cancel_done.new.self) (g.A.Adapter.view c.self.inside.parts.adapter) (g.A.Adapter.view c.cancel_started.new.self.adapter) c.args.spot c.args.number (at_last (books_of c.self.inside.parts.queues) (books_of c.cancel_queued.new.self.queues) (books_of c.cancel_started.new.self.queues) (books_of c.cancel_done.new.self) (g.A.Adapter.view c.self.inside.parts.adapter) (g.A.Adapter.view c.cancel_queued.new.self.adapter) (g.A.Adapter.view c.cancel_started.new.self.adapter) _ c.args.spot c.args.number c.cancel_done.result c.self.invariant c.if-cancel_queued.ensures.cancels c.cancel_queued.ensures.adapter c.cancel_started.ensures.adapter c.if-cancel_started.ensures.cancels c.cancel_done.ensures.cancels).cancels) ((at_last (books_of c.self.inside.parts.queues) (books_of c.cancel_queued.new.self.queues) (books_of c.cancel_started.new.self.queues) (books_of c.cancel_done.new.self) (g.A.Adapter.view c.self.inside.parts.adapter) (g.A.Adapter.view c.cancel_queued.new.self.adapter) (g.A.Adapter.view c.cancel_started.new.self.adapter) _ c.args.spot c.args.number c.cancel_done.result c.self.invariant c.if-cancel_queued.ensures.cancels c.cancel_queued.ensures.adapter c.cancel_started.ensures.adapter c.if-cancel_started.ensures.cancels c.cancel_done.ensures.cancels).rooms (reserved_of (books_of c.self.inside.parts.queues).rooms) c.self.invariant)

pub returns-then-cancel_queued-clause-cancels : goal.returns-then-cancel_queued-clause-cancels
returns-then-cancel_queued-clause-cancels g c =
    rw (← shown_is c.self.view_is) (at_queued (books_of c.self.inside.parts.queues) (books_of c.cancel_queued.new.self.queues) (g.A.Adapter.view c.self.inside.parts.adapter) (g.A.Adapter.view c.cancel_queued.new.self.adapter) _ c.args.spot c.args.number c.self.invariant c.cancel_queued.ensures.adapter c.if-cancel_queued.ensures.cancels)

pub returns-then-cancel_started-clause-cancels : goal.returns-then-cancel_started-clause-cancels
returns-then-cancel_started-clause-cancels g c =
    rw (← shown_is c.self.view_is) ((at_started (books_of c.self.inside.parts.queues) (books_of c.cancel_queued.new.self.queues) (books_of c.cancel_started.new.self.queues) (g.A.Adapter.view c.self.inside.parts.adapter) (g.A.Adapter.view c.cancel_queued.new.self.adapter) (g.A.Adapter.view c.cancel_started.new.self.adapter) _ c.args.spot c.args.number c.self.invariant c.if-cancel_queued.ensures.cancels c.cancel_queued.ensures.adapter c.cancel_started.ensures.adapter c.if-cancel_started.ensures.cancels).cancels)

pub returns-clause-cancels : goal.returns-clause-cancels
returns-clause-cancels g c =
    rw (← shown_is c.self.view_is) ((at_last (books_of c.self.inside.parts.queues) (books_of c.cancel_queued.new.self.queues) (books_of c.cancel_started.new.self.queues) (books_of c.cancel_done.new.self) (g.A.Adapter.view c.self.inside.parts.adapter) (g.A.Adapter.view c.cancel_queued.new.self.adapter) (g.A.Adapter.view c.cancel_started.new.self.adapter) _ c.args.spot c.args.number c.cancel_done.result c.self.invariant c.if-cancel_queued.ensures.cancels c.cancel_queued.ensures.adapter c.cancel_started.ensures.adapter c.if-cancel_started.ensures.cancels c.cancel_done.ensures.cancels).cancels)

pub returns-then-cancel_queued-clause-visits : goal.returns-then-cancel_queued-clause-visits
returns-then-cancel_queued-clause-visits g c = rw (← visits_are c.self.view_is) c.cancel_queued.ensures.visits

pub returns-then-cancel_started-clause-visits : goal.returns-then-cancel_started-clause-visits
returns-then-cancel_started-clause-visits g c =
    rw (← visits_are c.self.view_is) (subst (λ n. VisitsAtMost 3 (visits_of c.self.inside.parts.queues).queue n) (sym (ap (λ (v : Visited). v.queue) c.cancel_started.ensures.visits)) c.cancel_queued.ensures.visits)

pub returns-clause-visits : goal.returns-clause-visits
returns-clause-visits g c =
    rw (← visits_are c.self.view_is) (subst (λ n. VisitsAtMost 3 (visits_of c.self.inside.parts.queues).queue n) (sym (c.cancel_done.ensures.visits ∙ ap (λ (v : Visited). v.queue) c.cancel_started.ensures.visits)) c.cancel_queued.ensures.visits)

pub returns-then-cancel_queued-clause-walks : goal.returns-then-cancel_queued-clause-walks
returns-then-cancel_queued-clause-walks g c = rw (← walks_are c.self.view_is) (unwalked _ _ c.cancel_queued.ensures.walks)

pub returns-then-cancel_started-clause-walks : goal.returns-then-cancel_started-clause-walks
returns-then-cancel_started-clause-walks g c =
    rw (← walks_are c.self.view_is) (unwalked _ _ (ap (λ (v : Visited). v.walks) c.cancel_started.ensures.visits ∙ c.cancel_queued.ensures.walks))

pub returns-clause-walks : goal.returns-clause-walks
returns-clause-walks g c =
    rw (← walks_are c.self.view_is) (walked_once _ _ (c.cancel_done.ensures.walks ∙ ap (λ n. n + 1) (ap (λ (v : Visited). v.walks) c.cancel_started.ensures.visits ∙ c.cancel_queued.ensures.walks)))
