use Rattle.port.specs.inside.TableView.{books_of}
use Rattle.port.specs.Shown.{reserved_of}
use Rattle.port.proofs.Draining.{cancelled_waiting}
use Rattle.port.proofs.Marking.{hand_cancelled_out, hand_cancelled_last}
use Rattle.port.proofs.Sound.{sound_on, same_cancelled}
use Rattle.port.proofs.Seeing.{shown_is}
use Rattle.port.proofs.layer.PortDevice.cancel.Goals as goal

pub invariant_of-self : goal.invariant_of-self
invariant_of-self g c =
    sound_on (books_of c.self.inside.parts.queues) (books_of c.withdraw.new.self) (g.A.Adapter.view c.self.inside.parts.adapter) (g.A.Adapter.view c.self.inside.parts.adapter) (same_cancelled (books_of c.self.inside.parts.queues) (books_of c.withdraw.new.self) (g.A.Adapter.view c.self.inside.parts.adapter) (g.A.Adapter.view c.self.inside.parts.adapter) c.args.number (cancelled_waiting (books_of c.self.inside.parts.queues) (books_of c.withdraw.new.self) (g.A.Adapter.view c.self.inside.parts.adapter) c.args.number c.if-withdraw.ensures).cancels) ((cancelled_waiting (books_of c.self.inside.parts.queues) (books_of c.withdraw.new.self) (g.A.Adapter.view c.self.inside.parts.adapter) c.args.number c.if-withdraw.ensures).rooms (reserved_of (books_of c.self.inside.parts.queues).rooms) c.self.invariant)

pub invariant_of-self-then-cancel_started : goal.invariant_of-self-then-cancel_started
invariant_of-self-then-cancel_started g c =
    sound_on (books_of c.self.inside.parts.queues) (books_of c.cancel_started.new.self.queues) (g.A.Adapter.view c.self.inside.parts.adapter) (g.A.Adapter.view c.cancel_started.new.self.adapter) (same_cancelled (books_of c.self.inside.parts.queues) (books_of c.cancel_started.new.self.queues) (g.A.Adapter.view c.self.inside.parts.adapter) (g.A.Adapter.view c.cancel_started.new.self.adapter) c.args.number (hand_cancelled_out (books_of c.self.inside.parts.queues) (books_of c.withdraw.new.self) (books_of c.cancel_started.new.self.queues) (g.A.Adapter.view c.self.inside.parts.adapter) (g.A.Adapter.view c.cancel_started.new.self.adapter) _ c.args.number c.self.invariant c.if-withdraw.ensures c.cancel_started.ensures.adapter c.if-cancel_started.ensures.cancels).cancels) ((hand_cancelled_out (books_of c.self.inside.parts.queues) (books_of c.withdraw.new.self) (books_of c.cancel_started.new.self.queues) (g.A.Adapter.view c.self.inside.parts.adapter) (g.A.Adapter.view c.cancel_started.new.self.adapter) _ c.args.number c.self.invariant c.if-withdraw.ensures c.cancel_started.ensures.adapter c.if-cancel_started.ensures.cancels).rooms (reserved_of (books_of c.self.inside.parts.queues).rooms) c.self.invariant)

pub invariant_of-self-2 : goal.invariant_of-self-2
invariant_of-self-2 g c =
    sound_on (books_of c.self.inside.parts.queues) (books_of c.cancel_done.new.self) (g.A.Adapter.view c.self.inside.parts.adapter) (g.A.Adapter.view c.cancel_started.new.self.adapter) (same_cancelled (books_of c.self.inside.parts.queues) (books_of c.cancel_done.new.self) (g.A.Adapter.view c.self.inside.parts.adapter) (g.A.Adapter.view c.cancel_started.new.self.adapter) c.args.number (hand_cancelled_last (books_of c.self.inside.parts.queues) (books_of c.withdraw.new.self) (books_of c.cancel_started.new.self.queues) (books_of c.cancel_done.new.self) (g.A.Adapter.view c.self.inside.parts.adapter) (g.A.Adapter.view c.cancel_started.new.self.adapter) _ c.args.number c.cancel_done.result c.self.invariant c.if-withdraw.ensures c.cancel_started.ensures.adapter c.if-cancel_started.ensures.cancels c.cancel_done.ensures.cancels).cancels) ((hand_cancelled_last (books_of c.self.inside.parts.queues) (books_of c.withdraw.new.self) (books_of c.cancel_started.new.self.queues) (books_of c.cancel_done.new.self) (g.A.Adapter.view c.self.inside.parts.adapter) (g.A.Adapter.view c.cancel_started.new.self.adapter) _ c.args.number c.cancel_done.result c.self.invariant c.if-withdraw.ensures c.cancel_started.ensures.adapter c.if-cancel_started.ensures.cancels c.cancel_done.ensures.cancels).rooms (reserved_of (books_of c.self.inside.parts.queues).rooms) c.self.invariant)

pub returns-then-withdraw : goal.returns-then-withdraw
returns-then-withdraw g c =
    rw (← shown_is c.self.view_is) (record { cancels = (cancelled_waiting (books_of c.self.inside.parts.queues) (books_of c.withdraw.new.self) (g.A.Adapter.view c.self.inside.parts.adapter) c.args.number c.if-withdraw.ensures).cancels })

pub returns-then-cancel_started : goal.returns-then-cancel_started
returns-then-cancel_started g c =
    rw (← shown_is c.self.view_is) (record { cancels = (hand_cancelled_out (books_of c.self.inside.parts.queues) (books_of c.withdraw.new.self) (books_of c.cancel_started.new.self.queues) (g.A.Adapter.view c.self.inside.parts.adapter) (g.A.Adapter.view c.cancel_started.new.self.adapter) _ c.args.number c.self.invariant c.if-withdraw.ensures c.cancel_started.ensures.adapter c.if-cancel_started.ensures.cancels).cancels })

pub returns : goal.returns
returns g c =
    rw (← shown_is c.self.view_is) (record { cancels = (hand_cancelled_last (books_of c.self.inside.parts.queues) (books_of c.withdraw.new.self) (books_of c.cancel_started.new.self.queues) (books_of c.cancel_done.new.self) (g.A.Adapter.view c.self.inside.parts.adapter) (g.A.Adapter.view c.cancel_started.new.self.adapter) _ c.args.number c.cancel_done.result c.self.invariant c.if-withdraw.ensures c.cancel_started.ensures.adapter c.if-cancel_started.ensures.cancels c.cancel_done.ensures.cancels).cancels })
