use Rattle.std.proofs.Common.{◌+◌, ◌≤◌, subst, sym}
use Rattle.port.specs.inside.TableView.{books_of}
use Rattle.port.specs.Shown.{reserved_of}
use Rattle.device.specs.View.{DeviceView, label_places}
use Rattle.port.proofs.Returning.{finished, finishes_not, can_end}
use Rattle.port.proofs.Sound.{sound_on}
use Rattle.port.proofs.Seeing.{shown_is}
use Rattle.port.proofs.layer.PortDevice.finish.Goals as goal

pub returns-in_default : goal.returns-in_default
returns-in_default g c =
    rw (← shown_is c.self.view_is) (record { finishes = finishes_not (books_of c.self.inside.parts.queues) _ _ _ c.in_default.ensures.finishes })

pub end-requires-clause-on_tag : goal.end-requires-clause-on_tag
end-requires-clause-on_tag g c =
    (can_end _ _ _ _ _ _ _ c.self.invariant.kept c.in-Some.ensures.finishes).0

pub end-requires-clause-place : goal.end-requires-clause-place
end-requires-clause-place g c =
    (can_end _ _ _ _ _ _ _ c.self.invariant.kept c.in-Some.ensures.finishes).1

pub start_waiting-requires : goal.start_waiting-requires
start_waiting-requires g c =
    ((reserved_of (books_of c.self.inside.parts.queues).rooms), (finished _ _ _ _ _ _ _ _ _ c.self.invariant.kept (subst (λ (x : DeviceView). label_places x + 2 ≤ 64) (sym (shown_is c.self.view_is)) c.requires.label_place) c.class.ensures c.in-Some.ensures.finishes c.end.ensures c.in-Some.ensures.order).kept _ c.self.invariant.kept)

pub invariant_of-self-2 : goal.invariant_of-self-2
invariant_of-self-2 g c =
    sound_on (books_of c.self.inside.parts.queues) _ (g.A.Adapter.view c.self.inside.parts.adapter) _ ((finished _ _ _ _ _ _ _ _ _ c.self.invariant.kept (subst (λ (x : DeviceView). label_places x + 2 ≤ 64) (sym (shown_is c.self.view_is)) c.requires.label_place) c.class.ensures c.in-Some.ensures.finishes c.end.ensures c.in-Some.ensures.order).finishes _ _ c.start_waiting.ensures.releases).moves.same_rooms (c.start_waiting.ensures.rooms (reserved_of (books_of c.self.inside.parts.queues).rooms) ((finished _ _ _ _ _ _ _ _ _ c.self.invariant.kept (subst (λ (x : DeviceView). label_places x + 2 ≤ 64) (sym (shown_is c.self.view_is)) c.requires.label_place) c.class.ensures c.in-Some.ensures.finishes c.end.ensures c.in-Some.ensures.order).kept (reserved_of (books_of c.self.inside.parts.queues).rooms) c.self.invariant.kept))

pub returns : goal.returns
returns g c =
    rw (← shown_is c.self.view_is) (record { finishes = (finished _ _ _ _ _ _ _ _ _ c.self.invariant.kept (subst (λ (x : DeviceView). label_places x + 2 ≤ 64) (sym (shown_is c.self.view_is)) c.requires.label_place) c.class.ensures c.in-Some.ensures.finishes c.end.ensures c.in-Some.ensures.order).finishes _ _ c.start_waiting.ensures.releases })
