use Rattle.std.proofs.Common.{rules, ◌≡◌, ◌≤◌, ◌+◌, ◌∙◌, length, sym, subst, arith, Err}
use Rattle.port.specs.inside.TableView.{TableView, books_of}
use Rattle.port.specs.Shown.{reserved_of}
use Rattle.device.specs.View.{DeviceView, IsBounded}
use Rattle.port.specs.inside.TableCalls.{AddsNone}
use Rattle.port.proofs.Rooms.{hand_after, none_added}
use Rattle.port.proofs.Sound.{sound_on, sound_made, reserves_none_shown, reserves_spot_shown, near_shown}
use Rattle.port.proofs.Seeing.{shown_is}
use Rattle.port.proofs.layer.PortDevice.reserve.Goals as goal

pub add_place-requires : goal.add_place-requires
add_place-requires g c =
    let k = c.self.invariant.kept.places in
    subst (λ (b : TableView). length b.waiting + length b.done ≤ b.places) (sym c.reserve_extent.ensures.queues) (omega arith)

pub returns-in_err-reserve_extent-clause-refused : goal.returns-in_err-reserve_extent-clause-refused
returns-in_err-reserve_extent-clause-refused g c =
    let given : c.from_residual.result ≡ Err c.in_err-reserve_extent.field-0.0 = search rules in
    rw given (rw (← shown_is c.self.view_is) (reserves_none_shown (books_of c.self.inside.parts.queues) (books_of c.reserve_extent.new.self.queues) (g.A.Adapter.view c.self.inside.parts.adapter) (g.A.Adapter.view c.reserve_extent.new.self.adapter) (none_added (books_of c.self.inside.parts.queues) (books_of c.reserve_extent.new.self.queues) c.reserve_extent.ensures.queues) c.reserve_extent.ensures.reserves))

pub invariant_of-self : goal.invariant_of-self
invariant_of-self g c =
    sound_on (books_of c.self.inside.parts.queues) (books_of c.reserve_extent.new.self.queues) (g.A.Adapter.view c.self.inside.parts.adapter) (g.A.Adapter.view c.reserve_extent.new.self.adapter)
    (reserves_none_shown (books_of c.self.inside.parts.queues) (books_of c.reserve_extent.new.self.queues) (g.A.Adapter.view c.self.inside.parts.adapter) (g.A.Adapter.view c.reserve_extent.new.self.adapter) (none_added (books_of c.self.inside.parts.queues) (books_of c.reserve_extent.new.self.queues) c.reserve_extent.ensures.queues) c.reserve_extent.ensures.reserves).room
    (hand_after (books_of c.self.inside.parts.queues) (books_of c.reserve_extent.new.self.queues) (g.A.Adapter.view c.self.inside.parts.adapter) (g.A.Adapter.view c.reserve_extent.new.self.adapter) (reserved_of (books_of c.self.inside.parts.queues).rooms) (none_added (books_of c.self.inside.parts.queues) (books_of c.reserve_extent.new.self.queues) c.reserve_extent.ensures.queues) c.reserve_extent.ensures.reserves c.reserve_extent.ensures.order c.self.invariant)

pub invariant_of-self-in_err-spot : goal.invariant_of-self-in_err-spot
invariant_of-self-in_err-spot g c =
    sound_on (books_of c.self.inside.parts.queues) (books_of c.add_place.new.self) (g.A.Adapter.view c.self.inside.parts.adapter) (g.A.Adapter.view c.reserve_extent.new.self.adapter)
    (reserves_none_shown (books_of c.self.inside.parts.queues) (books_of c.add_place.new.self) (g.A.Adapter.view c.self.inside.parts.adapter) (g.A.Adapter.view c.reserve_extent.new.self.adapter) (subst (λ (b : TableView). AddsNone b (books_of c.add_place.new.self)) c.reserve_extent.ensures.queues c.in_err-spot.ensures.refused) c.reserve_extent.ensures.reserves).room
    (hand_after (books_of c.self.inside.parts.queues) (books_of c.add_place.new.self) (g.A.Adapter.view c.self.inside.parts.adapter) (g.A.Adapter.view c.reserve_extent.new.self.adapter) (reserved_of (books_of c.self.inside.parts.queues).rooms) (subst (λ (b : TableView). AddsNone b (books_of c.add_place.new.self)) c.reserve_extent.ensures.queues c.in_err-spot.ensures.refused) c.reserve_extent.ensures.reserves c.reserve_extent.ensures.order c.self.invariant)

pub returns-in_err-spot-clause-refused : goal.returns-in_err-spot-clause-refused
returns-in_err-spot-clause-refused g c =
    let given : c.from_residual-in_err-spot.result ≡ Err c.in_err-spot.field-0.0 = search rules in
    rw given (rw (← shown_is c.self.view_is) (reserves_none_shown (books_of c.self.inside.parts.queues) (books_of c.add_place.new.self) (g.A.Adapter.view c.self.inside.parts.adapter) (g.A.Adapter.view c.reserve_extent.new.self.adapter) (subst (λ (b : TableView). AddsNone b (books_of c.add_place.new.self)) c.reserve_extent.ensures.queues c.in_err-spot.ensures.refused) c.reserve_extent.ensures.reserves))

pub invariant_of-self-2 : goal.invariant_of-self-2
invariant_of-self-2 g c =
    sound_made (books_of c.self.inside.parts.queues) (books_of c.reserve_extent.new.self.queues) (books_of c.add_place.new.self) _ _ _ _ c.reserve_extent.ensures.queues c.in_ok-spot.ensures.added
    c.reserve_extent.ensures.reserves c.reserve_extent.ensures.order (subst (λ (x : DeviceView). IsBounded x.rules c.args.request.now) (sym (shown_is c.self.view_is)) c.requires.bounded) c.in_ok-reserve_extent.ensures.reserved c.self.invariant

pub returns-clause-reserved : goal.returns-clause-reserved
returns-clause-reserved g c =
    rw (← shown_is c.self.view_is) (reserves_spot_shown (books_of c.self.inside.parts.queues) (books_of c.reserve_extent.new.self.queues) (books_of c.add_place.new.self) _ _ _ _ c.reserve_extent.ensures.queues c.in_ok-spot.ensures.added c.reserve_extent.ensures.reserves
    (sound_made (books_of c.self.inside.parts.queues) (books_of c.reserve_extent.new.self.queues) (books_of c.add_place.new.self) _ _ _ _ c.reserve_extent.ensures.queues c.in_ok-spot.ensures.added
    c.reserve_extent.ensures.reserves c.reserve_extent.ensures.order (subst (λ (x : DeviceView). IsBounded x.rules c.args.request.now) (sym (shown_is c.self.view_is)) c.requires.bounded) c.in_ok-reserve_extent.ensures.reserved c.self.invariant))

pub returns-in_err-reserve_extent-clause-near : goal.returns-in_err-reserve_extent-clause-near
returns-in_err-reserve_extent-clause-near g c =
    near_shown (books_of c.self.inside.parts.queues) (books_of c.reserve_extent.new.self.queues) (g.A.Adapter.view c.self.inside.parts.adapter) (g.A.Adapter.view c.reserve_extent.new.self.adapter) _ c.args.request.now
    (shown_is c.self.view_is) c.requires.bounded c.reserve_extent.ensures.near

pub returns-in_err-spot-clause-near : goal.returns-in_err-spot-clause-near
returns-in_err-spot-clause-near g c =
    near_shown (books_of c.self.inside.parts.queues) (books_of c.add_place.new.self) (g.A.Adapter.view c.self.inside.parts.adapter) (g.A.Adapter.view c.reserve_extent.new.self.adapter) _ c.args.request.now
    (shown_is c.self.view_is) c.requires.bounded c.reserve_extent.ensures.near

pub returns-clause-near : goal.returns-clause-near
returns-clause-near g c =
    near_shown (books_of c.self.inside.parts.queues) (books_of c.add_place.new.self) (g.A.Adapter.view c.self.inside.parts.adapter) (g.A.Adapter.view c.reserve_extent.new.self.adapter) _ c.args.request.now
    (shown_is c.self.view_is) c.requires.bounded c.reserve_extent.ensures.near
