-- The packet is of an open request, whose slot and places are there.
use Rattle.std.proofs.Common.{◌<◌, ◌≤◌, ◌^◌, ◌∙◌, refl, sym, ap, subst, arith, length}
use Rattle.io_manager.specs.inside.Completion.{done_of}
use Rattle.io_manager.proofs.Common.{DeviceView, HandsUp, AreFilled, TakesEnded, IsSoundWith}
use Rattle.io_manager.proofs.Vacant.{handed_reserved, given_back}
use Rattle.io_manager.proofs.Closing.{no_routine, handed, is_at, is_given, are_filled, answered_place}
use Rattle.io_manager.proofs.Gathering.{takes_ended, sound_after, few_after}
use Rattle.io_manager.proofs.parts.Parts.take_ended.Goals as goal

pub unreachable-requires : goal.unreachable-requires
unreachable-requires g c =
    no_routine g.D.Shown.takes_srb _ _ _ c.in_default-climb.field-0 c.in_default-climb.field-1 c.requires.sound.topmost
    (subst (λ climb. HandsUp g.D.Shown.takes_srb (g.D.Shown.view c.args.self.now.device) climb c.in-Some.room.spot (g.D.Shown.view c.take_done.new.self)) c.in_default-climb.is c.in-Some.ensures.hands_up)

pub free-requires : goal.free-requires
free-requires g c = record { reserved = handed_reserved _ _ _ _ _ c.in-Some.ensures.hands_up }

pub close-requires-clause-number : goal.close-requires-clause-number
close-requires-clause-number g c =
    let low : c.done_of.result.number < c.args.self.now.tables.next_request =
    is_given _ _ _ _ c.in-Finished.irp c.done_of.result (c.done_of.ensures ∙ ap done_of c.deref_mut.ensures.value) _ (handed _ _ _ _ c.in-Finished.irp _ c.in-Finished.is c.in-Some.ensures.hands_up) c.requires.sound.held c.shows_order.ensures.order.distinct _ c.requires.sound.numbers.rising in
    let limit : c.args.self.now.tables.next_request ≤ 2 ^ 62 = c.requires.sound.numbers.requests in
    omega arith

pub close-requires-clause-held : goal.close-requires-clause-held
close-requires-clause-held g c =
    is_at _ _ _ _ c.in-Finished.irp c.done_of.result (c.done_of.ensures ∙ ap done_of c.deref_mut.ensures.value) _ (handed _ _ _ _ c.in-Finished.irp _ c.in-Finished.is c.in-Some.ensures.hands_up) c.requires.sound.held

pub close-requires-clause-filled : goal.close-requires-clause-filled
close-requires-clause-filled g c =
    subst (λ w. AreFilled w c.args.self.now.tables.requests c.done_of.result) (sym c.requires.sound.places.answer_bytes)
    (are_filled _ _ _ _ c.in-Finished.irp c.done_of.result (c.done_of.ensures ∙ ap done_of c.deref_mut.ensures.value) _ (handed _ _ _ _ c.in-Finished.irp _ c.in-Finished.is c.in-Some.ensures.hands_up) c.requires.sound.held)

pub close-requires-clause-answered_place : goal.close-requires-clause-answered_place
close-requires-clause-answered_place g c =
    let low : length c.args.self.now.tables.answered.items < 64 =
    answered_place _ _ _ _ c.in-Finished.irp c.done_of.result (c.done_of.ensures ∙ ap done_of c.deref_mut.ensures.value) _ (handed _ _ _ _ c.in-Finished.irp _ c.in-Finished.is c.in-Some.ensures.hands_up) c.requires.sound.held _ 64 c.requires.few in
    let places : 64 ≤ c.args.self.now.tables.answered.places = c.requires.sound.places.answered in
    omega arith

pub close-requires-clause-untaken_place : goal.close-requires-clause-untaken_place
close-requires-clause-untaken_place g c =
    answered_place _ _ _ _ c.in-Finished.irp c.done_of.result (c.done_of.ensures ∙ ap done_of c.deref_mut.ensures.value) _ (handed _ _ _ _ c.in-Finished.irp _ c.in-Finished.is c.in-Some.ensures.hands_up) c.requires.sound.held _ _ c.requires.sound.places.untaken

pub returns-clause-sound : goal.returns-clause-sound
returns-clause-sound g c =
    subst (λ (v : DeviceView). IsSoundWith c.close.new.self.answered.items c.args.self.now.limits v c.close.new.self) (sym c.free.ensures.frees.same)
    (sound_after _ _ _ _ c.in-Finished.irp c.done_of.result (c.done_of.ensures ∙ ap done_of c.deref_mut.ensures.value) _ _ (handed _ _ _ _ c.in-Finished.irp _ c.in-Finished.is c.in-Some.ensures.hands_up) c.requires.sound.held c.close.ensures _ _ refl c.shows_order.ensures.order.distinct c.requires.sound _)

pub returns-clause-few : goal.returns-clause-few
returns-clause-few g c =
    few_after _ _ _ _ c.in-Finished.irp c.done_of.result (c.done_of.ensures ∙ ap done_of c.deref_mut.ensures.value) _ _ (handed _ _ _ _ c.in-Finished.irp _ c.in-Finished.is c.in-Some.ensures.hands_up) c.requires.sound.held c.close.ensures 64 c.requires.few

pub returns-clause-takes : goal.returns-clause-takes
returns-clause-takes g c =
    subst (λ (v : DeviceView). TakesEnded (g.D.Shown.view c.args.self.now.device) c.args.self.now.tables v c.close.new.self) (sym c.free.ensures.frees.same)
    (takes_ended _ _ _ _ c.in-Finished.irp c.done_of.result (c.done_of.ensures ∙ ap done_of c.deref_mut.ensures.value) _ _ (handed _ _ _ _ c.in-Finished.irp _ c.in-Finished.is c.in-Some.ensures.hands_up) c.requires.sound.held c.close.ensures
    c.shows_order.ensures.order c.shows_order-2.ensures.order _ (given_back _ _ _ _ _ _ c.in-Some.ensures.hands_up c.free.ensures.frees))
