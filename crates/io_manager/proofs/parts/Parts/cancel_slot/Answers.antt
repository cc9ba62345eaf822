-- The packet is where the entry says, so the device cancels it.
use Rattle.io_manager.proofs.Common.{sym, subst, Cancels, IsBeside, CancelsAt, PacketBelow}
use Rattle.io_manager.proofs.Marking.{cancelled_below, marked_sound}
use Rattle.io_manager.proofs.parts.Parts.cancel_slot.Goals as goal

cancelled : (g : _) (c : goal.After-cancel_at g)
    → Cancels (g.D.Shown.view c.args.self.now.device).state c.mark_at-place.ensures.request.number (g.D.Shown.view c.cancel_at.new.self).state × IsBeside (g.D.Shown.view c.args.self.now.device) (g.D.Shown.view c.cancel_at.new.self)
cancelled g c =
    cancelled_below c.args.self.now.limits (g.D.Shown.view c.args.self.now.device) (g.D.Shown.view c.cancel_at.new.self) c.args.self.now.tables c.requires.sound
    c.shows_order.ensures.order c.args.slot c.mark_at-place.ensures.request c.mark_at-place.ensures.there c.mark_at-place.ensures.not_yet
    (subst (λ (p : PacketBelow). CancelsAt (g.D.Shown.view c.args.self.now.device) p.spot p.number (g.D.Shown.view c.cancel_at.new.self)) c.mark_at-place.ensures.is_place c.cancel_at.ensures.cancels)

pub returns-clause-sound : goal.returns-clause-sound
returns-clause-sound g c =
    marked_sound c.args.self.now.limits (g.D.Shown.view c.args.self.now.device) (g.D.Shown.view c.cancel_at.new.self) c.args.self.now.tables c.mark_at-place.new.self c.args.slot c.mark_at-place.result c.requires.sound
    c.shows_order.ensures.order.distinct c.mark_at-place.ensures (cancelled g c).0 (cancelled g c).1

pub returns-clause-cancels : goal.returns-clause-cancels
returns-clause-cancels g c = record {
  place = c.mark_at-place.result;
  marks = c.mark_at-place.ensures;
  cancels =
      subst (λ (p : PacketBelow). Cancels (g.D.Shown.view c.args.self.now.device).state p.number (g.D.Shown.view c.cancel_at.new.self).state) (sym c.mark_at-place.ensures.is_place) (cancelled g c).0;
  beside = (cancelled g c).1;
}
