-- The last part's room goes back, and those of the others are still out.
use Rattle.std.proofs.Common.{◌∙◌, Some, refl, ap}
use Rattle.class_disk.proofs.Common.{All-pop, DeviceView, whole_for, IsHere, ticket_for}
use Rattle.class_disk.proofs.Rooms.{out_less, out_first}
use Rattle.class_disk.proofs.PartRooms.{part_ticket, taken_off}
use Rattle.class_disk.proofs.Extension.free_parts.Goals as goal

pub loop-part-init : goal.loop-part-init
loop-part-init g c = record { rooms = λ others h. h; here = c.requires.here; table = refl; same = refl }

pub give_back-requires : goal.give_back-requires
give_back-requires g c =
    let out = c.requires.out in
    let first = taken_off _ c.loop-part.parts.items c.pop.new.self.items c.in-Some.part (ticket_for c.in-Some.part.request c.into_packet.result) c.in-Some.ensures.items
    (part_ticket c.in-Some.part c.into_packet.result c.into_packet.ensures) out.0 (c.loop-part.invariant.rooms out.0 out.1) in
    (whole_for c.in-Some.part.request, out_first _ _ _ first)

pub loop-part-preserved : goal.loop-part-preserved
loop-part-preserved g c = record {
  rooms = λ others h.
      out_less _ _ (ticket_for c.in-Some.part.request c.into_packet.result) (Some c.give_back.ensures.frees.reserved) _ c.give_back.ensures.order c.give_back.ensures.frees.room
      (taken_off _ c.loop-part.parts.items c.pop.new.self.items c.in-Some.part (ticket_for c.in-Some.part.request c.into_packet.result) c.in-Some.ensures.items
      (part_ticket c.in-Some.part c.into_packet.result c.into_packet.ensures) others (c.loop-part.invariant.rooms others h));
  here = (All-pop IsHere _ c.pop.new.self.items (Some c.in-Some.part) c.in-Some.ensures.items c.loop-part.invariant.here).0;
  table = c.give_back.ensures.table ∙ c.loop-part.invariant.table;
  same = c.give_back.ensures.frees.same ∙ ap (λ (x : DeviceView). record x { rooms = (g.D.Shown.view c.give_back.new.self.device).rooms }) c.loop-part.invariant.same;
}
