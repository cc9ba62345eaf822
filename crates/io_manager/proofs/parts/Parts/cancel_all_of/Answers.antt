-- Each that is cancelled is one fewer that can be.
use Rattle.std.proofs.Common.{◌≡◌, ◌≤◌, ◌<◌, ◌+◌, ◌∙◌, ℕ, true, sym, subst, arith, length}
use Rattle.io_manager.proofs.Common.{count_by, is_some, Handle, PacketBelow, Tables, partition_of, MarksAt}
use Rattle.io_manager.proofs.Marking.{is_unmarked, one_fewer, cancels_more}
use Rattle.io_manager.proofs.parts.Parts.cancel_all_of.Goals as goal

less : (a b : ℕ) → a + 1 ≡ b → a < b
less a b e = omega arith

still_open : (handle : Handle) (old new : Tables) (slot : ℕ) (place : PacketBelow) → MarksAt old slot place new → is_some (partition_of old.handles.slots handle) ≡ true → is_some (partition_of new.handles.slots handle) ≡ true
still_open handle old new slot place marks is = subst (λ (t : Tables). is_some (partition_of t.handles.slots handle) ≡ true) (sym marks.after) is

pub next-smaller : goal.next-smaller
next-smaller g c =
    less _ _ (one_fewer (g.D.Shown.view c.next.self.device).state c.cancel_slot.ensures.cancels.place.number (g.D.Shown.view c.cancel_slot.new.self.device).state c.cancel_slot.ensures.cancels.cancels)

pub next-preserved : goal.next-preserved
next-preserved g c =
    let fewer : count_by is_unmarked (g.D.Shown.view c.cancel_slot.new.self.device).state.requests + 1 ≡ count_by is_unmarked (g.D.Shown.view c.next.self.device).state.requests =
    one_fewer (g.D.Shown.view c.next.self.device).state c.cancel_slot.ensures.cancels.place.number (g.D.Shown.view c.cancel_slot.new.self.device).state c.cancel_slot.ensures.cancels.cancels in
    let more : length c.cancel_slot.new.self.tables.labels.items ≡ length c.next.self.tables.labels.items + 1 = c.cancel_slot.ensures.cancels.marks.one_more in
    let few : length c.next.self.tables.labels.items + count_by is_unmarked (g.D.Shown.view c.next.self.device).state.requests ≤ 64 = c.next.invariant.few in
    record {
      limits = c.cancel_slot.ensures.limits ∙ c.next.invariant.limits;
      sound = c.cancel_slot.ensures.sound;
      is_open = still_open c.args.handle _ _ _ _ c.cancel_slot.ensures.cancels.marks c.next.invariant.is_open;
      few = omega arith;
      cancels =
          cancels_more (g.D.Shown.view c.args.self.now.device) c.args.self.now.tables c.args.handle.number (g.D.Shown.view c.next.self.device) c.next.self.tables c.next.invariant.cancels c.in-Some.slot c.in-Some.ensures
          (g.D.Shown.view c.cancel_slot.new.self.device) c.cancel_slot.new.self.tables c.cancel_slot.ensures.cancels c.next.invariant.sound.held c.shows_order.ensures.order.none_owed;
    }
