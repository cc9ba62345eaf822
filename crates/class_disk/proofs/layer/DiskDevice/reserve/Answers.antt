-- A slot is made, the parts get their rooms below, and the slot is filled with them.
use Rattle.class_disk.proofs.Common.{refl, sym, ◌∙◌, ap, subst, DeviceView, IsBounded, Sizes, Table, TableView, books_of, held_as, CanCut, view_of, ReservesNone, near_same}
use Rattle.class_disk.proofs.Cutting.{can_cut}
use Rattle.class_disk.proofs.Making.{none_asked}
use Rattle.class_disk.proofs.NearParts.{near_above}
use Rattle.class_disk.proofs.Reserving.{ended_open, on_err}
use Rattle.class_disk.proofs.ReservingAbove.{refused_there, reserved_above}
use Rattle.class_disk.proofs.SlotFilling.{still_vacant, place_there}
use Rattle.class_disk.proofs.Standing.{apart_in}
use Rattle.class_disk.proofs.layer.DiskDevice.reserve.Goals as goal

pub make_slot-requires : goal.make_slot-requires
make_slot-requires g c = ended_open _ (books_of c.self.inside.extension.table) c.self.invariant.in_hand.kept

pub invariant_of-self : goal.invariant_of-self
invariant_of-self g c = record {
  takes = c.self.invariant.takes;
  in_hand = (refused_there (g.D.Shown.view c.self.inside.extension.device) (books_of c.self.inside.extension.table) (books_of c.make_slot.new.self) c.self.invariant.in_hand c.make_slot.ensures.same (g.D.Shown.view c.self.inside.extension.device) _ _ (books_of c.make_slot.new.self) refl (none_asked (g.D.Shown.view c.self.inside.extension.device) _)).0;
}

pub returns-in_err-slot-clause-refused : goal.returns-in_err-slot-clause-refused
returns-in_err-slot-clause-refused g c =
    let h : ReservesNone c.args.self.now (view_of (g.D.Shown.view c.self.inside.extension.device) (books_of c.make_slot.new.self)) =
    rw (← c.self.view_is) (refused_there (g.D.Shown.view c.self.inside.extension.device) (books_of c.self.inside.extension.table) (books_of c.make_slot.new.self) c.self.invariant.in_hand c.make_slot.ensures.same (g.D.Shown.view c.self.inside.extension.device) _ _ (books_of c.make_slot.new.self) refl (none_asked (g.D.Shown.view c.self.inside.extension.device) _)).1 in
    on_err _ h

pub reserve_parts-requires-clause-in_order : goal.reserve_parts-requires-clause-in_order
reserve_parts-requires-clause-in_order g c = (_, c.self.invariant.in_hand.rooms_out)

pub reserve_parts-requires-clause-cuts : goal.reserve_parts-requires-clause-cuts
reserve_parts-requires-clause-cuts g c =
    subst (λ (s : Sizes). CanCut s (g.D.Shown.view c.self.inside.extension.device).rules c.args.request.now) (sym (ap (λ (b : TableView). b.sizes) c.make_slot.ensures.same.after))
    (can_cut (g.D.Shown.view c.self.inside.extension.device) c.self.inside.extension.table.sizes c.args.request.now c.self.invariant.in_hand.port c.self.invariant.in_hand.rooms_out.orderly c.self.invariant.in_hand.kept.sizes
    (subst (λ (x : DeviceView). IsBounded x.rules c.args.request.now) (sym c.self.view_is) c.requires.bounded))

pub invariant_of-self-in_err-parts : goal.invariant_of-self-in_err-parts
invariant_of-self-in_err-parts g c = record {
  takes = c.self.invariant.takes;
  in_hand = (refused_there (g.D.Shown.view c.self.inside.extension.device) (books_of c.self.inside.extension.table) (books_of c.make_slot.new.self) c.self.invariant.in_hand c.make_slot.ensures.same _ _ _ (books_of c.reserve_parts.new.self.table)
      (ap (λ (t : Table). books_of t) c.reserve_parts.ensures.table) c.in_err-parts.ensures.refused).0;
}

pub returns-in_err-parts-clause-refused : goal.returns-in_err-parts-clause-refused
returns-in_err-parts-clause-refused g c =
    let h : ReservesNone c.args.self.now (view_of (g.D.Shown.view c.reserve_parts.new.self.device) (books_of c.reserve_parts.new.self.table)) =
    rw (← c.self.view_is) (refused_there (g.D.Shown.view c.self.inside.extension.device) (books_of c.self.inside.extension.table) (books_of c.make_slot.new.self) c.self.invariant.in_hand c.make_slot.ensures.same _ _ _ (books_of c.reserve_parts.new.self.table)
    (ap (λ (t : Table). books_of t) c.reserve_parts.ensures.table) c.in_err-parts.ensures.refused).1 in
    on_err _ h

pub fill-requires : goal.fill-requires
fill-requires g c = still_vacant c.make_slot.new.self c.reserve_parts.new.self.table c.in_ok-slot.slot c.reserve_parts.ensures.table c.in_ok-slot.ensures.slot

pub invariant_of-self-2 : goal.invariant_of-self-2
invariant_of-self-2 g c = record {
  takes = c.self.invariant.takes;
  in_hand = (reserved_above (g.D.Shown.view c.self.inside.extension.device) (books_of c.self.inside.extension.table) (books_of c.make_slot.new.self) c.self.invariant.in_hand c.make_slot.ensures.same _ _ _ (books_of c.reserve_parts.new.self.table)
      (ap (λ (t : Table). books_of t) c.reserve_parts.ensures.table) (held_as c.in_ok-slot.slot (record { request = c.args.request.now; parts = c.in_ok-parts.parts })) (subst (λ (x : DeviceView). IsBounded x.rules c.args.request.now) (sym c.self.view_is) c.requires.bounded)
      c.in_ok-parts.ensures.parts c.in_ok-parts.ensures.makes (books_of c.fill.new.self) c.fill.ensures
      (apart_in _ c.fill.new.self.slots.slots refl refl) (place_there c.make_slot.new.self c.in_ok-slot.ensures.place)).0;
}

pub returns-clause-reserved : goal.returns-clause-reserved
returns-clause-reserved g c =
    rw (← c.self.view_is) (reserved_above (g.D.Shown.view c.self.inside.extension.device) (books_of c.self.inside.extension.table) (books_of c.make_slot.new.self) c.self.invariant.in_hand c.make_slot.ensures.same _ _ _ (books_of c.reserve_parts.new.self.table)
    (ap (λ (t : Table). books_of t) c.reserve_parts.ensures.table) (held_as c.in_ok-slot.slot (record { request = c.args.request.now; parts = c.in_ok-parts.parts })) (subst (λ (x : DeviceView). IsBounded x.rules c.args.request.now) (sym c.self.view_is) c.requires.bounded)
    c.in_ok-parts.ensures.parts c.in_ok-parts.ensures.makes (books_of c.fill.new.self) c.fill.ensures
    (apart_in _ c.fill.new.self.slots.slots refl refl) (place_there c.make_slot.new.self c.in_ok-slot.ensures.place)).1

pub returns-clause-unless_write : goal.returns-clause-unless_write
returns-clause-unless_write g c = λ other. c.reserve_parts.ensures.unless_write other ∙ ap (λ (x : DeviceView). x.adapter) c.self.view_is

pub returns-in_err-slot-clause-near : goal.returns-in_err-slot-clause-near
returns-in_err-slot-clause-near g c =
    near_above (g.D.Shown.view c.self.inside.extension.device) (g.D.Shown.view c.self.inside.extension.device) (books_of c.self.inside.extension.table) (books_of c.make_slot.new.self) _ c.args.request.now c.self.view_is
    (near_same (g.D.Shown.view c.self.inside.extension.device) (g.D.Shown.view c.self.inside.extension.device) c.args.request.now refl)

pub returns-in_err-parts-clause-near : goal.returns-in_err-parts-clause-near
returns-in_err-parts-clause-near g c =
    near_above (g.D.Shown.view c.self.inside.extension.device) (g.D.Shown.view c.reserve_parts.new.self.device) (books_of c.self.inside.extension.table) (books_of c.reserve_parts.new.self.table) _ c.args.request.now c.self.view_is
    c.reserve_parts.ensures.near

pub returns-clause-near : goal.returns-clause-near
returns-clause-near g c =
    near_above (g.D.Shown.view c.self.inside.extension.device) (g.D.Shown.view c.reserve_parts.new.self.device) (books_of c.self.inside.extension.table) (books_of c.fill.new.self) _ c.args.request.now c.self.view_is
    c.reserve_parts.ensures.near
