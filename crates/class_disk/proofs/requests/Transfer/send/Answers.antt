use Rattle.class_disk.proofs.Common.{◌≡◌, ◌≤◌, ◌==◌, true, sym, ◌∙◌, ap, subst, length, AsksFor, AsksInLocation, payload_bytes, transfer_length, Place, FitsBlock, IsOwnPacket, opened_of, HasBuffers, CanTake, IsDataOf, sent_part}
use Rattle.std.specs.Prelude.{vec_capacity, slice_set}
use Rattle.irp.specs.declared.Payload.TheVariants.{Srb as Packed}
use Rattle.class_disk.specs.declared.parts.Part.{Part}
use Rattle.class_disk.proofs.SentData.{found_part, same_place, set_long, can_take, sends_with}
use Rattle.class_disk.proofs.requests.Transfer.send.Goals as goal

pub send-packet-requires : goal.send-packet-requires
send-packet-requires c =
    let q = found_part c.args.self.now.parts.items c.args.k c.index_mut.result.now c.requires.part c.index_mut.ensures.value c.requires.is_there in
    (c.requires.place, ap (λ (p : Part). p.progress) q ∙ c.requires.can.ready)

pub data_for-data-requires : goal.data_for-data-requires
data_for-data-requires c =
    let q = found_part c.args.self.now.parts.items c.args.k c.index.result.now c.requires.part c.index.ensures c.requires.is_there in
    let r = found_part c.args.self.now.parts.items c.args.k c.index_mut.result.now c.requires.part c.index_mut.ensures.value c.requires.is_there in
    let e : c.send-packet.result ≡ c.requires.place = same_place c.requires.part.progress c.send-packet.result c.requires.place (ap (λ (p : Part). p.progress) (sym r) ∙ c.send-packet.ensures.was) c.requires.can.ready in
    let o = record (opened_of c.args.self.now) { parts = slice_set c.args.self.now.parts.items c.args.k c.send-packet.new.self } in
    subst (λ (p : Part). CanTake c.args.sizes.now o p.request c.send-packet.result.«data».items (vec_capacity c.send-packet.result.«data»)) (sym q)
    (subst (λ (p : Place). CanTake c.args.sizes.now o c.requires.part.request p.«data».items (vec_capacity p.«data»)) (sym e)
    (can_take c.args.sizes.now (opened_of c.args.self.now) c.args.k c.requires c.send-packet.new.self))

pub srb_for-requires-clause-fits : goal.srb_for-requires-clause-fits
srb_for-requires-clause-fits c =
    let q = found_part c.args.self.now.parts.items c.args.k c.index.result.now c.requires.part c.index.ensures c.requires.is_there in
    subst (λ (p : Part). FitsBlock p.request) (sym q) c.requires.can.fits

pub srb_for-requires-clause-volume : goal.srb_for-requires-clause-volume
srb_for-requires-clause-volume c =
    let q = found_part c.args.self.now.parts.items c.args.k c.index.result.now c.requires.part c.index.ensures c.requires.is_there in
    subst (λ (p : Part). p.request.volume ≡ 0) (sym q) c.requires.can.volume

pub returns : goal.returns
returns c = λ part place is_there ready.
    let q = found_part c.args.self.now.parts.items c.args.k c.index.result.now part c.index.ensures is_there in
    let r = found_part c.args.self.now.parts.items c.args.k c.index_mut.result.now part c.index_mut.ensures.value is_there in
    let m = found_part c.args.self.now.parts.items c.args.k c.index.result.now c.requires.part c.index.ensures c.requires.is_there in
    let e : c.send-packet.result ≡ place = same_place part.progress c.send-packet.result place (ap (λ (p : Part). p.progress) (sym r) ∙ c.send-packet.ensures.was) ready in
    let e' : c.requires.place ≡ place = same_place part.progress c.requires.place place (ap (λ (p : Part). p.progress) (sym q ∙ m) ∙ c.requires.can.ready) ready in
    let only = length c.args.self.now.parts.items == 1 in
    let h : HasBuffers c.args.sizes.now.keeps_bytes only c.args.sizes.now.sector_size part.request place = subst (λ (p : Place). HasBuffers c.args.sizes.now.keeps_bytes only c.args.sizes.now.sector_size part.request p) e'
    (subst (λ (p : Part). HasBuffers c.args.sizes.now.keeps_bytes only c.args.sizes.now.sector_size p.request c.requires.place) (sym m ∙ q) c.requires.can.buffers) in
    let sent : slice_set c.args.self.now.parts.items c.args.k c.send-packet.new.self ≡ slice_set c.args.self.now.parts.items c.args.k (sent_part c.args.number place.packet.room.spot part) =
    ap (slice_set c.args.self.now.parts.items c.args.k) (c.send-packet.ensures.after ∙ ap (λ (x : Place). sent_part c.args.number x.packet.room.spot c.index_mut.result.now) e ∙ ap (sent_part c.args.number place.packet.room.spot) r) in
    let is_at = c.data_for-data.ensures.after ∙ ap (λ ps. record (opened_of c.args.self.now) { parts = ps; lent = length ps == 1 }) sent
    ∙ ap (λ n. record (opened_of c.args.self.now) { parts = slice_set c.args.self.now.parts.items c.args.k (sent_part c.args.number place.packet.room.spot part); lent = n == 1 })
    (set_long c.args.self.now.parts.items c.args.k (sent_part c.args.number place.packet.room.spot part)) in
    let d : IsDataOf c.args.sizes.now.sector_size (payload_bytes (opened_of c.args.self.now).irp.payload) c.args.self.now.request part.request c.data_for-data.result =
    subst (λ (p : Part). IsDataOf c.args.sizes.now.sector_size (payload_bytes (opened_of c.args.self.now).irp.payload) c.args.self.now.request p.request c.data_for-data.result) q
    c.data_for-data.ensures.data in
    sends_with c.args.sizes.now (opened_of c.args.self.now) (opened_of c.data_for-data.new.self) c.args.k c.args.number part place c.data_for-data.result c.srb_for.result _ d h c.srb_for.ensures.data
    (λ rules whole a b. subst (λ (p : Part). AsksFor rules p.request c.srb_for.result) q
    (c.srb_for.ensures.asks rules whole (a ∙ ap (λ (p : Part). transfer_length rules p.request) (sym q))
    (λ kept. subst (λ (p : Part). transfer_length rules p.request ≤ c.send-packet.result.for_label) (sym q) (subst (λ (p : Place). transfer_length rules part.request ≤ p.for_label) (sym e) (b kept)))))
    (subst (λ (p : Part). IsOwnPacket c.args.number p.request (Packed c.srb_for.result) c.ready_packet.new.irp) q c.ready_packet.ensures.own)
    (subst (λ (p : Part). AsksInLocation true p.request c.ready_packet.new.irp) q c.ready_packet.ensures.asks)
    (ap (λ (p : Place). p.packet.room) e)
    is_at
