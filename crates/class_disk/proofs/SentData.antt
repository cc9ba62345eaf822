-- The data that a part takes along.
use Rattle.std.specs.Prelude.{slice_get, slice_set, slice_range, vec_capacity, if◌then◌else◌}
use Rattle.std.proofs.Common.{◌≡◌, ◌≤◌, true, IsTrue, take, drop, ℕ, zero, suc, ◌+◌, ◌-◌, ◌*◌, ◌==◌, List, [], ◌∷◌, Some, refl, sym, ◌∙◌, ap, subst, arith, length, get_or}
use Rattle.class_disk.proofs.Common.{get_or_from_slice_get, Kind, Read, Write, Flush, Request, Rules, is_transfer, Srb, AsksFor, AsksInLocation, transfer_length, payload_bytes, Sizes, TransferPacket, Place, Progress, Ready, data_length, IsWholeDisk, IsOwnPacket, Opened, IsBufferOf, own_length, HasBuffers, CanTake, IsReadyAt, IsDataOf, SendsAs, bytes_from, sent_opened, sent_part}
use Rattle.std.proofs.lemmas.List.{length-drop, length-take-le, take_all}
use Rattle.irp.specs.declared.Payload.TheVariants.{Srb as Packed}
use Rattle.class_disk.specs.declared.parts.Part.{Part}

-- the part that was found at its place
pub found_part : (parts : List Part) (k : ℕ) (found part : Part) → found ≡ get_or parts k found
    → slice_get parts k ≡ Some part → found ≡ part
found_part parts k found part is there = is ∙ get_or_from_slice_get parts k part found there

pub same_place : (p : Progress) (one other : Place) → p ≡ Ready one → p ≡ Ready other → one ≡ other
same_place p one other a b = cc (a, b)

-- the buffer of a write is empty, and has room
pub write_buffer : (kind : Kind) (items : List ℕ) (capacity long : ℕ) → kind ≡ Write → IsBufferOf kind items capacity long
    → (items ≡ []) × (long ≤ capacity)
write_buffer kind items capacity long is b =
    let write : (items ≡ []) × (capacity ≡ long) = subst (λ k. IsBufferOf k items capacity long) is b in
    let exact = write.1 in
    (write.0, omega arith)

-- that of another request is as long as its data
pub other_buffer : (kind : Kind) (items : List ℕ) (capacity count size : ℕ) → (kind ≡ Write → ⊥)
    → IsBufferOf kind items capacity (if is_transfer kind then count * size else 0)
    → length items ≡ (if is_transfer kind then count * size else 0)
other_buffer Read items capacity count size not' b = b.0
other_buffer Write items capacity count size not' b = absurd (not' refl)
other_buffer Flush items capacity count size not' b = ap (λ (bytes : List ℕ). length bytes) b.0

-- by the rules that have these sizes
pub same_length : (rules : Rules) (size : ℕ) (r : Request) (long : ℕ) → long ≡ data_length size r → size ≡ rules.sector_size
    → long ≡ transfer_length rules r
same_length rules size r long is same = is ∙ ap (λ n. data_length n r) same

slice_range_long : (xs : List ℕ) (at long : ℕ) → at + long ≤ length xs → length (slice_range xs at (at + long)) ≡ long
slice_range_long xs at long inside =
    let e : at + long - at ≡ long = omega arith in
    let d = length-drop at xs in
    ap (λ n. length (take n (drop at xs))) e ∙ length-take-le long (drop at xs) (omega (arith, d, inside))

pub still_inside : (at long from size whole bytes : ℕ) → at ≡ from → long ≡ size → whole ≡ bytes → from + size ≤ whole → at + long ≤ bytes
still_inside at long from size whole bytes a b e inside = omega (arith, a, b, e, inside)

-- a copy of its own bytes
pub data_written : (size : ℕ) (whole : List ℕ) (r part : Request) (bytes : List ℕ) (at long : ℕ)
    → bytes ≡ slice_range whole at (at + long) → at ≡ bytes_from size r part → long ≡ data_length size part → at + long ≤ length whole
    → IsDataOf size whole r part bytes
data_written size whole r part bytes at long is from as_long inside = record {
  long = ap length is ∙ slice_range_long whole at long inside ∙ as_long;
  brings = λ _. is ∙ ap (λ n. slice_range whole n (n + long)) from ∙ ap (λ n. slice_range whole (bytes_from size r part) (bytes_from size r part + n)) as_long;
}

-- a buffer of a request that is no write
pub data_other : (size : ℕ) (whole : List ℕ) (r part : Request) (items : List ℕ) (capacity : ℕ) → (part.kind ≡ Write → ⊥)
    → IsBufferOf part.kind items capacity (data_length size part) → IsDataOf size whole r part items
data_other size whole r part items capacity not' b = record {
  long = other_buffer part.kind items capacity part.extent.count size not' b;
  brings = λ is. absurd (not' is);
}

-- all of the request's
pub data_whole : (size : ℕ) (whole : List ℕ) (r part : Request) → part ≡ r → length whole ≡ data_length size r → IsDataOf size whole r part whole
data_whole size whole r part is long = record {
  long = long ∙ ap (data_length size) (sym is);
  brings = λ _.
      let from : bytes_from size r part ≡ 0 =
      ap (λ (q : Request). (q.extent.first - r.extent.first) * size) is ∙ ap (λ n. n * size) (nothing r.extent.first) ∙ omega arith in
      let all : data_length size part ≡ length whole = ap (data_length size) is ∙ sym long in
      sym (ap (λ n. slice_range whole n (n + data_length size part)) from ∙ ap (λ n. slice_range whole 0 (0 + n)) all ∙ whole_range whole);
}
  where
    nothing : (n : ℕ) → n - n ≡ 0
    nothing n = omega arith

    whole_range : (xs : List ℕ) → slice_range xs 0 (0 + length xs) ≡ xs
    whole_range xs = take_all (0 + length xs - 0) xs (omega arith)

pub set_long : (parts : List Part) (k : ℕ) (x : Part) → length (slice_set parts k x) ≡ length parts
set_long [] k x = refl
set_long (part ∷ parts) zero x = refl
set_long (part ∷ parts) (suc k) x = ap suc (set_long parts k x)

-- the part, put down as sent, can take its data
pub can_take : (sizes : Sizes) (o : Opened) (k : ℕ) (h : IsReadyAt sizes o k) (sent : Part)
    → CanTake sizes (record o { parts = slice_set o.parts k sent }) h.part.request h.place.«data».items (vec_capacity h.place.«data»)
can_take sizes o k h sent = record {
  small = h.can.small;
  behind = h.can.behind;
  inside = h.can.inside;
  buffer = subst (λ n. IsBufferOf h.part.request.kind h.place.«data».items (vec_capacity h.place.«data») (own_length (n == 1) sizes.sector_size h.part.request))
      (sym (set_long o.parts k sent)) h.can.buffers.buffer;
  whole = λ one. h.can.whole (sym (set_long o.parts k sent) ∙ one);
  long = h.can.long;
  carries = h.carries;
  here = h.here;
}

-- a part that goes below with these data
pub sends_with : (sizes : Sizes) (o o' : Opened) (k number : ℕ) (part : Part) (place : Place) (bytes : List ℕ) (srb : Srb) (packet : TransferPacket)
    → IsDataOf sizes.sector_size (payload_bytes o.irp.payload) o.request part.request bytes → HasBuffers sizes.keeps_bytes (length o.parts == 1) sizes.sector_size part.request place
    → srb.«data» ≡ bytes
    → ((rules : Rules) → IsWholeDisk sizes.disk_sectors rules → length bytes ≡ transfer_length rules part.request → (IsTrue rules.keeps_bytes → transfer_length rules part.request ≤ place.for_label) → AsksFor rules part.request srb)
    → IsOwnPacket number part.request (Packed srb) packet.irp.value → AsksInLocation true part.request packet.irp.value → packet.room ≡ place.packet.room
    → o' ≡ sent_opened k (sent_part number place.packet.room.spot part) o
    → SendsAs sizes o k number part place packet o'
sends_with sizes o o' k number part place bytes srb packet d h same asks own asks_in room after = record {
  payload = Packed srb;
  own = own;
  asks = asks_in;
  carries = λ rules are.
      asks rules are.whole (same_length rules sizes.sector_size part.request (length bytes) d.long are.sector_size)
      (λ kept. let room_for : place.for_label ≡ transfer_length rules part.request = same_length rules sizes.sector_size part.request place.for_label (h.for_label (are.keeps_bytes ∙ kept)) are.sector_size in
      omega (arith, room_for));
  brings = subst (IsDataOf sizes.sector_size (payload_bytes o.irp.payload) o.request part.request) (sym same) d;
  room = room;
  after = after;
}
