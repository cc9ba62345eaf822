-- An SRB that may be armed, by what was reserved.
use Rattle.sector_journal.proofs.Common.{◌≡◌, ◌≢◌, ◌<◌, ◌≤◌, ◌^◌, ℕ, ◌+◌, ◌-◌, ◌∷◌, ◌++◌, Bool, true, nat_le, List, [], length, All, Option, Some, None, slice_set, refl, sym, ap, subst, ◌∙◌, arith, inl, inr, leb-true, length-append, list_any, Any, and_parts, Any-from_list_any, Extent, IsIn, Cdb, Write10, Write16, Means, AsksToWrite, Srb, Kind, Read, Write, Flush, MediumView, IsReserved, Armed, Reservation, AskTheSame, IsCopy, named, Names, covers, is_write, lies_in, armed_count, IsFree, SizeClassView, pieces_at, JournalView, IsHeld, MayArm, Arms, CanEnter}

-- whatever the block asks for, it names this
abbrev pub AlwaysNames : List ℕ → Kind × Extent → Type 0
AlwaysNames block what = (command : Cdb) → Means block command → Some what ≡ named command

abbrev named_as : Kind → Extent → Option (Kind × Extent)
named_as kind extent = Some (kind, extent)

abbrev kind_in : Option (Kind × Extent) → Kind
kind_in (Some what) = what.0
kind_in None = Read

abbrev extent_in : Option (Kind × Extent) → Extent
extent_in (Some what) = what.1
extent_in None = record { first = 0; count = 0 }

-- the same, in two parts
record IsWriteOf (kind : Kind) (extent : Extent) (lba count : ℕ) : Type 0 where
  kind_is : kind ≡ Write
  extent_is : extent ≡ record { first = lba; count = count }

write_of : (kind : Kind) (extent : Extent) (lba count : ℕ) → named_as kind extent ≡ named_as Write (record { first = lba; count = count }) → IsWriteOf kind extent lba count
write_of kind extent lba count h = record { kind_is = ap kind_in h; extent_is = ap extent_in h }

asked : (block : List ℕ) (kind : Kind) (extent : Extent) (lba count : ℕ) (fua : Bool) → AlwaysNames block (kind, extent) → AsksToWrite block lba count fua → IsWriteOf kind extent lba count
asked block kind extent lba count fua names (inl means) = write_of kind extent lba count (names (Write10 lba count fua) means)
asked block kind extent lba count fua names (inr means) = write_of kind extent lba count (names (Write16 lba count fua) means)

is_a_write : (kind : Kind) → is_write kind ≡ true → kind ≡ Write
is_a_write Read h = absurd (cc (h))
is_a_write Write h = refl
is_a_write Flush h = absurd (cc (h))

inside : (extent other : Extent) (sector : ℕ) → lies_in extent other ≡ true → IsIn sector extent → IsIn sector other
inside extent other sector h (low, high) =
    let parts = and_parts (nat_le other.first extent.first) _ h in
    let parts2 = and_parts (nat_le extent.count other.count) _ parts.1 in
    let first : other.first ≤ extent.first = leb-true _ _ parts.0 in
    let count : extent.count ≤ other.count = leb-true _ _ parts2.0 in
    let behind : extent.first - other.first ≤ other.count - extent.count = leb-true _ _ parts2.1 in
    (omega (arith, first, low), omega (arith, first, count, behind, low, high))

-- a write that an open request covers is reserved
covered_write : (medium : MediumView) (extent : Extent) (reservation : Reservation) → covers Write extent reservation ≡ true → IsHeld medium reservation → IsReserved medium extent
covered_write medium extent reservation h held =
    let parts = and_parts (is_write reservation.kind) _ h in
    let reserved : IsReserved medium reservation.extent = held.reserved (is_a_write reservation.kind parts.0) in
    λ sector is. reserved sector (inside extent reservation.extent sector parts.1 is)

reserved_by : (medium : MediumView) (extent : Extent) (reservations : List Reservation) → list_any (covers Write extent) reservations ≡ true → All (IsHeld medium) reservations → IsReserved medium extent
reserved_by medium extent reservations any held =
    let found : Any (λ r. covers Write extent r ≡ true) reservations = Any-from_list_any (covers Write extent) reservations any in
    covered_write medium extent found.1 found.4 (subst (λ (r : Reservation). IsHeld medium r) found.3 (held found.0 found.1 found.2))

-- a copy in room that was reserved can be entered
pub can_enter : (medium : MediumView) (kind : Kind) (extent : Extent) (reservations : List Reservation) (srb : Srb) (armed : Armed) → AlwaysNames srb.block (kind, extent) → list_any (covers kind extent) reservations ≡ true
    → All (IsHeld medium) reservations → IsCopy kind srb armed.srb → CanEnter medium armed
can_enter medium kind extent reservations srb armed names any held copy =
    let names' : AlwaysNames armed.srb.block (kind, extent) = subst (λ (b : List ℕ). AlwaysNames b (kind, extent)) (sym copy.same_block) names in
    record {
      ready = λ lba count fua asks within.
          let of = asked armed.srb.block kind extent lba count fua names' asks in
          subst (λ (e : Extent). IsReserved medium e) of.extent_is
          (reserved_by medium extent reservations (subst (λ (k : Kind). list_any (covers k extent) reservations ≡ true) of.kind_is any) held);
      names = λ command means. ((kind, extent), sym (names' command means));
    }

ask_the_same : (kind : Kind) (extent : Extent) (srb copy : Srb) → AlwaysNames srb.block (kind, extent) → IsCopy kind srb copy → AskTheSame copy srb
ask_the_same kind extent srb copy names is = record {
  same_block = is.same_block;
  as_long = is.as_long;
  same_bytes = λ lba count fua asks. is.same_bytes (asked srb.block kind extent lba count fua names (subst (λ (b : List ℕ). AsksToWrite b lba count fua) is.same_block asks)).kind_is;
}

module _ (old shown : JournalView) (tag piece : ℕ) (kind : Kind) (extent : Extent) (srb : Srb) (shown_is : shown ≡ old) where
  pub may_arm : Names srb.block (kind, extent) → IsFree shown.slots tag → list_any (covers kind extent) shown.reservations ≡ true → (room' : List SizeClassView) → pieces_at room' (length srb.data) + 1 ≡ pieces_at shown.room (length srb.data)
      → length shown.entered + armed_count shown.slots < shown.places → length shown.armings < 2 ^ 64 - 1 → MayArm old tag srb
  may_arm names free covered room' less place number = subst (λ (j : JournalView). MayArm j tag srb) shown_is (record {
    what = (kind, extent);
    names = names;
    free = free;
    covered = covered;
    room = omega (arith, less);
    place = place;
    number = number;
  })

  pub arms : (armed : Armed) (slots' : List (Option Armed)) (armings' : List Armed) (room' : List SizeClassView) → AlwaysNames srb.block (kind, extent) → IsCopy kind srb armed.srb → armed.tag ≡ tag → armed.piece ≡ piece
      → armed.number ≡ length shown.armings → pieces_at room' (length srb.data) + 1 ≡ pieces_at shown.room (length srb.data)
      → ((long : ℕ) → long ≢ length srb.data → pieces_at room' long ≡ pieces_at shown.room long) → slots' ≡ slice_set shown.slots tag (Some armed) → armings' ≡ shown.armings ++ armed ∷ []
      → Arms old tag piece srb (record shown { slots = slots'; armings = armings'; room = room' })
  arms armed slots' armings' room' names copy is_tag is_piece is_number less others after longer =
      subst (λ (j : JournalView). Arms j tag piece srb (record shown { slots = slots'; armings = armings'; room = room' })) shown_is (record {
        armed = armed;
        is_tag = is_tag;
        is_piece = is_piece;
        is_number = is_number;
        same = ask_the_same kind extent srb armed.srb names copy;
        same_function = copy.same_function;
        same_flags = copy.same_flags;
        less_room = less;
        same_room = others;
        after = rw (after, longer) refl;
      })

pub one_longer : {A : Type 0} (xs ys : List A) (x : A) (n : ℕ) → n ≡ length xs → ys ≡ xs ++ x ∷ [] → n + 1 ≡ length ys
one_longer xs ys x n is longer = let l : length ys ≡ length xs + 1 = ap length longer ∙ length-append xs (x ∷ []) in omega (arith, is, l)
