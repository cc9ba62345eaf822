-- Sectors read and written on a medium are those that the command moves.
use Rattle.std.proofs.Common.{◌≡◌, ◌≤◌, ℕ, ◌+◌, ◌-◌, ◌*◌, ◌^◌, Bool, true, false, List, [], ◌∷◌, ◌++◌, length, take, drop, replicate, slice_range, Some, None, Ok, All, refl, sym, ap, subst, ◌∙◌, ◌⊎◌, inl, inr, arith, length-drop, length-append}
use Rattle.std.specs.Prelude.{Any, min}
use Rattle.std.specs.List.{concat, list_any}
use Rattle.std.specs.Simd.{first_chunks}
use Rattle.std.proofs.lemmas.List.{take_at, drop_at, length-take-le, length-replicate, nil_from_length, append-nil}
use Rattle.std.proofs.lemmas.List.Elements.{All-head, All-tail, All-take, All-drop}
use Rattle.std.proofs.lemmas.List.Folds.{Any-from_list_any, list_any-from_Any}
use Rattle.std.proofs.lemmas.Bool.{lt-ltb, ltb-true, le-leb, leb-true, and_parts}
use Rattle.std.specs.Cmp.Derive.{both_true}
use Rattle.byteorder.specs.Endian.{big_bytes}
use Rattle.byteorder.specs.Numbers.{length-bytes_high_first}
use Rattle.sector.specs.Extents.{IsSector}
use Rattle.sector.specs.Splice.{splice}
use Rattle.cdb.specs.declared.Cdb.{Cdb}
use Rattle.cdb.specs.declared.Cdb.TheVariants.{Read10, Write10, Sync10, ReadCapacity10, Read16, Write16, Sync16, ReadCapacity16}
use Rattle.cdb.specs.Meaning.{Means}
use Rattle.srb.specs.declared.Srb.{Srb}
use Rattle.srb.specs.declared.Completion.{Completion}
use Rattle.adapter.specs.Performing.{Performs, HandsOver, Replaces, capacity_data, long_capacity_data}
use Rattle.disk.specs.Medium.{MediumView, HasWholeSectors, HasBad, failed}
use Rattle.miniport.specs.declared.carrying.Outcome.{Outcome}
use Rattle.miniport.specs.declared.carrying.Outcome.TheVariants.{Moved, Failed}
use Rattle.miniport.specs.Faults.{Disk, fault_of_medium, is_read, is_write, lba_of, blocks_of, bytes_of, is_one_of, error}
use Rattle.miniport.specs.Checking.{Passes, IsRefused}
use Rattle.miniport.specs.Carrying.{disk_of, sizes_of, with_data, Reads, Writes, CarriesOut, FailsBy, Ends}
use Rattle.miniport.specs.Moving.{moved_by}

-- whole sectors joined and cut again
pub first_chunks-concat : (size : ℕ) (sectors : List (List ℕ)) → All (IsSector size) sectors → first_chunks size (length sectors) (concat sectors) ≡ sectors
first_chunks-concat size [] all = refl
first_chunks-concat size (x ∷ xs) all =
    let long : length x ≡ size = All-head (IsSector size) x xs all in
    let first : take size (x ++ concat xs) ≡ x = take_at x (concat xs) size long in
    let rest : drop size (x ++ concat xs) ≡ concat xs = drop_at x (concat xs) size long in
    let others : first_chunks size (length xs) (concat xs) ≡ xs = first_chunks-concat size xs (All-tail (IsSector size) x xs all) in
    let k : first_chunks size (length xs) (drop size (x ++ concat xs)) ≡ xs = ap (λ (l : List ℕ). first_chunks size (length xs) l) rest ∙ others in
    cc

cut_again : (size count : ℕ) (bytes : List ℕ) (sectors : List (List ℕ)) → bytes ≡ concat sectors → length sectors ≡ count
    → first_chunks size (length sectors) (concat sectors) ≡ sectors → first_chunks size count bytes ≡ sectors
cut_again size count bytes sectors e long cut = rw (e, ← long) cut

-- the sectors of an extent
pub length-extent : (sectors : List (List ℕ)) (first count : ℕ) → first + count ≤ length sectors → length (slice_range sectors first (first + count)) ≡ count
length-extent sectors first count within = length-take-le (first + count - first) (drop first sectors) (omega (arith, length-drop first sectors)) ∙ omega arith

pub All-extent : (size : ℕ) (sectors : List (List ℕ)) (first count : ℕ) → All (IsSector size) sectors → All (IsSector size) (slice_range sectors first (first + count))
All-extent size sectors first count all = All-take (IsSector size) (first + count - first) (drop first sectors) (All-drop (IsSector size) first sectors all)

-- a transfer is a read or a write, and no read writes
read_or_write : (command : Cdb) → is_read command ≡ true → is_write command ≡ false
read_or_write (Read10 lba count fua) e = refl
read_or_write (Read16 lba count fua) e = refl
read_or_write (Sync10 lba blocks) e = refl
read_or_write (Sync16 lba blocks) e = refl
read_or_write ReadCapacity10 e = refl
read_or_write (ReadCapacity16 allocation) e = refl
read_or_write (Write10 lba count fua) e = absurd cc
read_or_write (Write16 lba count fua) e = absurd cc

write_or_read : (command : Cdb) → is_write command ≡ true → is_read command ≡ false
write_or_read (Read10 lba count fua) e = absurd cc
write_or_read (Read16 lba count fua) e = absurd cc
write_or_read (Sync10 lba blocks) e = refl
write_or_read (Sync16 lba blocks) e = refl
write_or_read ReadCapacity10 e = refl
write_or_read (ReadCapacity16 allocation) e = refl
write_or_read (Write10 lba count fua) e = refl
write_or_read (Write16 lba count fua) e = refl

performs_read : (size : ℕ) (sectors : List (List ℕ)) (bytes : List ℕ) (command : Cdb) (moved after : List (List ℕ)) → is_read command ≡ true
    → HandsOver sectors (lba_of command) (blocks_of command) moved after → Performs size sectors bytes command moved after
performs_read size sectors bytes (Read10 lba count fua) moved after e h = h
performs_read size sectors bytes (Read16 lba count fua) moved after e h = h
performs_read size sectors bytes (Write10 lba count fua) moved after e h = absurd cc
performs_read size sectors bytes (Write16 lba count fua) moved after e h = absurd cc
performs_read size sectors bytes (Sync10 lba blocks) moved after e h = absurd cc
performs_read size sectors bytes (Sync16 lba blocks) moved after e h = absurd cc
performs_read size sectors bytes ReadCapacity10 moved after e h = absurd cc
performs_read size sectors bytes (ReadCapacity16 allocation) moved after e h = absurd cc

performs_write : (size : ℕ) (sectors : List (List ℕ)) (bytes : List ℕ) (command : Cdb) (moved after : List (List ℕ)) → is_write command ≡ true
    → Replaces size sectors bytes (lba_of command) (blocks_of command) moved after → Performs size sectors bytes command moved after
performs_write size sectors bytes (Write10 lba count fua) moved after e h = h
performs_write size sectors bytes (Write16 lba count fua) moved after e h = h
performs_write size sectors bytes (Read10 lba count fua) moved after e h = absurd cc
performs_write size sectors bytes (Read16 lba count fua) moved after e h = absurd cc
performs_write size sectors bytes (Sync10 lba blocks) moved after e h = absurd cc
performs_write size sectors bytes (Sync16 lba blocks) moved after e h = absurd cc
performs_write size sectors bytes ReadCapacity10 moved after e h = absurd cc
performs_write size sectors bytes (ReadCapacity16 allocation) moved after e h = absurd cc

-- how many bytes go with a read
read_bytes : (size : ℕ) (command : Cdb) → is_read command ≡ true → bytes_of size command ≡ blocks_of command * size
read_bytes size (Read10 lba count fua) e = refl
read_bytes size (Read16 lba count fua) e = refl
read_bytes size (Write10 lba count fua) e = absurd cc
read_bytes size (Write16 lba count fua) e = absurd cc
read_bytes size (Sync10 lba blocks) e = absurd cc
read_bytes size (Sync16 lba blocks) e = absurd cc
read_bytes size ReadCapacity10 e = absurd cc
read_bytes size (ReadCapacity16 allocation) e = absurd cc

pub length-concat : (size : ℕ) (sectors : List (List ℕ)) → All (IsSector size) sectors → length (concat sectors) ≡ length sectors * size
length-concat size [] all = let z : 0 ≡ 0 * size = omega arith in z
length-concat size (x ∷ xs) all =
    let one : length x ≡ size = All-head (IsSector size) x xs all in
    let rest : length (concat xs) ≡ length xs * size = length-concat size xs (All-tail (IsSector size) x xs all) in
    length-append x (concat xs) ∙ omega (arith, one, rest)

length-capacity_data : (size : ℕ) (sectors : List (List ℕ)) → length (capacity_data size sectors) ≡ 8
length-capacity_data size sectors = length-append (big_bytes 4 (min (length sectors - 1) (2 ^ 32 - 1))) (big_bytes 4 size)
    ∙ omega (arith, length-bytes_high_first 4 (min (length sectors - 1) (2 ^ 32 - 1)), length-bytes_high_first 4 size)

length-long_capacity_data : (allocation size : ℕ) (sectors : List (List ℕ)) → length (long_capacity_data allocation size sectors) ≡ allocation
length-long_capacity_data allocation size sectors =
    length-take-le allocation (big_bytes 8 (length sectors - 1) ++ big_bytes 4 size ++ replicate allocation 0) (omega (
      arith,
      length-append (big_bytes 8 (length sectors - 1)) (big_bytes 4 size ++ replicate allocation 0),
      length-append (big_bytes 4 size) (replicate allocation 0),
      length-replicate {A = ℕ} allocation 0,
    ))

-- the sectors that were moved, by the operation code
pub moved_transfer : (size : ℕ) (block bytes : List ℕ) (command : Cdb) (sectors : List (List ℕ)) → first_chunks size (blocks_of command) bytes ≡ sectors
    → Means block command → (is_read command ≡ true) ⊎ (is_write command ≡ true) → sectors ≡ moved_by size block bytes
moved_transfer size block bytes (Read10 lba count fua) sectors e h t = rw (h.0.operation, h.1.blocks) (sym e)
moved_transfer size block bytes (Write10 lba count fua) sectors e h t = rw (h.0.operation, h.1.blocks) (sym e)
moved_transfer size block bytes (Read16 lba count fua) sectors e h t = rw (h.0.operation, h.1.blocks) (sym e)
moved_transfer size block bytes (Write16 lba count fua) sectors e h t = rw (h.0.operation, h.1.blocks) (sym e)
moved_transfer size block bytes (Sync10 lba blocks) sectors e h t = absurd (elim t [ inl k ↦ cc | inr k ↦ cc ])
moved_transfer size block bytes (Sync16 lba blocks) sectors e h t = absurd (elim t [ inl k ↦ cc | inr k ↦ cc ])
moved_transfer size block bytes ReadCapacity10 sectors e h t = absurd (elim t [ inl k ↦ cc | inr k ↦ cc ])
moved_transfer size block bytes (ReadCapacity16 allocation) sectors e h t = absurd (elim t [ inl k ↦ cc | inr k ↦ cc ])

-- whether a sector of the extent is bad
bad_named : (medium : MediumView) (first count : ℕ) → HasBad medium (record { first = first; count = count }) → list_any (is_one_of first count) medium.bad ≡ true
bad_named medium first count bad = list_any-from_Any (is_one_of first count) medium.bad
    (bad.1.0, bad.0, bad.1.1, bad.1.2, both_true (le-leb _ _ bad.2.0) (lt-ltb _ _ bad.2.1))

-- none is, where the medium didn't refuse
none_named : (medium : MediumView) (first count : ℕ) → (¬ HasBad medium (record { first = first; count = count })) → (b : Bool)
    → list_any (is_one_of first count) medium.bad ≡ b → b ≡ false
none_named medium first count none false e = refl
none_named medium first count none true e =
    let found : Any (λ (s : ℕ). is_one_of first count s ≡ true) medium.bad = Any-from_list_any (is_one_of first count) medium.bad e in
    let both = and_parts _ _ found.4 in
    absurd (none (found.1, (found.0, found.2, found.3), (leb-true _ _ both.0, ltb-true _ _ both.1)))

no_fault_of_read : (disk : Disk) (command : Cdb) → is_read command ≡ true → list_any (is_one_of (lba_of command) (blocks_of command)) disk.bad ≡ false
    → fault_of_medium disk command ≡ None
no_fault_of_read disk command r e = rw (e, r, read_or_write command r) refl

fault_of_read : (disk : Disk) (command : Cdb) → is_read command ≡ true → list_any (is_one_of (lba_of command) (blocks_of command)) disk.bad ≡ true
    → fault_of_medium disk command ≡ Some (error 3 0x11 0)
fault_of_read disk command r e = rw (e, r) refl

no_fault_of_write : (disk : Disk) (command : Cdb) → is_write command ≡ true → list_any (is_one_of (lba_of command) (blocks_of command)) disk.bad ≡ false
    → fault_of_medium disk command ≡ None
no_fault_of_write disk command w e = rw (e, w, write_or_read command w) refl

fault_of_write : (disk : Disk) (command : Cdb) → is_write command ≡ true → list_any (is_one_of (lba_of command) (blocks_of command)) disk.bad ≡ true
    → fault_of_medium disk command ≡ Some (error 3 0x0C 0)
fault_of_write disk command w e = rw (e, w, write_or_read command w) refl

-- a command that the medium fails
fails_by : (medium : MediumView) (p : Bool) (srb : Srb) (command : Cdb) (completion : Completion) → Passes (sizes_of medium p) srb command
    → fault_of_medium (disk_of medium p) command ≡ Some completion → FailsBy medium p srb srb completion (failed medium)
fails_by medium p srb command completion passes fault = record {
  decoded = Ok command;
  failures = medium.failures + 1;
  decodes = passes.means;
  fault = passes.fault medium.bad ∙ fault;
  same = refl;
  counted = omega arith;
  after = refl;
}

pub read_ends : (medium : MediumView) (p : Bool) (srb : Srb) (command : Cdb) (outcome : Outcome) (medium' : MediumView) → is_read command ≡ true → HasWholeSectors medium
    → Passes (sizes_of medium p) srb command → Reads medium (record { first = lba_of command; count = blocks_of command }) srb outcome medium'
    → Ends medium p srb outcome medium'
read_ends medium p srb command (Moved srb') medium' reads whole passes (good, back, after) =
    let sectors = slice_range medium.sectors (lba_of command) (lba_of command + blocks_of command) in
    let bytes : List ℕ = concat sectors in
    let long : length sectors ≡ blocks_of command = length-extent medium.sectors (lba_of command) (blocks_of command) passes.fits.within in
    let cut : first_chunks medium.sector_size (length sectors) (concat sectors) ≡ sectors =
    first_chunks-concat medium.sector_size sectors (All-extent medium.sector_size medium.sectors (lba_of command) (blocks_of command) whole) in
    let again : first_chunks medium.sector_size (blocks_of command) bytes ≡ sectors = cut_again medium.sector_size (blocks_of command) bytes sectors refl long cut in
    let sized : length bytes ≡ length sectors * medium.sector_size =
    length-concat medium.sector_size sectors (All-extent medium.sector_size medium.sectors (lba_of command) (blocks_of command) whole) in
    record {
      command = command;
      bytes = bytes;
      moved = sectors;
      sectors = medium.sectors;
      means = passes.means;
      no_fault = passes.fault medium.bad ∙ no_fault_of_read (disk_of medium p) command reads (none_named medium (lba_of command) (blocks_of command) good _ refl);
      performs = performs_read medium.sector_size medium.sectors srb.data command _ _ reads (passes.fits.within, refl, refl);
      bytes_are = refl;
      moved_is = moved_transfer medium.sector_size srb.block bytes command sectors again passes.means (inl reads);
      as_many = sized ∙ ap (λ (n : ℕ). n * medium.sector_size) long ∙ sym (read_bytes medium.sector_size command reads) ∙ sym passes.fits.as_long;
      comes_back = back;
      after = after;
    }
read_ends medium p srb command (Failed srb' completion) medium' reads whole passes (bad, e, same, after) =
    let known : FailsBy medium p srb srb (error 3 0x11 0) (failed medium) =
    fails_by medium p srb command _ passes (fault_of_read (disk_of medium p) command reads (bad_named medium (lba_of command) (blocks_of command) bad)) in
    rw (e, same, after) known

pub write_ends : (medium : MediumView) (p : Bool) (srb : Srb) (command : Cdb) (outcome : Outcome) (medium' : MediumView) → is_write command ≡ true
    → Passes (sizes_of medium p) srb command → Writes medium (record { first = lba_of command; count = blocks_of command }) srb outcome medium'
    → Ends medium p srb outcome medium'
write_ends medium p srb command (Moved srb') medium' writes_it passes (good, writes, back) =
    let bytes : List ℕ = srb.data in
    let cut : first_chunks medium.sector_size (length writes.moved) (concat writes.moved) ≡ writes.moved =
    first_chunks-concat medium.sector_size writes.moved writes.whole in
    let again : first_chunks medium.sector_size (blocks_of command) bytes ≡ writes.moved =
    cut_again medium.sector_size (blocks_of command) bytes writes.moved (sym writes.bytes_are) writes.covers cut in
    record {
      command = command;
      bytes = bytes;
      moved = writes.moved;
      sectors = splice medium.sectors (lba_of command) writes.moved;
      means = passes.means;
      no_fault = passes.fault medium.bad ∙ no_fault_of_write (disk_of medium p) command writes_it (none_named medium (lba_of command) (blocks_of command) good _ refl);
      performs = performs_write medium.sector_size medium.sectors srb.data command _ _ writes_it (passes.fits.within, writes.bytes_are, writes.covers, writes.whole, refl);
      bytes_are = sym writes.bytes_are;
      moved_is = moved_transfer medium.sector_size srb.block bytes command writes.moved again passes.means (inr writes_it);
      as_many = refl;
      comes_back = back;
      after = writes.after;
    }
write_ends medium p srb command (Failed srb' completion) medium' writes_it passes (bad, e, same, after) =
    let known : FailsBy medium p srb srb (error 3 0x0C 0) (failed medium) =
    fails_by medium p srb command _ passes (fault_of_write (disk_of medium p) command writes_it (bad_named medium (lba_of command) (blocks_of command) bad)) in
    rw (e, same, after) known

pub sync_ends : (medium : MediumView) (p : Bool) (srb : Srb) (lba blocks : ℕ) → Passes (sizes_of medium p) srb (Sync10 lba blocks)
    → CarriesOut medium p srb srb medium
sync_ends medium p srb lba blocks passes =
    let none : srb.data ≡ [] = nil_from_length srb.data passes.fits.as_long in
    record {
      command = Sync10 lba blocks;
      bytes = srb.data;
      moved = [] ∷ [];
      sectors = medium.sectors;
      means = passes.means;
      no_fault = passes.fault medium.bad;
      performs = (refl, refl);
      bytes_are = none;
      moved_is = rw passes.means.0.operation refl;
      as_many = refl;
      comes_back = refl;
      after = refl;
    }

pub long_sync_ends : (medium : MediumView) (p : Bool) (srb : Srb) (lba blocks : ℕ) → Passes (sizes_of medium p) srb (Sync16 lba blocks)
    → CarriesOut medium p srb srb medium
long_sync_ends medium p srb lba blocks passes =
    let none : srb.data ≡ [] = nil_from_length srb.data passes.fits.as_long in
    record {
      command = Sync16 lba blocks;
      bytes = srb.data;
      moved = [] ∷ [];
      sectors = medium.sectors;
      means = passes.means;
      no_fault = passes.fault medium.bad;
      performs = (refl, refl);
      bytes_are = none;
      moved_is = rw passes.means.0.operation refl;
      as_many = refl;
      comes_back = refl;
      after = refl;
    }

pub capacity_ends : (medium : MediumView) (p : Bool) (srb : Srb) (bytes : List ℕ) → bytes ≡ capacity_data medium.sector_size medium.sectors
    → Passes (sizes_of medium p) srb ReadCapacity10 → CarriesOut medium p srb (with_data bytes srb) medium
capacity_ends medium p srb bytes told passes = record {
  command = ReadCapacity10;
  bytes = bytes;
  moved = bytes ∷ [];
  sectors = medium.sectors;
  means = passes.means;
  no_fault = passes.fault medium.bad;
  performs = (ap (λ (l : List ℕ). l ∷ []) told, refl);
  bytes_are = sym (append-nil bytes);
  moved_is = rw passes.means.operation refl;
  as_many = ap length told ∙ length-capacity_data medium.sector_size medium.sectors ∙ sym passes.fits.as_long;
  comes_back = refl;
  after = refl;
}

pub long_capacity_ends : (medium : MediumView) (p : Bool) (srb : Srb) (allocation : ℕ) (bytes : List ℕ)
    → bytes ≡ long_capacity_data (length srb.data) medium.sector_size medium.sectors
    → Passes (sizes_of medium p) srb (ReadCapacity16 allocation) → CarriesOut medium p srb (with_data bytes srb) medium
long_capacity_ends medium p srb allocation bytes told passes =
    let fits : length srb.data ≡ allocation = passes.fits.as_long in
    let cut : bytes ≡ long_capacity_data allocation medium.sector_size medium.sectors =
    subst (λ n. bytes ≡ long_capacity_data n medium.sector_size medium.sectors) fits told in
    record {
      command = ReadCapacity16 allocation;
      bytes = bytes;
      moved = bytes ∷ [];
      sectors = medium.sectors;
      means = passes.means;
      no_fault = passes.fault medium.bad;
      performs = (ap (λ (l : List ℕ). l ∷ []) cut, refl);
      bytes_are = sym (append-nil bytes);
      moved_is = rw passes.means.0.operation refl;
      as_many = ap length told ∙ length-long_capacity_data (length srb.data) medium.sector_size medium.sectors;
      comes_back = refl;
      after = refl;
    }

-- the data that come back have room for the label's bytes, where the SRB's had
pub room_left : (medium : MediumView) (p : Bool) (srb srb' : Srb) (medium' : MediumView) → CarriesOut medium p srb srb' medium' → length srb.data ≤ srb.for_label
    → length srb'.data ≤ srb'.for_label
room_left medium p srb srb' medium' carries room = subst (λ (s : Srb). length s.data ≤ s.for_label) (sym carries.comes_back)
    (subst (λ (n : ℕ). n ≤ srb.for_label) (sym carries.as_many) room)

pub refused_ends : (medium : MediumView) (p : Bool) (srb : Srb) (completion : Completion) → IsRefused (sizes_of medium p) srb completion
    → FailsBy medium p srb srb completion medium
refused_ends medium p srb completion refused = record {
  decoded = refused.decoded;
  failures = medium.failures;
  decodes = refused.decodes;
  fault = refused.fault medium.bad;
  same = refl;
  counted = omega arith;
  after = refl;
}
