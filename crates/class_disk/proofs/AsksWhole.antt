-- The SRB of a request of a whole disk asks for all of it.
use Rattle.class_disk.proofs.Common.{piece_of, mul-div_cancel, Extent, IsPlain, Means, Srb, ExecuteScsi, Kind, Read, Write, Flush, Request, Rules, home, as_client, is_transfer, place_count, command_for, read_command, write_command, flush_command, all_places, AsksFor, transfer_length, direction, IsWholeDisk, disk_command, part_request_of}
use Rattle.std.proofs.Common.{◌≤◌, ◌≡◌, ◌⊎◌, inl, inr, ℕ, ◌+◌, ◌*◌, ◌/◌, true, IsTrue, List, [], ◌∷◌, Option, Some, None, refl, sym, ◌∙◌, ap, subst, arith, length}
use Rattle.std.specs.Prelude.{slice_get, if◌then◌else◌}

abbrev at_home : Option Extent → ℕ → ℕ
at_home None i = i
at_home (Some extent) i = extent.first + i

home_is : (extents : List Extent) (disk : Extent) (volume i : ℕ) → extents ≡ disk ∷ [] → disk.first ≡ 0 → volume ≡ 0 → at_home (slice_get extents volume) i ≡ i
home_is extents disk volume i one first top =
    ap (λ es. at_home (slice_get es volume) i) one ∙ ap (λ v. at_home (slice_get (disk ∷ []) v) i) top ∙ (let e : disk.first + i ≡ i = omega arith in e)

home_at : (rules : Rules) (volume i : ℕ) → home rules (Some volume) i ≡ at_home (slice_get rules.partitions volume) i
home_at rules volume i = cases (slice_get rules.partitions volume)
  where
    cases : (o : Option Extent) → (elim o as (λ _. ℕ) [ Some extent ↦ extent.first + i | None ↦ i ]) ≡ at_home o i
    cases None = refl
    cases (Some extent) = refl

module _ (disk_sectors : ℕ) (rules : Rules) (r : Request) (whole : IsWholeDisk disk_sectors rules) (top : r.volume ≡ 0) where
  first_is : home rules (Some r.volume) (r.extent.first * rules.sector_size / rules.sector_size + 0) ≡ r.extent.first
  first_is =
      home_at rules r.volume _ ∙ home_is rules.partitions (record { first = 0; count = rules.disk_sectors }) r.volume _ whole.one_disk refl top
      ∙ (let e : r.extent.first * rules.sector_size / rules.sector_size ≡ r.extent.first = mul-div_cancel r.extent.first whole.some_bytes in omega arith)

  count_is : (kind : Kind) → r.kind ≡ kind → is_transfer kind ≡ true → place_count rules (as_client rules r []) ≡ r.extent.count
  count_is kind same moves =
      ap (λ k. if is_transfer k then r.extent.count * rules.sector_size / rules.sector_size else 1) same
      ∙ ap (λ b. if b then r.extent.count * rules.sector_size / rules.sector_size else 1) moves
      ∙ mul-div_cancel r.extent.count whole.some_bytes

  command_is : (kind : Kind) → r.kind ≡ kind → command_for rules (as_client rules r []) (all_places rules (as_client rules r [])) kind ≡ disk_command disk_sectors r kind
  command_is Read same = ap (λ lba. read_command lba (place_count rules (as_client rules r [])) r.through) first_is ∙ ap (λ count. read_command r.extent.first count r.through) (count_is Read same refl)
  command_is Write same = ap (λ lba. write_command lba (place_count rules (as_client rules r [])) r.through) first_is ∙ ap (λ count. write_command r.extent.first count r.through) (count_is Write same refl)
  command_is Flush same = ap flush_command whole.as_many

pub asks_for : (disk_sectors : ℕ) (rules : Rules) (r : Request) (srb : Srb) → IsWholeDisk disk_sectors rules → r.volume ≡ 0 → srb.function ≡ ExecuteScsi → srb.flags.0 ≡ direction r.kind
    → Means srb.block (disk_command disk_sectors r r.kind) → IsPlain srb.block (disk_command disk_sectors r r.kind) → srb.sense ≡ None → length srb.data ≡ transfer_length rules r → (IsTrue rules.keeps_bytes → transfer_length rules r ≤ srb.for_label) → AsksFor rules r srb
asks_for disk_sectors rules r srb whole top function flags means plain sense data_length label_length = record {
  function = function;
  flags = flags;
  asks = subst (Means srb.block) (sym (command_is disk_sectors rules r whole top r.kind refl)) means;
  plain = subst (IsPlain srb.block) (sym (command_is disk_sectors rules r whole top r.kind refl)) plain;
  data_length = data_length;
  sense = sense;
  label_length = label_length;
}

-- a part of a read or a write
pub part_is : (limit : ℕ) (r : Request) (k : ℕ) → (r.kind ≡ Read) ⊎ (r.kind ≡ Write) → record r { extent = piece_of r.extent limit k } ≡ part_request_of limit r k
part_is limit r k (inl e) = rw e refl
part_is limit r k (inr e) = rw e refl
