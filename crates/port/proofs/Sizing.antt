-- A request of the port in numbers: its places, and its command.
use Rattle.std.proofs.Common.{◌≡◌, ◌<◌, ◌≤◌, inl, inr, ℕ, ◌+◌, ◌*◌, ◌/◌, ◌^◌, true, false, List, [], refl, ◌∙◌, arith}
use Rattle.std.proofs.lemmas.List.{nil_from_length}
use Rattle.std.proofs.lemmas.Nat.{mul-le}
use Rattle.srb.specs.declared.Kind.{Kind}
use Rattle.srb.specs.declared.Kind.TheVariants.{Read, Write, Flush}
use Rattle.machine.specs.declared.Request.{Request}
use Rattle.machine.specs.Rules.{Rules, is_transfer, as_client, place_count}
use Rattle.machine.specs.Sending.{command_for, read_command, write_command}
use Rattle.srb.specs.declared.Srb.{Srb}
use Rattle.device.specs.View.{AsksFor, IsBounded, whole_command, transfer_length}
use Rattle.device.proofs.Bounded.{by_kind, sectors_are}
use Rattle.port.specs.declared.queues.Sizes.{Sizes}
use Rattle.port.specs.Shown.{rules_of, places_of}
use Rattle.port.specs.inside.Invariant.{IsEmptyIfFlush}

pub volume_zero : (sizes : Sizes) (r : Request) → IsBounded (rules_of sizes) r → r.volume ≡ 0
volume_zero sizes r b = let k = b.known in omega arith

pub places_transfer : (sizes : Sizes) (r : Request) → 0 < sizes.sector_size → is_transfer r.kind ≡ true → places_of (rules_of sizes) r ≡ r.extent.count
places_transfer sizes r some is = rw is (sectors_are r.extent.count sizes.sector_size some)

pub places_flush : (sizes : Sizes) (r : Request) → is_transfer r.kind ≡ false → places_of (rules_of sizes) r ≡ 1
places_flush sizes r is = rw is refl

pub places_some : (sizes : Sizes) (r : Request) → 0 < sizes.sector_size → IsBounded (rules_of sizes) r → 0 < places_of (rules_of sizes) r
places_some sizes r some b =
    elim (by_kind r.kind) [
      | inl is ↦ let e = places_transfer sizes r some is in let n = b.some is in omega arith
      | inr is ↦ let e = places_flush sizes r is in omega arith
    ]

pub places_short : (sizes : Sizes) (r : Request) → 0 < sizes.sector_size → 1 ≤ sizes.max_transfer → IsBounded (rules_of sizes) r → places_of (rules_of sizes) r ≤ sizes.max_transfer
places_short sizes r some one b =
    elim (by_kind r.kind) [
      | inl is ↦ let e = places_transfer sizes r some is in let n = b.short in omega arith
      | inr is ↦ let e = places_flush sizes r is in omega arith
    ]

-- the machine's command for all places is the one that the SRB asks for
pub same_command : (rules : Rules) (r : Request) (bytes : List ℕ) (kind : Kind) → kind ≡ r.kind
    → command_for rules (as_client rules r bytes) (record { first = 0; count = place_count rules (as_client rules r []) }) kind ≡ command_for rules (as_client rules r []) (record { first = 0; count = place_count rules (as_client rules r []) }) kind
same_command rules r bytes Read e = refl
same_command rules r bytes Write e = refl
same_command rules r bytes Flush e = refl

pub whole_write : (sizes : Sizes) (r : Request) → 0 < sizes.sector_size → IsBounded (rules_of sizes) r → r.kind ≡ Write → whole_command (rules_of sizes) r ≡ write_command r.extent.first r.extent.count r.through
whole_write sizes r some b is =
    let v = volume_zero sizes r b in
    let count : (r.extent.count * sizes.sector_size) / sizes.sector_size ≡ r.extent.count = sectors_are _ _ some in
    let first : (r.extent.first * sizes.sector_size) / sizes.sector_size ≡ r.extent.first = sectors_are _ _ some in
    let z : 0 + (r.extent.first + 0) ≡ r.extent.first = omega arith in
    rw (is, v, count, first, z) refl

pub whole_read : (sizes : Sizes) (r : Request) → 0 < sizes.sector_size → IsBounded (rules_of sizes) r → r.kind ≡ Read → whole_command (rules_of sizes) r ≡ read_command r.extent.first r.extent.count r.through
whole_read sizes r some b is =
    let v = volume_zero sizes r b in
    let count : (r.extent.count * sizes.sector_size) / sizes.sector_size ≡ r.extent.count = sectors_are _ _ some in
    let first : (r.extent.first * sizes.sector_size) / sizes.sector_size ≡ r.extent.first = sectors_are _ _ some in
    let z : 0 + (r.extent.first + 0) ≡ r.extent.first = omega arith in
    rw (is, v, count, first, z) refl

pub bytes_short : (sizes : Sizes) (r : Request) → sizes.max_transfer ≤ 2 ^ 16 → sizes.sector_size ≤ 4096 → IsBounded (rules_of sizes) r → r.extent.count * sizes.sector_size < 2 ^ 64
bytes_short sizes r few small b =
    let s = b.short in
    let m : r.extent.count * sizes.sector_size ≤ 2 ^ 16 * 4096 = mul-le r.extent.count sizes.sector_size (2 ^ 16) 4096 (omega arith) small in
    omega arith

-- the SRB of a flush has no data
pub asks_empty : (rules : Rules) (r : Request) (srb : Srb) → AsksFor rules r srb → IsEmptyIfFlush r srb.data
asks_empty rules r srb asks is =
    let none : transfer_length rules r ≡ 0 = rw is refl in
    nil_from_length srb.data (asks.data_length ∙ none)
