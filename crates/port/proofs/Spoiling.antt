-- What a piece's SRB still says of its request, once it failed or its act was booked.
use Rattle.std.proofs.Common.{◌≡◌, inl, inr, ℕ, ◌+◌, Bool, true, false, List, [], refl, subst, ap, ◌∙◌, length}
use Rattle.std.specs.Prelude.{if◌then◌else◌}
use Rattle.std.proofs.lemmas.List.{nil_from_length}
use Rattle.cdb.specs.declared.Cdb.TheVariants.{Write10, Write16}
use Rattle.cdb.specs.Meaning.{Means, AsksToWrite}
use Rattle.srb.specs.declared.Srb.{Srb}
use Rattle.srb.specs.declared.Kind.{Kind}
use Rattle.srb.specs.declared.Kind.TheVariants.{Read, Write, Flush}
use Rattle.irp.specs.declared.Payload.TheVariants.{Srb as Packed}
use Rattle.adapter.specs.View.{IsSpoiled}
use Rattle.machine.specs.declared.ClientRequest.{ClientRequest}
use Rattle.machine.specs.declared.Request.{Request}
use Rattle.machine.specs.Rules.{Rules, as_client, first_sector, home, place_count}
use Rattle.machine.specs.Sending.{command_for, fits_ten, write_command}
use Rattle.machine.specs.Solo.{all_places}
use Rattle.device.specs.View.{sent_bytes, whole_command}

-- a write's block asks to write
asks_to_write : (rules : Rules) (request : Request) (block : List ℕ) → request.kind ≡ Write → Means block (whole_command rules request) → (lba : ℕ) × (count : ℕ) × (fua : Bool) × AsksToWrite block lba count fua
asks_to_write rules request block write means =
    let q : ClientRequest = as_client rules request [] in
    let lba : ℕ = home rules q.partition (first_sector rules q + 0) in
    let count : ℕ = place_count rules q in
    let is : whole_command rules request ≡ write_command lba count q.through = ap (λ kind. command_for rules q (all_places rules q) kind) write in
    (lba, count, q.through, by (fits_ten lba count) (subst (Means block) is means))
  where
    by : {lba count : ℕ} {fua : Bool} (short : Bool) → Means block (if short then Write10 lba count fua else Write16 lba count fua) → AsksToWrite block lba count fua
    by true h = inl h
    by false h = inr h

-- what a request brought along is as it was
pub spoiled_same : (rules : Rules) (request : Request) (kind : Kind) (srb left : Srb) → request.kind ≡ kind → Means srb.block (whole_command rules request) → IsSpoiled srb left
    → sent_bytes kind (Packed left) ≡ sent_bytes kind (Packed srb)
spoiled_same rules request Read srb left is means h = refl
spoiled_same rules request Flush srb left is means h = refl
spoiled_same rules request Write srb left is means h =
    let asks = asks_to_write rules request srb.block is means in
    h.of_write asks.0 asks.1 asks.2 asks.3

-- and no bytes are none
pub none_as_many : (before after : List ℕ) → length after ≡ length before → before ≡ [] → after ≡ []
none_as_many before after long none = nil_from_length after (long ∙ ap length none)
