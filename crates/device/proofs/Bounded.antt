-- A request in bounds, in numbers: its whole sectors, that nothing refuses it, and the bytes that its packet carries.
use Rattle.std.proofs.Common.{◌≡◌, ◌<◌, ◌≤◌, ◌⊎◌, inl, inr, ℕ, ◌*◌, ◌/◌, ◌%◌, ◌==◌, ◌&&◌, Bool, true, false, nat_le, List, [], None, refl, ◌∙◌, arith, length}
use Rattle.std.proofs.lemmas.Bool.Decides.{nat_tests}
use Rattle.std.proofs.lemmas.List.{nil_from_length}
use Rattle.std.proofs.lemmas.Nat.{mul-le}
use Rattle.std.proofs.Math.Nat.{mul-div_cancel, mul-mod_left}
use Rattle.irp.specs.declared.Payload.{Payload}
use Rattle.irp.specs.declared.Payload.TheVariants.{Srb as Packed, Buffer, Sent as AtAdapter}
use Rattle.srb.specs.declared.Kind.{Kind}
use Rattle.srb.specs.declared.Kind.TheVariants.{Read, Write, Flush}
use Rattle.machine.specs.declared.Request.{Request}
use Rattle.machine.specs.Rules.{Rules, is_transfer, as_client, is_in_bounds}
use Rattle.machine.specs.State.{State}
use Rattle.machine.specs.Calling.{refusal, bytes_carried}
use Rattle.device.specs.View.{IsBounded, transfer_length, Carries, sent_bytes, payload_bytes}

pub by_kind : (k : Kind) → (is_transfer k ≡ true) ⊎ (is_transfer k ≡ false)
by_kind Read = inl refl
by_kind Write = inl refl
by_kind Flush = inr refl

-- whole sectors are as many as they were
pub sectors_are : (count size : ℕ) → 0 < size → (count * size) / size ≡ count
sectors_are count size some = mul-div_cancel count some

pub in_bounds : (rules : Rules) (r : Request) (bytes : List ℕ) → 0 < rules.sector_size → IsBounded rules r → is_in_bounds rules (as_client rules r bytes) ≡ true
in_bounds rules r bytes some b =
    let count = sectors_are r.extent.count rules.sector_size some in
    let first = sectors_are r.extent.first rules.sector_size some in
    let count_rest : (r.extent.count * rules.sector_size) % rules.sector_size ≡ 0 = mul-mod_left r.extent.count rules.sector_size in
    let first_rest : (r.extent.first * rules.sector_size) % rules.sector_size ≡ 0 = mul-mod_left r.extent.first rules.sector_size in
    rw (count_rest, first_rest, count, first) (two_true _ _ (le_true _ _ b.inside) (le_true _ _ b.short))
  where
    le_true : (m n : ℕ) → m ≤ n → nat_le m n ≡ true
    le_true m n h = grind (arith, nat_tests)

    two_true : (a b : Bool) → a ≡ true → b ≡ true → (a && b) ≡ true
    two_true true true h k = refl
    two_true true false h k = cc (k)
    two_true false b h k = cc (h)

-- some sectors of some bytes have bytes
pub has_length : (count size : ℕ) → 0 < count → 0 < size → (count * size == 0) ≡ false
has_length count size h k =
    let p : 1 * 1 ≤ count * size = mul-le 1 1 count size h k in
    not_zero (count * size) (omega arith)
  where
    not_zero : (n : ℕ) → 0 < n → (n == 0) ≡ false
    not_zero n h = grind (arith, nat_tests)

-- nothing refuses it, where open requests are not counted
pub not_refused : (rules : Rules) (r : Request) (bytes : List ℕ) (s : State) → 0 < rules.sector_size → rules.open_requests ≡ None → IsBounded rules r → s.removing ≡ false → refusal rules s (as_client rules r bytes) ≡ None
not_refused rules r bytes s some uncounted b stays =
    elim (by_kind r.kind) [
      | inl is ↦
          let bounds = in_bounds rules r bytes some b in
          let not_empty = has_length r.extent.count rules.sector_size (b.some is) some in
          rw (stays, is, bounds, not_empty, uncounted) refl
      | inr is ↦ rw (stays, is, uncounted) refl
    ]

-- the bytes of its packet are as many as it asks for
pub all_bytes : (packed : Bool) (rules : Rules) (r : Request) (payload : Payload) → Carries packed rules r payload → length (payload_bytes payload) ≡ transfer_length rules r
all_bytes true rules r (Packed srb) c = c.data_length
all_bytes true rules r (Buffer bytes) c = absurd c
all_bytes true rules r AtAdapter c = absurd c
all_bytes false rules r (Buffer bytes) c = c
all_bytes false rules r (Packed srb) c = absurd c
all_bytes false rules r AtAdapter c = absurd c

-- its packet has the bytes that a write brings
pub carries_bytes : (packed : Bool) (rules : Rules) (r : Request) (payload : Payload) → Carries packed rules r payload → length (sent_bytes r.kind payload) ≡ bytes_carried r.kind (r.extent.count * rules.sector_size)
carries_bytes packed rules r payload c = by r.kind (all_bytes packed rules r payload c)
  where
    by : (k : Kind) → length (payload_bytes payload) ≡ transfer_length rules (record r { kind = k }) → length (sent_bytes k payload) ≡ bytes_carried k (r.extent.count * rules.sector_size)
    by Read h = refl
    by Write h = h
    by Flush h = refl

-- the packet of a flush has none
pub carries_none : (packed : Bool) (rules : Rules) (r : Request) (payload : Payload) → Carries packed rules r payload → r.kind ≡ Flush → payload_bytes payload ≡ []
carries_none packed rules r payload c is =
    let none : transfer_length rules r ≡ 0 = rw is refl in
    nil_from_length (payload_bytes payload) (all_bytes packed rules r payload c ∙ none)
