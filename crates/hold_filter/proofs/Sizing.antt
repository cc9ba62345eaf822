-- A request that the device below takes, in numbers: it has a place, and the machine doesn't refuse it.
use Rattle.hold_filter.proofs.Common.{◌≡◌, ◌<◌, ◌*◌, ◌==◌, inl, inr, ℕ, Bool, true, false, List, [], Option, None, refl, arith, Payload, Request, Rules, as_client, is_in_bounds, State, with_window, refusal, IsBounded, Carries, by_kind, sectors_are, in_bounds, has_length, IsAdmitted}
use Rattle.irp.specs.declared.Payload.TheVariants.{Srb as Packed, Buffer, Sent as AtAdapter}

-- a request in bounds is admitted
pub admitted : (rules : Rules) (r : Request) → 0 < rules.sector_size → IsBounded rules r
    → IsAdmitted rules (as_client rules r [])
admitted rules r some b = record {
  known = refl;
  inside = λ is. in_bounds rules r [] some b;
  some = λ is. has_length r.extent.count rules.sector_size (b.some is) some;
  places = elim (by_kind r.kind) [
    | inl is ↦ let n = b.some is in rw (is, sectors_are r.extent.count rules.sector_size some) n
    | inr is ↦ rw is (omega arith)
  ];
}

-- nothing refuses it, where open requests are not counted
pub not_refused : (rules : Rules) (r : Request) → IsAdmitted rules (as_client rules r [])
    → (bytes : List ℕ) (s : State)
    → rules.open_requests ≡ None → s.removing ≡ false → refusal rules s (as_client rules r bytes) ≡ None
not_refused rules r a bytes s uncounted stays = elim (by_kind r.kind) [
  | inl is ↦
      let bounds : is_in_bounds rules (as_client rules r bytes) ≡ true = a.inside is in
      let not_empty : (r.extent.count * rules.sector_size == 0) ≡ false = a.some is in
      rw (stays, is, bounds, not_empty, uncounted) refl
  | inr is ↦ rw (stays, is, uncounted) refl
]

-- the window says nothing of what a packet carries
pub carries_window : (rules : Rules) (window : Option ℕ) (r : Request) (payload : Payload)
    → Carries false rules r payload → Carries false (with_window window rules) r payload
carries_window rules window r (Buffer bytes) h = h
carries_window rules window r (Packed srb) h = absurd h
carries_window rules window r AtAdapter h = absurd h

pub carries_below : (rules : Rules) (window : Option ℕ) (r : Request) (payload : Payload)
    → Carries false (with_window window rules) r payload → Carries false rules r payload
carries_below rules window r (Buffer bytes) h = h
carries_below rules window r (Packed srb) h = absurd h
carries_below rules window r AtAdapter h = absurd h
