-- What the device below asks of a packet that goes there.
use Rattle.hold_filter.proofs.Common.{◌<◌, ◌≤◌, ◌+◌, ℕ, Bool, false, [], ◌∷◌, sym, subst, ap, ◌∙◌, arith, length, length-append, IsFalse, Irp, Payload, DeviceView, AsksInLocation, Carries, request_at, PassesDown, MaySend}
use Rattle.hold_filter.proofs.Locations.{passed_asks}

module _ (stack_size : ℕ) (v : DeviceView) (irp : Irp) (spot : ℕ) (m : MaySend stack_size v irp spot) where
  pub some_location : 0 < length irp.locations.items
  some_location =
      let n = ap length m.own_location.is_own in
      let l = length-append m.own_location.higher (m.own_location.own ∷ []) in
      omega arith

  pub few_locations : length irp.locations.items < 4
  few_locations = let a = m.locations in let c = m.some_location in omega arith

  module _ (sent : Irp) (p : PassesDown irp sent) where
    pub number_below : v.state.next_request ≤ sent.number
    number_below = let e = p.kept.number in let n = m.number in omega arith

    pub locations_below : length sent.locations.items + stack_size ≤ 5
    locations_below = let e = p.length' in let n = m.locations in omega arith

    pub timely_below : IsFalse sent.cancelled
    timely_below = p.kept.cancelled ∙ m.not_cancelled

    module _ (takes_srb : Bool) (buffers : IsFalse takes_srb) where
      pub own_below : AsksInLocation takes_srb (request_at v.rooms spot) sent
      own_below = subst (λ t. AsksInLocation t (request_at v.rooms spot) sent) (sym buffers)
          (passed_asks (request_at v.rooms spot) irp sent m.own_location p)

      pub carries_below : Carries takes_srb v.rules (request_at v.rooms spot) sent.payload
      carries_below =
          subst (λ t. Carries t v.rules (request_at v.rooms spot) sent.payload) (sym buffers)
          (subst (λ (payload : Payload). Carries false v.rules (request_at v.rooms spot) payload)
          (sym p.kept.payload) m.carries)
