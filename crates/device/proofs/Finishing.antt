-- Where a climb ends that no location asks for.
use Rattle.std.proofs.Common.{◌≡◌, ◌-◌, List, [], ◌∷◌, length, get_or, Some, None, refl, ap, arith}
use Rattle.std.specs.Prelude.{slice_get}
use Rattle.std.proofs.lemmas.Option.{slice_get-get_or}
use Rattle.irp.specs.declared.Irp.{Irp}
use Rattle.irp.proofs.Climbing.{IsClimbing, all_passed}
use Rattle.device.specs.Climbing.{FinishesPacket}

-- a list without a last element
none_left : {X : Type 0} (xs : List X) → slice_get xs (length xs - 1) ≡ None → xs ≡ []
none_left [] e = refl
none_left (x ∷ xs) e =
    let some : slice_get (x ∷ xs) (length (x ∷ xs) - 1) ≡ Some (get_or (x ∷ xs) (length (x ∷ xs) - 1) x) = slice_get-get_or (x ∷ xs) (length (x ∷ xs) - 1) x (omega arith) in
    cc

-- no location is left, and the packet is finished
pub ends : (start irp : Irp) → IsClimbing start irp → slice_get irp.locations.items (length irp.locations.items - 1) ≡ None
    → FinishesPacket start.locations.items start.number start.cancelled start.io_status.status start.io_status.information start.payload irp
ends start irp climbing none = record {
  passed_over = all_passed start irp climbing none;
  locations = none_left irp.locations.items none;
  number_is = climbing.kept.number;
  cancelled_is = climbing.kept.cancelled;
  status_is = ap (λ s. s.status) climbing.kept.io_status;
  information_is = ap (λ s. s.information) climbing.kept.io_status;
  payload_is = climbing.kept.payload;
}
