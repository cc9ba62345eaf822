-- The steps of a climb.
use Rattle.std.proofs.Common.{◌≡◌, ◌-◌, ◌<◌, suc, Bool, true, false, List, [], ◌∷◌, ◌++◌, length, take, get_or, Option, Some, None, refl, sym, ◌∙◌, ap, subst, append_assoc, arith}
use Rattle.std.specs.Prelude.{All, slice_get}
use Rattle.std.proofs.lemmas.List.{append-nil}
use Rattle.std.proofs.lemmas.List.Elements.{All-nil, All-cons}
use Rattle.std.proofs.lemmas.Option.{slice_get_within, slice_get-get_or, get_or_from_slice_get}
use Rattle.std.proofs.Math.Seq.{take-suc, take-length}
use Rattle.irp.specs.declared.StackLocation.{StackLocation}
use Rattle.irp.specs.declared.Irp.{Irp}
use Rattle.irp.specs.Climb.{asks, AsksNot, succeeds, CallsRoutine}
use Rattle.irp.specs.Packet.{KeepsAllButLocations}

-- a climb that began below these locations has come past some of them, and is below the rest
pub record HasPassed (success cancelled : Bool) (from here : List StackLocation) : Type 0 where
  pub nearer : List StackLocation
  pub from_is : from ≡ here ++ nearer
  pub passed_over : All (AsksNot success cancelled) nearer

pub passed_none : (success cancelled : Bool) (from : List StackLocation) → HasPassed success cancelled from from
passed_none success cancelled from = record { nearer = []; from_is = sym (append-nil from); passed_over = All-nil (AsksNot success cancelled) }

-- a list that has a last element is what stands before it, and that element
pub last_is : {X : Type 0} (xs : List X) (x : X) → slice_get xs (length xs - 1) ≡ Some x → xs ≡ take (length xs - 1) xs ++ x ∷ []
last_is xs x e =
    let within : length xs - 1 < length xs = slice_get_within xs (length xs - 1) x e in
    let whole : take (suc (length xs - 1)) xs ≡ take (length xs - 1) xs ++ get_or xs (length xs - 1) x ∷ [] = take-suc xs (length xs - 1) x within in
    let same : suc (length xs - 1) ≡ length xs = omega arith in
    sym (take-length xs) ∙ ap (λ n. take n xs) (sym same) ∙ whole ∙ ap (λ y. take (length xs - 1) xs ++ y ∷ []) (get_or_from_slice_get xs (length xs - 1) x x e)

-- a list's last element, read through a slice that is the same list
pub last_of : (now items : List StackLocation) (copied read found : Option StackLocation) → now ≡ items → read ≡ slice_get now (length now - 1) → copied ≡ read → copied ≡ found → slice_get items (length items - 1) ≡ found
last_of now items copied read found same value copy is = sym (ap (λ (xs : List StackLocation). slice_get xs (length xs - 1)) same) ∙ sym value ∙ sym copy ∙ is

-- one more location is passed over
pub passed_one : (success cancelled : Bool) (from here rest : List StackLocation) (own : StackLocation) → HasPassed success cancelled from here → here ≡ rest ++ own ∷ [] → asks success cancelled own ≡ false → HasPassed success cancelled from rest
passed_one success cancelled from here rest own p e n = record {
  nearer = own ∷ p.nearer;
  from_is = p.from_is ∙ ap (λ xs. xs ++ p.nearer) e ∙ append_assoc rest (own ∷ []) p.nearer;
  passed_over = All-cons (AsksNot success cancelled) own p.nearer n p.passed_over;
}

-- a packet on its climb, from where it began
pub record IsClimbing (start irp : Irp) : Type 0 where
  pub passed : HasPassed (succeeds start.io_status.status) start.cancelled start.locations.items irp.locations.items
  pub kept : KeepsAllButLocations start irp

pub begins : (irp : Irp) → IsClimbing irp irp
begins irp = record {
  passed = passed_none _ _ irp.locations.items;
  kept = record { number = refl; payload = refl; cancelled = refl; io_status = refl; cancel_routine = refl };
}

-- its last location asks
pub calls : (start irp : Irp) (own : StackLocation) → IsClimbing start irp → slice_get irp.locations.items (length irp.locations.items - 1) ≡ Some own → asks (succeeds start.io_status.status) start.cancelled own ≡ true → CallsRoutine start.locations.items start.number start.cancelled start.io_status.status start.io_status.information start.payload own.driver irp
calls start irp own climbing last asked = record {
  higher = take (length irp.locations.items - 1) irp.locations.items;
  own = own;
  nearer = climbing.passed.nearer;
  are_above = climbing.passed.from_is ∙ ap (λ xs. xs ++ climbing.passed.nearer) (last_is irp.locations.items own last);
  asked = asked;
  passed_over = climbing.passed.passed_over;
  driver_is = refl;
  locations = last_is irp.locations.items own last;
  number_is = climbing.kept.number;
  cancelled_is = climbing.kept.cancelled;
  status_is = ap (λ s. s.status) climbing.kept.io_status;
  information_is = ap (λ s. s.information) climbing.kept.io_status;
  payload_is = climbing.kept.payload;
}

-- no location is left
none_left : {X : Type 0} (xs : List X) → slice_get xs (length xs - 1) ≡ None → xs ≡ []
none_left [] e = refl
none_left (x ∷ xs) e =
    let some : slice_get (x ∷ xs) (length (x ∷ xs) - 1) ≡ Some (get_or (x ∷ xs) (length (x ∷ xs) - 1) x) = slice_get-get_or (x ∷ xs) (length (x ∷ xs) - 1) x (omega arith) in
    cc

pub all_passed : (start irp : Irp) → IsClimbing start irp → slice_get irp.locations.items (length irp.locations.items - 1) ≡ None → All (AsksNot (succeeds start.io_status.status) start.cancelled) start.locations.items
all_passed start irp climbing none =
    let e : start.locations.items ≡ climbing.passed.nearer = climbing.passed.from_is ∙ ap (λ xs. xs ++ climbing.passed.nearer) (none_left irp.locations.items none) in
    subst (All (AsksNot (succeeds start.io_status.status) start.cancelled)) (sym e) climbing.passed.passed_over

-- two steps that each leave all but the locations
pub kept_both : (first second third : Irp) → KeepsAllButLocations first second → KeepsAllButLocations second third → KeepsAllButLocations first third
kept_both first second third before after = record {
  number = after.number ∙ before.number;
  payload = after.payload ∙ before.payload;
  cancelled = after.cancelled ∙ before.cancelled;
  io_status = after.io_status ∙ before.io_status;
  cancel_routine = after.cancel_routine ∙ before.cancel_routine;
}

-- its last location does not ask, and is taken off
pub comes_past : (start irp rest : Irp) (own : StackLocation) → IsClimbing start irp → slice_get irp.locations.items (length irp.locations.items - 1) ≡ Some own → asks (succeeds start.io_status.status) start.cancelled own ≡ false → rest.locations.items ≡ take (length irp.locations.items - 1) irp.locations.items → KeepsAllButLocations irp rest → IsClimbing start rest
comes_past start irp rest own climbing last asked_not taken kept = record {
  passed = passed_one _ _ start.locations.items irp.locations.items rest.locations.items own climbing.passed
      (last_is irp.locations.items own last ∙ ap (λ xs. xs ++ own ∷ []) (sym taken)) asked_not;
  kept = kept_both start irp rest climbing.kept kept;
}
