-- Where a climb ends that begins below known locations: for the drivers that see a packet come back.
use Rattle.std.proofs.Common.{◌≡◌, ◌-◌, ◌++◌, ◌⊎◌, ℕ, Bool, true, false, List, [], ◌∷◌, length, take, get_or, Some, refl, sym, ◌∙◌, ap, inl, inr, append_assoc, subst, arith, ◌&&◌, ◌||◌, not}
use Rattle.std.specs.Prelude.{All}
use Rattle.std.proofs.lemmas.List.{same_from_push, append-nil}
use Rattle.std.proofs.lemmas.List.Elements.{All-pop}
use Rattle.std.proofs.lemmas.Option.{slice_get-get_or}
use Rattle.std.proofs.lemmas.Grind.{common_steps}
use Rattle.ntstatus.specs.declared.NtStatus.{NtStatus}
use Rattle.device.specs.declared.climbing.Climb.{Climb}
use Rattle.device.specs.declared.climbing.Climb.TheVariants.{Routine, Finished}
use Rattle.device.specs.Climbing.{Climbs, FinishesPacket}
use Rattle.std.specs.Global.{Box}
use Rattle.irp.specs.declared.Irp.{Irp}
use Rattle.irp.specs.declared.Payload.{Payload}
use Rattle.irp.specs.declared.StackLocation.{StackLocation}
use Rattle.irp.specs.Climb.{above, asks, AsksNot, succeeds}
use Rattle.irp.specs.Packet.{HasOwn, KeepsAllButLocations, with_routine}
use Rattle.irp.proofs.Climbing.{last_is}
use Rattle.irp.proofs.Routines.{asks_routine}

-- the packet is finished
pub record IsFinished (above : List StackLocation) (number : ℕ) (cancelled : Bool) (status : NtStatus) (information : ℕ) (payload : Payload) (climb : Climb) : Type 0 where
  pub irp : Box Irp
  pub climb_is : climb ≡ Finished irp
  pub finishes : FinishesPacket above number cancelled status information payload irp.value

-- the packet comes back to the driver of `own`, as it was completed
pub record ComesBack (higher : List StackLocation) (own : StackLocation) (number : ℕ) (cancelled : Bool) (status : NtStatus) (information : ℕ) (payload : Payload) (climb : Climb) : Type 0 where
  pub irp : Box Irp
  pub climb_is : climb ≡ Routine own.driver irp
  pub has_own : HasOwn irp.value higher own
  pub number_is : irp.value.number ≡ number
  pub cancelled_is : irp.value.cancelled ≡ cancelled
  pub status_is : irp.value.io_status.status ≡ status
  pub information_is : irp.value.io_status.information ≡ information
  pub payload_is : irp.value.payload ≡ payload

-- a list is empty, or has a last element
push_cases : {X : Type 0} (xs : List X) → (xs ≡ []) ⊎ ((front : List X) × (last : X) × (xs ≡ front ++ last ∷ []))
push_cases [] = inl refl
push_cases (x ∷ xs) =
    let n = length (x ∷ xs) - 1 in
    inr (take n (x ∷ xs), get_or (x ∷ xs) n x, last_is (x ∷ xs) _ (slice_get-get_or (x ∷ xs) n x (omega arith)))

-- a list that ends in `last`, cut in two: the second part is empty, or ends in it too
cut_of : {X : Type 0} (P : X → Type 0) (front : List X) (last : X) (first second : List X) → front ++ last ∷ [] ≡ first ++ second → All P second → (front ++ last ∷ [] ≡ first) ⊎ (P last × ((rest : List X) × (front ≡ first ++ rest) × All P rest))
cut_of P front last first second e all = elim (push_cases second) [
  | inl none ↦ inl (e ∙ ap (λ xs. first ++ xs) none ∙ append-nil first)
  | inr (rest, end, is) ↦
      let ends : (front ≡ first ++ rest) × (last ≡ end) = same_from_push front (first ++ rest) last end (e ∙ ap (λ xs. first ++ xs) is ∙ sym (append_assoc first rest (end ∷ []))) in
      let parts : All P rest × P end = All-pop P second rest (Some end) is all in
      inr (subst P (sym ends.1) parts.1, (rest, ends.0, parts.0))
]

-- the locations above a packet's own
pub above_is : (irp : Irp) (higher : List StackLocation) (own : StackLocation) → HasOwn irp higher own → above irp ≡ higher
above_is irp higher own has = ap (λ (xs : List StackLocation). take (length xs - 1) xs) has ∙ grind (arith, common_steps)

-- a climb that is told of another packet, with other locations alone
pub climbs_as : (start irp : Irp) (higher : List StackLocation) (status : NtStatus) (information : ℕ) (climb : Climb) → KeepsAllButLocations start irp → above irp ≡ higher → Climbs (above irp) irp.number irp.cancelled status information irp.payload climb → Climbs higher start.number start.cancelled status information start.payload climb
climbs_as start irp higher status information climb kept same h =
    let at_number : Climbs higher start.number irp.cancelled status information irp.payload climb =
    subst (λ (n : ℕ). Climbs higher n irp.cancelled status information irp.payload climb) kept.number
    (subst (λ (ls : List StackLocation). Climbs ls irp.number irp.cancelled status information irp.payload climb) same h) in
    subst (λ (p : Payload). Climbs higher start.number start.cancelled status information p climb) kept.payload
    (subst (λ (b : Bool). Climbs higher start.number b status information irp.payload climb) kept.cancelled at_number)

-- where the nearest location asks, the packet comes back to its driver
pub comes_back : (higher : List StackLocation) (own : StackLocation) (number : ℕ) (cancelled : Bool) (status : NtStatus) (information : ℕ) (payload : Payload) (climb : Climb) → asks (succeeds status) cancelled own ≡ true → Climbs (higher ++ own ∷ []) number cancelled status information payload climb → ComesBack higher own number cancelled status information payload climb
comes_back higher own number cancelled status information payload (Finished irp) asked h =
    let parts : All (AsksNot (succeeds status) cancelled) higher × (asks (succeeds status) cancelled own ≡ false) = All-pop (AsksNot (succeeds status) cancelled) (higher ++ own ∷ []) higher (Some own) refl h.passed_over in
    cc (asked, parts.1)
comes_back higher own number cancelled status information payload (Routine driver irp) asked h =
    elim (cut_of (AsksNot (succeeds status) cancelled) higher own (h.higher ++ h.own ∷ []) h.nearer h.are_above h.passed_over) [
      | inl e ↦
          let same : (higher ≡ h.higher) × (own ≡ h.own) = same_from_push higher h.higher own h.own e in
          record {
            irp = irp;
            climb_is = ap (λ d. Routine d irp) (h.driver_is ∙ ap (λ l. l.driver) (sym same.1));
            has_own = h.locations ∙ sym e;
            number_is = h.number_is;
            cancelled_is = h.cancelled_is;
            status_is = h.status_is;
            information_is = h.information_is;
            payload_is = h.payload_is;
          }
      | inr (asked_not, rest) ↦ cc (asked, asked_not)
    ]

-- where the nearest location does not ask, the packet climbs as if it were not there
pub passes_by : (higher : List StackLocation) (own : StackLocation) (number : ℕ) (cancelled : Bool) (status : NtStatus) (information : ℕ) (payload : Payload) (climb : Climb) → asks (succeeds status) cancelled own ≡ false → Climbs (higher ++ own ∷ []) number cancelled status information payload climb → Climbs higher number cancelled status information payload climb
passes_by higher own number cancelled status information payload (Finished irp) asked_not h =
    record {
      passed_over = (All-pop (AsksNot (succeeds status) cancelled) (higher ++ own ∷ []) higher (Some own) refl h.passed_over).0;
      locations = h.locations;
      number_is = h.number_is;
      cancelled_is = h.cancelled_is;
      status_is = h.status_is;
      information_is = h.information_is;
      payload_is = h.payload_is;
    }
passes_by higher own number cancelled status information payload (Routine driver irp) asked_not h =
    elim (cut_of (AsksNot (succeeds status) cancelled) higher own (h.higher ++ h.own ∷ []) h.nearer h.are_above h.passed_over) [
      | inl e ↦ cc (asked_not, h.asked, (same_from_push higher h.higher own h.own e).1)
      | inr (asks_not, (rest, is, passed)) ↦ record {
        higher = h.higher;
        own = h.own;
        nearer = rest;
        are_above = is;
        asked = h.asked;
        passed_over = passed;
        driver_is = h.driver_is;
        locations = h.locations;
        number_is = h.number_is;
        cancelled_is = h.cancelled_is;
        status_is = h.status_is;
        information_is = h.information_is;
        payload_is = h.payload_is;
      }
    ]

either : (success cancelled on_cancel : Bool) → ((success && true) || (not success && true) || (cancelled && on_cancel)) ≡ true
either true cancelled on_cancel = refl
either false cancelled on_cancel = refl

-- a routine that is asked for at a success and at an error is called at every outcome
pub always_asks : (success cancelled on_cancel : Bool) (own : StackLocation) → asks success cancelled (with_routine true true on_cancel own) ≡ true
always_asks success cancelled on_cancel own = asks_routine success cancelled true true on_cancel own ∙ either success cancelled on_cancel
