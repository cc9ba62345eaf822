-- A packet below that ended is handed up, and its part ends: the class driver is midway as before.
use Rattle.class_disk.proofs.Common.{◌≡◌, ◌≢◌, ◌≤◌, ◌⊎◌, inl, inr, ℕ, zero, suc, ◌+◌, Bool, ◌∷◌, refl, sym, ◌∙◌, ap, subst, arith, length, replicate, IsPermutation-sym, IsPermutation-trans, IsPermutation-cons, Contains-permutation, length_permutation, All-map, All-replicate, NtStatus, Cancelled, NoSuchDevice, Rules, Untouched, Done, Failed, Back, Climb, Payload, DeviceView, Packet, HandsUp, IsAt, sectors_moved, Progress, Outcome, Way, Returned, Unsent, shown_mark, IsOverMark, EndsAs, HasReason, places_of, busy_left, marks_left, IsCause, IsAsked, IsAskedBy, IsSpotted, IsSpottedBy}
use Rattle.std.specs.Prelude.{IsPermutation, All, Any, Contains, IsTrue}
use Rattle.class_disk.specs.declared.parts.Part.{Part}
use Rattle.class_disk.specs.declared.parts.Progress.TheVariants.{Ready, Below, Ended as HasEnded}
use Rattle.class_disk.specs.declared.parts.Outcome.TheVariants.{Good, Failed as IsBad, Busy, Withdrawn}
use Rattle.class_disk.proofs.Asking.{asks_handed}
use Rattle.class_disk.proofs.Changing.{HasOther}

-- HOW IT ENDED

-- a part that is not sent again has its cause
pub cause_of : (way : Way) (cancelled removing : Bool) (restarts busy : ℕ) (status : NtStatus) (outcome : Outcome)
    → restarts + busy_left outcome ≤ busy → EndsAs way status outcome → HasReason cancelled removing restarts outcome
    → (way ≡ Unsent → (IsTrue cancelled × (status ≡ Cancelled)) ⊎ (IsTrue removing × (status ≡ NoSuchDevice)))
    → IsCause cancelled removing busy outcome
cause_of Returned cancelled removing restarts busy status Good many ends reason unsent = tt
cause_of Returned cancelled removing restarts busy status (IsBad failure) many ends reason unsent = λ same. ends.1 (sym ends.0 ∙ same)
cause_of Returned cancelled removing restarts busy status (Busy told) many ends (inl h) unsent = inl h
cause_of Returned cancelled removing restarts busy status (Busy told) many ends (inr (inl h)) unsent = inr (inl (h.1, h.2))
cause_of Returned cancelled removing restarts busy status (Busy told) many ends (inr (inr h)) unsent = inr (inr (let a = h.2 in omega arith, h.3))
cause_of Returned cancelled removing restarts busy status (Withdrawn told) many ends reason unsent = absurd ends
cause_of Unsent cancelled removing restarts busy status Good many ends reason unsent = absurd ends
cause_of Unsent cancelled removing restarts busy status (IsBad failure) many ends reason unsent = absurd ends
cause_of Unsent cancelled removing restarts busy status (Busy told) many ends reason unsent = absurd ends
cause_of Unsent cancelled removing restarts busy status (Withdrawn told) many ends reason unsent =
    subst (λ t. (IsTrue cancelled × (t ≡ Cancelled)) ⊎ (IsTrue removing × (t ≡ NoSuchDevice))) (sym ends) (unsent refl)

-- and its places have ended
over_untouched : (cancelled removing : Bool) (limit busy again : ℕ) → IsTrue cancelled ⊎ IsTrue removing → IsOverMark cancelled removing limit busy (shown_mark again Untouched)
over_untouched cancelled removing limit busy zero h = h
over_untouched cancelled removing limit busy (suc n) (inl is) = inl is
over_untouched cancelled removing limit busy (suc n) (inr is) = inr (inl is)

pub over_outcome : (rules : Rules) (part : Part) (payload : Payload) (cancelled removing : Bool) (busy : ℕ) (outcome : Outcome)
    → IsCause cancelled removing busy outcome → All (IsOverMark cancelled removing 17 busy) (marks_left rules part payload outcome)
over_outcome rules part payload cancelled removing busy Good cause = All-map (IsOverMark cancelled removing 17 busy) Done
    (sectors_moved rules part.request payload) (λ i d low. tt)
over_outcome rules part payload cancelled removing busy (IsBad failure) cause = All-replicate
    (IsOverMark cancelled removing 17 busy) (places_of rules part) (Failed failure) tt
over_outcome rules part payload cancelled removing busy (Busy told) cause = All-replicate
    (IsOverMark cancelled removing 17 busy) (places_of rules part) Back (by cause)
  where
    by : IsCause cancelled removing busy (Busy told) → IsOverMark cancelled removing 17 busy Back
    by (inl h) = inl h.0
    by (inr (inl h)) = inr (inl h.0)
    by (inr (inr h)) = inr (inr h.0)
over_outcome rules part payload cancelled removing busy (Withdrawn told) cause =
    All-map (IsOverMark cancelled removing 17 busy) (shown_mark part.restarts) (replicate (places_of rules part) Untouched)
    (All-replicate (λ x. IsOverMark cancelled removing 17 busy (shown_mark part.restarts x)) (places_of rules part) Untouched
    (over_untouched cancelled removing 17 busy part.restarts (by cause)))
  where
    by : IsCause cancelled removing busy (Withdrawn told) → IsTrue cancelled ⊎ IsTrue removing
    by (inl h) = inl h.0
    by (inr h) = inr h.0

-- WHAT THE STEP BELOW LEAVES

module _ {takes : Bool} {v : DeviceView} {climb : Climb} {spot : ℕ} {v' : DeviceView} (h : HandsUp takes v climb spot v') where
  pub packets_taken : IsPermutation v.packets (h.answer.packet ∷ v'.packets)
  packets_taken = IsPermutation-trans _ _ _ h.left.is_in (IsPermutation-cons h.answer.packet _ _ (IsPermutation-sym _ _ h.left.moves.same_packets))

  pub fewer_packets : length v.packets ≡ 1 + length v'.packets
  fewer_packets = let e : suc (length v'.packets) ≡ length v.packets = length_permutation _ _ packets_taken in omega arith

  -- another packet stays where it is, and asks for the same
  pub part_spotted : (x : Part) → HasOther h.answer.packet.spot x → IsSpotted v.packets x → IsSpotted v'.packets x
  part_spotted x other is = by x.progress other is
    where
      by : (p : Progress) → ((number at : ℕ) → p ≡ Below number at → at ≢ h.answer.packet.spot) → IsSpottedBy v.packets p → IsSpottedBy v'.packets p
      by (Ready place) other is = tt
      by (HasEnded ended) other is = tt
      by (Below number at) other (i, y, low, is, found) = in_rest (Contains-permutation _ _ y packets_taken (i, low, is))
        where
          in_rest : Contains (h.answer.packet ∷ v'.packets) y → Any (IsAt at number) v'.packets
          in_rest (zero, low, is) = absurd (other number at refl (sym found.is_spot ∙ ap (λ (z : Packet). z.spot) (sym is)))
          in_rest (suc k, low, is) = (k, y, omega arith, is, found)

  pub part_asked : (rules : Rules) (x : Part) → IsAsked rules v.state.requests x → IsAsked rules v'.state.requests x
  part_asked rules x is = by x.progress is
    where
      by : (p : Progress) → IsAskedBy rules v.state.requests x.request p → IsAskedBy rules v'.state.requests x.request p
      by (Ready place) is = tt
      by (HasEnded ended) is = tt
      by (Below number at) is = asks_handed rules x.request number takes v climb spot v' is h
