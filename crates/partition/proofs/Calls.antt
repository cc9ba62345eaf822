-- Each call and each answer of the disk is one of the partitions' machine.
use Rattle.std.proofs.Common.{◌≡◌, ◌<◌, ◌≤◌, ◌⊎◌, inl, inr, ℕ, ◌+◌, ◌*◌, ◌/◌, ◌%◌, ◌==◌, ◌&&◌, Bool, true, false, nat_le, List, [], ◌∷◌, None, refl, sym, ◌∙◌, ap, subst, arith, map}
use Rattle.partition.proofs.Common.{All, mul-div_cancel, mul-mod_left, mul-le, nat_tests, length-replicate, IsPermutation-sym, IsPermutation-map, All-permutation, All-tail, All-cons, All-weaker, NtStatus, Extent, Kind, Read, Write, Flush, Request, ClientRequest, Rules, is_transfer, is_in_bounds, place_count, as_client, Mark, Untouched, Out, Done, Failed, Back, OpenRequest, State, IsSame, refusal, Opens, new_request, array_at, Answer, Answers, AnswersWith, Cause, HasEnded, HasCause, information, AreDistinct, IsGiven, AreDistinct-Step, AreDistinct-Admits, ArePlaced-Answers, ArePlaced-Opens, taken_in, IsTakenIn, Packet, IsBounded, asked, rules_over, on_disk, called, as_called, on_partitions, LiesInside}
use Rattle.partition.proofs.Noted.{asked_behind}
use Rattle.partition.proofs.Alike.{AreNotedAlike, called_alike, state_alike, Stands-alike, lie_alike}
use Rattle.partition.proofs.Steps.{Stands, IsSame-up, moved, only_array}

-- A REQUEST IN BOUNDS IS NOT REFUSED

by_kind : (k : Kind) → (is_transfer k ≡ true) ⊎ (is_transfer k ≡ false)
by_kind Read = inl refl
by_kind Write = inl refl
by_kind Flush = inr refl

in_bounds : (rules : Rules) (r : Request) (bytes : List ℕ) → 0 < rules.sector_size → IsBounded rules r
    → is_in_bounds rules (as_client rules r bytes) ≡ true
in_bounds rules r bytes some b =
    let count : r.extent.count * rules.sector_size / rules.sector_size ≡ r.extent.count = mul-div_cancel r.extent.count some in
    let first : r.extent.first * rules.sector_size / rules.sector_size ≡ r.extent.first = mul-div_cancel r.extent.first some in
    let count_rest : r.extent.count * rules.sector_size % rules.sector_size ≡ 0 = mul-mod_left r.extent.count rules.sector_size in
    let first_rest : r.extent.first * rules.sector_size % rules.sector_size ≡ 0 = mul-mod_left r.extent.first rules.sector_size in
    rw (count_rest, first_rest, count, first) (two_true _ _ (le_true _ _ b.inside) (le_true _ _ b.short))
  where
    le_true : (m n : ℕ) → m ≤ n → nat_le m n ≡ true
    le_true m n h = grind (arith, nat_tests)

    two_true : (a b : Bool) → a ≡ true → b ≡ true → (a && b) ≡ true
    two_true a b h k = rw (h, k) refl

not_empty : (m n : ℕ) → 0 < m → 0 < n → (m * n == 0) ≡ false
not_empty m n some more =
    let p : 1 * 1 ≤ m * n = mul-le 1 1 m n some more in
    not_zero (m * n) (omega arith)
  where
    not_zero : (k : ℕ) → 0 < k → (k == 0) ≡ false
    not_zero k h = grind (arith, nat_tests)

-- where the device stays and does not count its open requests
pub not_refused : (rules : Rules) (r : Request) (bytes : List ℕ) (s : State) → 0 < rules.sector_size → IsBounded rules r
    → s.removing ≡ false → rules.open_requests ≡ None
    → refusal rules s (as_client rules r bytes) ≡ None
not_refused rules r bytes s some b stays uncounted = elim (by_kind r.kind) [
  | inl is ↦
      let n : 0 < r.extent.count = b.some is in
      let bounds : is_in_bounds rules (as_client rules r bytes) ≡ true = in_bounds rules r bytes some b in
      let full : (r.extent.count * rules.sector_size == 0) ≡ false = not_empty r.extent.count rules.sector_size n some in
      rw (stays, is, bounds, full, uncounted) refl
  | inr is ↦ rw (stays, is, uncounted) refl
]

-- ANSWERS

module _ (below : Rules) (table : List Extent) (packets : List Packet) where
  abbrev over : Rules
  over = rules_over table below

  abbrev up : State → State
  up s = on_partitions over packets s

  abbrev as_up : OpenRequest → OpenRequest
  as_up o = as_called over packets o

  cause_is : (s : State) (o : OpenRequest) (mark : Mark) (status : NtStatus) → Cause below s o mark status
      → Cause over (up s) (as_up o) mark status
  cause_is s o (Failed failure) status h = h
  cause_is s o Untouched status h = h
  cause_is s o Back status h = h
  cause_is s o Out status h = h
  cause_is s o (Done sector) status h = h

  pub ended_is : (s : State) (o : OpenRequest) (mark : Mark) → HasEnded below s o mark → HasEnded over (up s) (as_up o) mark
  ended_is s o mark (inl done) = inl done
  ended_is s o mark (inr (status, h)) = inr (status, cause_is s o mark status h)

  -- and back
  cause_was : (s : State) (o : OpenRequest) (mark : Mark) (status : NtStatus) → Cause over (up s) (as_up o) mark status
      → Cause below s o mark status
  cause_was s o (Failed failure) status h = h
  cause_was s o Untouched status h = h
  cause_was s o Back status h = h
  cause_was s o Out status h = h
  cause_was s o (Done sector) status h = h

  pub ended_was : (s : State) (o : OpenRequest) (mark : Mark) → HasEnded over (up s) (as_up o) mark → HasEnded below s o mark
  ended_was s o mark (inl done) = inl done
  ended_was s o mark (inr (status, h)) = inr (status, cause_was s o mark status h)

  has_cause_is : (s : State) (o : OpenRequest) (marks : List Mark) (status : NtStatus) → HasCause below s o marks status
      → HasCause over (up s) (as_up o) marks status
  has_cause_is s o [] status h = h
  has_cause_is s o (Done sector ∷ marks) status h = has_cause_is s o marks status h
  has_cause_is s o (Failed failure ∷ marks) status h = h
  has_cause_is s o (Untouched ∷ marks) status h = h
  has_cause_is s o (Back ∷ marks) status h = h
  has_cause_is s o (Out ∷ marks) status h = h

  -- the packet of the request leaves the others
  pub Answers-over : (s : State) (number : ℕ) (status : NtStatus) (bytes : List ℕ) (s' : State) (others : List Packet)
      → Stands below table packets s → (h : Answers below s number status bytes s')
      → AreNotedAlike packets others h.others
      → (up' : Answers over (up s) number status bytes (on_partitions over others s')) ×
      (up'.request ≡ as_up h.request) × Stands below table others s'
  Answers-over s number status bytes s' others k h alike =
      let still : AreNotedAlike packets others s'.requests =
      All-permutation (λ o. asked packets o.number ≡ asked others o.number) _ _ (IsPermutation-sym _ _ h.after.requests) alike in
      let first : All (LiesInside over packets) (h.request ∷ h.others) =
      All-permutation (LiesInside over packets) _ _ h.is_open k.requests in
      let lie : All (LiesInside over packets) s'.requests =
      All-permutation (LiesInside over packets) _ _ (IsPermutation-sym _ _ h.after.requests)
      (All-tail (LiesInside over packets) h.request h.others first) in
      let informed : ℕ = information h.request.request status in
      let step : AnswersWith below s number status informed bytes s' = record { answers = h; informs = refl } in
      let distinct : AreDistinct s' =
      AreDistinct-Step below s (Answer number status informed bytes) s' k.distinct (inl (k.none_owed, step)) in
      let after : IsSame (up s') (record (up s) { requests = map as_up h.others }) = IsSame-up below table packets s' _ h.after in (
        record {
          request = as_up h.request;
          others = map as_up h.others;
          is_open = IsPermutation-map as_up _ _ h.is_open;
          is_number = h.is_number;
          ended =
              All-weaker (HasEnded below s h.request) (HasEnded over (up s) (as_up h.request))
              (ended_is s h.request) h.request.marks h.ended;
          success = h.success;
          cause = has_cause_is s h.request h.request.marks status h.cause;
          hands_back = h.hands_back;
          after =
              subst (λ t. IsSame t (record (up s) { requests = map as_up h.others }))
              (state_alike below table packets others s' still) after;
        },
        refl,
        Stands-alike below table packets others s' still
            (moved below table packets s k s' (array_at s.arrays 0) (h.after.arrays ∙ only_array below table packets s k) refl lie distinct
            (ArePlaced-Answers below s number status bytes s' k.placed h) (rw h.after.owed k.none_owed)),
      )

  -- CALLS

  -- its packet, in front of all others, notes it
  pub Opens-over : (s : State) (packet : Packet) (r : Request) (bytes : List ℕ) (s' : State) → Stands below table packets s
      → Opens below s packet.number (as_client below (on_disk over r) bytes) s'
      → IsBounded over r → below.open_requests ≡ None → asked (packet ∷ packets) packet.number ≡ r
      → Opens over (up s) packet.number (as_client over r bytes) (on_partitions over (packet ∷ packets) s')
      × Stands below table (packet ∷ packets) s'
  Opens-over s packet r bytes s' k h bounded uncounted notes =
      let c : ClientRequest = as_client below (on_disk over r) bytes in
      let new : OpenRequest = new_request below s packet.number c in
      let up' : State → State = λ t. on_partitions over (packet ∷ packets) t in
      let opened : List OpenRequest → State = λ os. record (up s) { next_request = packet.number + 1; requests = os } in
      let new_up : OpenRequest = new_request over (up s) packet.number (as_client over r bytes) in
      let taken : IsTakenIn below s c = taken_in below s c h.not_refused in
      let alike : AreNotedAlike packets (packet ∷ packets) s.requests =
      All-weaker (IsGiven s.next_request) (λ o. asked packets o.number ≡ asked (packet ∷ packets) o.number)
      (λ o given. sym (asked_behind packet packets o.number (λ e. not_given o given e))) s.requests k.distinct.given in
      let lies : LiesInside over (packet ∷ packets) new = record {
        bounded = subst (λ q. IsBounded over q) (sym notes) bounded;
        is_asked = ap (λ q. as_client over (on_disk over q) bytes) (sym notes);
        all_places = length-replicate (place_count below c) Untouched;
      } in
      let lie : All (LiesInside over (packet ∷ packets)) s'.requests =
      All-permutation (LiesInside over (packet ∷ packets)) _ _ (IsPermutation-sym _ _ h.after.requests)
      (All-cons (LiesInside over (packet ∷ packets)) new s.requests lies
      (lie_alike below table packets (packet ∷ packets) s.requests alike k.requests)) in
      let called : as_called over (packet ∷ packets) new ≡ new_up =
      ap (λ q. record new { request = called over q c }) notes in
      let after : IsSame (up' s') (opened (as_called over (packet ∷ packets) new ∷ map (as_called over (packet ∷ packets)) s.requests)) =
      IsSame-up below table (packet ∷ packets) s' _ h.after in (
        record {
          new_number = h.new_number;
          not_refused = not_refused over r bytes (up s) k.some_bytes bounded taken.staying uncounted;
          carries = h.carries;
          after =
              subst (λ os. IsSame (up' s') (opened (new_up ∷ os)))
              (sym (called_alike below table packets (packet ∷ packets) s.requests alike))
              (subst (λ o. IsSame (up' s') (opened (o ∷ map (as_called over (packet ∷ packets)) s.requests))) called after);
        },
        moved below table (packet ∷ packets) s (Stands-alike below table packets (packet ∷ packets) s alike k) s' (array_at s.arrays 0)
            (h.after.arrays ∙ only_array below table packets s k) refl lie
            (AreDistinct-Admits below s packet.number c None s' h.new_number k.distinct h)
            (ArePlaced-Opens below s packet.number c s' k.distinct k.placed h) (rw h.after.owed k.none_owed),
      )
    where
      not_given : (o : OpenRequest) → IsGiven s.next_request o → packet.number ≡ o.number → ⊥
      not_given o given e = let n : s.next_request ≤ packet.number = h.new_number in absurd (omega arith)
