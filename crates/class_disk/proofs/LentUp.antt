-- The buffer that was lent to the only part of a request, as it goes up.
use Rattle.class_disk.proofs.Common.{◌≡◌, ℕ, ◌+◌, ◌-◌, ◌*◌, true, false, List, [], ◌∷◌, refl, sym, ◌∙◌, ap, subst, arith, length, take, slice_range, Success, DeviceBusy, Payload, Write, Flush, Request, Rules, Carries, payload_bytes, transfer_length, Outcome, payload_in, given_of, given_by, HoldsData, bytes_by, joined_of, status_by, status_or, failure_of, failure_by, lowest_status, bytes_from, given_up, IsBuffered, IsBufferedBy, IsWrittenBy}
use Rattle.std.proofs.lemmas.List.{append-nil, take_all}
use Rattle.irp.specs.declared.Payload.TheVariants.{Buffer, Srb as Packed, Sent as AtAdapter}
use Rattle.class_disk.specs.declared.parts.Part.{Part}
use Rattle.class_disk.specs.declared.parts.Outcome.TheVariants.{Good, Failed as IsBad, Busy, Withdrawn}
use Rattle.class_disk.specs.declared.parts.Progress.TheVariants.{Ended as PartEnded}
use Rattle.class_disk.proofs.EndedParts.{IsEndedPart}

-- its bytes are those that came back
given_bytes : (payload : Payload) → payload_bytes (given_of payload) ≡ payload_bytes payload
given_bytes (Packed srb) = refl
given_bytes (Buffer bytes) = refl
given_bytes AtAdapter = refl

given_carries : (rules : Rules) (r : Request) (payload : Payload) → HoldsData (transfer_length rules r) payload → Carries false rules r (given_of payload)
given_carries rules r (Packed srb) h = h
given_carries rules r (Buffer bytes) h = h
given_carries rules r AtAdapter h = absurd h

-- all bytes of a request, from its first on
range_all : (xs : List ℕ) (from long : ℕ) → from ≡ 0 → length xs ≡ long → slice_range xs from (from + long) ≡ xs
range_all xs from long none all =
    ap (λ n. slice_range xs n (n + long)) none ∙ ap (λ n. take n xs) (omega arith) ∙ take_all long xs (omega (arith, all))

nothing : (n : ℕ) → n - n ≡ 0
nothing n = omega arith

-- where the status of a part alone tells of a busy return
busy_alone : (outcome : Outcome) → status_or (failure_of outcome) Success ≡ DeviceBusy → status_by outcome ≡ DeviceBusy
busy_alone Good is = is
busy_alone (IsBad status) is = is
busy_alone (Busy status) is = is
busy_alone (Withdrawn status) is = is

module _ (rules : Rules) (r : Request) (payload : Payload) (part : Part) (e : IsEndedPart part) (asks : part.request ≡ r)
    (buffered : IsBuffered rules true part) (written : IsWrittenBy rules r (payload_bytes payload) part.request part.progress) (carries : Carries false rules r payload) where
  abbrev back : Payload
  back = payload_in e.ended.packet

  up_is : given_up (part ∷ []) ≡ given_of back
  up_is = ap given_by e.is

  bytes_are : payload_bytes (given_up (part ∷ [])) ≡ payload_bytes back
  bytes_are = ap payload_bytes up_is ∙ given_bytes back

  buffered_back : IsBufferedBy rules true part.request (PartEnded e.ended)
  buffered_back = subst (IsBufferedBy rules true part.request) e.is buffered

  pub joined_alone : payload_bytes (given_up (part ∷ [])) ≡ joined_of (part ∷ [])
  joined_alone = bytes_are ∙ sym (ap bytes_by e.is) ∙ sym (append-nil (bytes_by part.progress))

  long_of : (p : Payload) → Carries false rules r p → length (payload_bytes p) ≡ transfer_length rules r
  long_of (Packed srb) h = absurd h
  long_of (Buffer bytes) h = h
  long_of AtAdapter h = absurd h

  pub write_alone : r.kind ≡ Write → payload_bytes (given_up (part ∷ [])) ≡ payload_bytes payload
  write_alone kind =
      let w : IsWrittenBy rules r (payload_bytes payload) part.request (PartEnded e.ended) = subst (IsWrittenBy rules r (payload_bytes payload) part.request) e.is written in
      let both = w (ap (λ (q : Request). q.kind) asks ∙ kind) in
      let from : bytes_from rules.sector_size r part.request ≡ 0 =
      ap (λ (q : Request). (q.extent.first - r.extent.first) * rules.sector_size) asks ∙ ap (λ n. n * rules.sector_size) (nothing r.extent.first) ∙ omega arith in
      let long : length (payload_bytes payload) ≡ transfer_length rules part.request = long_of payload carries ∙ ap (transfer_length rules) (sym asks) in
      bytes_are ∙ sym (take_all (transfer_length rules part.request) (payload_bytes back) (let n = both.1 in omega arith)) ∙ both.0
      ∙ range_all (payload_bytes payload) (bytes_from rules.sector_size r part.request) (transfer_length rules part.request) from long

  pub flush_alone : r.kind ≡ Flush → payload_bytes (given_up (part ∷ [])) ≡ []
  flush_alone kind = bytes_are ∙ buffered_back.1 (ap (λ (q : Request). q.kind) asks ∙ kind)

  pub carries_alone : lowest_status (part ∷ []) ≡ DeviceBusy → Carries false rules r (given_up (part ∷ []))
  carries_alone busy =
      let told : status_by e.ended.outcome ≡ DeviceBusy = busy_alone e.ended.outcome (ap (λ p. status_or (failure_by p) Success) (sym e.is) ∙ busy) in
      subst (Carries false rules r) (sym up_is)
      (given_carries rules r back (subst (λ (q : Request). HoldsData (transfer_length rules q) back) asks (buffered_back.2 told)))
