-- A request all of whose parts have ended: its marks, and the status that they give it.
use Rattle.std.proofs.Common.{◌≡◌, ◌≢◌, ◌<◌, inl, inr, ℕ, zero, suc, ◌+◌, Bool, false, List, [], ◌∷◌, ◌++◌, refl, sym, ◌∙◌, ap, subst, arith, map, length, replicate}
use Rattle.std.specs.Prelude.{All, IsTrue, ◌↔◌}
use Rattle.class_disk.proofs.Common.{list_all, All-nil, All-cons, All-head, All-tail, All-append, NtStatus, Success, Cancelled, NoSuchDevice, Rules, Mark, Untouched, Out, Done, Failed, Back, OpenRequest, State, Cause, IsGivenUp, HasEnded, HasCause, is_done, sectors_moved, Progress, Outcome, payload_in, lowest_status, status_or, failure_by, failure_of, unfinished_by, unfinished_of, IsHere, IsHereBy, noted_busy, IsCause, IsCauseBy, places_of, marks_left, note, note_by}
use Rattle.class_disk.specs.declared.parts.Part.{Part}
use Rattle.class_disk.specs.declared.parts.Ended.{Ended}
use Rattle.class_disk.specs.declared.parts.Progress.TheVariants.{Ready, Below as SentBelow, Ended as PartEnded}
use Rattle.class_disk.specs.declared.parts.Outcome.TheVariants.{Good, Failed as IsBad, Busy, Withdrawn}
use Rattle.class_disk.specs.inside.Joint.{Part as JointPart, Below, Here, Note, Sent, Kept, shown_mark, note_of, parts_requests, parts_pieces, parts_marks, parts_busy, parts_lifted}
use Rattle.class_disk.proofs.Resting.{HasEndedHere}

-- PARTS OF THE MACHINE THAT ARE ALL HERE

abbrev pub IsKept : Note → Type 0
IsKept (Sent number again) = ⊥
IsKept (Kept marks busy) = Unit {0}

abbrev pub marks_noted : List Note → List Mark
marks_noted [] = []
marks_noted (Sent number again ∷ notes) = marks_noted notes
marks_noted (Kept marks busy ∷ notes) = marks ++ marks_noted notes

pub kept_marks : (parts : List JointPart) → All IsKept (map note_of parts) → parts_marks parts ≡ marks_noted (map note_of parts)
kept_marks [] h = refl
kept_marks (Below o again ps ∷ parts) h = absurd (All-head IsKept (Sent o.number again) (map note_of parts) h)
kept_marks (Here marks busy ∷ parts) h = ap (λ zs. marks ++ zs) (kept_marks parts (All-tail IsKept (Kept marks busy) (map note_of parts) h))

pub kept_busy : (parts : List JointPart) → All IsKept (map note_of parts) → parts_busy parts ≡ noted_busy (map note_of parts)
kept_busy [] h = refl
kept_busy (Below o again ps ∷ parts) h = absurd (All-head IsKept (Sent o.number again) (map note_of parts) h)
kept_busy (Here marks busy ∷ parts) h = ap (λ n. busy + n) (kept_busy parts (All-tail IsKept (Kept marks busy) (map note_of parts) h))

pub kept_lifted : (owner first : ℕ) (parts : List JointPart) → All IsKept (map note_of parts) → parts_lifted owner first parts ≡ []
kept_lifted owner first [] h = refl
kept_lifted owner first (Below o again ps ∷ parts) h = absurd (All-head IsKept (Sent o.number again) (map note_of parts) h)
kept_lifted owner first (Here marks busy ∷ parts) h = kept_lifted owner (first + length marks) parts (All-tail IsKept (Kept marks busy) (map note_of parts) h)

pub kept_requests : (parts : List JointPart) → All IsKept (map note_of parts) → parts_requests parts ≡ []
kept_requests [] h = refl
kept_requests (Below o again ps ∷ parts) h = absurd (All-head IsKept (Sent o.number again) (map note_of parts) h)
kept_requests (Here marks busy ∷ parts) h = kept_requests parts (All-tail IsKept (Kept marks busy) (map note_of parts) h)

pub kept_pieces : (parts : List JointPart) → All IsKept (map note_of parts) → parts_pieces parts ≡ []
kept_pieces [] h = refl
kept_pieces (Below o again ps ∷ parts) h = absurd (All-head IsKept (Sent o.number again) (map note_of parts) h)
kept_pieces (Here marks busy ∷ parts) h = kept_pieces parts (All-tail IsKept (Kept marks busy) (map note_of parts) h)

pub kept_ended : (rules : Rules) (t : State) (o : OpenRequest) (parts : List JointPart) → All IsKept (map note_of parts) → All (HasEndedHere rules t o) parts → All (HasEnded rules t o) (parts_marks parts)
kept_ended rules t o [] h all = All-nil (HasEnded rules t o)
kept_ended rules t o (Below p again ps ∷ parts) h all = absurd (All-head IsKept (Sent p.number again) (map note_of parts) h)
kept_ended rules t o (Here marks busy ∷ parts) h all =
    All-append (HasEnded rules t o) marks (parts_marks parts) (All-head (HasEndedHere rules t o) (Here marks busy) parts all)
    (kept_ended rules t o parts (All-tail IsKept (Kept marks busy) (map note_of parts) h) (All-tail (HasEndedHere rules t o) (Here marks busy) parts all))

-- MARKS, ONE AFTER THE OTHER

module _ (rules : Rules) (s : State) (o : OpenRequest) where
  cause_done : (sectors : List (List ℕ)) (marks : List Mark) (status : NtStatus) → HasCause rules s o marks status → HasCause rules s o (map Done sectors ++ marks) status
  cause_done [] marks status h = h
  cause_done (x ∷ sectors) marks status h = cause_done sectors marks status h

  cause_many : (n : ℕ) (mark : Mark) (marks : List Mark) (status : NtStatus) → 0 < n → Cause rules s o mark status → HasCause rules s o (replicate n mark ++ marks) status
  cause_many zero mark marks status some h = absurd (omega arith)
  cause_many (suc n) Untouched marks status some h = h
  cause_many (suc n) Out marks status some h = h
  cause_many (suc n) (Done sector) marks status some h = absurd h
  cause_many (suc n) (Failed failure) marks status some h = h
  cause_many (suc n) Back marks status some h = h

  cause_shown : (again n : ℕ) (marks : List Mark) (status : NtStatus) → 0 < n → IsGivenUp s o status → HasCause rules s o (map (shown_mark again) (replicate n Untouched) ++ marks) status
  cause_shown again zero marks status some h = absurd (omega arith)
  cause_shown zero (suc n) marks status some h = h
  cause_shown (suc again) (suc n) marks status some h = inl h

all_done : (sectors : List (List ℕ)) (marks : List Mark) → list_all is_done (map Done sectors ++ marks) ≡ list_all is_done marks
all_done [] marks = refl
all_done (x ∷ sectors) marks = all_done sectors marks

none_done : (n : ℕ) (mark : Mark) (marks : List Mark) → 0 < n → is_done mark ≡ false → list_all is_done (replicate n mark ++ marks) ≡ false
none_done zero mark marks some h = absurd (omega arith)
none_done (suc n) mark marks some h = rw h refl

none_shown : (again n : ℕ) (marks : List Mark) → 0 < n → list_all is_done (map (shown_mark again) (replicate n Untouched) ++ marks) ≡ false
none_shown again zero marks some = absurd (omega arith)
none_shown zero (suc n) marks some = refl
none_shown (suc again) (suc n) marks some = refl

-- PARTS THAT HAVE ENDED

-- the part has ended
pub record IsEndedPart (part : Part) : Type 0 where
  pub ended : Ended
  pub is : part.progress ≡ PartEnded ended

abbrev pub HasPlace : Rules → Part → Type 0
HasPlace rules part = 0 < places_of rules part

pub ended_parts : (parts : List Part) → unfinished_of parts ≡ 0 → All IsEndedPart parts
ended_parts [] none = All-nil IsEndedPart
ended_parts (part ∷ parts) none =
    All-cons IsEndedPart part parts (by part.progress refl (omega arith)) (ended_parts parts (omega arith))
  where
    by : (p : Progress) → part.progress ≡ p → unfinished_by part.progress ≡ 0 → IsEndedPart part
    by (Ready place) is h = absurd (let e : unfinished_by part.progress ≡ 1 = ap unfinished_by is in omega arith)
    by (SentBelow number spot) is h = absurd (let e : unfinished_by part.progress ≡ 1 = ap unfinished_by is in omega arith)
    by (PartEnded ended) is h = record { ended = ended; is = is }

pub ended_here : (parts : List Part) → All IsEndedPart parts → All IsHere parts
ended_here [] h = All-nil IsHere
ended_here (part ∷ parts) h =
    All-cons IsHere part parts (subst IsHereBy (sym (All-head IsEndedPart part parts h).is) tt) (ended_here parts (All-tail IsEndedPart part parts h))

module _ (rules : Rules) where
  pub ended_note : (part : Part) (h : IsEndedPart part) → note rules part ≡ note_by rules part (PartEnded h.ended)
  ended_note part h = ap (note_by rules part) h.is

  pub ended_kept : (parts : List Part) → All IsEndedPart parts → All IsKept (map (note rules) parts)
  ended_kept [] h = All-nil IsKept
  ended_kept (part ∷ parts) h =
      All-cons IsKept (note rules part) (map (note rules) parts) (subst IsKept (sym (ended_note part (All-head IsEndedPart part parts h))) tt)
      (ended_kept parts (All-tail IsEndedPart part parts h))

  -- the marks of the first part, and those of the rest
  pub marks_first : (part : Part) (parts : List Part) (h : IsEndedPart part)
      → marks_noted (map (note rules) (part ∷ parts)) ≡ marks_left rules part (payload_in h.ended.packet) h.ended.outcome ++ marks_noted (map (note rules) parts)
  marks_first part parts h = ap (λ (n : Note). marks_noted (n ∷ map (note rules) parts)) (ended_note part h)

  pub status_first : (part : Part) (parts : List Part) (h : IsEndedPart part) → lowest_status (part ∷ parts) ≡ status_or (failure_of h.ended.outcome) (lowest_status parts)
  status_first part parts h = ap (λ p. status_or (failure_by p) (lowest_status parts)) h.is

-- THE STATUS

module _ (rules : Rules) (limit : rules.busy_limit ≡ 17) (s : State) (o : OpenRequest) (timely : o.late ≡ false) (cancelled removing : Bool) (busy : ℕ) (is_cancelled : cancelled ≡ o.cancelled) (is_removing : removing ≡ s.removing) (is_busy : busy ≡ o.busy_returns) where
  given_up : (status told : NtStatus) → told ≡ status → (IsTrue cancelled × (told ≡ Cancelled)) → IsGivenUp s o status
  given_up status told same h = inl (sym is_cancelled ∙ h.0, sym same ∙ h.1)

  removed : (status told : NtStatus) → told ≡ status → (IsTrue removing × (told ≡ NoSuchDevice)) → IsGivenUp s o status
  removed status told same h = inr (sym is_removing ∙ h.0, rw timely (sym same ∙ h.1))

  cause_first : (part : Part) (ended : Ended) (outcome : Outcome) (marks : List Mark) (rest : NtStatus) → HasPlace rules part → IsCause cancelled removing busy outcome → HasCause rules s o marks rest
      → HasCause rules s o (marks_left rules part (payload_in ended.packet) outcome ++ marks) (status_or (failure_of outcome) rest)
  cause_first part ended Good marks rest some cause h = cause_done rules s o (sectors_moved rules part.request (payload_in ended.packet)) marks rest h
  cause_first part ended (IsBad status) marks rest some cause h = cause_many rules s o (places_of rules part) (Failed status) marks status some refl
  cause_first part ended (Busy told) marks rest some (inl c) h = cause_many rules s o (places_of rules part) Back marks told some (inl (given_up told told refl c))
  cause_first part ended (Busy told) marks rest some (inr (inl r)) h = cause_many rules s o (places_of rules part) Back marks told some (inl (removed told told refl r))
  cause_first part ended (Busy told) marks rest some (inr (inr b)) h = cause_many rules s o (places_of rules part) Back marks told some (inr (let n = b.0 in omega arith, b.1))
  cause_first part ended (Withdrawn told) marks rest some (inl c) h = cause_shown rules s o part.restarts (places_of rules part) marks told some (given_up told told refl c)
  cause_first part ended (Withdrawn told) marks rest some (inr r) h = cause_shown rules s o part.restarts (places_of rules part) marks told some (removed told told refl r)

  abbrev IsCaused : Part → Type 0
  IsCaused part = IsCauseBy cancelled removing busy part.progress

  pub cause_lowest : (parts : List Part) → All IsEndedPart parts → All (HasPlace rules) parts → All IsCaused parts → HasCause rules s o (marks_noted (map (note rules) parts)) (lowest_status parts)
  cause_lowest [] ended some causes = tt
  cause_lowest (part ∷ parts) ended some causes =
      let e = All-head IsEndedPart part parts ended in
      let cause : IsCause cancelled removing busy e.ended.outcome = subst (IsCauseBy cancelled removing busy) e.is (All-head IsCaused part parts causes) in
      subst (λ ms. HasCause rules s o ms (lowest_status (part ∷ parts))) (sym (marks_first rules part parts e))
      (subst (λ st. HasCause rules s o (marks_left rules part (payload_in e.ended.packet) e.ended.outcome ++ marks_noted (map (note rules) parts)) st) (sym (status_first rules part parts e))
      (cause_first part e.ended e.ended.outcome _ _ (All-head (HasPlace rules) part parts some) cause
      (cause_lowest parts (All-tail IsEndedPart part parts ended) (All-tail (HasPlace rules) part parts some) (All-tail IsCaused part parts causes))))

  -- it is a success exactly where all places are done
  abbrev Agrees : List Mark → NtStatus → Type 0
  Agrees marks status = (status ≡ Success) ↔ IsTrue (list_all is_done marks)

  no_success : (marks : List Mark) (status : NtStatus) → status ≢ Success → list_all is_done marks ≡ false → Agrees marks status
  no_success marks status not h = (λ e. absurd (not e), λ e. absurd (cc (h, e)))

  success_first : (part : Part) (ended : Ended) (outcome : Outcome) (marks : List Mark) (rest : NtStatus) → HasPlace rules part → IsCause cancelled removing busy outcome → Agrees marks rest
      → Agrees (marks_left rules part (payload_in ended.packet) outcome ++ marks) (status_or (failure_of outcome) rest)
  success_first part ended Good marks rest some cause h = subst (λ b. (rest ≡ Success) ↔ IsTrue b) (sym (all_done (sectors_moved rules part.request (payload_in ended.packet)) marks)) h
  success_first part ended (IsBad status) marks rest some cause h = no_success (replicate (places_of rules part) (Failed status) ++ marks) status cause (none_done (places_of rules part) (Failed status) marks some refl)
  success_first part ended (Busy told) marks rest some (inl c) h = no_success (replicate (places_of rules part) Back ++ marks) told (λ e. cc (e, c.1)) (none_done (places_of rules part) Back marks some refl)
  success_first part ended (Busy told) marks rest some (inr (inl r)) h = no_success (replicate (places_of rules part) Back ++ marks) told (λ e. cc (e, r.1)) (none_done (places_of rules part) Back marks some refl)
  success_first part ended (Busy told) marks rest some (inr (inr b)) h = no_success (replicate (places_of rules part) Back ++ marks) told (λ e. cc (e, b.1)) (none_done (places_of rules part) Back marks some refl)
  success_first part ended (Withdrawn told) marks rest some (inl c) h = no_success (map (shown_mark part.restarts) (replicate (places_of rules part) Untouched) ++ marks) told (λ e. cc (e, c.1)) (none_shown part.restarts (places_of rules part) marks some)
  success_first part ended (Withdrawn told) marks rest some (inr r) h = no_success (map (shown_mark part.restarts) (replicate (places_of rules part) Untouched) ++ marks) told (λ e. cc (e, r.1)) (none_shown part.restarts (places_of rules part) marks some)

  pub success_lowest : (parts : List Part) → All IsEndedPart parts → All (HasPlace rules) parts → All IsCaused parts → Agrees (marks_noted (map (note rules) parts)) (lowest_status parts)
  success_lowest [] ended some causes = (λ e. refl, λ e. refl)
  success_lowest (part ∷ parts) ended some causes =
      let e = All-head IsEndedPart part parts ended in
      let cause : IsCause cancelled removing busy e.ended.outcome = subst (IsCauseBy cancelled removing busy) e.is (All-head IsCaused part parts causes) in
      subst (λ ms. Agrees ms (lowest_status (part ∷ parts))) (sym (marks_first rules part parts e))
      (subst (λ st. Agrees (marks_left rules part (payload_in e.ended.packet) e.ended.outcome ++ marks_noted (map (note rules) parts)) st) (sym (status_first rules part parts e))
      (success_first part e.ended e.ended.outcome _ _ (All-head (HasPlace rules) part parts some) cause
      (success_lowest parts (All-tail IsEndedPart part parts ended) (All-tail (HasPlace rules) part parts some) (All-tail IsCaused part parts causes))))

good_first : (cancelled removing : Bool) (busy : ℕ) (outcome : Outcome) (rest : NtStatus) → IsCause cancelled removing busy outcome → status_or (failure_of outcome) rest ≡ Success → (outcome ≡ Good) × (rest ≡ Success)
good_first cancelled removing busy Good rest cause h = (refl, h)
good_first cancelled removing busy (IsBad status) rest cause h = absurd (cause h)
good_first cancelled removing busy (Busy told) rest (inl c) h = absurd (cc (h, c.1))
good_first cancelled removing busy (Busy told) rest (inr (inl r)) h = absurd (cc (h, r.1))
good_first cancelled removing busy (Busy told) rest (inr (inr b)) h = absurd (cc (h, b.1))
good_first cancelled removing busy (Withdrawn told) rest (inl c) h = absurd (cc (h, c.1))
good_first cancelled removing busy (Withdrawn told) rest (inr r) h = absurd (cc (h, r.1))

-- where all succeed, each part did
pub record IsGoodPart (part : Part) : Type 0 where
  pub ended : Ended
  pub is : part.progress ≡ PartEnded ended
  pub good : ended.outcome ≡ Good

abbrev pub IsCausedPart : Bool → Bool → ℕ → Part → Type 0
IsCausedPart cancelled removing busy part = IsCauseBy cancelled removing busy part.progress

pub all_good : (cancelled removing : Bool) (busy : ℕ) (parts : List Part) → All IsEndedPart parts → All (IsCausedPart cancelled removing busy) parts → lowest_status parts ≡ Success → All IsGoodPart parts
all_good cancelled removing busy [] ended causes h = All-nil IsGoodPart
all_good cancelled removing busy (part ∷ parts) ended causes h =
    let e = All-head IsEndedPart part parts ended in
    let cause : IsCause cancelled removing busy e.ended.outcome = subst (IsCauseBy cancelled removing busy) e.is (All-head (IsCausedPart cancelled removing busy) part parts causes) in
    let g = good_first cancelled removing busy e.ended.outcome (lowest_status parts) cause (sym (ap (λ p. status_or (failure_by p) (lowest_status parts)) e.is) ∙ h) in
    All-cons IsGoodPart part parts (record { ended = e.ended; is = e.is; good = g.0 })
    (all_good cancelled removing busy parts (All-tail IsEndedPart part parts ended) (All-tail (IsCausedPart cancelled removing busy) part parts causes) g.1)
