-- An answer is an event that may come, and leaves what a state shows of a sector in order.
use Rattle.std.proofs.Common.{◌≡◌, ◌≢◌, ◌<◌, ℕ, true, List, ◌∷◌, refl, sym, ◌∙◌, subst, arith, length, get_or}
use Rattle.std.specs.Prelude.{IsNone, All, Contains, if◌then◌else◌}
use Rattle.std.specs.List.{list_all}
use Rattle.std.proofs.lemmas.List.Sorted.{All-permutation}
use Rattle.std.proofs.lemmas.List.Elements.{All-head, All-tail, All-cons, All-weaker, All-contains}
use Rattle.ntstatus.specs.declared.NtStatus.{NtStatus}
use Rattle.ntstatus.specs.declared.NtStatus.TheVariants.{Success}
use Rattle.sector.specs.Extents.{IsSector}
use Rattle.srb.specs.declared.Kind.{Kind}
use Rattle.srb.specs.declared.Kind.TheVariants.{Read, Write, Flush}
use Rattle.machine.specs.declared.ClientRequest.{ClientRequest}
use Rattle.machine.specs.declared.Label.TheVariants.{Call, Answer}
use Rattle.machine.specs.Rules.{Rules, is_transfer}
use Rattle.machine.specs.State.{Mark, Untouched, Out, Done, Failed, Back, OpenRequest, State}
use Rattle.machine.specs.Calling.{AnswersRefused}
use Rattle.machine.specs.Answering.{Answers, is_done, bytes_of_mark, answer_bytes}
use Rattle.machine.specs.Numbers.{request_number, IsGiven}
use Rattle.machine.proofs.Permuting.{distinct_first}
use Rattle.machine_laws.specs.EndLaws.{HasOtherNumber}
use Rattle.machine_laws.specs.NumberLaws.{IsNoAnswerOf}
use Rattle.machine_laws.proofs.Marks.{all_right}
use Rattle.machine_laws.proofs.Served.{read_part}
use Rattle.machine_laws.proofs.Serving.{IsRightMark, IsSized}
use Rattle.machine_laws.proofs.Sound.{IsSound}
use Rattle.loss.specs.Held.{Held}
use Rattle.loss.specs.Sessions.{Told}
use Rattle.history_loss.specs.Schedules.{Event, Seen, Effect, IsAt, IsNoFailure, IsOpen, TookEffect, IsAnswer, answered, next_number}
use Rattle.history_loss.proofs.Mirroring.{Ending, IsMarkFor, IsMirrored, IsFateOf, IsFollowed, IsFilled, OwedFor, IsOwedFor, IsBelow, Mirrors, Mirrors-same, requests_seen, pieces_seen, none_owed}
use Rattle.history_loss.proofs.Sending.{first_mirrored}

-- what is right of a sector that a place has got
abbrev IsGot : Rules → ℕ → List Event → Ending → ℕ → ClientRequest → ℕ → List ℕ → Type 0
IsGot rules i past E number q k sector = (q.kind ≡ Read → IsSector rules.sector_size sector) × (IsAt rules i q k → Contains past (Effect number sector)) × (q.kind ≡ Flush → E 0 number) × All (IsNoFailure number k) past

got_mark : (rules : Rules) (i : ℕ) (past : List Event) (E : Ending) (number : ℕ) (q : ClientRequest) (k : ℕ) (m : Mark) → IsMarkFor rules i past E number q k m → IsRightMark (IsGot rules i past E number q) k m
got_mark rules i past E number q k (Done sector) h = h
got_mark rules i past E number q k Untouched h = tt
got_mark rules i past E number q k Out h = tt
got_mark rules i past E number q k (Failed status) h = tt
got_mark rules i past E number q k Back h = tt

-- a flush has a place
pub flush_place : (kind : Kind) (n : ℕ) → kind ≡ Flush → 0 < (if is_transfer kind then n else 1)
flush_place Flush n e = omega arith
flush_place Read n e = absurd (cc (e))
flush_place Write n e = absurd (cc (e))

module _ (rules : Rules) (i : ℕ) (past : List Event) (E : Ending) where
  got : (o : OpenRequest) → IsMirrored rules i past E o → list_all is_done o.marks ≡ true → (k : ℕ) (d : Mark) → k < length o.marks → IsGot rules i past E o.number o.request k (bytes_of_mark (get_or o.marks k d))
  got o mine done k d low =
      all_right (IsGot rules i past E o.number o.request) o.marks k d done (λ j x within. got_mark rules i past E o.number o.request j (get_or o.marks j x) (mine.marks j x within)) low

  -- a request whose places are all done took effect
  took_effect : (o : OpenRequest) (bytes : List ℕ) → IsMirrored rules i past E o → IsSized rules o → list_all is_done o.marks ≡ true → bytes ≡ answer_bytes o.request.kind o.marks
      → (place : ℕ) → IsAt rules i o.request place → TookEffect rules past o.number o.request place bytes
  took_effect o bytes mine sized done is_bytes place at =
      let low : place < length o.marks = rw sized.places at.inside in
      record {
        sector = bytes_of_mark (get_or o.marks place Untouched);
        before = (got o mine done place Untouched low).1 at;
        hands_over = λ read. read_part rules o.request.kind o.marks bytes place read done (λ k d within. (got o mine done k d within).0 read) is_bytes low;
      }

  sized_of : (s : State) (n : ℕ) (status : NtStatus) (bytes : List ℕ) (s' : State) → IsSound rules s → (h : Answers rules s n status bytes s') → IsSized rules h.request
  sized_of s n status bytes s' sound h = All-head (IsSized rules) h.request h.others (All-permutation (IsSized rules) _ _ h.is_open sound.1.sized)

  -- what a flush ends has ended once it is answered SUCCESS
  pub flush_ended : (s : State) (n : ℕ) (status : NtStatus) (bytes : List ℕ) (s' : State) → IsSound rules s → Mirrors rules i past E s → (h : Answers rules s n status bytes s')
      → h.request.request.kind ≡ Flush → status ≡ Success → E 0 n
  flush_ended s n status bytes s' sound m h flush success =
      let o : OpenRequest = h.request in
      let mine : IsMirrored rules i past E o = first_mirrored rules i past E s o h.others h.is_open m in
      let low : 0 < length o.marks = rw (sized_of s n status bytes s' sound h).places (flush_place o.request.kind _ flush) in
      subst (λ number. E 0 number) h.is_number ((got o mine (h.success.0 success) 0 Untouched low).2 flush)

  pub Mirrors-Answers : (E' : Ending) → ((from number : ℕ) → E from number → E' from number) → (s : State) (n : ℕ) (status : NtStatus) (informed : ℕ) (bytes : List ℕ) (s' : State) → IsSound rules s → All IsFilled s.pieces → IsNone s.owed → Mirrors rules i past E s
      → Answers rules s n status bytes s' → Mirrors rules i (Seen (Told (Answer n status informed bytes)) ∷ past) E' s'
  Mirrors-Answers E' ends s n status informed bytes s' sound filled free m h = Mirrors-same rules i (Seen (Told (Answer n status informed bytes)) ∷ past) E' s' _ h.after (record {
    given = All-cons (IsBelow s.next_request) (Seen (Told (Answer n status informed bytes))) past given m.given;
    next = m.next;
    requests = requests_seen rules i E E' (Answer n status informed bytes) past h.others (λ k d low from. ends from (get_or h.others k d).number)
        (All-tail (IsMirrored rules i past E) o h.others (All-permutation (IsMirrored rules i past E) _ _ h.is_open m.requests))
        (All-weaker (λ x. x.number ≢ o.number) (λ x. IsNoAnswerOf x.number (Answer n status informed bytes)) (λ x other e. other (sym e ∙ sym h.is_number)) h.others differ);
    pieces = pieces_seen rules i E E' (Answer n status informed bytes) past h.others s.pieces (λ k d low from. ends from (get_or h.others k d).number) filled
        (All-weaker (IsFollowed rules i past E s.requests) (IsFollowed rules i past E h.others)
        (λ piece f. All-tail (IsFateOf rules i past E piece) o h.others (All-permutation (IsFateOf rules i past E piece) _ _ h.is_open f)) s.pieces m.pieces);
    owed = none_owed rules i (Seen (Told (Answer n status informed bytes)) ∷ past) E' h.others s.owed free;
  })
    where
      o : OpenRequest
      o = h.request

      given : n < s.next_request
      given = subst (λ number. number < s.next_request) h.is_number (All-head (IsGiven s.next_request) o h.others (All-permutation (IsGiven s.next_request) _ _ h.is_open sound.0.given))

      differ : All (λ x. x.number ≢ o.number) h.others
      differ = distinct_first request_number s.requests o h.others sound.0.requests h.is_open

  pub answers : (g : Held) (s : State) (n : ℕ) (status : NtStatus) (bytes : List ℕ) (s' : State) → IsSound rules s → Mirrors rules i past E s → (h : Answers rules s n status bytes s')
      → IsAnswer rules i past g n status bytes (answered (next_number past) n h.request.request.kind status g)
  answers g s n status bytes s' sound m h =
      let o : OpenRequest = h.request in
      let mine : IsMirrored rules i past E o = first_mirrored rules i past E s o h.others h.is_open m in
      record {
        request = o.request;
        is_open = subst (λ number. IsOpen past number o.request) h.is_number mine.is_open;
        effect = λ e place at. subst (λ number. TookEffect rules past number o.request place bytes) h.is_number
            (took_effect o bytes mine (sized_of s n status bytes s' sound h) (h.success.0 e) h.hands_back place at);
        sound = λ e place low. subst (λ number. All (IsNoFailure number place) past) h.is_number
            (got o mine (h.success.0 e) place Untouched (rw (sized_of s n status bytes s' sound h).places low)).3;
        after = refl;
      }

  pub owed_request : (s : State) (n : ℕ) (status : NtStatus) (informed : ℕ) (bytes : List ℕ) (s' : State) → Mirrors rules i past E s → AnswersRefused s n status informed bytes s'
      → OwedFor rules i past s.requests (record { number = n; status = status })
  owed_request s n status informed bytes s' m h = subst (λ w. IsOwedFor rules i past s.requests w) h.is_owed m.owed

  pub Mirrors-AnswersRefused : (s : State) (n : ℕ) (status : NtStatus) (informed : ℕ) (bytes : List ℕ) (s' : State) → All IsFilled s.pieces → Mirrors rules i past E s
      → AnswersRefused s n status informed bytes s' → Mirrors rules i (Seen (Told (Answer n status informed bytes)) ∷ past) E s'
  Mirrors-AnswersRefused s n status informed bytes s' filled m h =
      let owed : OwedFor rules i past s.requests (record { number = n; status = status }) = owed_request s n status informed bytes s' m h in
      Mirrors-same rules i (Seen (Told (Answer n status informed bytes)) ∷ past) E s' _ h.after (record {
        given = All-cons (IsBelow s.next_request) (Seen (Told (Answer n status informed bytes))) past
            (All-contains (IsBelow s.next_request) past (Seen (Told (Call n owed.request))) m.given owed.is_open.called) m.given;
        next = m.next;
        requests = requests_seen rules i E E (Answer n status informed bytes) past s.requests (λ k d low from e. e) m.requests
            (All-weaker (HasOtherNumber n) (λ x. IsNoAnswerOf x.number (Answer n status informed bytes)) (λ x other e. other (sym e)) s.requests owed.apart);
        pieces = pieces_seen rules i E E (Answer n status informed bytes) past s.requests s.pieces (λ k d low from e. e) filled m.pieces;
        owed = tt;
      })

  -- a refused call that is answered SUCCESS has no place, so it is no flush
  pub answers_refused : (g : Held) (s : State) (n : ℕ) (status : NtStatus) (informed : ℕ) (bytes : List ℕ) (s' : State) → Mirrors rules i past E s
      → AnswersRefused s n status informed bytes s' → IsAnswer rules i past g n status bytes g
  answers_refused g s n status informed bytes s' m h =
      let owed : OwedFor rules i past s.requests (record { number = n; status = status }) = owed_request s n status informed bytes s' m h in
      record {
        request = owed.request;
        is_open = owed.is_open;
        effect = λ e place at. absurd (owed.empty e place at.inside);
        sound = λ e place low. absurd (owed.empty e place low);
        after = unchanged owed.request.kind status (λ flush success. owed.empty success 0 (flush_place owed.request.kind _ flush));
      }
    where
      unchanged : (kind : Kind) (status : NtStatus) → (kind ≡ Flush → status ≡ Success → ⊥) → g ≡ answered (next_number past) n kind status g
      unchanged Flush Success never = absurd (never refl refl)
      unchanged Flush _ never = refl
      unchanged Read status never = refl
      unchanged Write status never = refl
