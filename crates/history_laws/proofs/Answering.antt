-- An answer is an event that may come, and leaves what a state shows of a sector in order.
use Rattle.std.proofs.Common.{◌≡◌, ◌≢◌, ◌<◌, ℕ, true, List, ◌∷◌, sym, ◌∙◌, subst, length, get_or}
use Rattle.std.specs.Prelude.{IsNone, All, Contains}
use Rattle.std.specs.List.{list_all}
use Rattle.std.proofs.lemmas.List.Sorted.{All-permutation}
use Rattle.std.proofs.lemmas.List.Elements.{All-head, All-tail, All-cons, All-weaker, All-contains}
use Rattle.ntstatus.specs.declared.NtStatus.{NtStatus}
use Rattle.sector.specs.Extents.{IsSector}
use Rattle.srb.specs.declared.Kind.TheVariants.{Read}
use Rattle.machine.specs.declared.ClientRequest.{ClientRequest}
use Rattle.machine.specs.declared.Label.TheVariants.{Call, Answer}
use Rattle.machine.specs.Rules.{Rules}
use Rattle.machine.specs.State.{Mark, Untouched, Out, Done, Failed, Back, OpenRequest, State}
use Rattle.machine.specs.Calling.{AnswersRefused}
use Rattle.machine.specs.Answering.{Answers, is_done, bytes_of_mark, answer_bytes}
use Rattle.machine.specs.Numbers.{request_number, IsGiven}
use Rattle.machine.proofs.Permuting.{distinct_first}
use Rattle.machine_laws.specs.EndLaws.{HasOtherNumber}
use Rattle.machine_laws.specs.NumberLaws.{IsNoAnswerOf}
use Rattle.machine_laws.proofs.Marks.{all_right}
use Rattle.machine_laws.proofs.Served.{read_part}
use Rattle.machine_laws.proofs.Serving.{IsRightMark, IsSized}
use Rattle.machine_laws.proofs.Sound.{IsSound}
use Rattle.history_laws.specs.Schedules.{Event, Seen, Effect, IsAt, IsOpen, TookEffect, IsAnswer}
use Rattle.history_laws.proofs.Mirroring.{IsMarkFor, IsMirrored, IsFateOf, IsFollowed, OwedFor, IsOwedFor, IsBelow, Mirrors, Mirrors-same, requests_seen, pieces_seen, none_owed}
use Rattle.history_laws.proofs.Sending.{first_mirrored}

-- what is right of a sector that a place has got
abbrev IsGot : Rules → ℕ → ℕ → List Event → ℕ → ClientRequest → ℕ → List ℕ → Type 0
IsGot rules p i past number q k sector = (q.kind ≡ Read → IsSector rules.sector_size sector) × (IsAt rules p i q k → Contains past (Effect number sector))

got_mark : (rules : Rules) (p i : ℕ) (past : List Event) (number : ℕ) (q : ClientRequest) (k : ℕ) (m : Mark) → IsMarkFor rules p i past number q k m → IsRightMark (IsGot rules p i past number q) k m
got_mark rules p i past number q k (Done sector) h = h
got_mark rules p i past number q k Untouched h = tt
got_mark rules p i past number q k Out h = tt
got_mark rules p i past number q k (Failed status) h = tt
got_mark rules p i past number q k Back h = tt

module _ (rules : Rules) (p i : ℕ) (start : List ℕ) (past : List Event) where
  -- a request whose places are all done took effect
  took_effect : (o : OpenRequest) (bytes : List ℕ) → IsMirrored rules p i past o → IsSized rules o → list_all is_done o.marks ≡ true → bytes ≡ answer_bytes o.request.kind o.marks
      → (place : ℕ) → IsAt rules p i o.request place → TookEffect rules past o.number o.request place bytes
  took_effect o bytes mine sized done is_bytes place at =
      let got : (k : ℕ) → k < length o.marks → IsGot rules p i past o.number o.request k (bytes_of_mark (get_or o.marks k Untouched)) =
      λ k low. all_right (IsGot rules p i past o.number o.request) o.marks k Untouched done
      (λ j d within. got_mark rules p i past o.number o.request j (get_or o.marks j d) (mine.marks j d within)) low in
      let low : place < length o.marks = rw sized.places at.inside in
      record {
        sector = bytes_of_mark (get_or o.marks place Untouched);
        before = (got place low).1 at;
        hands_over = λ read. read_part rules o.request.kind o.marks bytes place read done (sized_at read) is_bytes low;
      }
    where
      sized_at : o.request.kind ≡ Read → (k : ℕ) (d : Mark) → k < length o.marks → IsSector rules.sector_size (bytes_of_mark (get_or o.marks k d))
      sized_at read k d within =
          (all_right (IsGot rules p i past o.number o.request) o.marks k d done (λ j x inside. got_mark rules p i past o.number o.request j (get_or o.marks j x) (mine.marks j x inside)) within).0 read

  pub Mirrors-Answers : (s : State) (n : ℕ) (status : NtStatus) (informed : ℕ) (bytes : List ℕ) (s' : State) → IsSound rules s → IsNone s.owed → Mirrors rules p i start past s
      → Answers rules s n status bytes s' → IsAnswer rules p i past n status bytes × Mirrors rules p i start (Seen (Answer n status informed bytes) ∷ past) s'
  Mirrors-Answers s n status informed bytes s' sound free m h = (is_answer, mirrors)
    where
      o : OpenRequest
      o = h.request

      mine : IsMirrored rules p i past o
      mine = first_mirrored rules p i start past s o h.others h.is_open m

      is_answer : IsAnswer rules p i past n status bytes
      is_answer = record {
        request = o.request;
        is_open = subst (λ number. IsOpen past number o.request) h.is_number mine.is_open;
        effect = λ e place at. subst (λ number. TookEffect rules past number o.request place bytes) h.is_number
            (took_effect o bytes mine (All-head (IsSized rules) o h.others (All-permutation (IsSized rules) _ _ h.is_open sound.1.sized)) (h.success.0 e) h.hands_back place at);
      }

      given : n < s.next_request
      given = subst (λ number. number < s.next_request) h.is_number (All-head (IsGiven s.next_request) o h.others (All-permutation (IsGiven s.next_request) _ _ h.is_open sound.0.given))

      differ : All (λ x. x.number ≢ o.number) h.others
      differ = distinct_first request_number s.requests o h.others sound.0.requests h.is_open

      mirrors : Mirrors rules p i start (Seen (Answer n status informed bytes) ∷ past) s'
      mirrors = Mirrors-same rules p i start (Seen (Answer n status informed bytes) ∷ past) s' _ h.after (record {
        given = All-cons (IsBelow s.next_request) (Seen (Answer n status informed bytes)) past given m.given;
        value = m.value;
        requests = requests_seen rules p i (Answer n status informed bytes) past h.others
            (All-tail (IsMirrored rules p i past) o h.others (All-permutation (IsMirrored rules p i past) _ _ h.is_open m.requests))
            (All-weaker (λ x. x.number ≢ o.number) (λ x. IsNoAnswerOf x.number (Answer n status informed bytes)) (λ x other e. other (sym e ∙ sym h.is_number)) h.others differ);
        pieces = pieces_seen rules p i (Answer n status informed bytes) past h.others s.pieces
            (All-weaker (IsFollowed rules p i past s.requests) (IsFollowed rules p i past h.others)
            (λ piece f. All-tail (IsFateOf rules p i past piece) o h.others (All-permutation (IsFateOf rules p i past piece) _ _ h.is_open f)) s.pieces m.pieces);
        owed = none_owed rules p i start (Seen (Answer n status informed bytes) ∷ past) h.others s.owed free;
      })

  pub Mirrors-AnswersRefused : (s : State) (n : ℕ) (status : NtStatus) (informed : ℕ) (bytes : List ℕ) (s' : State) → Mirrors rules p i start past s
      → AnswersRefused s n status informed bytes s' → IsAnswer rules p i past n status bytes × Mirrors rules p i start (Seen (Answer n status informed bytes) ∷ past) s'
  Mirrors-AnswersRefused s n status informed bytes s' m h = (is_answer, mirrors)
    where
      owed : OwedFor rules p i past s.requests (record { number = n; status = status })
      owed = subst (λ w. IsOwedFor rules p i past s.requests w) h.is_owed m.owed

      is_answer : IsAnswer rules p i past n status bytes
      is_answer = record { request = owed.request; is_open = owed.is_open; effect = λ e place at. absurd (owed.nowhere e place at) }

      given : n < s.next_request
      given = All-contains (IsBelow s.next_request) past (Seen (Call n owed.request)) m.given owed.is_open.called

      mirrors : Mirrors rules p i start (Seen (Answer n status informed bytes) ∷ past) s'
      mirrors = Mirrors-same rules p i start (Seen (Answer n status informed bytes) ∷ past) s' _ h.after (record {
        given = All-cons (IsBelow s.next_request) (Seen (Answer n status informed bytes)) past given m.given;
        value = m.value;
        requests = requests_seen rules p i (Answer n status informed bytes) past s.requests m.requests
            (All-weaker (HasOtherNumber n) (λ x. IsNoAnswerOf x.number (Answer n status informed bytes)) (λ x other e. other (sym e)) s.requests owed.apart);
        pieces = pieces_seen rules p i (Answer n status informed bytes) past s.requests s.pieces m.pieces;
        owed = tt;
      })
