-- What a state of the machine shows of one sector, beside the events of its schedule so far.
use Rattle.std.proofs.Common.{◌≡◌, ◌≢◌, ◌<◌, ◌≤◌, ℕ, suc, ◌+◌, List, ◌∷◌, Option, Some, None, refl, sym, ◌∙◌, subst, arith, length, get_or}
use Rattle.std.specs.Prelude.{IsNone, IsPermutation, All, Contains}
use Rattle.std.proofs.lemmas.List.Sorted.{IsPermutation-sym, All-permutation}
use Rattle.std.proofs.lemmas.List.Elements.{All-cons, All-weaker, Contains-get_or}
use Rattle.ntstatus.specs.declared.NtStatus.TheVariants.{Success}
use Rattle.sector.specs.declared.Extent.{Extent}
use Rattle.sector.specs.Extents.{IsSector}
use Rattle.sector.proofs.Splicing.{AllAt}
use Rattle.srb.specs.Fate.{Fate, Fresh, Acted, Faulted}
use Rattle.srb.specs.declared.Kind.TheVariants.{Read, Flush}
use Rattle.machine.specs.declared.ClientRequest.{ClientRequest}
use Rattle.machine.specs.declared.Label.{Label}
use Rattle.machine.specs.declared.Label.TheVariants.{Call, Device, Answer, Cancel, Pause, Resume, Remove, Surprise, Removed}
use Rattle.machine.specs.Rules.{Rules, place_count}
use Rattle.machine.specs.State.{Mark, Untouched, Out, Done, Failed, Back, OpenRequest, Owed, Piece, State, IsSame}
use Rattle.machine.specs.Pieces.{HasFilled}
use Rattle.machine_laws.specs.NumberLaws.{IsNoAnswerOf}
use Rattle.machine_laws.specs.EndLaws.{HasOtherNumber}
use Rattle.loss.specs.Sessions.{Told, Lost, Ended}
use Rattle.history_loss.specs.Schedules.{Event, Seen, Effect, Fails, next_number, IsAdmitted, IsAt, IsIdle, IsNoAnswer, IsNoEffect, IsNoFailure, IsOpen}

-- what is kept of a flush: by the number from which on overwritten values count, and its own
abbrev pub Ending : Type 1
Ending = ℕ → ℕ → Type 0

-- MARKS, FATES, REQUESTS

-- a place that is done had its effect, and one that waits to be sent had none and did not fail
abbrev pub IsMarkFor : Rules → ℕ → List Event → Ending → ℕ → ClientRequest → ℕ → Mark → Type 0
IsMarkFor rules i past E number q k (Done sector) =
    (q.kind ≡ Read → IsSector rules.sector_size sector) × (IsAt rules i q k → Contains past (Effect number sector)) × (q.kind ≡ Flush → E 0 number) × All (IsNoFailure number k) past
IsMarkFor rules i past E number q k Untouched = IsIdle rules i past number q k
IsMarkFor rules i past E number q k Back = IsIdle rules i past number q k
IsMarkFor rules i past E number q k Out = Unit {0}
IsMarkFor rules i past E number q k (Failed status) = Unit {0}

-- a piece that acted had its effects, and a fresh one none
abbrev pub IsFateFor : Rules → ℕ → List Event → Ending → ℕ → ℕ → ClientRequest → Extent → Fate → Type 0
IsFateFor rules i past E piece number q places Fresh =
    ((k : ℕ) → places.first ≤ k → k < places.first + places.count → IsIdle rules i past number q k) × (q.kind ≡ Flush → E (suc piece) number)
IsFateFor rules i past E piece number q places (Acted sectors) =
    ((j : ℕ) (d : List ℕ) → j < length sectors
    → (q.kind ≡ Read → IsSector rules.sector_size (get_or sectors j d)) × (IsAt rules i q (places.first + j) → Contains past (Effect number (get_or sectors j d))) × All (IsNoFailure number (places.first + j)) past)
    × (q.kind ≡ Flush → E 0 number)
IsFateFor rules i past E piece number q places Faulted = Unit {0}

pub record IsMirrored (rules : Rules) (i : ℕ) (past : List Event) (E : Ending) (o : OpenRequest) : Type 0 where
  pub is_open : IsOpen past o.number o.request
  pub admitted : IsAdmitted rules o.request
  pub marks : AllAt (IsMarkFor rules i past E o.number o.request) o.marks

abbrev pub IsFateOf : Rules → ℕ → List Event → Ending → Piece → OpenRequest → Type 0
IsFateOf rules i past E piece o = o.number ≡ piece.owner → IsFateFor rules i past E piece.number o.number o.request piece.places piece.fate

-- what has acted handed over as many sectors as it has places
abbrev pub IsFilled : Piece → Type 0
IsFilled piece = HasFilled piece.places.count piece.fate

abbrev pub IsFollowed : Rules → ℕ → List Event → Ending → List OpenRequest → Piece → Type 0
IsFollowed rules i past E requests piece = All (IsFateOf rules i past E piece) requests

-- a refused call awaits its answer, which no open request has; if it is a success, the request has no place
pub record OwedFor (rules : Rules) (i : ℕ) (past : List Event) (requests : List OpenRequest) (owed : Owed) : Type 0 where
  pub request : ClientRequest
  pub is_open : IsOpen past owed.number request
  pub empty : owed.status ≡ Success → (k : ℕ) → k < place_count rules request → ⊥
  pub apart : All (HasOtherNumber owed.number) requests

abbrev pub IsOwedFor : Rules → ℕ → List Event → List OpenRequest → Option Owed → Type 0
IsOwedFor rules i past requests None = Unit {0}
IsOwedFor rules i past requests (Some owed) = OwedFor rules i past requests owed

-- the number of an event was given
abbrev pub IsBelow : ℕ → Event → Type 0
IsBelow next (Seen (Told (Call number q))) = number < next
IsBelow next (Seen (Told (Answer number status informed bytes))) = number < next
IsBelow next (Seen _) = Unit {0}
IsBelow next (Effect number sector) = number < next
IsBelow next (Fails number place) = number < next

pub record Mirrors (rules : Rules) (i : ℕ) (past : List Event) (E : Ending) (s : State) : Type 0 where
  pub given : All (IsBelow s.next_request) past
  pub next : next_number past ≡ s.next_request
  pub requests : All (IsMirrored rules i past E) s.requests
  pub pieces : All (IsFollowed rules i past E s.requests) s.pieces
  pub owed : IsOwedFor rules i past s.requests s.owed

-- ONE MORE EVENT

pub further : {X : Type 0} (y : X) (xs : List X) (x : X) → Contains xs x → Contains (y ∷ xs) x
further y xs x (k, low, is) = (suc k, omega arith, is)

pub newest : {X : Type 0} (x : X) (xs : List X) → Contains (x ∷ xs) x
newest x xs = (0, omega arith, refl)

pub below_more : (a b : ℕ) → a ≤ b → (e : Event) → IsBelow a e → IsBelow b e
below_more a b more (Seen (Told (Call number q))) h = omega arith
below_more a b more (Seen (Told (Answer number status informed bytes))) h = omega arith
below_more a b more (Seen (Told (Device label))) h = tt
below_more a b more (Seen (Told (Cancel number))) h = tt
below_more a b more (Seen (Told Pause)) h = tt
below_more a b more (Seen (Told Resume)) h = tt
below_more a b more (Seen (Told Remove)) h = tt
below_more a b more (Seen (Told Surprise)) h = tt
below_more a b more (Seen (Told Removed)) h = tt
below_more a b more (Seen Lost) h = tt
below_more a b more (Seen Ended) h = tt
below_more a b more (Effect number sector) h = omega arith
below_more a b more (Fails number place) h = omega arith

-- no event of a number that is not given yet
pub below_no_answer : (n : ℕ) (e : Event) → IsBelow n e → IsNoAnswer n e
below_no_answer n (Seen (Told (Call number q))) h = tt
below_no_answer n (Seen (Told (Answer number status informed bytes))) h = λ e. absurd (omega arith)
below_no_answer n (Seen (Told (Device label))) h = tt
below_no_answer n (Seen (Told (Cancel number))) h = tt
below_no_answer n (Seen (Told Pause)) h = tt
below_no_answer n (Seen (Told Resume)) h = tt
below_no_answer n (Seen (Told Remove)) h = tt
below_no_answer n (Seen (Told Surprise)) h = tt
below_no_answer n (Seen (Told Removed)) h = tt
below_no_answer n (Seen Lost) h = tt
below_no_answer n (Seen Ended) h = tt
below_no_answer n (Effect number sector) h = tt
below_no_answer n (Fails number place) h = tt

pub below_no_effect : (n : ℕ) (e : Event) → IsBelow n e → IsNoEffect n e
below_no_effect n (Seen line) h = tt
below_no_effect n (Effect number sector) h = λ e. absurd (omega arith)
below_no_effect n (Fails number place) h = tt

pub below_no_failure : (n k : ℕ) (e : Event) → IsBelow n e → IsNoFailure n k e
below_no_failure n k (Seen line) h = tt
below_no_failure n k (Effect number sector) h = tt
below_no_failure n k (Fails number place) h = λ e. absurd (omega arith)

pub open_more : (e : Event) (past : List Event) (number : ℕ) (q : ClientRequest) → IsNoAnswer number e → IsOpen past number q → IsOpen (e ∷ past) number q
open_more e past number q other h =
    record { called = further e past _ h.called; awaits = All-cons (IsNoAnswer number) e past other h.awaits }

-- the event neither has an effect of the request here nor a failure of its place
pub record IsApart (number k : ℕ) (here : Type 0) (e : Event) : Type 0 where
  pub effect : here → IsNoEffect number e
  pub failure : IsNoFailure number k e

pub idle_more : (rules : Rules) (i : ℕ) (e : Event) (past : List Event) (number : ℕ) (q : ClientRequest) (k : ℕ) → IsApart number k (IsAt rules i q k) e → IsIdle rules i past number q k → IsIdle rules i (e ∷ past) number q k
idle_more rules i e past number q k apart h = record {
  effect = λ at. All-cons (IsNoEffect number) e past (apart.effect at) (h.effect at);
  failure = All-cons (IsNoFailure number k) e past apart.failure h.failure;
}

module _ (rules : Rules) (i : ℕ) (E E' : Ending) (e : Event) (past : List Event) (number : ℕ) (q : ClientRequest) (ends : (from : ℕ) → E from number → E' from number) where
  pub mark_more : (k : ℕ) (m : Mark) → ((m ≡ Out → ⊥) → IsApart number k (IsAt rules i q k) e) → IsMarkFor rules i past E number q k m → IsMarkFor rules i (e ∷ past) E' number q k m
  mark_more k (Done sector) apart h =
      (h.0, λ at. further e past _ (h.1 at), λ flush. ends 0 (h.2 flush), All-cons (IsNoFailure number k) e past (apart (λ is. absurd (cc (is)))).failure h.3)
  mark_more k Untouched apart h = idle_more rules i e past number q k (apart (λ is. absurd (cc (is)))) h
  mark_more k Back apart h = idle_more rules i e past number q k (apart (λ is. absurd (cc (is)))) h
  mark_more k Out apart h = tt
  mark_more k (Failed status) apart h = tt

  pub fate_more : (piece : ℕ) (places : Extent) (fate : Fate) → HasFilled places.count fate
      → ((fate ≡ Faulted → ⊥) → (k : ℕ) → places.first ≤ k → k < places.first + places.count → IsApart number k (IsAt rules i q k) e)
      → IsFateFor rules i past E piece number q places fate → IsFateFor rules i (e ∷ past) E' piece number q places fate
  fate_more piece places Fresh filled apart h =
      (λ k low high. idle_more rules i e past number q k (apart (λ is. absurd (cc (is))) k low high) (h.0 k low high), λ flush. ends (suc piece) (h.1 flush))
  fate_more piece places (Acted sectors) filled apart h = (
    λ j d low. (
      (h.0 j d low).0,
      λ at. further e past _ ((h.0 j d low).1 at),
      All-cons (IsNoFailure number (places.first + j)) e past (apart (λ is. absurd (cc (is))) (places.first + j) (omega arith) (omega arith)).failure (h.0 j d low).2,
    ),
    λ flush. ends 0 (h.1 flush),
  )
  fate_more piece places Faulted filled apart h = tt

-- THE SAME EVENTS, ANOTHER SECTOR

module _ (rules : Rules) (i : ℕ) (E E' : Ending) (past : List Event) (number : ℕ) (q : ClientRequest) (ends : (from : ℕ) → E from number → E' from number) where
  pub mark_ends : (k : ℕ) (m : Mark) → IsMarkFor rules i past E number q k m → IsMarkFor rules i past E' number q k m
  mark_ends k (Done sector) h = (h.0, h.1, λ flush. ends 0 (h.2 flush), h.3)
  mark_ends k Untouched h = h
  mark_ends k Back h = h
  mark_ends k Out h = tt
  mark_ends k (Failed status) h = tt

  pub fate_ends : (piece : ℕ) (places : Extent) (fate : Fate) → IsFateFor rules i past E piece number q places fate → IsFateFor rules i past E' piece number q places fate
  fate_ends piece places Fresh h = (h.0, λ flush. ends (suc piece) (h.1 flush))
  fate_ends piece places (Acted sectors) h = (h.0, λ flush. ends 0 (h.1 flush))
  fate_ends piece places Faulted h = tt

pub no_effect_told : (number k : ℕ) (here : Type 0) (label : Label) → IsApart number k here (Seen (Told label))
no_effect_told number k here label = record { effect = λ at. tt; failure = tt }

module _ (rules : Rules) (i : ℕ) (E E' : Ending) (label : Label) (past : List Event) where
  -- what is open stays so beside a label of another number
  pub requests_seen : (os : List OpenRequest) → ((k : ℕ) (d : OpenRequest) → k < length os → (from : ℕ) → E from (get_or os k d).number → E' from (get_or os k d).number)
      → All (IsMirrored rules i past E) os → All (λ o. IsNoAnswerOf o.number label) os → All (IsMirrored rules i (Seen (Told label) ∷ past) E') os
  requests_seen os ends h other k d low =
      let m : IsMirrored rules i past E (get_or os k d) = h k d low in
      record {
        is_open = open_more (Seen (Told label)) past _ _ (other k d low) m.is_open;
        admitted = m.admitted;
        marks = λ j x within. mark_more rules i E E' (Seen (Told label)) past (get_or os k d).number (get_or os k d).request (ends k d low) j (get_or (get_or os k d).marks j x)
            (λ unsent. no_effect_told (get_or os k d).number j (IsAt rules i (get_or os k d).request j) label) (m.marks j x within);
      }

  pub pieces_seen : (os : List OpenRequest) (pieces : List Piece) → ((k : ℕ) (d : OpenRequest) → k < length os → (from : ℕ) → E from (get_or os k d).number → E' from (get_or os k d).number)
      → All IsFilled pieces → All (IsFollowed rules i past E os) pieces → All (IsFollowed rules i (Seen (Told label) ∷ past) E' os) pieces
  pieces_seen os pieces ends filled h k d low j x within = λ owner.
      fate_more rules i E E' (Seen (Told label)) past (get_or os j x).number (get_or os j x).request (ends j x within) (get_or pieces k d).number (get_or pieces k d).places (get_or pieces k d).fate
      (filled k d low) (λ stale v from below. no_effect_told (get_or os j x).number v (IsAt rules i (get_or os j x).request v) label) (h k d low j x within owner)

-- THE SAME STATE, OTHERWISE

module _ (rules : Rules) (i : ℕ) (past : List Event) (E : Ending) where
  pub followed_permuted : (os os' : List OpenRequest) → IsPermutation os os' → (piece : Piece) → IsFollowed rules i past E os piece → IsFollowed rules i past E os' piece
  followed_permuted os os' perm piece h = All-permutation (IsFateOf rules i past E piece) os os' perm h

  owed_permuted : (os os' : List OpenRequest) → IsPermutation os os' → (owed : Option Owed) → IsOwedFor rules i past os owed → IsOwedFor rules i past os' owed
  owed_permuted os os' perm None h = tt
  owed_permuted os os' perm (Some owed) h =
      record { request = h.request; is_open = h.is_open; empty = h.empty; apart = All-permutation (HasOtherNumber owed.number) os os' perm h.apart }

  pub none_owed : (os : List OpenRequest) (owed : Option Owed) → IsNone owed → IsOwedFor rules i past os owed
  none_owed os None h = tt
  none_owed os (Some owed) h = cc (h)

  pub Mirrors-same : (s t : State) → IsSame s t → Mirrors rules i past E t → Mirrors rules i past E s
  Mirrors-same s t h m =
      let back : IsPermutation t.requests s.requests = IsPermutation-sym _ _ h.requests in
      record {
        given = rw h.next_request m.given;
        next = m.next ∙ sym h.next_request;
        requests = All-permutation (IsMirrored rules i past E) _ _ back m.requests;
        pieces = All-weaker (IsFollowed rules i past E t.requests) (IsFollowed rules i past E s.requests) (λ piece f. followed_permuted _ _ back piece f) s.pieces
            (All-permutation (IsFollowed rules i past E t.requests) _ _ (IsPermutation-sym _ _ h.pieces) m.pieces);
        owed = rw h.owed (owed_permuted _ _ back t.owed m.owed);
      }

  -- other requests in place of the open ones
  pub with_requests : (s : State) (os : List OpenRequest) → IsNone s.owed → Mirrors rules i past E s → All (IsMirrored rules i past E) os
      → ((piece : Piece) → IsFollowed rules i past E s.requests piece → IsFollowed rules i past E os piece) → Mirrors rules i past E (record s { requests = os })
  with_requests s os free m mirrored follows = record {
    given = m.given;
    next = m.next;
    requests = mirrored;
    pieces = All-weaker (IsFollowed rules i past E s.requests) (IsFollowed rules i past E os) follows s.pieces m.pieces;
    owed = none_owed os s.owed free;
  }

  -- with another sector, of which the same is kept of each number given
  pub with_ends : (E' : Ending) (s : State) → ((k : ℕ) (d : OpenRequest) → k < length s.requests → (from : ℕ) → E from (get_or s.requests k d).number → E' from (get_or s.requests k d).number)
      → Mirrors rules i past E s → Mirrors rules i past E' s
  with_ends E' s ends m = record {
    given = m.given;
    next = m.next;
    requests = λ k d low.
        let o : OpenRequest = get_or s.requests k d in
        let x : IsMirrored rules i past E o = m.requests k d low in
        record { is_open = x.is_open; admitted = x.admitted; marks = λ j y within. mark_ends rules i E E' past o.number o.request (ends k d low) j (get_or o.marks j y) (x.marks j y within) };
    pieces = λ k d low j x within owner.
        fate_ends rules i E E' past (get_or s.requests j x).number (get_or s.requests j x).request (ends j x within) (get_or s.pieces k d).number (get_or s.pieces k d).places (get_or s.pieces k d).fate
        (m.pieces k d low j x within owner);
    owed = m.owed;
  }

-- AN EVENT OF A PLACE

-- the place is out, and each piece that covers it failed
pub record IsTaken (s : State) (n k : ℕ) : Type 0 where
  pub marks : (o : OpenRequest) → Contains s.requests o → o.number ≡ n → (d : Mark) → k < length o.marks → get_or o.marks k d ≡ Out
  pub pieces : (piece : Piece) → Contains s.pieces piece → piece.owner ≡ n → (piece.fate ≡ Faulted → ⊥) → piece.places.first ≤ k → k < piece.places.first + piece.places.count → ⊥

-- an event that is of that place alone
pub record IsOfPlace (rules : Rules) (i : ℕ) (s : State) (past : List Event) (n k : ℕ) (e : Event) : Type 0 where
  pub apart : (o : OpenRequest) → Contains s.requests o → (j : ℕ) → (o.number ≡ n → j ≢ k) → IsApart o.number j (IsAt rules i o.request j) e
  pub below : IsBelow s.next_request e
  pub no_answer : (number : ℕ) → IsNoAnswer number e
  pub next : next_number (e ∷ past) ≡ next_number past

module _ (rules : Rules) (i : ℕ) (past : List Event) (E E' : Ending) (s : State) (n k : ℕ) (e : Event) (taken : IsTaken s n k) (of : IsOfPlace rules i s past n k e)
    (ends : (o : OpenRequest) → Contains s.requests o → (from : ℕ) → E from o.number → E' from o.number) (free : IsNone s.owed) (filled : All IsFilled s.pieces) where
  event_mark : (o : OpenRequest) → Contains s.requests o → (j : ℕ) (d : Mark) → j < length o.marks → IsMarkFor rules i past E o.number o.request j (get_or o.marks j d) → IsMarkFor rules i (e ∷ past) E' o.number o.request j (get_or o.marks j d)
  event_mark o there j d low h =
      mark_more rules i E E' e past o.number o.request (ends o there) j (get_or o.marks j d)
      (λ other. of.apart o there j (λ same here. other (subst (λ v. get_or o.marks v d ≡ Out) (sym here) (taken.marks o there same d (subst (λ v. v < length o.marks) here low))))) h

  event_fate : (piece : Piece) → Contains s.pieces piece → IsFilled piece → (o : OpenRequest) → Contains s.requests o → IsFateOf rules i past E piece o → IsFateOf rules i (e ∷ past) E' piece o
  event_fate piece out is_filled o there h = λ owner.
      fate_more rules i E E' e past o.number o.request (ends o there) piece.number piece.places piece.fate is_filled
      (λ stale j from below. of.apart o there j (λ same here. taken.pieces piece out (sym owner ∙ same) stale (subst (λ v. piece.places.first ≤ v) here from) (subst (λ v. v < piece.places.first + piece.places.count) here below))) (h owner)

  pub Mirrors-event : Mirrors rules i past E s → Mirrors rules i (e ∷ past) E' s
  Mirrors-event m = record {
    given = All-cons (IsBelow s.next_request) e past of.below m.given;
    next = of.next ∙ m.next;
    requests = λ v d low.
        let o : OpenRequest = get_or s.requests v d in
        let there : Contains s.requests o = Contains-get_or s.requests v d low in
        let x : IsMirrored rules i past E o = m.requests v d low in
        record { is_open = open_more e past o.number o.request (of.no_answer o.number) x.is_open; admitted = x.admitted; marks = λ j y within. event_mark o there j y within (x.marks j y within) };
    pieces = λ v d low j x within.
        event_fate (get_or s.pieces v d) (Contains-get_or s.pieces v d low) (filled v d low) (get_or s.requests j x) (Contains-get_or s.requests j x within) (m.pieces v d low j x within);
    owed = none_owed rules i (e ∷ past) E' s.requests s.owed free;
  }
