-- What a state of the machine shows of one sector, beside the events of its schedule so far.
use Rattle.std.proofs.Common.{◌≡◌, ◌<◌, ◌≤◌, ℕ, suc, ◌+◌, true, false, List, ◌∷◌, Option, Some, None, refl, ◌∙◌, ap, arith, length, get_or}
use Rattle.std.specs.Prelude.{IsNone, IsPermutation, All, Contains, is_none, slice_get}
use Rattle.std.proofs.lemmas.List.Sorted.{IsPermutation-sym, All-permutation}
use Rattle.std.proofs.lemmas.List.Elements.{All-cons, All-weaker}
use Rattle.ntstatus.specs.declared.NtStatus.TheVariants.{Success}
use Rattle.sector.specs.declared.Extent.{Extent}
use Rattle.sector.specs.Extents.{IsSector}
use Rattle.sector.proofs.Splicing.{AllAt}
use Rattle.srb.specs.Fate.{Fate, Fresh, Acted, Faulted}
use Rattle.srb.specs.declared.Kind.TheVariants.{Read}
use Rattle.machine.specs.declared.ClientRequest.{ClientRequest}
use Rattle.machine.specs.declared.Label.{Label}
use Rattle.machine.specs.declared.Label.TheVariants.{Call, Device, Answer, Cancel, Pause, Resume, Remove, Surprise, Removed}
use Rattle.machine.specs.Rules.{Rules, is_transfer, is_in_bounds}
use Rattle.machine.specs.State.{Mark, Untouched, Out, Done, Failed, Back, OpenRequest, Owed, Piece, State, IsSame}
use Rattle.machine.specs.Sending.{array_at}
use Rattle.machine_laws.specs.Sectors.{sector_at}
use Rattle.machine_laws.specs.NumberLaws.{IsNoAnswerOf}
use Rattle.machine_laws.specs.EndLaws.{HasOtherNumber}
use Rattle.history_laws.specs.Schedules.{Event, Seen, Effect, value_after, IsAt, IsNoAnswer, IsNoEffect, IsOpen}

-- MARKS, FATES, REQUESTS

-- a place that is done had its effect, and one that waits to be sent had none
abbrev pub IsMarkFor : Rules → ℕ → ℕ → List Event → ℕ → ClientRequest → ℕ → Mark → Type 0
IsMarkFor rules p i past number q k (Done sector) = (q.kind ≡ Read → IsSector rules.sector_size sector) × (IsAt rules p i q k → Contains past (Effect number sector))
IsMarkFor rules p i past number q k Untouched = IsAt rules p i q k → All (IsNoEffect number) past
IsMarkFor rules p i past number q k Back = IsAt rules p i q k → All (IsNoEffect number) past
IsMarkFor rules p i past number q k Out = Unit {0}
IsMarkFor rules p i past number q k (Failed status) = Unit {0}

-- a piece that acted had its effects, and a fresh one none
abbrev pub IsFateFor : Rules → ℕ → ℕ → List Event → ℕ → ClientRequest → Extent → Fate → Type 0
IsFateFor rules p i past number q places Fresh = (k : ℕ) → places.first ≤ k → k < places.first + places.count → IsAt rules p i q k → All (IsNoEffect number) past
IsFateFor rules p i past number q places (Acted sectors) = (j : ℕ) (d : List ℕ) → j < length sectors
    → (q.kind ≡ Read → IsSector rules.sector_size (get_or sectors j d)) × (IsAt rules p i q (places.first + j) → Contains past (Effect number (get_or sectors j d)))
IsFateFor rules p i past number q places Faulted = Unit {0}

pub record IsMirrored (rules : Rules) (p i : ℕ) (past : List Event) (o : OpenRequest) : Type 0 where
  pub is_open : IsOpen past o.number o.request
  pub known : is_none o.request.partition ≡ false
  pub in_bounds : is_transfer o.request.kind ≡ true → is_in_bounds rules o.request ≡ true
  pub marks : AllAt (IsMarkFor rules p i past o.number o.request) o.marks

abbrev pub IsFateOf : Rules → ℕ → ℕ → List Event → Piece → OpenRequest → Type 0
IsFateOf rules p i past piece o = o.number ≡ piece.owner → IsFateFor rules p i past o.number o.request piece.places piece.fate

abbrev pub IsFollowed : Rules → ℕ → ℕ → List Event → List OpenRequest → Piece → Type 0
IsFollowed rules p i past requests piece = All (IsFateOf rules p i past piece) requests

-- a refused call awaits its answer, which no open request has; if it is a success, the request has no sector
pub record OwedFor (rules : Rules) (p i : ℕ) (past : List Event) (requests : List OpenRequest) (owed : Owed) : Type 0 where
  pub request : ClientRequest
  pub is_open : IsOpen past owed.number request
  pub nowhere : owed.status ≡ Success → (k : ℕ) → IsAt rules p i request k → ⊥
  pub apart : All (HasOtherNumber owed.number) requests

abbrev pub IsOwedFor : Rules → ℕ → ℕ → List Event → List OpenRequest → Option Owed → Type 0
IsOwedFor rules p i past requests None = Unit {0}
IsOwedFor rules p i past requests (Some owed) = OwedFor rules p i past requests owed

-- the number of an event was given
abbrev pub IsBelow : ℕ → Event → Type 0
IsBelow next (Seen (Call number q)) = number < next
IsBelow next (Seen (Answer number status informed bytes)) = number < next
IsBelow next (Seen _) = Unit {0}
IsBelow next (Effect number sector) = number < next

pub record Mirrors (rules : Rules) (p i : ℕ) (start : List ℕ) (past : List Event) (s : State) : Type 0 where
  pub given : All (IsBelow s.next_request) past
  pub value : sector_at s p i ≡ Some (value_after start past)
  pub requests : All (IsMirrored rules p i past) s.requests
  pub pieces : All (IsFollowed rules p i past s.requests) s.pieces
  pub owed : IsOwedFor rules p i past s.requests s.owed

-- ONE MORE EVENT

pub further : {X : Type 0} (y : X) (xs : List X) (x : X) → Contains xs x → Contains (y ∷ xs) x
further y xs x (k, low, is) = (suc k, omega arith, is)

pub newest : {X : Type 0} (x : X) (xs : List X) → Contains (x ∷ xs) x
newest x xs = (0, omega arith, refl)

pub below_more : (a b : ℕ) → a ≤ b → (e : Event) → IsBelow a e → IsBelow b e
below_more a b more (Seen (Call number q)) h = omega arith
below_more a b more (Seen (Answer number status informed bytes)) h = omega arith
below_more a b more (Seen (Device label)) h = tt
below_more a b more (Seen (Cancel number)) h = tt
below_more a b more (Seen Pause) h = tt
below_more a b more (Seen Resume) h = tt
below_more a b more (Seen Remove) h = tt
below_more a b more (Seen Surprise) h = tt
below_more a b more (Seen Removed) h = tt
below_more a b more (Effect number sector) h = omega arith

-- no event of a number that is not given yet
pub below_no_answer : (n : ℕ) (e : Event) → IsBelow n e → IsNoAnswer n e
below_no_answer n (Seen (Call number q)) h = tt
below_no_answer n (Seen (Answer number status informed bytes)) h = λ e. absurd (omega arith)
below_no_answer n (Seen (Device label)) h = tt
below_no_answer n (Seen (Cancel number)) h = tt
below_no_answer n (Seen Pause) h = tt
below_no_answer n (Seen Resume) h = tt
below_no_answer n (Seen Remove) h = tt
below_no_answer n (Seen Surprise) h = tt
below_no_answer n (Seen Removed) h = tt
below_no_answer n (Effect number sector) h = tt

pub below_no_effect : (n : ℕ) (e : Event) → IsBelow n e → IsNoEffect n e
below_no_effect n (Seen label) h = tt
below_no_effect n (Effect number sector) h = λ e. absurd (omega arith)

pub open_more : (e : Event) (past : List Event) (number : ℕ) (q : ClientRequest) → IsNoAnswer number e → IsOpen past number q → IsOpen (e ∷ past) number q
open_more e past number q other h =
    record { called = further e past _ h.called; awaits = All-cons (IsNoAnswer number) e past other h.awaits }

module _ (rules : Rules) (p i : ℕ) (e : Event) (past : List Event) (number : ℕ) (q : ClientRequest) (other : IsNoEffect number e) where
  pub mark_more : (k : ℕ) (m : Mark) → IsMarkFor rules p i past number q k m → IsMarkFor rules p i (e ∷ past) number q k m
  mark_more k (Done sector) h = (h.0, λ at. further e past _ (h.1 at))
  mark_more k Untouched h = λ at. All-cons (IsNoEffect number) e past other (h at)
  mark_more k Back h = λ at. All-cons (IsNoEffect number) e past other (h at)
  mark_more k Out h = tt
  mark_more k (Failed status) h = tt

  pub fate_more : (places : Extent) (fate : Fate) → IsFateFor rules p i past number q places fate → IsFateFor rules p i (e ∷ past) number q places fate
  fate_more places Fresh h = λ k low high at. All-cons (IsNoEffect number) e past other (h k low high at)
  fate_more places (Acted sectors) h = λ j d low. ((h j d low).0, λ at. further e past _ ((h j d low).1 at))
  fate_more places Faulted h = tt

module _ (rules : Rules) (p i : ℕ) (label : Label) (past : List Event) where
  -- what is open stays so beside a label of another number
  pub requests_seen : (os : List OpenRequest) → All (IsMirrored rules p i past) os → All (λ o. IsNoAnswerOf o.number label) os → All (IsMirrored rules p i (Seen label ∷ past)) os
  requests_seen os h other k d low =
      let m : IsMirrored rules p i past (get_or os k d) = h k d low in
      record {
        is_open = open_more (Seen label) past _ _ (other k d low) m.is_open;
        known = m.known;
        in_bounds = m.in_bounds;
        marks = λ j x within. mark_more rules p i (Seen label) past (get_or os k d).number (get_or os k d).request tt j (get_or (get_or os k d).marks j x) (m.marks j x within);
      }

  pub pieces_seen : (os : List OpenRequest) (pieces : List Piece) → All (IsFollowed rules p i past os) pieces → All (IsFollowed rules p i (Seen label ∷ past) os) pieces
  pieces_seen os pieces h k d low j x within = λ owner.
      fate_more rules p i (Seen label) past (get_or os j x).number (get_or os j x).request tt (get_or pieces k d).places (get_or pieces k d).fate (h k d low j x within owner)

-- THE SAME STATE, OTHERWISE

module _ (rules : Rules) (p i : ℕ) (start : List ℕ) (past : List Event) where
  pub followed_permuted : (os os' : List OpenRequest) → IsPermutation os os' → (piece : Piece) → IsFollowed rules p i past os piece → IsFollowed rules p i past os' piece
  followed_permuted os os' perm piece h = All-permutation (IsFateOf rules p i past piece) os os' perm h

  owed_permuted : (os os' : List OpenRequest) → IsPermutation os os' → (owed : Option Owed) → IsOwedFor rules p i past os owed → IsOwedFor rules p i past os' owed
  owed_permuted os os' perm None h = tt
  owed_permuted os os' perm (Some owed) h =
      record { request = h.request; is_open = h.is_open; nowhere = h.nowhere; apart = All-permutation (HasOtherNumber owed.number) os os' perm h.apart }

  pub none_owed : (os : List OpenRequest) (owed : Option Owed) → IsNone owed → IsOwedFor rules p i past os owed
  none_owed os None h = tt
  none_owed os (Some owed) h = cc (h)

  pub Mirrors-same : (s t : State) → IsSame s t → Mirrors rules p i start past t → Mirrors rules p i start past s
  Mirrors-same s t h m =
      let back : IsPermutation t.requests s.requests = IsPermutation-sym _ _ h.requests in
      record {
        given = rw h.next_request m.given;
        value = ap (λ arrays. slice_get (array_at arrays p) i) h.arrays ∙ m.value;
        requests = All-permutation (IsMirrored rules p i past) _ _ back m.requests;
        pieces = All-weaker (IsFollowed rules p i past t.requests) (IsFollowed rules p i past s.requests) (λ piece f. followed_permuted _ _ back piece f) s.pieces
            (All-permutation (IsFollowed rules p i past t.requests) _ _ (IsPermutation-sym _ _ h.pieces) m.pieces);
        owed = rw h.owed (owed_permuted _ _ back t.owed m.owed);
      }

  -- other requests in place of the open ones
  pub with_requests : (s : State) (os : List OpenRequest) → IsNone s.owed → Mirrors rules p i start past s → All (IsMirrored rules p i past) os
      → ((piece : Piece) → IsFollowed rules p i past s.requests piece → IsFollowed rules p i past os piece) → Mirrors rules p i start past (record s { requests = os })
  with_requests s os free m mirrored follows = record {
    given = m.given;
    value = m.value;
    requests = mirrored;
    pieces = All-weaker (IsFollowed rules p i past s.requests) (IsFollowed rules p i past os) follows s.pieces m.pieces;
    owed = none_owed os s.owed free;
  }
