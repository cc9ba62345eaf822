-- A request of which a piece failed never succeeds.
use Rattle.std.proofs.Common.{◌≡◌, ◌≢◌, ◌<◌, ◌≤◌, ◌⊎◌, inl, inr, ℕ, zero, suc, ◌+◌, ◌-◌, true, List, [], ◌∷◌, refl, sym, ap, subst, ◌∙◌, arith, length, get_or, replicate}
use Rattle.std.specs.Prelude.{All, Contains, IsPermutation, remove, slice_range}
use Rattle.std.specs.List.{list_all}
use Rattle.std.proofs.lemmas.Bool.{cases_lt}
use Rattle.std.proofs.lemmas.List.{get_or-replicate, length-replicate}
use Rattle.std.proofs.lemmas.List.Edits.{get_or-between, length-between}
use Rattle.std.proofs.lemmas.List.Sorted.{All-permutation, Contains-permutation, IsPermutation-remove, IsPermutation-sym}
use Rattle.std.proofs.lemmas.List.Elements.{All-contains, All-head, All-tail, Contains-append_right}
use Rattle.ntstatus.specs.declared.NtStatus.{NtStatus}
use Rattle.ntstatus.specs.declared.NtStatus.TheVariants.{Success}
use Rattle.srb.specs.Fate.{Fate, Fresh, Acted, Faulted}
use Rattle.srb.specs.declared.Class.{Class}
use Rattle.srb.specs.declared.Completion.{Completion}
use Rattle.srb.specs.declared.Class.TheVariants.{Good, Busy, Bad}
use Rattle.srb.specs.declared.DeviceLabel.TheVariants.{Start, Act, Fault, Return}
use Rattle.machine.specs.declared.ClientRequest.{ClientRequest}
use Rattle.machine.specs.declared.Label.{Label}
use Rattle.machine.specs.declared.Label.TheVariants.{Call, Device, Answer, Cancel, Pause, Resume, Remove, Surprise, Removed}
use Rattle.machine.specs.Answering.{Answers, is_done}
use Rattle.machine.specs.Cutting.{mark_at}
use Rattle.machine.specs.Numbers.{AreDistinct, piece_number}
use Rattle.machine.specs.Pieces.{ArePlaced, IsCovered, IsPlaced}
use Rattle.machine.specs.Rules.{Rules}
use Rattle.machine.specs.Sending.{IsUnsent, LeavesMarks, Returns, Starts, given_back, sent, status_of_completion, with_fate}
use Rattle.machine.specs.State.{Mark, Untouched, Out, Done, Failed, Back, OpenRequest, Piece, State}
use Rattle.machine.specs.Step.{Run, Step}
use Rattle.machine.proofs.Numbers.{AreDistinct-Step, AreDistinct-same}
use Rattle.machine.proofs.Permuting.{first_unique}
use Rattle.machine.proofs.Same.{IsSame-sym}
use Rattle.machine.proofs.Placed.{ArePlaced-Step, ArePlaced-same, differ_first, get_or-splice_above, get_or-splice_below, get_or-splice_inside, is_inside, is_out_there, leaves}
use Rattle.sector.specs.Splice.{splice}
use Rattle.loss.specs.Moved.{IsOut}
use Rattle.file_sessions.specs.OneByOne.{IsOfOne}
use Rattle.file_sessions.proofs.Alone.{AllOf, all_step}

-- LISTS

pub first_or_other : {X : Type 0} (x : X) (xs : List X) (y : X) → Contains (x ∷ xs) y → (x ≡ y) ⊎ Contains xs y
first_or_other x xs y (zero, low, is) = inl is
first_or_other x xs y (suc k, low, is) = inr (k, omega (arith, low), is)

pub first_there : {X : Type 0} (x : X) (xs : List X) → Contains (x ∷ xs) x
first_there x xs = (0, omega arith, refl)

pub other_there : {X : Type 0} (x : X) (xs : List X) (y : X) → Contains xs y → Contains (x ∷ xs) y
other_there x xs y h = Contains-append_right (x ∷ []) xs y h

pub first_of : {X : Type 0} (xs : List X) (x : X) → Contains xs x → (others : List X) × IsPermutation xs (x ∷ others)
first_of xs x (k, low, is) = (remove xs k, IsPermutation-remove xs k x low (sym is))

-- the piece of a number is one
piece_is : (s : State) (number : ℕ) (p : Piece) (others : List Piece) (piece : Piece) (owner : OpenRequest) → AreDistinct s → IsPermutation s.pieces (p ∷ others) → p.number ≡ number → IsOut s number piece owner → p ≡ piece
piece_is s number p others piece owner d perm is out =
    let q = first_of s.pieces piece out.is_out in
    (first_unique piece_number s.pieces p piece others q.0 d.pieces perm q.1 (out.is_number ∙ sym is)).0

-- MARKS

done_or_past : (marks : List Mark) (k : ℕ) → list_all is_done marks ≡ true → (is_done (get_or marks k Untouched) ≡ true) ⊎ (get_or marks k Untouched ≡ Untouched)
done_or_past [] k done = inr refl
done_or_past (Done sector ∷ marks) zero done = inl refl
done_or_past (Done sector ∷ marks) (suc k) done = done_or_past marks k done
done_or_past (Untouched ∷ marks) k done = cc (done)
done_or_past (Out ∷ marks) k done = cc (done)
done_or_past (Failed status ∷ marks) k done = cc (done)
done_or_past (Back ∷ marks) k done = cc (done)

none_failed : (marks : List Mark) (k : ℕ) (status : NtStatus) → list_all is_done marks ≡ true → get_or marks k Untouched ≡ Failed status → ⊥
none_failed marks k status done is =
    elim (done_or_past marks k done) [
      | inl good ↦ let no : is_done (Failed status) ≡ true = subst (λ (m : Mark). is_done m ≡ true) is good in cc (no)
      | inr past ↦ let no : Untouched ≡ Failed status = sym past ∙ is in cc (no)
    ]

none_out : (marks : List Mark) (k : ℕ) → list_all is_done marks ≡ true → get_or marks k Untouched ≡ Out → ⊥
none_out marks k done is =
    elim (done_or_past marks k done) [
      | inl good ↦ let no : is_done Out ≡ true = subst (λ (m : Mark). is_done m ≡ true) is good in cc (no)
      | inr past ↦ let no : Untouched ≡ Out = sym past ∙ is in cc (no)
    ]

module _ (rules : Rules) (n : ℕ) where
  -- a place of the request failed
  pub record FailedPlace (s : State) : Type 0 where
    pub request : OpenRequest
    pub there : Contains s.requests request
    pub is_number : request.number ≡ n
    pub place : ℕ
    pub status : NtStatus
    pub failed : mark_at request place ≡ Failed status

  -- a piece of it did, and is out
  pub record FailedPiece (s : State) : Type 0 where
    pub piece : Piece
    pub there : Contains s.pieces piece
    pub is_owner : piece.owner ≡ n
    pub faulted : piece.fate ≡ Faulted

  abbrev pub IsOther : ℕ → ClientRequest → Type 0
  IsOther number q = number ≢ n

  -- or it is open no more
  abbrev pub IsStuck : State → Type 0
  IsStuck s = FailedPlace s ⊎ (FailedPiece s ⊎ AllOf IsOther s)

  -- ONE STEP

  same_request : (s s' : State) → IsPermutation s'.requests s.requests → FailedPlace s → FailedPlace s'
  same_request s s' p f = record {
    request = f.request;
    there = Contains-permutation s.requests s'.requests f.request (IsPermutation-sym _ _ p) f.there;
    is_number = f.is_number;
    place = f.place;
    status = f.status;
    failed = f.failed;
  }

  -- a request changed, but not at a place that failed
  changed_request : (s s' : State) (o o' : OpenRequest) (others : List OpenRequest) → IsPermutation s.requests (o ∷ others) → IsPermutation s'.requests (o' ∷ others) → o'.number ≡ o.number
      → ((k : ℕ) (status : NtStatus) → mark_at o k ≡ Failed status → mark_at o' k ≡ Failed status) → FailedPlace s → FailedPlace s'
  changed_request s s' o o' others p p' same keeps f =
      elim (first_or_other o others f.request (Contains-permutation s.requests (o ∷ others) f.request p f.there)) [
        | inl is ↦ record {
          request = o';
          there = Contains-permutation (o' ∷ others) s'.requests o' (IsPermutation-sym _ _ p') (first_there o' others);
          is_number = same ∙ ap (λ (x : OpenRequest). x.number) is ∙ f.is_number;
          place = f.place;
          status = f.status;
          failed = keeps f.place f.status (subst (λ (x : OpenRequest). mark_at x f.place ≡ Failed f.status) (sym is) f.failed);
        }
        | inr other ↦ record {
          request = f.request;
          there = Contains-permutation (o' ∷ others) s'.requests f.request (IsPermutation-sym _ _ p') (other_there o' others f.request other);
          is_number = f.is_number;
          place = f.place;
          status = f.status;
          failed = f.failed;
        }
      ]

  -- what is put elsewhere leaves a mark
  spliced : (marks : List Mark) (first : ℕ) (more : List Mark) (k : ℕ) (m : Mark) → first + length more ≤ length marks → (first ≤ k → k < first + length more → ⊥) → get_or marks k Untouched ≡ m
      → get_or (splice marks first more) k Untouched ≡ m
  spliced marks first more k m fits apart is =
      elim (cases_lt k first) [
        | inl low ↦ get_or-splice_below marks first more k Untouched (omega arith) low ∙ is
        | inr from ↦ elim (cases_lt k (first + length more)) [
          | inl high ↦ absurd (apart from high)
          | inr past ↦ get_or-splice_above marks first more k Untouched (omega arith) past ∙ is
        ]
      ]

  -- a start leaves it: what failed is not sent again
  by_start : (s s' : State) (number tag : ℕ) (block : List ℕ) → Starts rules s number tag block s' → FailedPlace s → FailedPlace s'
  by_start s s' number tag block h f =
      changed_request s s' h.owner (sent h.places h.owner) h.others h.is_open h.after.requests refl kept f
    where
      inside : h.places.first + h.places.count ≤ length h.owner.marks
      inside = h.sendable.inside

      not_unsent : (status : NtStatus) (m : Mark) → m ≡ Failed status → IsUnsent m → ⊥
      not_unsent status (Failed other) is unsent = cc (unsent)
      not_unsent status Untouched is unsent = cc (is)
      not_unsent status Out is unsent = cc (is)
      not_unsent status (Done sector) is unsent = cc (is)
      not_unsent status Back is unsent = cc (is)

      unsent_at : (k : ℕ) → h.places.first ≤ k → k < h.places.first + h.places.count → IsUnsent (mark_at h.owner k)
      unsent_at k low high =
          let n : length (slice_range h.owner.marks h.places.first (h.places.first + h.places.count)) ≡ h.places.first + h.places.count - h.places.first = length-between h.owner.marks h.places.first (h.places.first + h.places.count) inside in
          let at : IsUnsent (get_or (slice_range h.owner.marks h.places.first (h.places.first + h.places.count)) (k - h.places.first) Untouched) = h.sendable.unsent (k - h.places.first) Untouched (omega arith) in
          let e : h.places.first + (k - h.places.first) ≡ k = omega arith in
          subst (λ (i : ℕ). IsUnsent (get_or h.owner.marks i Untouched)) e
          (subst (λ (m : Mark). IsUnsent m) (get_or-between h.owner.marks h.places.first (h.places.first + h.places.count) (k - h.places.first) Untouched (omega arith)) at)

      kept : (k : ℕ) (status : NtStatus) → mark_at h.owner k ≡ Failed status → mark_at (sent h.places h.owner) k ≡ Failed status
      kept k status is =
          spliced h.owner.marks h.places.first (replicate h.places.count Out) k (Failed status)
          (let e : length (replicate h.places.count Out) ≡ h.places.count = length-replicate h.places.count Out in omega (arith, e, inside))
          (λ from below. not_unsent status (mark_at h.owner k) is (unsent_at k from (let e : length (replicate h.places.count Out) ≡ h.places.count = length-replicate h.places.count Out in omega (arith, e, below)))) is

  -- what stands of a piece that comes back
  record IsBack (s : State) (class : Class) (p : Piece) (others : List Piece) (o : OpenRequest) (marks : List Mark) : Type 0 where
    count : length marks ≡ p.places.count
    some : 0 < p.places.count
    inside : p.places.first + p.places.count ≤ length o.marks
    out : (k : ℕ) → p.places.first ≤ k → k < p.places.first + p.places.count → mark_at o k ≡ Out

  back_at : (s s' : State) (number : ℕ) (class : Class) → ArePlaced s → (h : Returns s number class s') → IsBack s class h.piece h.other_pieces h.owner h.marks
  back_at s s' number class k h = record {
    count = (leaves h.piece class h.marks placed.filled h.leaves).0;
    some = placed.some;
    inside = is_inside s.pieces h.piece h.other_pieces h.owner h.is_out covered h.is_owner placed.some;
    out = λ i low high. is_out_there s.pieces h.piece h.other_pieces h.owner i h.is_out covered h.is_owner low high;
  }
    where
      placed : IsPlaced s.requests h.piece
      placed = All-head (IsPlaced s.requests) h.piece h.other_pieces (All-permutation (IsPlaced s.requests) _ _ h.is_out k.pieces)

      covered : IsCovered s.pieces h.owner
      covered = All-head (IsCovered s.pieces) h.owner h.others (All-permutation (IsCovered s.pieces) _ _ h.is_open k.places)

  -- a return leaves it: what failed is not out
  by_return : (s s' : State) (number : ℕ) (class : Class) → ArePlaced s → Returns s number class s' → FailedPlace s → FailedPlace s'
  by_return s s' number class k h f =
      changed_request s s' h.owner (given_back h.piece class h.marks h.owner) h.others h.is_open h.after.requests refl kept f
    where
      b : IsBack s class h.piece h.other_pieces h.owner h.marks
      b = back_at s s' number class k h

      kept : (i : ℕ) (status : NtStatus) → mark_at h.owner i ≡ Failed status → mark_at (given_back h.piece class h.marks h.owner) i ≡ Failed status
      kept i status is =
          spliced h.owner.marks h.piece.places.first h.marks i (Failed status) (omega (arith, b.count, b.inside))
          (λ from below. let no : Out ≡ Failed status = sym (b.out i from (omega (arith, b.count, below))) ∙ is in cc (no)) is

  -- a piece that failed leaves a place that did
  failed_back : (s s' : State) (number : ℕ) (class : Class) → ArePlaced s → (h : Returns s number class s') → h.owner.number ≡ n → (completion : Completion) → class ≡ Bad completion → FailedPlace s'
  failed_back s s' number class k h mine completion is = record {
    request = given_back h.piece class h.marks h.owner;
    there = Contains-permutation (given_back h.piece class h.marks h.owner ∷ h.others) s'.requests (given_back h.piece class h.marks h.owner) (IsPermutation-sym _ _ h.after.requests) (first_there _ h.others);
    is_number = mine;
    place = h.piece.places.first;
    status = status_of_completion completion;
    failed =
        get_or-splice_inside h.owner.marks h.piece.places.first h.marks h.piece.places.first Untouched (omega (arith, b.inside)) (omega arith) (omega (arith, b.count, b.some))
        ∙ ap (λ (i : ℕ). get_or h.marks i Untouched) none
        ∙ marked (subst (λ (c : Class). LeavesMarks h.piece c h.marks) is h.leaves);
  }
    where
      b : IsBack s class h.piece h.other_pieces h.owner h.marks
      b = back_at s s' number class k h

      none : h.piece.places.first - h.piece.places.first ≡ 0
      none = omega arith

      marked : LeavesMarks h.piece (Bad completion) h.marks → get_or h.marks 0 Untouched ≡ Failed (status_of_completion completion)
      marked left =
          ap (λ (ms : List Mark). get_or ms 0 Untouched) left.1
          ∙ get_or-replicate h.piece.places.count 0 (Failed (status_of_completion completion)) Untouched (let some = b.some in omega arith)

  -- the request is answered, or another is
  by_answer : (s s' : State) (number : ℕ) (status : NtStatus) (bytes : List ℕ) → AreDistinct s → Answers rules s number status bytes s' → FailedPlace s → FailedPlace s' ⊎ AllOf IsOther s'
  by_answer s s' number status bytes d h f =
      elim (first_or_other h.request h.others f.request (Contains-permutation s.requests (h.request ∷ h.others) f.request h.is_open f.there)) [
        | inl is ↦ inr (all_gone is)
        | inr other ↦ inl (record {
          request = f.request;
          there = Contains-permutation h.others s'.requests f.request (IsPermutation-sym _ _ h.after.requests) other;
          is_number = f.is_number;
          place = f.place;
          status = f.status;
          failed = f.failed;
        })
      ]
    where
      all_gone : h.request ≡ f.request → AllOf IsOther s'
      all_gone is =
          let mine : h.request.number ≡ n = ap (λ (o : OpenRequest). o.number) is ∙ f.is_number in
          All-permutation (λ (o : OpenRequest). o.number ≢ n) h.others s'.requests (IsPermutation-sym _ _ h.after.requests)
          (subst (λ (m : ℕ). All (λ (o : OpenRequest). o.number ≢ m) h.others) mine (differ_first s h.request h.others d h.is_open))

  -- A PIECE

  same_pieces : (s s' : State) → IsPermutation s'.pieces s.pieces → FailedPiece s → FailedPiece s'
  same_pieces s s' p f = record {
    piece = f.piece;
    there = Contains-permutation s.pieces s'.pieces f.piece (IsPermutation-sym _ _ p) f.there;
    is_owner = f.is_owner;
    faulted = f.faulted;
  }

  -- another piece changes
  other_piece : (s s' : State) (p p' : Piece) (others : List Piece) → IsPermutation s.pieces (p ∷ others) → IsPermutation s'.pieces (p' ∷ others) → (p.fate ≡ Faulted → ⊥) → FailedPiece s → FailedPiece s'
  other_piece s s' p p' others perm perm' apart f =
      elim (first_or_other p others f.piece (Contains-permutation s.pieces (p ∷ others) f.piece perm f.there)) [
        | inl is ↦ absurd (apart (ap (λ (x : Piece). x.fate) is ∙ f.faulted))
        | inr other ↦ record {
          piece = f.piece;
          there = Contains-permutation (p' ∷ others) s'.pieces f.piece (IsPermutation-sym _ _ perm') (other_there p' others f.piece other);
          is_owner = f.is_owner;
          faulted = f.faulted;
        }
      ]

  not_fresh : (fate : Fate) → fate ≡ Fresh → fate ≡ Faulted → ⊥
  not_fresh fate is other = let no : Fresh ≡ Faulted = sym is ∙ other in cc (no)

  piece_back : (s s' : State) (number : ℕ) (class : Class) → ArePlaced s → (h : Returns s number class s') → FailedPiece s → FailedPlace s' ⊎ FailedPiece s'
  piece_back s s' number class k h f =
      elim (first_or_other h.piece h.other_pieces f.piece (Contains-permutation s.pieces (h.piece ∷ h.other_pieces) f.piece h.is_out f.there)) [
        | inl is ↦ inl (by_class class h (ap (λ (x : Piece). x.fate) is ∙ f.faulted) (h.is_owner ∙ ap (λ (x : Piece). x.owner) is ∙ f.is_owner))
        | inr other ↦ inr (record {
          piece = f.piece;
          there = Contains-permutation h.other_pieces s'.pieces f.piece (IsPermutation-sym _ _ h.after.pieces) other;
          is_owner = f.is_owner;
          faulted = f.faulted;
        })
      ]
    where
      by_class : (class : Class) (h : Returns s number class s') → h.piece.fate ≡ Faulted → h.owner.number ≡ n → FailedPlace s'
      by_class Good h faulted mine = let no : Acted h.leaves.0 ≡ Faulted = sym h.leaves.1 ∙ faulted in absurd (cc (no))
      by_class Busy h faulted mine = absurd (not_fresh h.piece.fate h.leaves.0 faulted)
      by_class (Bad completion) h faulted mine = failed_back s s' number (Bad completion) k h mine completion refl

  -- EVERY STEP

  stuck_step : (s : State) (label : Label) (s' : State) → AreDistinct s → ArePlaced s → IsOfOne label → Step rules s label s' → IsStuck s → IsStuck s'
  stuck_step s label s' d k of step (inr (inr gone)) = inr (inr (all_step IsOther rules s label s' of step gone))
  stuck_step s (Device (Start number tag block)) s' d k of (inl h) (inl f) = inl (by_start s s' number tag block h.1 f)
  stuck_step s (Device (Act number bytes)) s' d k of (inl h) (inl f) = inl (same_request s s' h.1.after.requests f)
  stuck_step s (Device (Fault number)) s' d k of (inl h) (inl f) = inl (same_request s s' h.1.after.requests f)
  stuck_step s (Device (Return number class)) s' d k of (inl h) (inl f) = inl (by_return s s' number class k h.1 f)
  stuck_step s (Answer number status informed bytes) s' d k of (inl h) (inl f) =
      elim (by_answer s s' number status bytes d h.1.answers f) [ inl still ↦ inl still | inr gone ↦ inr (inr gone) ]
  stuck_step s Removed s' d k of (inl h) (inl f) = inl (same_request s s' h.1.after.requests f)
  stuck_step s (Answer number status informed bytes) s' d k of (inr h) (inl f) = inl (same_request s s' h.after.requests f)
  stuck_step s (Device (Start number tag block)) s' d k of (inl h) (inr (inl f)) = inr (inl (record {
    piece = f.piece;
    there = Contains-permutation _ s'.pieces f.piece (IsPermutation-sym _ _ h.1.after.pieces) (other_there _ s.pieces f.piece f.there);
    is_owner = f.is_owner;
    faulted = f.faulted;
  }))
  stuck_step s (Device (Act number bytes)) s' d k of (inl h) (inr (inl f)) =
      inr (inl (other_piece s s' h.1.piece (with_fate (Acted h.1.sectors) h.1.piece) h.1.other_pieces h.1.fresh.is_out h.1.after.pieces (not_fresh h.1.piece.fate h.1.fresh.is_fresh) f))
  stuck_step s (Device (Fault number)) s' d k of (inl h) (inr (inl f)) =
      inr (inl (other_piece s s' h.1.piece (with_fate Faulted h.1.piece) h.1.other_pieces h.1.fresh.is_out h.1.after.pieces (not_fresh h.1.piece.fate h.1.fresh.is_fresh) f))
  stuck_step s (Device (Return number class)) s' d k of (inl h) (inr (inl f)) =
      elim (piece_back s s' number class k h.1 f) [ inl placed ↦ inl placed | inr still ↦ inr (inl still) ]
  stuck_step s (Answer number status informed bytes) s' d k of (inl h) (inr (inl f)) = inr (inl (same_pieces s s' h.1.answers.after.pieces f))
  stuck_step s Removed s' d k of (inl h) (inr (inl f)) = inr (inl (same_pieces s s' h.1.after.pieces f))
  stuck_step s (Answer number status informed bytes) s' d k of (inr h) (inr (inl f)) = inr (inl (same_pieces s s' h.after.pieces f))
  stuck_step s (Device label) s' d k of (inr h) stuck = absurd h
  stuck_step s Removed s' d k of (inr h) stuck = absurd h
  stuck_step s (Call number q) s' d k of step stuck = absurd of
  stuck_step s (Cancel number) s' d k of step stuck = absurd of
  stuck_step s Pause s' d k of step stuck = absurd of
  stuck_step s Resume s' d k of step stuck = absurd of
  stuck_step s Remove s' d k of step stuck = absurd of
  stuck_step s Surprise s' d k of step stuck = absurd of

  -- AND NO SUCCESS

  not_at_end : (s : State) (bytes : List ℕ) (s' : State) → AreDistinct s → ArePlaced s → Answers rules s n Success bytes s' → IsStuck s → ⊥
  not_at_end s bytes s' d k h (inr (inr gone)) =
      All-head (λ (o : OpenRequest). o.number ≢ n) h.request h.others (All-permutation (λ (o : OpenRequest). o.number ≢ n) s.requests (h.request ∷ h.others) h.is_open gone) h.is_number
  not_at_end s bytes s' d k h (inl f) =
      elim (first_or_other h.request h.others f.request (Contains-permutation s.requests (h.request ∷ h.others) f.request h.is_open f.there)) [
        | inl is ↦ none_failed h.request.marks f.place f.status (h.success.0 refl) (subst (λ (o : OpenRequest). mark_at o f.place ≡ Failed f.status) (sym is) f.failed)
        | inr other ↦ All-contains (λ (o : OpenRequest). o.number ≢ h.request.number) h.others f.request (differ_first s h.request h.others d h.is_open) other (f.is_number ∙ sym h.is_number)
      ]
  not_at_end s bytes s' d k h (inr (inl f)) =
      let placed : IsPlaced s.requests f.piece = All-contains (IsPlaced s.requests) s.pieces f.piece k.pieces f.there in
      let covered : IsCovered s.pieces h.request = All-head (IsCovered s.pieces) h.request h.others (All-permutation (IsCovered s.pieces) _ _ h.is_open k.places) in
      let some : 0 < f.piece.places.count = placed.some in
      let p = first_of s.pieces f.piece f.there in
      let out : mark_at h.request f.piece.places.first ≡ Out = is_out_there s.pieces f.piece p.0 h.request f.piece.places.first p.1 covered (h.is_number ∙ sym f.is_owner) (omega arith) (omega arith) in
      none_out h.request.marks f.piece.places.first (h.success.0 refl) out

  pub never_stuck : (s : State) (labels : List Label) (ended : State) (bytes : List ℕ) (after : State) → AreDistinct s → ArePlaced s → All IsOfOne labels → Run rules s labels ended → Answers rules ended n Success bytes after → IsStuck s → ⊥
  never_stuck s [] ended bytes after d k of run answers stuck =
      not_at_end ended bytes after (AreDistinct-same ended s (IsSame-sym s ended run) d) (ArePlaced-same ended s (IsSame-sym s ended run) k) answers (stuck_same stuck)
    where
      stuck_same : IsStuck s → IsStuck ended
      stuck_same (inl f) = inl (same_request s ended (IsPermutation-sym _ _ run.requests) f)
      stuck_same (inr (inl f)) = inr (inl (same_pieces s ended (IsPermutation-sym _ _ run.pieces) f))
      stuck_same (inr (inr gone)) = inr (inr (All-permutation (λ (o : OpenRequest). o.number ≢ n) s.requests ended.requests run.requests gone))
  never_stuck s (label ∷ labels) ended bytes after d k of run answers stuck =
      never_stuck run.0 labels ended bytes after (AreDistinct-Step rules s label run.0 d run.1) (ArePlaced-Step rules s label run.0 d k run.1) (All-tail IsOfOne label labels of) run.2 answers
      (stuck_step s label run.0 d k (All-head IsOfOne label labels of) run.1 stuck)

  -- so where it succeeds no piece of it failed
  pub fault_sticks : (s : State) (number : ℕ) (s' : State) (piece : Piece) (owner : OpenRequest) → AreDistinct s → Step rules s (Device (Fault number)) s' → IsOut s number piece owner → owner.number ≡ n → IsStuck s'
  fault_sticks s number s' piece owner d (inr h) out mine = absurd h
  fault_sticks s number s' piece owner d (inl h) out mine = inr (inl (record {
    piece = with_fate Faulted h.1.piece;
    there = Contains-permutation (with_fate Faulted h.1.piece ∷ h.1.other_pieces) s'.pieces (with_fate Faulted h.1.piece) (IsPermutation-sym _ _ h.1.after.pieces) (first_there _ h.1.other_pieces);
    is_owner = ap (λ (p : Piece). p.owner) (piece_is s number h.1.piece h.1.other_pieces piece owner d h.1.fresh.is_out h.1.fresh.is_number out) ∙ sym out.is_owner ∙ mine;
    faulted = refl;
  }))

  pub return_sticks : (s : State) (number : ℕ) (completion : Completion) (s' : State) (piece : Piece) (owner : OpenRequest) → AreDistinct s → ArePlaced s → Step rules s (Device (Return number (Bad completion))) s' → IsOut s number piece owner → owner.number ≡ n
      → IsStuck s'
  return_sticks s number completion s' piece owner d k (inr h) out mine = absurd h
  return_sticks s number completion s' piece owner d k (inl h) out mine =
      inl (failed_back s s' number (Bad completion) k h.1
      (h.1.is_owner ∙ ap (λ (p : Piece). p.owner) (piece_is s number h.1.piece h.1.other_pieces piece owner d h.1.is_out h.1.is_number out) ∙ sym out.is_owner ∙ mine) completion refl)
