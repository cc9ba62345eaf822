-- What is kept of a request from its call on, whatever is right for a place that is done.
use Rattle.machine_laws.proofs.Common.{◌≡◌, ◌≢◌, ◌<◌, ◌≤◌, inl, inr, ℕ, ◌+◌, Bool, true, false, List, [], ◌∷◌, Option, Some, None, refl, sym, ◌∙◌, ap, subst, arith, map, length, get_or, replicate, length-replicate, length-map, get_or-map, get_or-replicate, IsPermutation-sym, All-permutation, All-head, All-tail, All-cons, All-weaker, All-map, All-contains, NtStatus, splice, DeviceLabel, Start, Act, Fault, Return, Class, Good, Busy, Bad, Fate, Fresh, Acted, Faulted, Write, ClientRequest, Label, Call, Device, Answer, Cancel, Pause, Resume, Remove, Surprise, Removed, Rules, is_transfer, first_sector, place_count, sectors_of, Mark, Untouched, Out, Done, Failed, Back, OpenRequest, Owed, Piece, State, IsSame, refusal, Admits, Opens, new_request, Starts, Acts, LeavesMarks, status_of_completion, sent, given_back, new_piece, with_fate, partition_number, array_of, array_at, held_back, beyond, as_timely, as_cancelled, DeviceStep, FreeStep, OwingStep, Step, request_number, IsGiven, AreDistinct, past, distinct_first, AllAt, splice_at, length-splice, AreWhole}
use Rattle.std.specs.Prelude.{IsPermutation, All, if◌then◌else◌}
use Rattle.machine_laws.proofs.Bounds.{in_bounds}
use Rattle.machine_laws.proofs.Acted.{Transfers-length}

-- WHAT IS KEPT FROM THE CALL ON

-- a done place has a right sector
abbrev pub IsRightMark : (ℕ → List ℕ → Type 0) → ℕ → Mark → Type 0
IsRightMark Right k (Done sector) = Right k sector
IsRightMark Right k _ = Unit {0}

-- and so has each place on which a piece acted, counted from the piece's first
abbrev pub IsRightFate : (ℕ → List ℕ → Type 0) → ℕ → Fate → Type 0
IsRightFate Right first (Acted sectors) = (k : ℕ) (d : List ℕ) → k < length sectors → Right (first + k) (get_or sectors k d)
IsRightFate Right first _ = Unit {0}

-- an act hands over a sector for each place
abbrev pub Fills : ℕ → Fate → Type 0
Fills count (Acted sectors) = length sectors ≡ count
Fills count _ = Unit {0}

-- a request with a mark for each place, in its partition
pub record IsSized (rules : Rules) (o : OpenRequest) : Type 0 where
  pub places : length o.marks ≡ place_count rules o.request
  pub inside : is_transfer o.request.kind ≡ true → past rules o.request ≤ sectors_of rules (Some (partition_number o.request))

-- the request that is served
pub record Mine (q : ClientRequest) (Right : ℕ → List ℕ → Type 0) (o : OpenRequest) : Type 0 where
  pub request : o.request ≡ q
  pub right : AllAt (IsRightMark Right) o.marks

abbrev pub IsMine : ℕ → ClientRequest → (ℕ → List ℕ → Type 0) → OpenRequest → Type 0
IsMine number q Right o = o.number ≡ number → Mine q Right o

-- a piece lies in its owner
abbrev pub HoldsPlaces : Rules → Piece → OpenRequest → Type 0
HoldsPlaces rules p o = o.number ≡ p.owner → p.places.first + p.places.count ≤ place_count rules o.request

-- what holds of a piece out
pub record PieceFits (rules : Rules) (number : ℕ) (Right : ℕ → List ℕ → Type 0) (next : ℕ) (requests : List OpenRequest) (p : Piece) : Type 0 where
  pub given : p.owner < next
  pub fills : Fills p.places.count p.fate
  pub inside : All (HoldsPlaces rules p) requests
  pub right : p.owner ≡ number → IsRightFate Right p.places.first p.fate

-- request q of that number is served rightly, and the machine is in order
pub record Serves (rules : Rules) (number : ℕ) (q : ClientRequest) (Right : List (List (List ℕ)) → ℕ → List ℕ → Type 0) (s : State) : Type 0 where
  pub given : number < s.next_request
  pub whole : AreWhole rules s.arrays
  pub sized : All (IsSized rules) s.requests
  pub mine : All (IsMine number q (Right s.arrays)) s.requests
  pub pieces : All (PieceFits rules number (Right s.arrays) s.next_request s.requests) s.pieces

-- an act keeps what is right, and its own sectors are
pub record ActsRightly (rules : Rules) (number : ℕ) (Right : List (List (List ℕ)) → ℕ → List ℕ → Type 0) (s : State) (n : ℕ) (bytes : List ℕ) (s' : State) (h : Acts rules s n bytes s') : Type 0 where
  pub keeps : (k : ℕ) (sector : List ℕ) → Right s.arrays k sector → Right h.arrays' k sector
  pub leaves : h.piece.owner ≡ number → IsRightFate (Right h.arrays') h.piece.places.first (Acted h.sectors)

-- each act by which a step may lead there
abbrev pub AllActRightly : Rules → ℕ → (List (List (List ℕ)) → ℕ → List ℕ → Type 0) → State → State → Type 0
AllActRightly rules number Right s s' = (n : ℕ) (bytes : List ℕ) (h : Acts rules s n bytes s') → ActsRightly rules number Right s n bytes s' h

-- the act that the label is, if it is one
abbrev pub ActsRightlyBy : Rules → ℕ → (List (List (List ℕ)) → ℕ → List ℕ → Type 0) → State → Label → State → Type 0
ActsRightlyBy rules number Right s (Device (Act n bytes)) s' = (h : Acts rules s n bytes s') → ActsRightly rules number Right s n bytes s' h
ActsRightlyBy rules number Right s label s' = Unit {0}

pub acts_by : (rules : Rules) (number : ℕ) (Right : List (List (List ℕ)) → ℕ → List ℕ → Type 0) (s : State) (label : Label) (s' : State)
    → ((n : ℕ) (bytes : List ℕ) (h : Acts rules s n bytes s') → label ≡ Device (Act n bytes) → ActsRightly rules number Right s n bytes s' h) → ActsRightlyBy rules number Right s label s'
acts_by rules number Right s (Device (Act n bytes)) s' acts = λ h. acts n bytes h refl
acts_by rules number Right s (Device (Start n tag block)) s' acts = tt
acts_by rules number Right s (Device (Fault n)) s' acts = tt
acts_by rules number Right s (Device (Return n class)) s' acts = tt
acts_by rules number Right s (Call n r) s' acts = tt
acts_by rules number Right s (Answer n status informed bytes) s' acts = tt
acts_by rules number Right s (Cancel n) s' acts = tt
acts_by rules number Right s Pause s' acts = tt
acts_by rules number Right s Resume s' acts = tt
acts_by rules number Right s Remove s' acts = tt
acts_by rules number Right s Surprise s' acts = tt
acts_by rules number Right s Removed s' acts = tt

-- MARKS AND FATES

right_mark : (old new : ℕ → List ℕ → Type 0) → ((k : ℕ) (sector : List ℕ) → old k sector → new k sector) → (k : ℕ) (m : Mark) → IsRightMark old k m → IsRightMark new k m
right_mark old new keeps k (Done sector) h = keeps k sector h
right_mark old new keeps k Untouched h = tt
right_mark old new keeps k Out h = tt
right_mark old new keeps k (Failed status) h = tt
right_mark old new keeps k Back h = tt

right_fate : (old new : ℕ → List ℕ → Type 0) → ((k : ℕ) (sector : List ℕ) → old k sector → new k sector) → (first : ℕ) (fate : Fate) → IsRightFate old first fate → IsRightFate new first fate
right_fate old new keeps first (Acted sectors) h = λ k d within. keeps (first + k) (get_or sectors k d) (h k d within)
right_fate old new keeps first Fresh h = tt
right_fate old new keeps first Faulted h = tt

replicated : (right : ℕ → List ℕ → Type 0) (first count : ℕ) (m : Mark) (marks : List Mark) → marks ≡ replicate count m → ((k : ℕ) → IsRightMark right k m)
    → (j : ℕ) (x : Mark) → j < length marks → IsRightMark right (first + j) (get_or marks j x)
replicated right first count m marks e all j x within =
    let low : j < count = rw (← (length-replicate count m)) (rw e at within) in
    let same : get_or marks j x ≡ m = rw e (get_or-replicate count j m x low) in
    rw same (all (first + j))

-- a piece that comes back leaves right marks
pub leaves_right : (right : ℕ → List ℕ → Type 0) (number : ℕ) (p : Piece) (class : Class) (marks : List Mark) → Fills p.places.count p.fate → (p.owner ≡ number → IsRightFate right p.places.first p.fate) → LeavesMarks p class marks
    → (length marks ≡ p.places.count) × (p.owner ≡ number → (j : ℕ) (x : Mark) → j < length marks → IsRightMark right (p.places.first + j) (get_or marks j x))
leaves_right right number p Good marks fills is_right h =
    let fills' : length h.0 ≡ p.places.count = subst (λ fate. Fills p.places.count fate) h.1 fills in
    (rw h.2 (length-map h.0 Done ∙ fills'), λ e j x within. rw h.2 (done h.0 (subst (λ fate. IsRightFate right p.places.first fate) h.1 (is_right e)) j x (rw h.2 at within)))
  where
    done : (sectors : List (List ℕ)) → IsRightFate right p.places.first (Acted sectors) → (j : ℕ) (x : Mark) → j < length (map Done sectors) → IsRightMark right (p.places.first + j) (get_or (map Done sectors) j x)
    done sectors all j x within =
        let low : j < length sectors = rw (length-map sectors Done) at within in
        rw (get_or-map Done sectors j [] x low) (all j [] low)
leaves_right right number p Busy marks fills is_right h = (rw h.1 (length-replicate p.places.count Back), λ e. replicated right p.places.first p.places.count Back marks h.1 (λ k. tt))
leaves_right right number p (Bad completion) marks fills is_right h = (
  rw h.1 (length-replicate p.places.count (Failed (status_of_completion completion))),
  λ e. replicated right p.places.first p.places.count (Failed (status_of_completion completion)) marks h.1 (λ k. tt),
)

-- EACH STEP KEEPS IT

module _ (rules : Rules) (number : ℕ) (q : ClientRequest) (Right : List (List (List ℕ)) → ℕ → List ℕ → Type 0) where
  pub Serves-same : (s t : State) → IsSame s t → Serves rules number q Right t → Serves rules number q Right s
  Serves-same s t h k =
      let there : All (PieceFits rules number (Right t.arrays) t.next_request t.requests) s.pieces = All-permutation (PieceFits rules number (Right t.arrays) t.next_request t.requests) _ _ (IsPermutation-sym _ _ h.pieces) k.pieces in
      let fit : All (PieceFits rules number (Right t.arrays) t.next_request s.requests) s.pieces =
      All-weaker (PieceFits rules number (Right t.arrays) t.next_request t.requests) (PieceFits rules number (Right t.arrays) t.next_request s.requests) (λ p f. record {
        given = f.given;
        fills = f.fills;
        inside = All-permutation (HoldsPlaces rules p) _ _ (IsPermutation-sym _ _ h.requests) f.inside;
        right = f.right;
      }) s.pieces there in
      record {
        given = rw h.next_request k.given;
        whole = rw h.arrays k.whole;
        sized = All-permutation (IsSized rules) _ _ (IsPermutation-sym _ _ h.requests) k.sized;
        mine = rw h.arrays (All-permutation (IsMine number q (Right t.arrays)) _ _ (IsPermutation-sym _ _ h.requests) k.mine);
        pieces = rw (h.arrays, h.next_request) fit;
      }

  -- other requests in place of the open ones
  with_requests : (s : State) (os : List OpenRequest) → Serves rules number q Right s → All (IsSized rules) os → All (IsMine number q (Right s.arrays)) os
      → ((p : Piece) → All (HoldsPlaces rules p) s.requests → All (HoldsPlaces rules p) os) → Serves rules number q Right (record s { requests = os })
  with_requests s os k sized mine holds = record {
    given = k.given;
    whole = k.whole;
    sized = sized;
    mine = mine;
    pieces = All-weaker (PieceFits rules number (Right s.arrays) s.next_request s.requests) (PieceFits rules number (Right s.arrays) s.next_request os)
        (λ p f. record { given = f.given; fills = f.fills; inside = holds p f.inside; right = f.right }) s.pieces k.pieces;
  }

  -- one request changed in its marks and flags
  changed : (s : State) (o o' : OpenRequest) (others : List OpenRequest) → IsPermutation s.requests (o ∷ others) → Serves rules number q Right s
      → o'.number ≡ o.number → o'.request ≡ o.request → length o'.marks ≡ length o.marks → (o.number ≡ number → AllAt (IsRightMark (Right s.arrays)) o'.marks)
      → Serves rules number q Right (record s { requests = o' ∷ others })
  changed s o o' others p k same_number same_request same_length right =
      let sized : All (IsSized rules) (o ∷ others) = All-permutation (IsSized rules) _ _ p k.sized in
      let first : IsSized rules o = All-head (IsSized rules) o others sized in
      let mine : All (IsMine number q (Right s.arrays)) (o ∷ others) = All-permutation (IsMine number q (Right s.arrays)) _ _ p k.mine in
      with_requests s (o' ∷ others) k
      (All-cons (IsSized rules) o' others (record { places = same_length ∙ first.places ∙ ap (λ r. place_count rules r) (sym same_request); inside = rw same_request first.inside }) (All-tail (IsSized rules) o others sized))
      (All-cons (IsMine number q (Right s.arrays)) o' others
      (λ e. record { request = same_request ∙ (All-head (IsMine number q (Right s.arrays)) o others mine (sym same_number ∙ e)).request; right = right (sym same_number ∙ e) })
      (All-tail (IsMine number q (Right s.arrays)) o others mine))
      (λ piece holds. let all : All (HoldsPlaces rules piece) (o ∷ others) = All-permutation (HoldsPlaces rules piece) _ _ p holds in
      All-cons (HoldsPlaces rules piece) o' others (λ e. rw same_request (All-head (HoldsPlaces rules piece) o others all (sym same_number ∙ e))) (All-tail (HoldsPlaces rules piece) o others all))

  -- each request changed in its flags
  each : (s : State) (f : OpenRequest → OpenRequest) → ((o : OpenRequest) → (f o).number ≡ o.number) → ((o : OpenRequest) → (f o).request ≡ o.request) → ((o : OpenRequest) → (f o).marks ≡ o.marks)
      → Serves rules number q Right s → Serves rules number q Right (record s { requests = map f s.requests })
  each s f same_number same_request same_marks k =
      with_requests s (map f s.requests) k
      (All-map (IsSized rules) f s.requests (All-weaker (IsSized rules) (λ o. IsSized rules (f o))
      (λ o h. record { places = rw (same_marks o, same_request o) h.places; inside = rw (same_request o) h.inside }) s.requests k.sized))
      (All-map (IsMine number q (Right s.arrays)) f s.requests (All-weaker (IsMine number q (Right s.arrays)) (λ o. IsMine number q (Right s.arrays) (f o))
      (λ o h e. record { request = same_request o ∙ (h (sym (same_number o) ∙ e)).request; right = rw (same_marks o) (h (sym (same_number o) ∙ e)).right }) s.requests k.mine))
      (λ p holds. All-map (HoldsPlaces rules p) f s.requests (All-weaker (HoldsPlaces rules p) (λ o. HoldsPlaces rules p (f o))
      (λ o h e. rw (same_request o) (h (sym (same_number o) ∙ e))) s.requests holds))

  -- the flags are not read
  flagged : (s : State) (owed : Option Owed) (next_piece : ℕ) (paused removing removed : Bool) → Serves rules number q Right s
      → Serves rules number q Right (record s { next_piece = next_piece; owed = owed; paused = paused; removing = removing; removed = removed })
  flagged s owed next_piece paused removing removed k = record { given = k.given; whole = k.whole; sized = k.sized; mine = k.mine; pieces = k.pieces }

  -- other pieces out
  with_pieces : (s : State) (ps : List Piece) → Serves rules number q Right s → All (PieceFits rules number (Right s.arrays) s.next_request s.requests) ps → Serves rules number q Right (record s { pieces = ps })
  with_pieces s ps k fit = record { given = k.given; whole = k.whole; sized = k.sized; mine = k.mine; pieces = fit }

  with_arrays : (s : State) (arrays : List (List (List ℕ))) → Serves rules number q Right s → ((i : ℕ) → length (array_at arrays i) ≡ length (array_at s.arrays i))
      → ((k : ℕ) (sector : List ℕ) → Right s.arrays k sector → Right arrays k sector) → Serves rules number q Right (record s { arrays = arrays })
  with_arrays s arrays k same_length keeps = record {
    given = k.given;
    whole = λ p. rw (same_length p) (k.whole p);
    sized = k.sized;
    mine = All-weaker (IsMine number q (Right s.arrays)) (IsMine number q (Right arrays))
        (λ o h e. record { request = (h e).request; right = λ j d within. right_mark (Right s.arrays) (Right arrays) keeps j _ ((h e).right j d within) }) s.requests k.mine;
    pieces = All-weaker (PieceFits rules number (Right s.arrays) s.next_request s.requests) (PieceFits rules number (Right arrays) s.next_request s.requests)
        (λ p f. record { given = f.given; fills = f.fills; inside = f.inside; right = λ e. right_fate (Right s.arrays) (Right arrays) keeps p.places.first p.fate (f.right e) }) s.pieces k.pieces;
  }

  fits_first : (s : State) (p : Piece) (others : List Piece) → IsPermutation s.pieces (p ∷ others) → Serves rules number q Right s → All (PieceFits rules number (Right s.arrays) s.next_request s.requests) (p ∷ others)
  fits_first s p others perm k = All-permutation (PieceFits rules number (Right s.arrays) s.next_request s.requests) _ _ perm k.pieces

  -- a piece that meets its fate
  met : (s : State) (p : Piece) (others : List Piece) (fate : Fate) → IsPermutation s.pieces (p ∷ others) → Serves rules number q Right s
      → Fills p.places.count fate → (p.owner ≡ number → IsRightFate (Right s.arrays) p.places.first fate) → Serves rules number q Right (record s { pieces = with_fate fate p ∷ others })
  met s p others fate perm k fills right =
      let all : All (PieceFits rules number (Right s.arrays) s.next_request s.requests) (p ∷ others) = fits_first s p others perm k in
      let f : PieceFits rules number (Right s.arrays) s.next_request s.requests p = All-head (PieceFits rules number (Right s.arrays) s.next_request s.requests) p others all in
      with_pieces s (with_fate fate p ∷ others) k
      (All-cons (PieceFits rules number (Right s.arrays) s.next_request s.requests) (with_fate fate p) others (record { given = f.given; fills = fills; inside = f.inside; right = right }) (All-tail (PieceFits rules number (Right s.arrays) s.next_request s.requests) p others all))

  pub sized_first : (s : State) (o : OpenRequest) (others : List OpenRequest) → IsPermutation s.requests (o ∷ others) → Serves rules number q Right s → IsSized rules o
  sized_first s o others perm k = All-head (IsSized rules) o others (All-permutation (IsSized rules) _ _ perm k.sized)

  pub mine_first : (s : State) (o : OpenRequest) (others : List OpenRequest) → IsPermutation s.requests (o ∷ others) → Serves rules number q Right s → IsMine number q (Right s.arrays) o
  mine_first s o others perm k = All-head (IsMine number q (Right s.arrays)) o others (All-permutation (IsMine number q (Right s.arrays)) _ _ perm k.mine)

  -- START
  Serves-Starts : (s : State) (k' tag : ℕ) (block : List ℕ) (s' : State) → AreDistinct s → Serves rules number q Right s → Starts rules s k' tag block s' → Serves rules number q Right s'
  Serves-Starts s k' tag block s' d k h =
      let o : OpenRequest = h.owner in
      let outs : List Mark = replicate h.places.count Out in
      let fits : h.places.first + length outs ≤ length o.marks = rw (length-replicate h.places.count Out) h.sendable.inside in
      let right : o.number ≡ number → AllAt (IsRightMark (Right s.arrays)) (splice o.marks h.places.first outs) =
      λ e. splice_at (IsRightMark (Right s.arrays)) o.marks h.places.first outs fits (mine_first s o h.others h.is_open k e).right (out_right (Right s.arrays) h.places.first h.places.count) in
      let k1 : Serves rules number q Right (record s { requests = sent h.places o ∷ h.others }) =
      changed s o (sent h.places o) h.others h.is_open k refl refl (length-splice o.marks h.places.first outs fits) right in
      let given : All (IsGiven s.next_request) (o ∷ h.others) = All-permutation (IsGiven s.next_request) _ _ h.is_open d.given in
      let differ : All (λ x. x.number ≢ o.number) h.others = distinct_first request_number s.requests o h.others d.requests h.is_open in
      let piece : Piece = new_piece s tag o h.places in
      let inside : All (HoldsPlaces rules piece) (sent h.places o ∷ h.others) =
      All-cons (HoldsPlaces rules piece) (sent h.places o) h.others (λ e. rw (← (sized_first s o h.others h.is_open k).places) h.sendable.inside)
      (All-weaker (λ x. x.number ≢ o.number) (HoldsPlaces rules piece) (λ x other e. absurd (other e)) h.others differ) in
      let fit : PieceFits rules number (Right s.arrays) s.next_request (sent h.places o ∷ h.others) piece =
      record { given = All-head (IsGiven s.next_request) o h.others given; fills = tt; inside = inside; right = λ e. tt } in
      Serves-same s' _ h.after (flagged _ s.owed (s.next_piece + 1) s.paused s.removing s.removed
      (with_pieces (record s { requests = sent h.places o ∷ h.others }) (piece ∷ s.pieces) k1
      (All-cons (PieceFits rules number (Right s.arrays) s.next_request (sent h.places o ∷ h.others)) piece s.pieces fit k1.pieces)))
    where
      out_right : (right : ℕ → List ℕ → Type 0) (first count j : ℕ) (x : Mark) → j < length (replicate count Out) → IsRightMark right (first + j) (get_or (replicate count Out) j x)
      out_right right first count j x within = rw (get_or-replicate count j Out x (rw (← (length-replicate count Out)) within)) tt

  -- ACT

  -- the piece that acts lies in its owner
  pub act_inside : (s : State) (n : ℕ) (bytes : List ℕ) (s' : State) → Serves rules number q Right s → (h : Acts rules s n bytes s') → h.piece.places.first + h.piece.places.count ≤ place_count rules h.owner.request
  act_inside s n bytes s' k h =
      let f : PieceFits rules number (Right s.arrays) s.next_request s.requests h.piece =
      All-head (PieceFits rules number (Right s.arrays) s.next_request s.requests) h.piece h.other_pieces (fits_first s h.piece h.other_pieces h.fresh.is_out k) in
      All-contains (HoldsPlaces rules h.piece) s.requests h.owner f.inside h.is_open h.is_owner

  -- and what it writes in its array
  pub act_fits : (s : State) (n : ℕ) (bytes : List ℕ) (s' : State) → Serves rules number q Right s → (h : Acts rules s n bytes s') → h.owner.request.kind ≡ Write
      → first_sector rules h.owner.request + h.piece.places.first + length h.sectors ≤ length (array_of s h.owner.request)
  act_fits s n bytes s' k h w =
      let sized : IsSized rules h.owner = All-contains (IsSized rules) s.requests h.owner k.sized h.is_open in
      within (sized.inside (ap is_transfer w)) (act_inside s n bytes s' k h) (k.whole (partition_number h.owner.request))
    where
      within : {sectors length' : ℕ} → past rules h.owner.request ≤ sectors → h.piece.places.first + h.piece.places.count ≤ place_count rules h.owner.request → sectors ≤ length'
          → first_sector rules h.owner.request + h.piece.places.first + length h.sectors ≤ length'
      within a b c = rw h.covers (omega arith)

  Serves-Acts : (s : State) (n : ℕ) (bytes : List ℕ) (s' : State) → Serves rules number q Right s → (h : Acts rules s n bytes s') → ActsRightly rules number Right s n bytes s' h → Serves rules number q Right s'
  Serves-Acts s n bytes s' k h rightly =
      let p : Piece = h.piece in
      let o : OpenRequest = h.owner in
      let k1 : Serves rules number q Right (record s { arrays = h.arrays' }) =
      with_arrays s h.arrays' k (λ i. Transfers-length rules s o.request p.places o.request.kind h.sectors h.arrays' i (act_fits s n bytes s' k h) h.moves) rightly.keeps in
      Serves-same s' _ h.after (met (record s { arrays = h.arrays' }) p h.other_pieces (Acted h.sectors) h.fresh.is_out k1 h.covers rightly.leaves)

  -- RETURN
  Serves-DeviceStep : (s : State) (label : DeviceLabel) (s' : State) → AreDistinct s → ActsRightlyBy rules number Right s (Device label) s' → Serves rules number q Right s → DeviceStep rules s label s' → Serves rules number q Right s'
  Serves-DeviceStep s (Start k' tag block) s' d acts k h = Serves-Starts s k' tag block s' d k h
  Serves-DeviceStep s (Act k' bytes) s' d acts k h = Serves-Acts s k' bytes s' k h (acts h)
  Serves-DeviceStep s (Fault k') s' d acts k h = Serves-same s' _ h.after (met s h.piece h.other_pieces Faulted h.fresh.is_out k tt (λ e. tt))
  Serves-DeviceStep s (Return k' class) s' d acts k h =
      let o : OpenRequest = h.owner in
      let p : Piece = h.piece in
      let all : All (PieceFits rules number (Right s.arrays) s.next_request s.requests) (p ∷ h.other_pieces) = fits_first s p h.other_pieces h.is_out k in
      let f : PieceFits rules number (Right s.arrays) s.next_request s.requests p = All-head (PieceFits rules number (Right s.arrays) s.next_request s.requests) p h.other_pieces all in
      let left : (length h.marks ≡ p.places.count) × (p.owner ≡ number → (j : ℕ) (x : Mark) → j < length h.marks → IsRightMark (Right s.arrays) (p.places.first + j) (get_or h.marks j x)) =
      leaves_right (Right s.arrays) number p class h.marks f.fills f.right h.leaves in
      let inside : p.places.first + p.places.count ≤ place_count rules o.request =
      All-head (HoldsPlaces rules p) o h.others (All-permutation (HoldsPlaces rules p) _ _ h.is_open f.inside) h.is_owner in
      let places : length o.marks ≡ place_count rules o.request = (sized_first s o h.others h.is_open k).places in
      let fits : p.places.first + length h.marks ≤ length o.marks = rw (left.0, places) inside in
      let right : o.number ≡ number → AllAt (IsRightMark (Right s.arrays)) (splice o.marks p.places.first h.marks) =
      λ e. splice_at (IsRightMark (Right s.arrays)) o.marks p.places.first h.marks fits (mine_first s o h.others h.is_open k e).right (left.1 (sym h.is_owner ∙ e)) in
      let k0 : Serves rules number q Right (record s { pieces = h.other_pieces }) =
      with_pieces s h.other_pieces k (All-tail (PieceFits rules number (Right s.arrays) s.next_request s.requests) p h.other_pieces all) in
      Serves-same s' _ h.after (changed (record s { pieces = h.other_pieces }) o (given_back p class h.marks o) h.others h.is_open k0 refl refl (length-splice o.marks p.places.first h.marks fits) right)

  -- CALL
  pub Serves-Opens : (s : State) (n : ℕ) (r : ClientRequest) (s' : State) → Serves rules number q Right s → Opens rules s n r s' → Serves rules number q Right s'
  Serves-Opens s n r s' k h =
      let o : OpenRequest = new_request rules s n r in
      let above : number < n = trans_lt k.given h.new_number in
      let later : s.next_request ≤ n + 1 = later_of h.new_number in
      let sized : IsSized rules o = record { places = length-replicate (place_count rules r) Untouched; inside = λ w. in_bounds rules s r w h.not_refused } in
      Serves-same s' _ h.after (record {
        given = omega arith;
        whole = k.whole;
        sized = All-cons (IsSized rules) o s.requests sized k.sized;
        mine = All-cons (IsMine number q (Right s.arrays)) o s.requests (λ e. absurd (never_equal above e)) k.mine;
        pieces = All-weaker (PieceFits rules number (Right s.arrays) s.next_request s.requests) (PieceFits rules number (Right s.arrays) (n + 1) (o ∷ s.requests)) (λ p f. grown p f) s.pieces k.pieces;
      })
    where
      trans_lt : number < s.next_request → s.next_request ≤ n → number < n
      trans_lt a b = omega arith

      later_of : s.next_request ≤ n → s.next_request ≤ n + 1
      later_of a = omega arith

      never_equal : {a b : ℕ} → a < b → b ≡ a → ⊥
      never_equal low e = absurd (omega arith)

      grown : (p : Piece) → PieceFits rules number (Right s.arrays) s.next_request s.requests p → PieceFits rules number (Right s.arrays) (n + 1) (new_request rules s n r ∷ s.requests) p
      grown p f = record {
        given = below f.given h.new_number;
        fills = f.fills;
        right = f.right;
        inside = All-cons (HoldsPlaces rules p) (new_request rules s n r) s.requests (λ e. absurd (apart f.given h.new_number e)) f.inside;
      }
        where
          below : p.owner < s.next_request → s.next_request ≤ n → p.owner < n + 1
          below a b = omega arith

          apart : p.owner < s.next_request → s.next_request ≤ n → n ≡ p.owner → ⊥
          apart a b e = absurd (omega arith)

  Serves-Admits : (s : State) (n : ℕ) (r : ClientRequest) (answer : Option NtStatus) (s' : State) → s.next_request ≤ n → Serves rules number q Right s → Admits rules s n r answer s' → Serves rules number q Right s'
  Serves-Admits s n r None s' above k h = Serves-Opens s n r s' k h
  Serves-Admits s n r (Some status) s' above k h = Serves-same s' _ h.after (record {
    given = more above k.given;
    whole = k.whole;
    sized = k.sized;
    mine = k.mine;
    pieces = All-weaker (PieceFits rules number (Right s.arrays) s.next_request s.requests) (PieceFits rules number (Right s.arrays) (n + 1) s.requests)
        (λ p f. record { given = more above f.given; fills = f.fills; inside = f.inside; right = f.right }) s.pieces k.pieces;
  })
    where
      more : {a b c : ℕ} → a ≤ b → c < a → c < b + 1
      more x y = omega arith

  Serves-paused : (s : State) (window : Option ℕ) → Serves rules number q Right s → Serves rules number q Right (record s { requests = held_back window s.requests })
  Serves-paused s None k = with_requests s s.requests k k.sized k.mine (λ p h. h)
  Serves-paused s (Some window) k = each s (beyond window s.requests) (λ o. refl) (λ o. refl) (λ o. refl) k

  pub Serves-FreeStep : (s : State) (label : Label) (s' : State) → AreDistinct s → ActsRightlyBy rules number Right s label s' → Serves rules number q Right s → FreeStep rules s label s' → Serves rules number q Right s'
  Serves-FreeStep s (Call n r) s' d acts k h = Serves-Admits s n r (refusal rules s r) s' (rw h.next_number (omega arith)) k h.admits
  Serves-FreeStep s (Device label) s' d acts k h = Serves-DeviceStep s label s' d acts k h
  Serves-FreeStep s (Answer n status informed bytes) s' d acts k h =
      Serves-same s' _ h.answers.after (with_requests s h.answers.others k
      (All-tail (IsSized rules) h.answers.request h.answers.others (All-permutation (IsSized rules) _ _ h.answers.is_open k.sized))
      (All-tail (IsMine number q (Right s.arrays)) h.answers.request h.answers.others (All-permutation (IsMine number q (Right s.arrays)) _ _ h.answers.is_open k.mine))
      (λ p holds. All-tail (HoldsPlaces rules p) h.answers.request h.answers.others (All-permutation (HoldsPlaces rules p) _ _ h.answers.is_open holds)))
  Serves-FreeStep s (Cancel n) s' d acts k h =
      Serves-same s' _ h.after (changed s h.request (as_cancelled h.request) h.others h.is_open k refl refl refl (λ e. (mine_first s h.request h.others h.is_open k e).right))
  Serves-FreeStep s Pause s' d acts k h = Serves-same s' _ h.after (flagged _ s.owed s.next_piece true s.removing s.removed (Serves-paused s rules.window k))
  Serves-FreeStep s Resume s' d acts k h = Serves-same s' _ h.after (flagged _ s.owed s.next_piece false s.removing s.removed (each s as_timely (λ o. refl) (λ o. refl) (λ o. refl) k))
  Serves-FreeStep s Remove s' d acts k h = Serves-same s' _ h.after (flagged s s.owed s.next_piece false true s.removed k)
  Serves-FreeStep s Surprise s' d acts k h = Serves-same s' _ h.drains (flagged _ s.owed s.next_piece false true s.removed (by_pause s.paused))
    where
      by_pause : (paused : Bool) → Serves rules number q Right (record s { requests = if paused then s.requests else held_back rules.window s.requests })
      by_pause true = k
      by_pause false = Serves-paused s rules.window k
  Serves-FreeStep s Removed s' d acts k h = Serves-same s' _ h.after (flagged s s.owed s.next_piece s.paused s.removing true k)

  Serves-OwingStep : (s : State) (label : Label) (s' : State) → Serves rules number q Right s → OwingStep s label s' → Serves rules number q Right s'
  Serves-OwingStep s (Answer n status informed bytes) s' k h = Serves-same s' _ h.after (flagged s None s.next_piece s.paused s.removing s.removed k)
  Serves-OwingStep s _ s' k h = absurd h

  pub Serves-Step : (s : State) (label : Label) (s' : State) → AreDistinct s → ActsRightlyBy rules number Right s label s' → Serves rules number q Right s → Step rules s label s' → Serves rules number q Right s'
  Serves-Step s label s' d acts k (inl h) = Serves-FreeStep s label s' d acts k h.1
  Serves-Step s label s' d acts k (inr h) = Serves-OwingStep s label s' k h
