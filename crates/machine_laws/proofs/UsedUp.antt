-- Each label uses up one of those that were left.
use Rattle.machine_laws.proofs.Common.{◌≡◌, ◌<◌, ◌≤◌, inl, inr, ℕ, ◌+◌, ◌*◌, ◌||◌, Bool, true, false, List, [], ◌∷◌, Option, Some, None, refl, sym, ◌∙◌, ap, arith, map, length, sum_by-cons, sum_by-le-sum_by, All-permutation, sum_by-IsPermutation, All-head, All-tail, NtStatus, DeviceLabel, Start, Act, Fault, Return, Class, Good, Busy, Bad, Fate, Fresh, Acted, Faulted, ClientRequest, Label, Call, Device, Answer, Cancel, Pause, Resume, Remove, Surprise, Removed, Rules, place_count, Mark, OpenRequest, Piece, State, IsSame, refusal, Admits, new_request, Returns, LeavesMarks, one_if_busy, sent, given_back, new_piece, with_fate, held_back, beyond, as_timely, as_cancelled, piece_count, restarts, IsPlaced, IsCovered, DeviceStep, FreeStep, OwingStep, Step, Run, leaves, is_inside, IsTakenIn, taken_in, labels_of_starts, labels_of_request, labels_of_fate, labels_of_piece, labels_left, labels_brought, StepsUseUp, RunsUseUp, NoMoreAreLeft, BringsNone, brought_along}
use Rattle.std.specs.Prelude.{IsPermutation, All, IsTrue, IsFalse, is_none, IsNone, sum_by, if◌then◌else◌}
use Rattle.machine_laws.proofs.Starting.{one_if, new_starts, start_taken, return_adds}
use Rattle.machine_laws.proofs.Tidy.{IsShort, IsTidy, IsTidy-Step, IsTidy-reached}

-- SUMS

module _ {X : Type 0} (f : X → ℕ) where
  in_order : (xs ys : List X) → IsPermutation xs ys → sum_by f xs ≡ sum_by f ys
  in_order xs ys p = sym (sum_by-IsPermutation f xs ys p)

  first_of : (xs : List X) (x : X) (others : List X) → IsPermutation xs (x ∷ others) → sum_by f xs ≡ f x + sum_by f others
  first_of xs x others p = in_order xs (x ∷ others) p ∙ sum_by-cons f x others

  -- one item changed, and so much less or more
  one_changed : (xs : List X) (x x' : X) (others : List X) (less more : ℕ) → IsPermutation xs (x ∷ others) → f x' + less ≤ f x + more
      → sum_by f (x' ∷ others) + less ≤ sum_by f xs + more
  one_changed xs x x' others less more p le =
      let before : sum_by f xs ≡ f x + sum_by f others = first_of xs x others p in
      let after : sum_by f (x' ∷ others) ≡ f x' + sum_by f others = sum_by-cons f x' others in
      omega arith

  mapped : (g : X → X) → ((x : X) → f (g x) ≡ f x) → (xs : List X) → sum_by f (map g xs) ≡ sum_by f xs
  mapped g same [] = refl
  mapped g same (x ∷ xs) =
      let a : sum_by f (g x ∷ map g xs) ≡ f (g x) + sum_by f (map g xs) = sum_by-cons f (g x) (map g xs) in
      let b : sum_by f (x ∷ xs) ≡ f x + sum_by f xs = sum_by-cons f x xs in
      let c : f (g x) ≡ f x = same x in
      let d : sum_by f (map g xs) ≡ sum_by f xs = mapped g same xs in
      omega arith

-- FLAGS AND FATES

abbrev one_unless : Bool → ℕ
one_unless b = if b then 0 else 1

-- the labels of a request that was cancelled or not, with this many of its starts, while removing or not
abbrev asked : Bool → Bool → ℕ → ℕ
asked cancelled removing starts = (if cancelled then 1 else 2) + (if cancelled || removing then 0 else starts)

-- three less, of a request that may start
start_lowers : (c r : Bool) (x y : ℕ) → IsFalse c → IsFalse r → x + 3 ≤ y → asked c r x + 3 ≤ asked c r y
start_lowers false false x y c r less = omega arith
start_lowers true r x y c r' less = cc (c)
start_lowers false true x y c r less = cc (r)

-- no more than these
no_more : (c r : Bool) (x y b : ℕ) → x ≤ y + b → asked c r x ≤ asked c r y + b
no_more false false x y b le = omega arith
no_more true r x y b le = omega arith
no_more false true x y b le = omega arith

-- none once it is cancelled
cancel_lowers : (c r : Bool) (x : ℕ) → IsFalse c → asked true r x + 1 ≤ asked c r x
cancel_lowers false r x c = omega arith
cancel_lowers true r x c = cc (c)

-- none while removing
removal_lowers : (c r : Bool) (x : ℕ) → asked c true x ≤ asked c r x
removal_lowers false r x = omega arith
removal_lowers true r x = omega arith

-- an answer at least
some_label : (c r : Bool) (x : ℕ) → 1 ≤ asked c r x
some_label false r x = omega arith
some_label true r x = omega arith

some_fate : (fate : Fate) → 1 ≤ labels_of_fate fate
some_fate Fresh = omega arith
some_fate (Acted sectors) = omega arith
some_fate Faulted = omega arith

-- a return at least, and an act or fault if it comes back busy
fate_left : (piece : Piece) (class : Class) (marks : List Mark) → LeavesMarks piece class marks
    → 1 + one_if_busy class ≤ labels_of_piece piece
fate_left piece Good marks h = some_fate piece.fate
fate_left piece Busy marks h = let two : labels_of_piece piece ≡ 2 = ap labels_of_fate h.0 in omega arith
fate_left piece (Bad completion) marks h = some_fate piece.fate

-- a piece that meets its fate
met : (ps : List Piece) (piece : Piece) (others : List Piece) (fate : Fate) → labels_of_fate fate ≡ 1 → IsPermutation ps (piece ∷ others)
    → piece.fate ≡ Fresh → sum_by labels_of_piece (with_fate fate piece ∷ others) + 1 ≤ sum_by labels_of_piece ps + 0
met ps piece others fate one p fresh =
    let two : labels_of_piece piece ≡ 2 = ap labels_of_fate fresh in
    one_changed labels_of_piece ps piece (with_fate fate piece) others 1 0 p (omega arith)

-- EACH LABEL

module _ (rules : Rules) (on_grid : IsFalse rules.any_cut) where
  abbrev of_one : Bool → OpenRequest → ℕ
  of_one removing o = labels_of_request rules removing o

  abbrev of_requests : Bool → List OpenRequest → ℕ
  of_requests removing os = sum_by (of_one removing) os

  left_same : (s t : State) → IsSame s t → labels_left rules s ≡ labels_left rules t
  left_same s t h =
      let a : of_requests t.removing s.requests ≡ of_requests t.removing t.requests = in_order (of_one t.removing) _ _ h.requests in
      let b : sum_by labels_of_piece s.pieces ≡ sum_by labels_of_piece t.pieces = in_order labels_of_piece _ _ h.pieces in
      rw (h.removing, h.owed, h.paused, h.removed) (omega arith)

  -- a state that says the same has as many left
  lowered : (most : ℕ) (s' t : State) → IsSame s' t → labels_left rules t + 1 ≤ most → labels_left rules s' + 1 ≤ most
  lowered most s' t h low = let e : labels_left rules s' ≡ labels_left rules t = left_same s' t h in omega arith

  -- the requests that a pause holds back are the same but for being late
  held_same : (r : Bool) (window : Option ℕ) (xs : List OpenRequest) → of_requests r (held_back window xs) ≡ of_requests r xs
  held_same r None xs = refl
  held_same r (Some window) xs = mapped (of_one r) (beyond window xs) (λ o. refl) xs

  removing_lowers : (r : Bool) (xs : List OpenRequest) → of_requests true xs ≤ of_requests r xs
  removing_lowers r xs = sum_by-le-sum_by (of_one true) (of_one r) xs (λ o. removal_lowers o.cancelled r (labels_of_starts rules o))

  -- a return takes the piece's labels, and a busy one gives back its act
  return_lowers : (s : State) (number : ℕ) (class : Class) (s' : State) → IsTidy rules s → (h : Returns s number class s')
      → of_one s.removing (given_back h.piece class h.marks h.owner) + 0 ≤ of_one s.removing h.owner + one_if_busy class
  return_lowers s number class s' k h =
      let placed : IsPlaced s.requests h.piece =
      All-head (IsPlaced s.requests) h.piece h.other_pieces (All-permutation (IsPlaced s.requests) _ _ h.is_out k.placed.pieces) in
      let covered : IsCovered s.pieces h.owner =
      All-head (IsCovered s.pieces) h.owner h.others (All-permutation (IsCovered s.pieces) _ _ h.is_open k.placed.places) in
      let short : h.piece.places.count ≤ rules.max_transfer =
      All-head (IsShort rules) h.piece h.other_pieces (All-permutation (IsShort rules) _ _ h.is_out k.short) in
      let some : 0 < h.piece.places.count = placed.some in
      let long : length h.marks ≡ h.piece.places.count = (leaves h.piece class h.marks placed.filled h.leaves).0 in
      let inside : h.piece.places.first + h.piece.places.count ≤ length h.owner.marks =
      is_inside s.pieces h.piece h.other_pieces h.owner h.is_out covered h.is_owner some in
      let starts : labels_of_starts rules (given_back h.piece class h.marks h.owner) ≤ labels_of_starts rules h.owner + one_if_busy class =
      return_adds rules h.owner h.piece class h.marks (omega arith) h.leaves (omega arith) (omega arith) in
      let all : of_one s.removing (given_back h.piece class h.marks h.owner) ≤ of_one s.removing h.owner + one_if_busy class =
      no_more h.owner.cancelled s.removing _ _ (one_if_busy class) starts in
      omega arith

  DeviceStep-uses : (s : State) (label : DeviceLabel) (s' : State) → IsTidy rules s → DeviceStep rules s label s'
      → labels_left rules s' + 1 ≤ labels_left rules s
  DeviceStep-uses s (Start number tag block) s' k h =
      let starts : labels_of_starts rules (sent h.places h.owner) + 3 ≤ labels_of_starts rules h.owner =
      start_taken rules h.owner h.places on_grid h.sendable in
      let mine : of_one s.removing (sent h.places h.owner) + 3 ≤ of_one s.removing h.owner =
      start_lowers h.owner.cancelled s.removing _ _ h.may_start.not_cancelled h.may_start.not_removing starts in
      let all : of_requests s.removing (sent h.places h.owner ∷ h.others) + 3 ≤ of_requests s.removing s.requests + 0 =
      one_changed (of_one s.removing) s.requests h.owner (sent h.places h.owner) h.others 3 0 h.is_open (omega arith) in
      let out : sum_by labels_of_piece (new_piece s tag h.owner h.places ∷ s.pieces) ≡ 2 + sum_by labels_of_piece s.pieces =
      sum_by-cons labels_of_piece (new_piece s tag h.owner h.places) s.pieces in
      lowered _ s' _ h.after (omega arith)
  DeviceStep-uses s (Act number bytes) s' k h =
      let out : sum_by labels_of_piece (with_fate (Acted h.sectors) h.piece ∷ h.other_pieces) + 1 ≤ sum_by labels_of_piece s.pieces + 0 =
      met s.pieces h.piece h.other_pieces (Acted h.sectors) refl h.fresh.is_out h.fresh.is_fresh in
      lowered _ s' _ h.after (omega arith)
  DeviceStep-uses s (Fault number) s' k h =
      let out : sum_by labels_of_piece (with_fate Faulted h.piece ∷ h.other_pieces) + 1 ≤ sum_by labels_of_piece s.pieces + 0 =
      met s.pieces h.piece h.other_pieces Faulted refl h.fresh.is_out h.fresh.is_fresh in
      lowered _ s' _ h.after (omega arith)
  DeviceStep-uses s (Return number class) s' k h =
      let all : of_requests s.removing (given_back h.piece class h.marks h.owner ∷ h.others) + 0
      ≤ of_requests s.removing s.requests + one_if_busy class =
      one_changed (of_one s.removing) s.requests h.owner (given_back h.piece class h.marks h.owner) h.others 0 (one_if_busy class) h.is_open
      (return_lowers s number class s' k h) in
      let out : sum_by labels_of_piece s.pieces ≡ labels_of_piece h.piece + sum_by labels_of_piece h.other_pieces =
      first_of labels_of_piece s.pieces h.piece h.other_pieces h.is_out in
      let own : 1 + one_if_busy class ≤ labels_of_piece h.piece = fate_left h.piece class h.marks h.leaves in
      lowered _ s' _ h.after (omega arith)

  -- a call that opens its request brings all labels of it, and one that is refused its answer
  call_brings : (s : State) (number : ℕ) (q : ClientRequest) (answer : Option NtStatus) (s' : State)
      → IsTrue (is_none s.owed) → Admits rules s number q answer s'
      → labels_left rules s' + 1
      ≤ labels_left rules s + (if is_none answer then 3 * piece_count rules (place_count rules q) + 2 * restarts rules + 3 else 2)
  call_brings s number q None s' free h =
      let taken : IsTakenIn rules s q = taken_in rules s q h.not_refused in
      let starts : labels_of_starts rules (new_request rules s number q)
      ≡ 3 * piece_count rules (place_count rules q) + 2 * restarts rules =
      new_starts rules (new_request rules s number q) (place_count rules q) refl refl in
      let mine : of_one s.removing (new_request rules s number q) ≡ 2 + labels_of_starts rules (new_request rules s number q) =
      ap (λ r. asked false r (labels_of_starts rules (new_request rules s number q))) taken.staying in
      let all : of_requests s.removing (new_request rules s number q ∷ s.requests)
      ≡ of_one s.removing (new_request rules s number q) + of_requests s.removing s.requests =
      sum_by-cons (of_one s.removing) (new_request rules s number q) s.requests in
      lowered _ s' _ h.after (omega arith)
  call_brings s number q (Some status) s' free h =
      let none : one_unless (is_none s.owed) ≡ 0 = ap one_unless free in
      lowered _ s' _ h.after (omega arith)

  FreeStep-uses : (s : State) (label : Label) (s' : State) → IsTidy rules s → IsTrue (is_none s.owed) → FreeStep rules s label s'
      → labels_left rules s' + 1 ≤ labels_left rules s + labels_brought rules s label
  FreeStep-uses s (Call number q) s' k free h = call_brings s number q (refusal rules s q) s' free h.admits
  FreeStep-uses s (Device label) s' k free h =
      let less : labels_left rules s' + 1 ≤ labels_left rules s = DeviceStep-uses s label s' k h in omega arith
  FreeStep-uses s (Answer number status informed bytes) s' k free h =
      let all : of_requests s.removing s.requests ≡ of_one s.removing h.answers.request + of_requests s.removing h.answers.others =
      first_of (of_one s.removing) s.requests h.answers.request h.answers.others h.answers.is_open in
      let one : 1 ≤ of_one s.removing h.answers.request = some_label h.answers.request.cancelled s.removing _ in
      lowered _ s' _ h.answers.after (omega arith)
  FreeStep-uses s (Cancel number) s' k free h =
      let mine : of_one s.removing (as_cancelled h.request) + 1 ≤ of_one s.removing h.request =
      cancel_lowers h.request.cancelled s.removing _ h.not_yet in
      let all : of_requests s.removing (as_cancelled h.request ∷ h.others) + 1 ≤ of_requests s.removing s.requests + 0 =
      one_changed (of_one s.removing) s.requests h.request (as_cancelled h.request) h.others 1 0 h.is_open (omega arith) in
      lowered _ s' _ h.after (omega arith)
  FreeStep-uses s Pause s' k free h =
      let same : of_requests s.removing (held_back rules.window s.requests) ≡ of_requests s.removing s.requests =
      held_same s.removing rules.window s.requests in
      let not_paused : one_if s.paused ≡ 0 = ap one_if h.not_paused in
      lowered _ s' _ h.after (omega arith)
  FreeStep-uses s Resume s' k free h =
      let same : of_requests s.removing (map as_timely s.requests) ≡ of_requests s.removing s.requests =
      mapped (of_one s.removing) as_timely (λ o. refl) s.requests in
      let paused : one_if s.paused ≡ 1 = ap one_if h.is_paused in
      lowered _ s' _ h.after (omega arith)
  FreeStep-uses s Remove s' k free h =
      let fewer : of_requests true s.requests ≤ of_requests s.removing s.requests = removing_lowers s.removing s.requests in
      let paused : one_if s.paused ≡ 1 = ap one_if h.is_paused in
      lowered _ s' _ h.after (omega arith)
  FreeStep-uses s Surprise s' k free h =
      let fewer : of_requests true (if s.paused then s.requests else held_back rules.window s.requests)
      ≤ of_requests s.removing s.requests =
      by_pause s.paused in
      let staying : one_unless s.removing ≡ 1 = ap one_unless h.not_removing in
      lowered _ s' _ h.drains (omega arith)
    where
      by_pause : (paused : Bool)
          → of_requests true (if paused then s.requests else held_back rules.window s.requests) ≤ of_requests s.removing s.requests
      by_pause true = removing_lowers s.removing s.requests
      by_pause false = rw (held_same true rules.window s.requests) (removing_lowers s.removing s.requests)
  FreeStep-uses s Removed s' k free h =
      let not_yet : one_unless s.removed ≡ 1 = ap one_unless h.once in
      lowered _ s' _ h.after (omega arith)

  OwingStep-uses : (s : State) (label : Label) (s' : State) → OwingStep s label s'
      → labels_left rules s' + 1 ≤ labels_left rules s + labels_brought rules s label
  OwingStep-uses s (Answer number status informed bytes) s' h =
      let owed : one_unless (is_none s.owed) ≡ 1 = ap (λ o. one_unless (is_none o)) h.is_owed in
      lowered _ s' _ h.after (omega arith)
  OwingStep-uses s _ s' h = absurd h

  Step-uses : (s : State) (label : Label) (s' : State) → IsTidy rules s → Step rules s label s'
      → labels_left rules s' + 1 ≤ labels_left rules s + labels_brought rules s label
  Step-uses s label s' k (inl h) = FreeStep-uses s label s' k (free_is s.owed h.0) h.1
    where
      free_is : {X : Type 0} (o : Option X) → IsNone o → IsTrue (is_none o)
      free_is None free = refl
      free_is (Some x) free = cc (free)
  Step-uses s label s' k (inr h) = OwingStep-uses s label s' h

  Run-uses : (s : State) (labels : List Label) (s' : State) → IsTidy rules s → (run : Run rules s labels s')
      → labels_left rules s' + length labels ≤ labels_left rules s + brought_along rules s labels s' run
  Run-uses s [] s' k run = let e : labels_left rules s ≡ labels_left rules s' = left_same s s' run in omega arith
  Run-uses s (label ∷ labels) s' k (mid, step, rest) =
      let one : labels_left rules mid + 1 ≤ labels_left rules s + labels_brought rules s label = Step-uses s label mid k step in
      let more : labels_left rules s' + length labels ≤ labels_left rules mid + brought_along rules mid labels s' rest =
      Run-uses mid labels s' (IsTidy-Step rules s label mid k step) rest in
      omega arith

  brings_none : (s : State) (label : Label) → BringsNone label → labels_brought rules s label ≡ 0
  brings_none s (Call number q) h = absurd h
  brings_none s Pause h = absurd h
  brings_none s _ h = refl

  none_brought : (s : State) (labels : List Label) (s' : State) → (run : Run rules s labels s') → All BringsNone labels
      → brought_along rules s labels s' run ≡ 0
  none_brought s [] s' run h = refl
  none_brought s (label ∷ labels) s' (mid, step, rest) h =
      let one : labels_brought rules s label ≡ 0 = brings_none s label (All-head BringsNone label labels h) in
      let more : brought_along rules mid labels s' rest ≡ 0 = none_brought mid labels s' rest (All-tail BringsNone label labels h) in
      omega arith

-- THE LAWS

pub steps_use_up : StepsUseUp
steps_use_up rules on_grid s label s' reached step = Step-uses rules on_grid s label s' (IsTidy-reached rules s reached) step

pub runs_use_up : RunsUseUp
runs_use_up rules on_grid s labels s' reached run = Run-uses rules on_grid s labels s' (IsTidy-reached rules s reached) run

pub no_more_are_left : NoMoreAreLeft
no_more_are_left rules on_grid s labels s' reached run quiet =
    let none : brought_along rules s labels s' run ≡ 0 = none_brought rules on_grid s labels s' run quiet in
    let all : labels_left rules s' + length labels ≤ labels_left rules s + brought_along rules s labels s' run =
    runs_use_up rules on_grid s labels s' reached run in
    omega arith
