-- What starts and returns use up, where no piece comes back busy.
use Rattle.volume.proofs.Common.{◌≡◌, ◌≢◌, ◌<◌, ◌≤◌, ℕ, suc, ◌+◌, ◌-◌, false, cond, List, [], ◌∷◌, ◌++◌, refl, sym, ◌∙◌, ap, subst, arith, length, take, drop, replicate, length-take, length-drop, All, IsPermutation, count_by, slice_range, sum_by, drop-drop, length-replicate, All-nil, All-cons, All-head, All-tail, All-replicate, All-map, sum_by-append, sum_by-cons, sum_by-take-drop, sum_by-IsPermutation, sum_by_popped, length_permutation, NtStatus, splice, Class, Good, Busy, Bad, Rules, Answers, Starts, Acts, Faults, Returns, LeavesMarks, IsUnsent, is_unsent, sent, given_back, new_piece, status_of_completion, unsent_places, work}
use Rattle.machine.specs.State.{Mark, Out, Done, Failed, OpenRequest, Piece, State, IsSame}

-- MARKS

abbrev one_if_unsent : Mark → ℕ
one_if_unsent m = cond (is_unsent m) 1 0

abbrev unsent : List Mark → ℕ
unsent ms = count_by is_unsent ms

abbrev IsSent : Mark → Type 0
IsSent m = is_unsent m ≡ false

none_unsent : (ms : List Mark) → All IsSent ms → unsent ms ≡ 0
none_unsent [] h = refl
none_unsent (m ∷ ms) h =
    sum_by-cons one_if_unsent m ms ∙ ap (λ b. cond b 1 0 + unsent ms) (All-head IsSent m ms h) ∙ zero_first (none_unsent ms (All-tail IsSent m ms h))
  where
    zero_first : {n : ℕ} → n ≡ 0 → 0 + n ≡ 0
    zero_first e = omega arith

all_unsent : (ms : List Mark) → All IsUnsent ms → unsent ms ≡ length ms
all_unsent [] h = refl
all_unsent (m ∷ ms) h =
    sum_by-cons one_if_unsent m ms ∙ ap (λ b. cond b 1 0 + unsent ms) (All-head IsUnsent m ms h) ∙ one_first (length ms) (all_unsent ms (All-tail IsUnsent m ms h))
  where
    one_first : {n : ℕ} (l : ℕ) → n ≡ l → 1 + n ≡ suc l
    one_first l e = omega arith

-- the parts of a list with some of it replaced
of_splice : (ms : List Mark) (first : ℕ) (more : List Mark) → unsent (splice ms first more) ≡ unsent (take first ms) + (unsent more + unsent (drop (first + length more) ms))
of_splice ms first more =
    sum_by-append one_if_unsent (take first ms) (more ++ drop (first + length more) ms)
    ∙ ap (λ n. unsent (take first ms) + n) (sum_by-append one_if_unsent more (drop (first + length more) ms))

of_parts : (ms : List Mark) (first n : ℕ) → unsent ms ≡ unsent (take first ms) + (unsent (take n (drop first ms)) + unsent (drop (first + n) ms))
of_parts ms first n =
    let behind : drop n (drop first ms) ≡ drop (first + n) ms = drop-drop n first ms in
    sym (sum_by-take-drop one_if_unsent ms first)
    ∙ ap (λ k. unsent (take first ms) + k) (sym (sum_by-take-drop one_if_unsent (drop first ms) n) ∙ ap (λ ys. unsent (take n (drop first ms)) + unsent ys) behind)

-- marks that are sent come in place of others
no_more_unsent : (ms : List Mark) (first : ℕ) (more : List Mark) → All IsSent more → unsent (splice ms first more) ≤ unsent ms
no_more_unsent ms first more h =
    let a : unsent more ≡ 0 = none_unsent more h in
    let b : unsent (splice ms first more) ≡ _ = of_splice ms first more in
    let c : unsent ms ≡ _ = of_parts ms first (length more) in
    omega arith

fewer_unsent : (ms : List Mark) (first count : ℕ) → 0 < count → first + count ≤ length ms → All IsUnsent (slice_range ms first (first + count))
    → unsent (splice ms first (replicate count Out)) + 1 ≤ unsent ms
fewer_unsent ms first count some fits h =
    let e : first + count - first ≡ count = omega arith in
    let here : All IsUnsent (take count (drop first ms)) = subst (λ n. All IsUnsent (take n (drop first ms))) e h in
    let long : length (take count (drop first ms)) ≡ count = simp (length-take, length-drop) (omega arith) in
    let all : unsent (take count (drop first ms)) ≡ count = all_unsent (take count (drop first ms)) here ∙ long in
    let none : unsent (replicate count Out) ≡ 0 = none_unsent (replicate count Out) (All-replicate IsSent count Out refl) in
    let a : unsent (splice ms first (replicate count Out)) ≡ unsent (take first ms) + (unsent (replicate count Out) + unsent (drop (first + length (replicate count Out)) ms)) = of_splice ms first (replicate count Out) in
    let n : first + length (replicate count Out) ≡ first + count = ap (λ k. first + k) (length-replicate count Out) in
    let a' : unsent (drop (first + length (replicate count Out)) ms) ≡ unsent (drop (first + count) ms) = ap (λ k. unsent (drop k ms)) n in
    let b : unsent ms ≡ unsent (take first ms) + (unsent (take count (drop first ms)) + unsent (drop (first + count) ms)) = of_parts ms first count in
    omega arith

-- STEPS

abbrev unsent_in : List OpenRequest → ℕ
unsent_in os = sum_by unsent_places os

-- the request in front, before and after
before_first : (os : List OpenRequest) (o : OpenRequest) (others : List OpenRequest) → IsPermutation os (o ∷ others) → unsent_in os ≡ unsent o.marks + unsent_in others
before_first os o others p = let e : unsent_in others + unsent_places o ≡ unsent_in os = sum_by_popped unsent_places o os others p in omega arith

leaves_sent : (piece : Piece) (class : Class) (marks : List Mark) → class ≢ Busy → LeavesMarks piece class marks → All IsSent marks
leaves_sent piece Good marks not_busy h = subst (λ ms. All IsSent ms) (sym h.2) (All-map IsSent Done h.0 (all_done h.0))
  where
    all_done : (xs : List (List ℕ)) → All (λ (x : List ℕ). IsSent (Done x)) xs
    all_done [] = All-nil (λ (x : List ℕ). IsSent (Done x))
    all_done (x ∷ xs) = All-cons (λ (x : List ℕ). IsSent (Done x)) x xs refl (all_done xs)
leaves_sent piece Busy marks not_busy h = absurd (not_busy refl)
leaves_sent piece (Bad completion) marks not_busy h =
    subst (λ ms. All IsSent ms) (sym h.1) (All-replicate IsSent piece.places.count (Failed (status_of_completion completion)) refl)

module _ (rules : Rules) where
  pub starts_use : (s : State) (number tag : ℕ) (block : List ℕ) (s' : State) → Starts rules s number tag block s' → work s' < work s
  starts_use s number tag block s' h =
      let fewer : unsent (sent h.places h.owner).marks + 1 ≤ unsent h.owner.marks = fewer_unsent h.owner.marks h.places.first h.places.count h.sendable.some h.sendable.inside h.sendable.unsent in
      let a : unsent_in s.requests ≡ unsent h.owner.marks + unsent_in h.others = before_first s.requests h.owner h.others h.is_open in
      let b : unsent_in s'.requests ≡ unsent (sent h.places h.owner).marks + unsent_in h.others = before_first s'.requests (sent h.places h.owner) h.others h.after.requests in
      let n : length (new_piece s tag h.owner h.places ∷ s.pieces) ≡ length s'.pieces = length_permutation s'.pieces (new_piece s tag h.owner h.places ∷ s.pieces) h.after.pieces in
      omega arith

  pub returns_use : (s : State) (number : ℕ) (class : Class) (s' : State) → class ≢ Busy → Returns s number class s' → work s' < work s
  returns_use s number class s' not_busy h =
      let no_more : unsent (given_back h.piece class h.marks h.owner).marks ≤ unsent h.owner.marks = no_more_unsent h.owner.marks h.piece.places.first h.marks (leaves_sent h.piece class h.marks not_busy h.leaves) in
      let a : unsent_in s.requests ≡ unsent h.owner.marks + unsent_in h.others = before_first s.requests h.owner h.others h.is_open in
      let b : unsent_in s'.requests ≡ unsent (given_back h.piece class h.marks h.owner).marks + unsent_in h.others = before_first s'.requests (given_back h.piece class h.marks h.owner) h.others h.after.requests in
      let n : length (h.piece ∷ h.other_pieces) ≡ length s.pieces = length_permutation s.pieces (h.piece ∷ h.other_pieces) h.is_out in
      let m : length h.other_pieces ≡ length s'.pieces = length_permutation s'.pieces h.other_pieces h.after.pieces in
      omega arith

  pub same_work : (s t s' : State) → IsSame s' t → unsent_in t.requests ≡ unsent_in s.requests → length t.pieces ≡ length s.pieces → work s' ≡ work s
  same_work s t s' h requests pieces =
      let a : unsent_in t.requests ≡ unsent_in s'.requests = sum_by-IsPermutation unsent_places s'.requests t.requests h.requests in
      let n : length t.pieces ≡ length s'.pieces = length_permutation s'.pieces t.pieces h.pieces in
      omega arith

  pub acts_keep : (s : State) (number : ℕ) (bytes : List ℕ) (s' : State) → Acts rules s number bytes s' → work s' ≡ work s
  acts_keep s number bytes s' h =
      let n : length (h.piece ∷ h.other_pieces) ≡ length s.pieces = length_permutation s.pieces (h.piece ∷ h.other_pieces) h.fresh.is_out in
      same_work s _ s' h.after refl n

  pub faults_keep : (s : State) (number : ℕ) (s' : State) → Faults s number s' → work s' ≡ work s
  faults_keep s number s' h =
      let n : length (h.piece ∷ h.other_pieces) ≡ length s.pieces = length_permutation s.pieces (h.piece ∷ h.other_pieces) h.fresh.is_out in
      same_work s _ s' h.after refl n

  pub answers_use : (s : State) (number : ℕ) (status : NtStatus) (bytes : List ℕ) (s' : State) → Answers rules s number status bytes s' → work s' ≤ work s
  answers_use s number status bytes s' h =
      let a : unsent_in s.requests ≡ unsent h.request.marks + unsent_in h.others = before_first s.requests h.request h.others h.is_open in
      let b : unsent_in h.others ≡ unsent_in s'.requests = sum_by-IsPermutation unsent_places s'.requests h.others h.after.requests in
      let n : length s.pieces ≡ length s'.pieces = length_permutation s'.pieces s.pieces h.after.pieces in
      omega arith
