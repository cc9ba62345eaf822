-- States that say the same move alike.
use Rattle.std.proofs.Common.{◌≡◌, inl, inr, ℕ, Bool, true, false, List, [], ◌∷◌, ◌++◌, Option, Some, None, refl, sym, ◌∙◌, ap, subst, arith, map, length, cond}
use Rattle.std.specs.Prelude.{IsPermutation, Any, Contains, count_by, nat_le, ◌||◌, if◌then◌else◌}
use Rattle.std.proofs.lemmas.List.Sorted.{IsPermutation-refl, IsPermutation-sym, IsPermutation-trans, IsPermutation-cons, IsPermutation-map, length_permutation, All-permutation, Contains-permutation, sum_by-IsPermutation}
use Rattle.srb.specs.declared.DeviceLabel.{DeviceLabel}
use Rattle.srb.specs.declared.DeviceLabel.TheVariants.{Start, Act, Fault, Return}
use Rattle.ntstatus.specs.declared.NtStatus.{NtStatus}
use Rattle.machine.specs.declared.ClientRequest.{ClientRequest}
use Rattle.machine.specs.declared.Label.{Label}
use Rattle.machine.specs.declared.Label.TheVariants.{Call, Device, Answer, Cancel, Pause, Resume, Remove, Surprise, Removed}
use Rattle.machine.specs.Rules.{Rules}
use Rattle.machine.specs.State.{OpenRequest, Piece, State, IsSame}
use Rattle.machine.specs.Calling.{refusal, Opens, Refuses, Admits, Calls, AnswersRefused, new_request}
use Rattle.machine.specs.Sending.{Starts, Acts, Faults, MayStart, IsLowestFreeTag, IsFreshPiece, IsInTurn, HasOtherTag, HasTag, sent, new_piece, with_fate, given_back}
use Rattle.srb.specs.Fate.{Acted, Faulted}
use Rattle.machine.specs.Answering.{Answers, AnswersWith}
use Rattle.machine.specs.Holding.{as_cancelled, held_back, beyond, as_timely, is_lower}
use Rattle.machine.specs.Step.{DeviceStep, FreeStep, OwingStep, Step, Run}

-- the same state with these requests and pieces
abbrev pub reordered : State → List OpenRequest → List Piece → State
reordered s rs ps = record s { requests = rs; pieces = ps }

pub IsSame-reordered : (s : State) (rs rs' : List OpenRequest) (ps ps' : List Piece) → IsPermutation rs rs' → IsPermutation ps ps' → IsSame (reordered s rs ps) (reordered s rs' ps')
IsSame-reordered s rs rs' ps ps' p q = record {
  arrays = refl;
  next_request = refl;
  next_piece = refl;
  requests = p;
  pieces = q;
  owed = refl;
  paused = refl;
  removing = refl;
  removed = refl;
}

pub IsSame-refl : (s : State) → IsSame s s
IsSame-refl s = IsSame-reordered s s.requests s.requests s.pieces s.pieces (IsPermutation-refl _) (IsPermutation-refl _)

pub IsSame-sym : (s t : State) → IsSame s t → IsSame t s
IsSame-sym s t h = record {
  arrays = sym h.arrays;
  next_request = sym h.next_request;
  next_piece = sym h.next_piece;
  requests = IsPermutation-sym _ _ h.requests;
  pieces = IsPermutation-sym _ _ h.pieces;
  owed = sym h.owed;
  paused = sym h.paused;
  removing = sym h.removing;
  removed = sym h.removed;
}

pub IsSame-trans : (s t u : State) → IsSame s t → IsSame t u → IsSame s u
IsSame-trans s t u h k = record {
  arrays = h.arrays ∙ k.arrays;
  next_request = h.next_request ∙ k.next_request;
  next_piece = h.next_piece ∙ k.next_piece;
  requests = IsPermutation-trans _ _ _ h.requests k.requests;
  pieces = IsPermutation-trans _ _ _ h.pieces k.pieces;
  owed = h.owed ∙ k.owed;
  paused = h.paused ∙ k.paused;
  removing = h.removing ∙ k.removing;
  removed = h.removed ∙ k.removed;
}

pub same_fields : (s t : State) → IsSame s t → t ≡ reordered s t.requests t.pieces
same_fields s t h =
    ap (λ v. record t { arrays = v }) (sym h.arrays)
    ∙ ap (λ v. record t { arrays = s.arrays; next_request = v }) (sym h.next_request)
    ∙ ap (λ v. record t { arrays = s.arrays; next_request = s.next_request; next_piece = v }) (sym h.next_piece)
    ∙ ap (λ v. record (reordered s t.requests t.pieces) { owed = v; paused = t.paused; removing = t.removing; removed = t.removed }) (sym h.owed)
    ∙ ap (λ v. record (reordered s t.requests t.pieces) { paused = v; removing = t.removing; removed = t.removed }) (sym h.paused)
    ∙ ap (λ v. record (reordered s t.requests t.pieces) { removing = v; removed = t.removed }) (sym h.removing)
    ∙ ap (λ v. record (reordered s t.requests t.pieces) { removed = v }) (sym h.removed)

-- what a step leads to, seen from other states that say the same
pub carry : (s' t' u : State) (rs : List OpenRequest) (ps : List Piece) → IsSame s' t' → IsSame s' u → IsPermutation u.requests rs → IsPermutation u.pieces ps → IsSame t' (reordered u rs ps)
carry s' t' u rs ps same after p q = record {
  arrays = sym same.arrays ∙ after.arrays;
  next_request = sym same.next_request ∙ after.next_request;
  next_piece = sym same.next_piece ∙ after.next_piece;
  requests = IsPermutation-trans _ _ _ (IsPermutation-sym _ _ same.requests) (IsPermutation-trans _ _ _ after.requests p);
  pieces = IsPermutation-trans _ _ _ (IsPermutation-sym _ _ same.pieces) (IsPermutation-trans _ _ _ after.pieces q);
  owed = sym same.owed ∙ after.owed;
  paused = sym same.paused ∙ after.paused;
  removing = sym same.removing ∙ after.removing;
  removed = sym same.removed ∙ after.removed;
}

map_alike : {X Y : Type 0} (f g : X → Y) → ((x : X) → f x ≡ g x) → (xs : List X) → map f xs ≡ map g xs
map_alike f g h [] = refl
map_alike f g h (x ∷ xs) = cc (h x, map_alike f g h xs)

-- a pause holds back the same requests in any order
pub held_back-permutation : (window : Option ℕ) (xs ys : List OpenRequest) → IsPermutation xs ys → IsPermutation (held_back window xs) (held_back window ys)
held_back-permutation None xs ys p = p
held_back-permutation (Some window) xs ys p =
    let count : (n : ℕ) → count_by (is_lower n) xs ≡ count_by (is_lower n) ys = λ n. sym (sum_by-IsPermutation (λ o. cond (is_lower n o) 1 0) xs ys p) in
    let alike : map (beyond window xs) ys ≡ map (beyond window ys) ys =
    map_alike (beyond window xs) (beyond window ys) (λ o. ap (λ n. record o { late = o.late || nat_le window n }) (count o.number)) ys in
    subst (λ zs. IsPermutation (map (beyond window xs) xs) zs) alike (IsPermutation-map (beyond window xs) xs ys p)

pub Any-permutation : {X : Type 0} (P : X → Type 0) (xs ys : List X) → IsPermutation xs ys → Any P xs → Any P ys
Any-permutation P xs ys p h =
    let c : Contains ys h.1 = Contains-permutation xs ys h.1 p (h.0, h.2, h.3) in
    (c.0, h.1, c.1, c.2, h.4)

-- one after the other, to a permutation of the first
joined : {X : Type 0} (xs ys zs : List X) → IsPermutation xs ys → IsPermutation xs zs → IsPermutation ys zs
joined xs ys zs p q = IsPermutation-trans _ _ _ (IsPermutation-sym _ _ p) q

no_length : {X : Type 0} (ys : List X) → length ys ≡ 0 → ys ≡ []
no_length [] e = refl
no_length (y ∷ ys) e = absurd (omega arith)

-- no item of the empty list
pub none_there : {X : Type 0} (xs ys : List X) → xs ≡ [] → IsPermutation xs ys → ys ≡ []
none_there xs ys e p =
    let n : length ys ≡ 0 = length_permutation xs ys p ∙ ap length e in no_length ys n

module _ (rules : Rules) (s s' t' : State) (rs : List OpenRequest) (ps : List Piece)
    (p : IsPermutation s.requests rs) (q : IsPermutation s.pieces ps) (same : IsSame s' t') where
  Opens-along : (number : ℕ) (r : ClientRequest) → Opens rules s number r s' → Opens rules (reordered s rs ps) number r t'
  Opens-along number r h = record {
    new_number = h.new_number;
    not_refused = rw (length_permutation s.requests rs p) h.not_refused;
    carries = h.carries;
    after = carry s' t' _ (new_request rules s number r ∷ rs) ps same h.after (IsPermutation-cons _ _ _ p) q;
  }

  Refuses-along : (number : ℕ) (status : NtStatus) (r : ClientRequest) → Refuses s number status r s' → Refuses (reordered s rs ps) number status r t'
  Refuses-along number status r h = record { no_bytes = h.no_bytes; after = carry s' t' _ rs ps same h.after p q }

  Admits-along : (number : ℕ) (r : ClientRequest) (answer : Option NtStatus) → Admits rules s number r answer s' → Admits rules (reordered s rs ps) number r answer t'
  Admits-along number r None h = Opens-along number r h
  Admits-along number r (Some status) h = Refuses-along number status r h

  Calls-along : (number : ℕ) (r : ClientRequest) → Calls rules s number r s' → Calls rules (reordered s rs ps) number r t'
  Calls-along number r h =
      let same_refusal : refusal rules (reordered s rs ps) r ≡ refusal rules s r = rw (length_permutation s.requests rs p) in
      record { next_number = h.next_number; admits = rw same_refusal (Admits-along number r (refusal rules s r) h.admits) }

  AnswersRefused-along : (number : ℕ) (status : NtStatus) (informed : ℕ) (bytes : List ℕ) → AnswersRefused s number status informed bytes s' → AnswersRefused (reordered s rs ps) number status informed bytes t'
  AnswersRefused-along number status informed bytes h = record { is_owed = h.is_owed; none_moved = h.none_moved; no_bytes = h.no_bytes; after = carry s' t' _ rs ps same h.after p q }

  IsLowestFreeTag-along : (depth tag : ℕ) → IsLowestFreeTag depth s.pieces tag → IsLowestFreeTag depth ps tag
  IsLowestFreeTag-along depth tag h = record {
    within = h.within;
    free = All-permutation (HasOtherTag tag) _ _ q h.free;
    lowest = λ lower below. Any-permutation (HasTag lower) _ _ q (h.lowest lower below);
  }

  MayStart-along : (o : OpenRequest) → MayStart s o → MayStart (reordered s rs ps) o
  MayStart-along o h = record {
    not_cancelled = h.not_cancelled;
    not_removing = h.not_removing;
    not_held = h.not_held;
    in_turn = All-permutation (IsInTurn o) _ _ p h.in_turn;
  }

  Starts-along : (number tag : ℕ) (block : List ℕ) → Starts rules s number tag block s' → Starts rules (reordered s rs ps) number tag block t'
  Starts-along number tag block h = record {
    owner = h.owner;
    others = h.others;
    places = h.places;
    next_number = h.next_number;
    on_tag = IsLowestFreeTag-along rules.depth tag h.on_tag;
    is_open = joined _ _ _ p h.is_open;
    may_start = MayStart-along h.owner h.may_start;
    sendable = h.sendable;
    asks = h.asks;
    plain = h.plain;
    after = carry s' t' _ (sent h.places h.owner ∷ h.others) (new_piece s tag h.owner h.places ∷ ps) same h.after (IsPermutation-refl _) (IsPermutation-cons _ _ _ q);
  }

  IsFreshPiece-along : (number : ℕ) (piece : Piece) (others : List Piece) → IsFreshPiece s number piece others → IsFreshPiece (reordered s rs ps) number piece others
  IsFreshPiece-along number piece others h = record { is_out = joined _ _ _ q h.is_out; is_number = h.is_number; is_fresh = h.is_fresh }

  Acts-along : (number : ℕ) (bytes : List ℕ) → Acts rules s number bytes s' → Acts rules (reordered s rs ps) number bytes t'
  Acts-along number bytes h = record {
    piece = h.piece;
    other_pieces = h.other_pieces;
    owner = h.owner;
    sectors = h.sectors;
    arrays' = h.arrays';
    fresh = IsFreshPiece-along number h.piece h.other_pieces h.fresh;
    is_open = Contains-permutation _ _ _ p h.is_open;
    is_owner = h.is_owner;
    covers = h.covers;
    moves = h.moves;
    hands_over = h.hands_over;
    after = carry s' t' _ rs (with_fate (Acted h.sectors) h.piece ∷ h.other_pieces) same h.after p (IsPermutation-refl _);
  }

  Faults-along : (number : ℕ) → Faults s number s' → Faults (reordered s rs ps) number t'
  Faults-along number h = record {
    piece = h.piece;
    other_pieces = h.other_pieces;
    fresh = IsFreshPiece-along number h.piece h.other_pieces h.fresh;
    after = carry s' t' _ rs (with_fate Faulted h.piece ∷ h.other_pieces) same h.after p (IsPermutation-refl _);
  }

  DeviceStep-along : (label : DeviceLabel) → DeviceStep rules s label s' → DeviceStep rules (reordered s rs ps) label t'
  DeviceStep-along (Start number tag block) h = Starts-along number tag block h
  DeviceStep-along (Act number bytes) h = Acts-along number bytes h
  DeviceStep-along (Fault number) h = Faults-along number h
  DeviceStep-along (Return number class) h = record {
    piece = h.piece;
    other_pieces = h.other_pieces;
    owner = h.owner;
    others = h.others;
    marks = h.marks;
    is_out = joined _ _ _ q h.is_out;
    is_number = h.is_number;
    is_open = joined _ _ _ p h.is_open;
    is_owner = h.is_owner;
    leaves = h.leaves;
    after = carry s' t' _ (given_back h.piece class h.marks h.owner ∷ h.others) h.other_pieces same h.after (IsPermutation-refl _) (IsPermutation-refl _);
  }

  abbrev Answers-along : (number : ℕ) (status : NtStatus) (bytes : List ℕ) → Answers rules s number status bytes s' → Answers rules (reordered s rs ps) number status bytes t'
  Answers-along number status bytes h = record {
    request = h.request;
    others = h.others;
    is_open = joined _ _ _ p h.is_open;
    is_number = h.is_number;
    ended = h.ended;
    success = h.success;
    cause = h.cause;
    hands_back = h.hands_back;
    after = carry s' t' _ h.others ps same h.after (IsPermutation-refl _) q;
  }

  FreeStep-along : (label : Label) → FreeStep rules s label s' → FreeStep rules (reordered s rs ps) label t'
  FreeStep-along (Call number r) h = Calls-along number r h
  FreeStep-along (Device label) h = DeviceStep-along label h
  FreeStep-along (Answer number status informed bytes) h = record { answers = Answers-along number status bytes h.answers; informs = h.informs }
  FreeStep-along (Cancel number) h = record {
    request = h.request;
    others = h.others;
    is_open = joined _ _ _ p h.is_open;
    is_number = h.is_number;
    not_yet = h.not_yet;
    after = carry s' t' _ (as_cancelled h.request ∷ h.others) ps same h.after (IsPermutation-refl _) q;
  }
  FreeStep-along Pause h = record {
    not_paused = h.not_paused;
    not_removing = h.not_removing;
    after = carry s' t' _ (held_back rules.window rs) ps same h.after (held_back-permutation rules.window _ _ p) q;
  }
  FreeStep-along Resume h = record { is_paused = h.is_paused; after = carry s' t' _ (map as_timely rs) ps same h.after (IsPermutation-map as_timely _ _ p) q }
  FreeStep-along Remove h = record { is_paused = h.is_paused; after = carry s' t' _ rs ps same h.after p q }
  FreeStep-along Surprise h = record {
    not_removing = h.not_removing;
    drains = carry s' t' _ (if s.paused then rs else held_back rules.window rs) ps same h.drains (by_pause s.paused) q;
  }
    where
      by_pause : (paused : Bool) → IsPermutation (if paused then s.requests else held_back rules.window s.requests) (if paused then rs else held_back rules.window rs)
      by_pause true = p
      by_pause false = held_back-permutation rules.window _ _ p
  FreeStep-along Removed h = record {
    is_removing = h.is_removing;
    once = h.once;
    none_open = none_there s.requests rs h.none_open p;
    after = carry s' t' _ rs ps same h.after p q;
  }

  OwingStep-along : (label : Label) → OwingStep s label s' → OwingStep (reordered s rs ps) label t'
  OwingStep-along (Answer number status informed bytes) h = AnswersRefused-along number status informed bytes h
  OwingStep-along _ h = absurd h

  Step-along : (label : Label) → Step rules s label s' → Step rules (reordered s rs ps) label t'
  Step-along label (inl h) = inl (h.0, FreeStep-along label h.1)
  Step-along label (inr h) = inr (OwingStep-along label h)

-- a step from a state that says the same, to one that says the same
pub Step-same : (rules : Rules) (label : Label) (s t s' t' : State) → IsSame s t → IsSame s' t' → Step rules s label s' → Step rules t label t'
Step-same rules label s t s' t' same same' h =
    subst (λ u. Step rules u label t') (sym (same_fields s t same)) (Step-along rules s s' t' t.requests t.pieces same.requests same.pieces same' label h)

pub DeviceStep-same : (rules : Rules) (label : DeviceLabel) (s t s' t' : State) → IsSame s t → IsSame s' t' → DeviceStep rules s label s' → DeviceStep rules t label t'
DeviceStep-same rules label s t s' t' same same' h =
    subst (λ u. DeviceStep rules u label t') (sym (same_fields s t same)) (DeviceStep-along rules s s' t' t.requests t.pieces same.requests same.pieces same' label h)

pub AnswersWith-same : (rules : Rules) (number : ℕ) (status : NtStatus) (informed : ℕ) (bytes : List ℕ) (s t s' t' : State) → IsSame s t → IsSame s' t'
    → AnswersWith rules s number status informed bytes s' → AnswersWith rules t number status informed bytes t'
AnswersWith-same rules number status informed bytes s t s' t' same same' h =
    subst (λ u. AnswersWith rules u number status informed bytes t') (sym (same_fields s t same))
    (FreeStep-along rules s s' t' t.requests t.pieces same.requests same.pieces same' (Answer number status informed bytes) h)

pub Run-same : (rules : Rules) (labels : List Label) (s t s' t' : State) → IsSame s t → IsSame s' t' → Run rules s labels s' → Run rules t labels t'
Run-same rules [] s t s' t' same same' h = IsSame-trans t s t' (IsSame-sym s t same) (IsSame-trans s s' t' h same')
Run-same rules (label ∷ labels) s t s' t' same same' h =
    (h.0, Step-same rules label s t h.0 h.0 same (IsSame-refl h.0) h.1, Run-same rules labels h.0 h.0 s' t' (IsSame-refl h.0) same' h.2)

-- runs join
pub Run-append : (rules : Rules) (s : State) (xs : List Label) (mid : State) (ys : List Label) (s' : State) → Run rules s xs mid → Run rules mid ys s' → Run rules s (xs ++ ys) s'
Run-append rules s [] mid ys s' h k = Run-same rules ys mid s s' s' (IsSame-sym s mid h) (IsSame-refl s') k
Run-append rules s (x ∷ xs) mid ys s' h k = (h.0, h.1, Run-append rules h.0 xs mid ys s' h.2 k)
