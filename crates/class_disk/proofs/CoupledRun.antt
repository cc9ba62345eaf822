-- Each step of the layer below is the same step of the layer above: both machines move by the same labels.
use Rattle.std.proofs.Common.{◌≡◌, ◌<◌, ◌≤◌, inl, inr, ℕ, zero, suc, ◌+◌, false, List, [], ◌∷◌, ◌++◌, refl, sym, ◌∙◌, ap, subst, arith, map, length, replicate}
use Rattle.std.specs.Prelude.{IsPermutation, All, Contains, IsTrue}
use Rattle.class_disk.proofs.Common.{remove, length-map, length-replicate, get_or-map, IsPermutation-refl, IsPermutation-sym, IsPermutation-trans, IsPermutation-cons, IsPermutation-middle, IsPermutation-append_left, IsPermutation-append_right, IsPermutation-map, IsPermutation-remove, All-permutation, Contains-permutation, Contains-append_left, Contains-append_right, All-cons, All-head, All-tail, All-weaker, All-contains, length-splice, Extent, Class, DeviceLabel, Start, Act, Fault, Return, Fate, Acted, Faulted, Kind, Read, Write, Flush, ClientRequest, Rules, Mark, Out, Done, Failed, Back, OpenRequest, Piece, State, IsSame, with_marks, AreDistinct, request_number, HasEarned, HasAlike, IsAllOf, IsAll, IsPlaced, DeviceStep, Run, as_label, AreDistinct-DeviceStep, AreDistinct-same, HaveEarned-DeviceStep, AreOnePiece-DeviceStep, IsSame-refl, IsSame-sym, IsSame-trans, DeviceStep-same, Any-permutation, IsPermutation-uncons, first_unique, leaves, ArePlaced-DeviceStep, ArePlaced-same, Owns, owns, below_rules}
use Rattle.srb.specs.declared.Class.TheVariants.{Good, Busy, Bad}
use Rattle.machine.specs.Sending.{Starts, Acts, Faults, Returns, MayStart, IsInTurn as IsInTurnFor, IsLowestFreeTag, HasOtherTag, HasTag, LeavesMarks, Transfers, sent, new_piece, with_fate, given_back, is_started, is_untouched, status_of_completion}
use Rattle.class_disk.specs.inside.Joint.{Part, Below, Divided, Joint, note_of, known_of, lifted, parts_requests, parts_pieces, parts_marks, parts_lifted, requests_below, pieces_below, pieces_above, shown, below, above, IsPartOf}
use Rattle.class_disk.specs.inside.Invariant.{IsSound, IsOwnedBy, IsMadeUp, AgreesOnCancel, AreBehind, IsAhead, IsInTurn, IsInPieces, Keeps}
use Rattle.class_disk.proofs.Coupled.{requests-append, pieces-append, lifted-append}
use Rattle.class_disk.proofs.CoupledSteps.{divided_with, Starts-above, Acts-above, Faults-above, Returns-above, changed_below, below_first, shown_pieces}
use Rattle.class_disk.proofs.InPieces.{begins_whole, start_spares, return_spares}
use Rattle.class_disk.proofs.Focus.{Found, FoundPiece, find, find_piece, first}
use Rattle.class_disk.proofs.Focus as focus
use Rattle.class_disk.proofs.Keeping.{IsAlikePart, keeps_with, follows_started, follows_same, alike_same, started_with, part_in, there}

-- THE SAME TRANSFERS

-- what the class driver knows by itself is as before
pub record IsLike (j next : Joint) : Type 0 where
  pub transfers : IsPermutation (map known_of next.divided) (map known_of j.divided)
  pub next_above : next.next_above ≡ j.next_above
  pub next_below : next.next_below ≡ j.next_below
  pub removing : next.removing ≡ j.removing

notes_with : (front back : List Part) (o o' : OpenRequest) (again : ℕ) (ps ps' : List Piece) → o'.number ≡ o.number → map note_of (front ++ (Below o' again ps' ∷ back)) ≡ map note_of (front ++ (Below o again ps ∷ back))
notes_with [] back o o' again ps ps' same = ap (λ n. note_of (Below (record o { number = n }) again ps) ∷ map note_of back) same
notes_with (part ∷ front) back o o' again ps ps' same = ap (λ ns. note_of part ∷ ns) (notes_with front back o o' again ps ps' same)

-- the next state of both, behind a label
pub record Stepped (rules : Rules) (j : Joint) (label : DeviceLabel) (s' : State) : Type 0 where
  pub next : Joint
  pub same : IsSame (below next) s'
  pub step : DeviceStep rules (above j) label (above next)
  pub keeps : Keeps rules next
  pub like : IsLike j next

pub keeps_permuted : (rules : Rules) (j : Joint) (ms : List Divided) → IsPermutation j.divided ms → Keeps rules j → Keeps rules (record j { divided = ms })
keeps_permuted rules j ms p k = record {
  made_up = All-permutation (IsMadeUp rules) _ _ p k.made_up;
  agree = All-permutation AgreesOnCancel _ _ p k.agree;
  in_turn = All-permutation (IsInTurn j.removing ms) _ _ p
      (All-weaker (IsInTurn j.removing j.divided) (IsInTurn j.removing ms)
      (λ e. All-weaker (AreBehind j.removing j.divided e.number) (AreBehind j.removing ms e.number)
      (λ n. All-permutation (IsAhead j.removing e.number n) _ _ p) (map request_number (parts_requests e.parts)))
      j.divided k.in_turn);
  in_pieces = All-permutation (IsInPieces rules) _ _ p k.in_pieces;
}

pub Contains-map : {X Y : Type 0} (f : X → Y) (xs : List X) (x : X) → Contains xs x → Contains (map f xs) (f x)
Contains-map f xs x (k, low, is) = let n = length-map xs f in (k, omega arith, get_or-map f xs k x (f x) low ∙ ap f is)

-- A PART IN FRONT

module _ (rules : Rules) (j : Joint) (o : OpenRequest) (f : Found j.divided o) where
  abbrev pub rest : List Divided
  rest = f.before ++ f.after

  abbrev pub here : List Piece → Joint
  here pieces = record j { divided = divided_with f.whole f.front f.back o f.again pieces ∷ rest }

  pub same_below : IsSame (below j) (below (here f.pieces))
  same_below = subst (λ ms. IsSame (below (record j { divided = ms })) (below (here f.pieces))) (sym f.is_there) (focus.below_first j f.before (divided_with f.whole f.front f.back o f.again f.pieces) f.after)

  pub same_above : IsSame (above j) (above (here f.pieces))
  same_above = subst (λ ms. IsSame (above (record j { divided = ms })) (above (here f.pieces))) (sym f.is_there) (focus.above_first j f.before (divided_with f.whole f.front f.back o f.again f.pieces) f.after)

  pub moved : IsPermutation j.divided (here f.pieces).divided
  moved = subst (λ ms. IsPermutation ms (here f.pieces).divided) (sym f.is_there) (IsPermutation-middle f.before (divided_with f.whole f.front f.back o f.again f.pieces) f.after)

  pub keeps_here : Keeps rules j → Keeps rules (here f.pieces)
  keeps_here k = keeps_permuted rules j _ moved k

  like_with : (o' : OpenRequest) (ps' : List Piece) (arrays : List (List (List ℕ))) (next : ℕ) → o'.number ≡ o.number
      → IsLike j (record j { arrays = arrays; next_piece = next; divided = divided_with f.whole f.front f.back o' f.again ps' ∷ rest })
  like_with o' ps' arrays next same =
      let notes = notes_with f.front f.back o o' f.again f.pieces ps' same in
      record {
        transfers = subst (λ ns. IsPermutation (record (known_of f.whole) { parts = ns } ∷ map known_of rest) (map known_of j.divided)) (sym notes) (IsPermutation-sym _ _ (IsPermutation-map known_of _ _ moved));
        next_above = refl;
        next_below = refl;
        removing = refl;
      }

-- START

lowest_permuted : (depth tag : ℕ) (ps qs : List Piece) → IsPermutation ps qs → IsLowestFreeTag depth ps tag → IsLowestFreeTag depth qs tag
lowest_permuted depth tag ps qs p h = record {
  within = h.within;
  free = All-permutation (HasOtherTag tag) _ _ p h.free;
  lowest = λ lower low. Any-permutation (HasTag lower) _ _ p (h.lowest lower low);
}

outs_start : (o : OpenRequest) (first n : ℕ) → 0 < n → IsTrue (is_started (with_marks first (replicate n Out) o))
outs_start o first zero some = absurd (omega arith)
outs_start o first (suc n) some = started_with o first Out (replicate n Out) refl

module _ (rules : Rules) (many : rules.one_piece ≡ false) (j : Joint) (s : State) (same : IsSame (below j) s) (k : Keeps rules j) where
  start_coupled : (number tag : ℕ) (block : List ℕ) (s' : State) → Starts (below_rules rules) s number tag block s' → Stepped rules j (Start number tag block) s'
  start_coupled number tag block s' h =
      let o : OpenRequest = h.owner in
      let in_s : Contains s.requests o = Contains-permutation _ _ o (IsPermutation-sym _ _ h.is_open) (0, omega arith, refl) in
      let f : Found j.divided o = find j.divided o (Contains-permutation _ _ o (IsPermutation-sym _ _ same.requests) in_s) in
      let jf : Joint = here rules j o f f.pieces in
      let es : List Divided = rest rules j o f in
      let sb : IsSame (below jf) s = IsSame-trans _ _ _ (IsSame-sym _ _ (same_below rules j o f)) same in
      let kf : Keeps rules jf = keeps_here rules j o f k in
      let o' : OpenRequest = sent h.places o in
      let p : Piece = new_piece (below jf) tag o h.places in
      let next : Joint = record j { next_piece = j.next_piece + 1; divided = divided_with f.whole f.front f.back o' f.again (p ∷ f.pieces) ∷ es } in
      let fits : h.places.first + length (replicate h.places.count Out) ≤ length o.marks = let i = h.sendable.inside in let n = length-replicate h.places.count Out in omega arith in
      let alike : IsAlikePart o o' = record {
        number = refl;
        request = refl;
        late = refl;
        cancelled = refl;
        long = length-splice o.marks h.places.first (replicate h.places.count Out) fits;
        spare = start_spares o h.places (begins_whole (below_rules rules) refl o h.places h.sendable);
      } in
      let known = part_in rules f.whole.request o f.again f.pieces f.front f.back (All-head (IsMadeUp rules) _ es kf.made_up) in
      let is_open : IsPermutation (below jf).requests (o ∷ h.others) = IsPermutation-trans _ _ _ sb.requests h.is_open in
      let same_piece : p ≡ new_piece s tag o h.places = ap (λ n. record p { number = n }) sb.next_piece in
      let agrees : o.cancelled ≡ f.whole.cancelled = All-contains (λ x. x.cancelled ≡ f.whole.cancelled) _ o (All-head AgreesOnCancel _ es kf.agree) (there_is f) in
      let turns : All (IsAhead j.removing f.whole.number o.number) es =
      All-tail (IsAhead j.removing f.whole.number o.number) _ es
      (All-contains (AreBehind j.removing jf.divided f.whole.number) _ o.number (All-head (IsInTurn j.removing jf.divided) _ es kf.in_turn) (number_there f)) in
      let may : MayStart (below jf) o = record {
        not_cancelled = h.may_start.not_cancelled;
        not_removing = sb.removing ∙ h.may_start.not_removing;
        not_held = λ paused. cc (paused);
        in_turn = All-permutation (IsInTurnFor o) _ _ (IsPermutation-sym _ _ sb.requests) h.may_start.in_turn;
      } in
      record {
        next = next;
        same = IsSame-trans _ _ _ (record {
          arrays = sb.arrays;
          next_request = sb.next_request;
          next_piece = ap (λ n. n + 1) sb.next_piece;
          requests = IsPermutation-sym _ _ (changed_below f.whole es f.front f.back o o' f.again f.pieces (p ∷ f.pieces) h.others is_open);
          pieces = subst (λ x. IsPermutation (below next).pieces (x ∷ s.pieces)) same_piece (IsPermutation-trans _ _ _ (below_first f.whole es f.front f.back o o' f.again p f.pieces) (IsPermutation-cons p _ _ sb.pieces));
          owed = sb.owed;
          paused = sb.paused;
          removing = sb.removing;
          removed = sb.removed;
        }) (IsSame-sym _ _ h.after);
        step = DeviceStep-same rules (Start number tag block) (above jf) (above j) (above next) (above next) (IsSame-sym _ _ (same_above rules j o f)) (IsSame-refl _)
            (subst (λ n. Starts rules (above jf) n tag block (above next)) (sb.next_piece ∙ sym h.next_number)
            (Starts-above rules j f.whole es f.front f.back j.arrays j.next_piece many o f.again f.pieces tag block h.places known.0 agrees turns (All-head (IsInPieces rules) _ es kf.in_pieces)
            (lowest_permuted rules.depth tag _ _ (IsPermutation-sym _ _ sb.pieces) h.on_tag) may h.sendable h.asks h.plain));
        keeps = keeps_with rules j f.whole es f.front f.back o o' f.again f.pieces (p ∷ f.pieces) alike j.arrays (j.next_piece + 1) (All-cons (IsOwnedBy o.number) p f.pieces refl known.1)
            (follows_started rules j f.whole es f.front f.back o o' f.again f.pieces (p ∷ f.pieces) alike (outs_start o h.places.first h.places.count h.sendable.some)) kf;
        like = like_with rules j o f o' (p ∷ f.pieces) j.arrays (j.next_piece + 1) refl;
      }
    where
      there_is : {o : OpenRequest} (f : Found j.divided o) → Contains (parts_requests (f.front ++ (Below o f.again f.pieces ∷ f.back))) o
      there_is {o} f = there o f.again f.pieces f.front f.back

      number_there : {o : OpenRequest} (f : Found j.divided o) → Contains (map request_number (parts_requests (f.front ++ (Below o f.again f.pieces ∷ f.back)))) o.number
      number_there {o} f = Contains-map request_number _ o (there o f.again f.pieces f.front f.back)

-- ACT, FAULT AND RETURN

same_transfer : (rules : Rules) (s t : State) (q : ClientRequest) (places : Extent) (sectors : List (List ℕ)) (arrays' : List (List (List ℕ))) → s.arrays ≡ t.arrays → (kind : Kind)
    → Transfers rules s q places kind sectors arrays' → Transfers rules t q places kind sectors arrays'
same_transfer rules s t q places sectors arrays' same Read m = (λ faithful. rw (sym same) (m.0 faithful), m.1, m.2 ∙ same)
same_transfer rules s t q places sectors arrays' same Write m = (m.0, m.1, rw (sym same) m.2)
same_transfer rules s t q places sectors arrays' same Flush m = (m.0, m.1 ∙ same)

-- of two open requests with one number
pub one_request : (s : State) (a b : OpenRequest) → AreDistinct s → Contains s.requests a → Contains s.requests b → a.number ≡ b.number → a ≡ b
one_request s a b d (i, low, is) (k, low', is') same =
    (first_unique request_number s.requests a b _ _ d.requests (IsPermutation-remove s.requests i a low (sym is)) (IsPermutation-remove s.requests k b low' (sym is')) (sym same)).0

pieces_with : (e : Divided) (es : List Divided) (front back : List Part) (o : OpenRequest) (again : ℕ) (ps ps' : List Piece) → IsPermutation ps ps'
    → IsPermutation (pieces_below (divided_with e front back o again ps ∷ es)) (pieces_below (divided_with e front back o again ps' ∷ es))
pieces_with e es front back o again ps ps' p =
    rw (pieces-append front (Below o again ps ∷ back), pieces-append front (Below o again ps' ∷ back))
    (IsPermutation-append_left (pieces_below es) _ _ (IsPermutation-append_right (parts_pieces front) _ _ (IsPermutation-append_left (parts_pieces back) _ _ p)))

lifted_with : (e : Divided) (es : List Divided) (front back : List Part) (o : OpenRequest) (again : ℕ) (ps ps' : List Piece) → IsPermutation ps ps'
    → IsPermutation (pieces_above (divided_with e front back o again ps ∷ es)) (pieces_above (divided_with e front back o again ps' ∷ es))
lifted_with e es front back o again ps ps' p =
    rw (lifted-append e.number 0 front (Below o again ps ∷ back), lifted-append e.number 0 front (Below o again ps' ∷ back))
    (IsPermutation-append_left (pieces_above es) _ _ (IsPermutation-append_right (parts_lifted e.number 0 front) _ _ (IsPermutation-append_left (parts_lifted e.number (0 + length (parts_marks front) + length o.marks) back) _ _ (IsPermutation-map (lifted e.number (0 + length (parts_marks front))) _ _ p))))

requests_same : (e : Divided) (es : List Divided) (front back : List Part) (o : OpenRequest) (again : ℕ) (ps ps' : List Piece) → requests_below (divided_with e front back o again ps ∷ es) ≡ requests_below (divided_with e front back o again ps' ∷ es)
requests_same e es front back o again ps ps' = ap (λ zs. zs ++ requests_below es) (requests-append front (Below o again ps ∷ back) ∙ sym (requests-append front (Below o again ps' ∷ back)))

shown_same : (e : Divided) (front back : List Part) (o : OpenRequest) (again : ℕ) (ps ps' : List Piece) → shown (divided_with e front back o again ps) ≡ shown (divided_with e front back o again ps')
shown_same e front back o again ps ps' = shown_pieces e [] front back o again ps ps'

-- the part of a piece of the machine below, with this piece in front
record AtPiece (rules : Rules) (j : Joint) (s : State) (p : Piece) (others : List Piece) : Type 0 where
  o : OpenRequest
  f : Found j.divided o
  pieces : List Piece
  sb : IsSame (below (here rules j o f (p ∷ pieces))) s
  sa : IsSame (above j) (above (here rules j o f (p ∷ pieces)))
  kept : Keeps rules (here rules j o f (p ∷ pieces))
  left : IsPermutation (pieces_below (divided_with f.whole f.front f.back o f.again pieces ∷ rest rules j o f)) others
  is_open : Contains s.requests o
  is_owner : p.owner ≡ o.number
  part : IsPartOf rules f.whole.request (length (parts_marks f.front)) o
  owned : All (IsOwnedBy o.number) pieces

at_piece : (rules : Rules) (j : Joint) (s : State) (p : Piece) (others : List Piece) → IsSame (below j) s → Keeps rules j → IsPermutation s.pieces (p ∷ others) → AtPiece rules j s p others
at_piece rules j s p others same k is_out =
    let fp : FoundPiece j.divided p = find_piece j.divided p (Contains-permutation _ _ p (IsPermutation-sym _ _ same.pieces) (Contains-permutation _ _ p (IsPermutation-sym _ _ is_out) (0, omega arith, refl))) in
    let o : OpenRequest = fp.part in
    let f : Found j.divided o = fp.at in
    let e : Divided = f.whole in
    let es : List Divided = rest rules j o f in
    let pieces : List Piece = remove f.pieces fp.there.0 in
    let front_first : IsPermutation f.pieces (p ∷ pieces) = IsPermutation-remove f.pieces fp.there.0 p fp.there.1 (sym fp.there.2) in
    let jf : Joint = here rules j o f f.pieces in
    let jp : Joint = here rules j o f (p ∷ pieces) in
    let kf : Keeps rules jf = keeps_here rules j o f k in
    let known = part_in rules e.request o f.again f.pieces f.front f.back (All-head (IsMadeUp rules) _ es kf.made_up) in
    let owned : All (IsOwnedBy o.number) (p ∷ pieces) = All-permutation (IsOwnedBy o.number) _ _ front_first known.1 in
    let to_jp : IsSame (below jf) (below jp) = record {
      arrays = refl;
      next_request = refl;
      next_piece = refl;
      requests = subst (λ zs. IsPermutation (requests_below jf.divided) zs) (requests_same e es f.front f.back o f.again f.pieces (p ∷ pieces)) (IsPermutation-refl _);
      pieces = pieces_with e es f.front f.back o f.again f.pieces (p ∷ pieces) front_first;
      owed = refl;
      paused = refl;
      removing = refl;
      removed = refl;
    } in
    let to_jp_above : IsSame (above jf) (above jp) = record {
      arrays = refl;
      next_request = refl;
      next_piece = refl;
      requests = subst (λ x. IsPermutation (map shown jf.divided) (x ∷ map shown es)) (shown_same e f.front f.back o f.again f.pieces (p ∷ pieces)) (IsPermutation-refl _);
      pieces = lifted_with e es f.front f.back o f.again f.pieces (p ∷ pieces) front_first;
      owed = refl;
      paused = refl;
      removing = refl;
      removed = refl;
    } in
    let sb : IsSame (below jp) s = IsSame-trans _ _ _ (IsSame-sym _ _ (IsSame-trans _ _ _ (same_below rules j o f) to_jp)) same in
    record {
      o = o;
      f = f;
      pieces = pieces;
      sb = sb;
      sa = IsSame-trans _ _ _ (same_above rules j o f) to_jp_above;
      kept = keeps_with rules j e es f.front f.back o o f.again f.pieces (p ∷ pieces) (alike_same o) j.arrays j.next_piece owned (follows_same j.removing e f.front f.back o f.again f.pieces (p ∷ pieces)) kf;
      left = IsPermutation-uncons p _ _ (IsPermutation-trans _ _ _ (IsPermutation-sym _ _ (below_first e es f.front f.back o o f.again p pieces)) (IsPermutation-trans _ _ _ sb.pieces is_out));
      is_open = Contains-permutation _ _ o sb.requests (subst (λ zs. Contains zs o) (sym (ap (λ zs. zs ++ requests_below es) (requests-append f.front (Below o f.again (p ∷ pieces) ∷ f.back)))) (Contains-append_left _ _ o (Contains-append_right (parts_requests f.front) _ o (0, omega arith, refl))));
      is_owner = All-head (IsOwnedBy o.number) p pieces owned;
      part = known.0;
      owned = All-tail (IsOwnedBy o.number) p pieces owned;
    }

-- the piece has another fate
module _ (rules : Rules) (j : Joint) (s : State) (p : Piece) (others : List Piece) (a : AtPiece rules j s p others) where
  abbrev turned : List (List (List ℕ)) → Fate → Joint
  turned arrays fate = record j { arrays = arrays; divided = divided_with a.f.whole a.f.front a.f.back a.o a.f.again (with_fate fate p ∷ a.pieces) ∷ rest rules j a.o a.f }

  turned_same : (arrays : List (List (List ℕ))) (fate : Fate) → IsSame (below (turned arrays fate)) (record s { arrays = arrays; pieces = with_fate fate p ∷ others })
  turned_same arrays fate = record {
    arrays = refl;
    next_request = a.sb.next_request;
    next_piece = a.sb.next_piece;
    requests = subst (λ zs. IsPermutation zs s.requests) (requests_same a.f.whole (rest rules j a.o a.f) a.f.front a.f.back a.o a.f.again (p ∷ a.pieces) (with_fate fate p ∷ a.pieces)) a.sb.requests;
    pieces = IsPermutation-trans _ _ _ (below_first a.f.whole (rest rules j a.o a.f) a.f.front a.f.back a.o a.o a.f.again (with_fate fate p) a.pieces) (IsPermutation-cons _ _ _ a.left);
    owed = a.sb.owed;
    paused = a.sb.paused;
    removing = a.sb.removing;
    removed = a.sb.removed;
  }

  turned_keeps : (arrays : List (List (List ℕ))) (fate : Fate) → Keeps rules (turned arrays fate)
  turned_keeps arrays fate =
      keeps_with rules j a.f.whole (rest rules j a.o a.f) a.f.front a.f.back a.o a.o a.f.again (p ∷ a.pieces) (with_fate fate p ∷ a.pieces) (alike_same a.o) arrays j.next_piece
      (All-cons (IsOwnedBy a.o.number) (with_fate fate p) a.pieces a.is_owner a.owned)
      (follows_same j.removing a.f.whole a.f.front a.f.back a.o a.f.again (p ∷ a.pieces) (with_fate fate p ∷ a.pieces)) a.kept

module _ (rules : Rules) (j : Joint) (s : State) (same : IsSame (below j) s) (sound : IsSound s) (k : Keeps rules j) where
  act_coupled : (number : ℕ) (bytes : List ℕ) (s' : State) → Acts (below_rules rules) s number bytes s' → Stepped rules j (Act number bytes) s'
  act_coupled number bytes s' h =
      let p : Piece = h.piece in
      let a : AtPiece rules j s p h.other_pieces = at_piece rules j s p h.other_pieces same k h.fresh.is_out in
      let e : Divided = a.f.whole in
      let es : List Divided = rest rules j a.o a.f in
      let next : Joint = turned rules j s p h.other_pieces a h.arrays' (Acted h.sectors) in
      let p_there : Contains s.pieces p = Contains-permutation _ _ p (IsPermutation-sym _ _ h.fresh.is_out) (0, omega arith, refl) in
      let own : Owns a.o p = owns s sound.placed a.o p a.is_open p_there (sym a.is_owner) in
      let is : h.owner ≡ a.o = one_request s h.owner a.o sound.distinct h.is_open a.is_open (h.is_owner ∙ a.is_owner) in
      let moves : Transfers (below_rules rules) s a.o.request p.places a.o.request.kind h.sectors h.arrays' = subst (λ (x : OpenRequest). Transfers (below_rules rules) s x.request p.places x.request.kind h.sectors h.arrays') is h.moves in
      record {
        next = next;
        same = IsSame-trans _ _ _ (turned_same rules j s p h.other_pieces a h.arrays' (Acted h.sectors)) (IsSame-sym _ _ h.after);
        step = DeviceStep-same rules (Act number bytes) (above (here rules j a.o a.f (p ∷ a.pieces))) (above j) (above next) (above next) (IsSame-sym _ _ a.sa) (IsSame-refl _)
            (Acts-above rules j e es a.f.front a.f.back j.arrays j.next_piece a.o a.f.again number p a.pieces bytes h.sectors h.arrays' a.part h.fresh.is_number h.fresh.is_fresh own.inside h.covers
            (same_transfer (below_rules rules) s (below (here rules j a.o a.f (p ∷ a.pieces))) a.o.request p.places h.sectors h.arrays' (sym a.sb.arrays) a.o.request.kind moves) h.hands_over);
        keeps = turned_keeps rules j s p h.other_pieces a h.arrays' (Acted h.sectors);
        like = like_with rules j a.o a.f a.o (with_fate (Acted h.sectors) p ∷ a.pieces) h.arrays' j.next_piece refl;
      }

  fault_coupled : (number : ℕ) (s' : State) → Faults s number s' → Stepped rules j (Fault number) s'
  fault_coupled number s' h =
      let p : Piece = h.piece in
      let a : AtPiece rules j s p h.other_pieces = at_piece rules j s p h.other_pieces same k h.fresh.is_out in
      let next : Joint = turned rules j s p h.other_pieces a j.arrays Faulted in
      record {
        next = next;
        same = IsSame-trans _ _ _ (subst (λ arrays. IsSame (below next) (record s { arrays = arrays; pieces = with_fate Faulted p ∷ h.other_pieces })) a.sb.arrays (turned_same rules j s p h.other_pieces a j.arrays Faulted)) (IsSame-sym _ _ h.after);
        step = DeviceStep-same rules (Fault number) (above (here rules j a.o a.f (p ∷ a.pieces))) (above j) (above next) (above next) (IsSame-sym _ _ a.sa) (IsSame-refl _)
            (Faults-above rules j a.f.whole (rest rules j a.o a.f) a.f.front a.f.back j.arrays j.next_piece a.o a.f.again number p a.pieces h.fresh.is_number h.fresh.is_fresh);
        keeps = turned_keeps rules j s p h.other_pieces a j.arrays Faulted;
        like = like_with rules j a.o a.f a.o (with_fate Faulted p ∷ a.pieces) j.arrays j.next_piece refl;
      }

-- what a piece leaves on its places is something
touched : (p : Piece) (class : Class) (marks : List Mark) → LeavesMarks p class marks → 0 < length marks → (mark : Mark) × (more : List Mark) × (marks ≡ mark ∷ more) × (is_untouched mark ≡ false)
touched p Good marks (sectors, fate, is) some = by sectors is
  where
    by : (xs : List (List ℕ)) → marks ≡ map Done xs → (mark : Mark) × (more : List Mark) × (marks ≡ mark ∷ more) × (is_untouched mark ≡ false)
    by [] e = absurd (let l = ap length e in omega arith)
    by (x ∷ xs) e = (Done x, map Done xs, e, refl)
touched p Busy marks (fate, is) some = by p.places.count is
  where
    by : (n : ℕ) → marks ≡ replicate n Back → (mark : Mark) × (more : List Mark) × (marks ≡ mark ∷ more) × (is_untouched mark ≡ false)
    by zero e = absurd (let l = ap length e in omega arith)
    by (suc n) e = (Back, replicate n Back, e, refl)
touched p (Bad completion) marks (bad, is) some = by p.places.count is
  where
    by : (n : ℕ) → marks ≡ replicate n (Failed (status_of_completion completion)) → (mark : Mark) × (more : List Mark) × (marks ≡ mark ∷ more) × (is_untouched mark ≡ false)
    by zero e = absurd (let l = ap length e in omega arith)
    by (suc n) e = (Failed (status_of_completion completion), replicate n (Failed (status_of_completion completion)), e, refl)

pieces_alike : (e : Divided) (es : List Divided) (front back : List Part) (o o' : OpenRequest) (again : ℕ) (ps : List Piece) → pieces_below (divided_with e front back o again ps ∷ es) ≡ pieces_below (divided_with e front back o' again ps ∷ es)
pieces_alike e es front back o o' again ps = ap (λ zs. zs ++ pieces_below es) (pieces-append front (Below o again ps ∷ back) ∙ sym (pieces-append front (Below o' again ps ∷ back)))

module _ (rules : Rules) (j : Joint) (s : State) (same : IsSame (below j) s) (sound : IsSound s) (k : Keeps rules j) where
  return_coupled : (number : ℕ) (class : Class) (s' : State) → Returns s number class s' → Stepped rules j (Return number class) s'
  return_coupled number class s' h =
      let p : Piece = h.piece in
      let a : AtPiece rules j s p h.other_pieces = at_piece rules j s p h.other_pieces same k h.is_out in
      let e : Divided = a.f.whole in
      let es : List Divided = rest rules j a.o a.f in
      let o : OpenRequest = a.o in
      let o' : OpenRequest = given_back p class h.marks o in
      let jp : Joint = here rules j o a.f (p ∷ a.pieces) in
      let next : Joint = record j { divided = divided_with e a.f.front a.f.back o' a.f.again a.pieces ∷ es } in
      let p_there : Contains s.pieces p = Contains-permutation _ _ p (IsPermutation-sym _ _ h.is_out) (0, omega arith, refl) in
      let own : Owns o p = owns s sound.placed o p a.is_open p_there (sym a.is_owner) in
      let owner_there : Contains s.requests h.owner = Contains-permutation _ _ h.owner (IsPermutation-sym _ _ h.is_open) (0, omega arith, refl) in
      let is : h.owner ≡ o = one_request s h.owner o sound.distinct owner_there a.is_open (h.is_owner ∙ a.is_owner) in
      let filled : length h.marks ≡ p.places.count = (leaves p class h.marks (All-contains (IsPlaced s.requests) s.pieces p sound.placed.pieces p_there).filled h.leaves).0 in
      let fits : p.places.first + length h.marks ≤ length o.marks = let i = own.inside in omega arith in
      let all_of : length o.marks ≤ p.places.count = All-contains (IsAllOf p) s.requests o (All-contains (IsAll s.requests) s.pieces p sound.whole.whole p_there) a.is_open (sym a.is_owner) in
      let at_first : p.places.first ≡ 0 = let i = own.inside in omega arith in
      let alike : IsAlikePart o o' = record {
        number = refl;
        request = refl;
        late = refl;
        cancelled = refl;
        long = length-splice o.marks p.places.first h.marks fits;
        spare = return_spares o p class h.marks h.leaves at_first own.some (own.out 0 (omega arith) (let n = own.some in omega arith));
      } in
      let some : 0 < length h.marks = let n = own.some in omega arith in
      let t = touched p class h.marks h.leaves some in
      let started : IsTrue (is_started o') = subst (λ ms. IsTrue (is_started (with_marks p.places.first ms o))) (sym t.2) (started_with o p.places.first t.0 t.1 t.3) in
      let is_open : IsPermutation (below jp).requests (o ∷ h.others) = subst (λ x. IsPermutation (below jp).requests (x ∷ h.others)) is (IsPermutation-trans _ _ _ a.sb.requests h.is_open) in
      let back_same : IsSame (below next) (record s { requests = given_back p class h.marks h.owner ∷ h.others; pieces = h.other_pieces }) = record {
        arrays = a.sb.arrays;
        next_request = a.sb.next_request;
        next_piece = a.sb.next_piece;
        requests = subst (λ x. IsPermutation (requests_below next.divided) (given_back p class h.marks x ∷ h.others)) (sym is)
            (IsPermutation-sym _ _ (changed_below e es a.f.front a.f.back o o' a.f.again (p ∷ a.pieces) a.pieces h.others is_open));
        pieces = subst (λ zs. IsPermutation zs h.other_pieces) (pieces_alike e es a.f.front a.f.back o o' a.f.again a.pieces) a.left;
        owed = a.sb.owed;
        paused = a.sb.paused;
        removing = a.sb.removing;
        removed = a.sb.removed;
      } in
      record {
        next = next;
        same = IsSame-trans _ _ _ back_same (IsSame-sym _ _ h.after);
        step = DeviceStep-same rules (Return number class) (above jp) (above j) (above next) (above next) (IsSame-sym _ _ a.sa) (IsSame-refl _)
            (Returns-above rules j e es a.f.front a.f.back j.arrays j.next_piece o a.f.again number p a.pieces class h.marks h.is_number h.leaves fits);
        keeps = keeps_with rules j e es a.f.front a.f.back o o' a.f.again (p ∷ a.pieces) a.pieces alike j.arrays j.next_piece a.owned
            (follows_started rules j e es a.f.front a.f.back o o' a.f.again (p ∷ a.pieces) a.pieces alike started) a.kept;
        like = like_with rules j o a.f o' a.pieces j.arrays j.next_piece refl;
      }

-- EVERY LABEL, AND RUNS OF THEM

-- a step of the layer below is one of the layer above
pub step_coupled : (rules : Rules) → rules.one_piece ≡ false → (j : Joint) (s : State) → IsSame (below j) s → IsSound s → Keeps rules j → (label : DeviceLabel) (s' : State) → DeviceStep (below_rules rules) s label s' → Stepped rules j label s'
step_coupled rules many j s same sound k (Start number tag block) s' h = start_coupled rules many j s same k number tag block s' h
step_coupled rules many j s same sound k (Act number bytes) s' h = act_coupled rules j s same sound k number bytes s' h
step_coupled rules many j s same sound k (Fault number) s' h = fault_coupled rules j s same sound k number s' h
step_coupled rules many j s same sound k (Return number class) s' h = return_coupled rules j s same sound k number class s' h

-- what the machine below keeps, after a label
pub sound_step : (rules : Rules) → IsTrue rules.one_piece → (s : State) (label : DeviceLabel) (s' : State) → IsSound s → DeviceStep rules s label s' → IsSound s'
sound_step rules one s label s' h step = record {
  distinct = AreDistinct-DeviceStep rules s label s' h.distinct step;
  placed = ArePlaced-DeviceStep rules s label s' h.distinct h.placed step;
  earned = HaveEarned-DeviceStep rules s label s' h.earned step;
  whole = AreOnePiece-DeviceStep rules one s label s' h.distinct h.placed h.whole step;
}

-- the states of both, behind a run of the layer below
pub record Ran (rules : Rules) (j : Joint) (labels : List DeviceLabel) (s' : State) : Type 0 where
  pub next : Joint
  pub same : IsSame (below next) s'
  pub run : Run rules (above j) (map as_label labels) (above next)
  pub keeps : Keeps rules next
  pub like : IsLike j next
  pub sound : IsSound s'

like_then : (j mid next : Joint) → IsLike j mid → IsLike mid next → IsLike j next
like_then j mid next a b = record {
  transfers = IsPermutation-trans _ _ _ b.transfers a.transfers;
  next_above = b.next_above ∙ a.next_above;
  next_below = b.next_below ∙ a.next_below;
  removing = b.removing ∙ a.removing;
}

pub sound_same : (s t : State) → IsSame s t → IsSound s → IsSound t
sound_same s t same h = record {
  distinct = AreDistinct-same t s (IsSame-sym _ _ same) h.distinct;
  placed = ArePlaced-same t s (IsSame-sym _ _ same) h.placed;
  earned = All-permutation HasEarned _ _ same.requests h.earned;
  whole = record {
    alike = All-permutation HasAlike _ _ same.requests h.whole.alike;
    whole = All-permutation (IsAll t.requests) _ _ same.pieces
        (All-weaker (IsAll s.requests) (IsAll t.requests) (λ p. All-permutation (IsAllOf p) _ _ same.requests) s.pieces h.whole.whole);
  };
}

-- a run below by labels of the adapter is one above
pub run_coupled : (rules : Rules) → rules.one_piece ≡ false → (labels : List DeviceLabel) (j : Joint) (s s' : State) → IsSame (below j) s → IsSound s → Keeps rules j → Run (below_rules rules) s (map as_label labels) s' → Ran rules j labels s'
run_coupled rules many [] j s s' same sound k run = record {
  next = j;
  same = IsSame-trans _ _ _ same run;
  run = IsSame-refl _;
  keeps = k;
  like = record { transfers = IsPermutation-refl _; next_above = refl; next_below = refl; removing = refl };
  sound = sound_same s s' run sound;
}
run_coupled rules many (label ∷ labels) j s s' same sound k (mid, inl (none_owed, step), run) =
    let a : Stepped rules j label mid = step_coupled rules many j s same sound k label mid step in
    let b : Ran rules a.next labels s' = run_coupled rules many labels a.next mid s' a.same (sound_step (below_rules rules) refl s label mid sound step) a.keeps run in
    record {
      next = b.next;
      same = b.same;
      run = (above a.next, inl (refl, a.step), b.run);
      keeps = b.keeps;
      like = like_then j a.next b.next a.like b.like;
      sound = b.sound;
    }
run_coupled rules many (label ∷ labels) j s s' same sound k (mid, inr owing, run) = absurd (owing)
