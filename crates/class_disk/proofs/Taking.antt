-- A packet below that has ended is taken: its part is here, and the machine above stays as it was.
use Rattle.std.proofs.Common.{◌≡◌, ◌<◌, ◌⊎◌, inl, inr, ℕ, zero, suc, ◌+◌, not, Bool, List, [], ◌∷◌, ◌++◌, refl, sym, ◌∙◌, ap, subst, arith, map, length, get_or}
use Rattle.std.specs.Prelude.{IsPermutation, All, Contains, IsTrue, IsFalse}
use Rattle.class_disk.proofs.Common.{list_all, length-map, map-append, IsPermutation-sym, IsPermutation-trans, Contains-permutation, All-cons, All-head, All-tail, All-contains, Contains-append_cases, Contains-append_left, Contains-append_right, Contains-get_or, NtStatus, ClientRequest, Rules, Untouched, Out, OpenRequest, Piece, State, IsSame, HasPlaces, HavePlaces, request_number, mark_at, is_started, is_untouched, HasEnded, Answers, IsSame-sym, IsSame-trans, IsPermutation-uncons, Owns, owns, out_ends_not, started_marks, below_rules}
use Rattle.class_disk.specs.inside.Joint.{Part, Below, Here, note_of, Divided, Joint, shown_mark, parts_requests, parts_pieces, parts_marks, requests_below, pieces_below, shown, below, above}
use Rattle.class_disk.specs.inside.Invariant.{IsSound, IsOwnedBy, AreParts, IsMadeUp, IsCancelledAs, AgreesOnCancel, HasPartBefore, IsInPieces, Keeps}
use Rattle.class_disk.proofs.InPieces.{shown_begins, in_pieces_with}
use Rattle.class_disk.proofs.Coupled.{requests-append, pieces-append, marks-append}
use Rattle.class_disk.proofs.CoupledMarks.{started_part}
use Rattle.class_disk.proofs.CoupledSteps.{divided_with, request_first, taken}
use Rattle.class_disk.proofs.Focus.{Found}
use Rattle.class_disk.proofs.Keeping.{Follows, turns_follow_in, part_in, there}
use Rattle.class_disk.proofs.CoupledRun.{rest, here, same_below, same_above, keeps_here, moved}
use Rattle.class_disk.proofs.Standing.{All-others}

parts_taken : (rules : Rules) (q : ClientRequest) (o : OpenRequest) (again busy : ℕ) (ps : List Piece) (back : List Part) (first : ℕ) (front : List Part)
    → AreParts rules q first (front ++ (Below o again ps ∷ back)) → AreParts rules q first (front ++ (Here (map (shown_mark again) o.marks) busy ∷ back))
parts_taken rules q o again busy ps back first [] h = subst (λ n. AreParts rules q (first + n) back) (sym (length-map o.marks (shown_mark again))) h.2
parts_taken rules q o again busy ps back first (Below p before xs ∷ front) h = (h.0, h.1, parts_taken rules q o again busy ps back (first + length p.marks) front h.2)
parts_taken rules q o again busy ps back first (Here marks more ∷ front) h = parts_taken rules q o again busy ps back (first + length marks) front h

pub notes_of : (front : List Part) (part : Part) (back : List Part) → map note_of (front ++ (part ∷ back)) ≡ map note_of front ++ (note_of part ∷ map note_of back)
notes_of front part back = map-append note_of front (part ∷ back)

module _ (removing : Bool) (e : Divided) (front back : List Part) (o : OpenRequest) (again busy : ℕ) where
  abbrev before_it : Divided
  before_it = divided_with e front back o again []

  abbrev after_it : Divided
  after_it = record e { parts = front ++ (Here (map (shown_mark again) o.marks) busy ∷ back) }

  same_marks : parts_marks before_it.parts ≡ parts_marks after_it.parts
  same_marks = marks-append front (Below o again [] ∷ back) ∙ sym (marks-append front (Here (map (shown_mark again) o.marks) busy ∷ back))

  left_requests : parts_requests after_it.parts ≡ parts_requests front ++ parts_requests back
  left_requests = requests-append front (Here (map (shown_mark again) o.marks) busy ∷ back)

  -- a request that isn't started loses no part that may go first
  follows_taken : (IsFalse removing → IsFalse o.cancelled → IsTrue (is_started o)) → Follows removing before_it after_it
  follows_taken gone = record {
    number = refl;
    timely = λ h. h;
    started = λ h. subst (λ ms. IsTrue (not (list_all is_untouched ms))) same_marks h;
    parts = λ staying n has. by staying n has (Contains-append_cases (parts_requests front) (o ∷ parts_requests back) has.part (subst (λ zs. Contains zs has.part) (requests-append front (Below o again [] ∷ back)) has.there));
  }
    where
      keeps : (n : ℕ) (has : HasPartBefore n before_it) → Contains (parts_requests front ++ parts_requests back) has.part → IsTrue (is_started (shown after_it)) ⊎ HasPartBefore n after_it
      keeps n has c = inr (record { part = has.part; there = subst (λ zs. Contains zs has.part) (sym left_requests) c; timely = has.timely; before = has.before })

      by : IsFalse removing → (n : ℕ) (has : HasPartBefore n before_it) → Contains (parts_requests front) has.part ⊎ Contains (o ∷ parts_requests back) has.part → IsTrue (is_started (shown after_it)) ⊎ HasPartBefore n after_it
      by staying n has (inl c) = keeps n has (Contains-append_left _ _ _ c)
      by staying n has (inr (zero, low, is)) =
          let started : IsTrue (is_started (shown before_it)) = started_part before_it o (there o again [] front back) (gone staying (subst (λ (x : OpenRequest). IsFalse x.cancelled) (sym is) has.timely)) in
          inl (subst (λ ms. IsTrue (not (list_all is_untouched ms))) same_marks started)
      by staying n has (inr (suc k, low, is)) = keeps n has (Contains-append_right _ _ _ (k, omega arith, is))

-- no piece of a request that has ended is out
none_out : (rules : Rules) (s : State) (o : OpenRequest) (ps : List Piece) → IsSound s → Contains s.requests o → All (IsOwnedBy o.number) ps → All (Contains s.pieces) ps → All (HasEnded rules s o) o.marks → ps ≡ []
none_out rules s o [] sound open' owned out ended = refl
none_out rules s o (p ∷ ps) sound open' owned out ended =
    let own : Owns o p = owns s sound.placed o p open' (All-head (Contains s.pieces) p ps out) (sym (All-head (IsOwnedBy o.number) p ps owned)) in
    let low : p.places.first < length o.marks = let a = own.some in let b = own.inside in omega arith in
    let is_out : mark_at o p.places.first ≡ Out = own.out p.places.first (omega arith) (let a = own.some in omega arith) in
    let h : HasEnded rules s o (mark_at o p.places.first) = ended p.places.first Untouched low in
    absurd (out_ends_not rules s o (subst (HasEnded rules s o) is_out h))

-- both machines with the part here that was below
abbrev pub with_here : Joint → Divided → List Divided → List Part → List Part → OpenRequest → ℕ → Joint
with_here j e es front back o again = record j { divided = record e { parts = front ++ (Here (map (shown_mark again) o.marks) (again + o.busy_returns) ∷ back) } ∷ es }

-- once the packet of a part in front was taken
pub record TakenFrom (j : Joint) (rules : Rules) (e : Divided) (es : List Divided) (front back : List Part) (o : OpenRequest) (again : ℕ) (s' : State) : Type 0 where
  pub same : IsSame (below (with_here j e es front back o again)) s'
  pub shown : IsSame (above j) (above (with_here j e es front back o again))
  pub keeps : Keeps rules (with_here j e es front back o again)

-- with the part in front, and no piece of it out
taken_at : (rules : Rules) (j : Joint) (s : State) (e : Divided) (es : List Divided) (front back : List Part) (o : OpenRequest) (again : ℕ) (others : List OpenRequest) (s' : State)
    → IsSame (above j) (above (record j { divided = divided_with e front back o again [] ∷ es })) → IsSame (below (record j { divided = divided_with e front back o again [] ∷ es })) s
    → Keeps rules (record j { divided = divided_with e front back o again [] ∷ es }) → IsPermutation j.divided (divided_with e front back o again [] ∷ es)
    → IsPermutation s.requests (o ∷ others) → IsSame s' (record s { requests = others }) → (IsFalse j.removing → IsFalse o.cancelled → IsTrue (is_started o)) → TakenFrom j rules e es front back o again s'
taken_at rules j s e es front back o again others s' sa sb kh _ is_open after gone =
    let busy : ℕ = again + o.busy_returns in
    let was : Divided = before_it j.removing e front back o again busy in
    let now : Divided = after_it j.removing e front back o again busy in
    let next : Joint = record j { divided = now ∷ es } in
    let left : parts_requests now.parts ≡ parts_requests front ++ parts_requests back = left_requests j.removing e front back o again busy in
    let open_others : IsPermutation (requests_below next.divided) others =
    subst (λ zs. IsPermutation (zs ++ requests_below es) others) (sym left)
    (IsPermutation-uncons o _ _ (IsPermutation-trans _ _ _ (IsPermutation-sym _ _ (request_first e es front back o again [])) (IsPermutation-trans _ _ _ sb.requests is_open))) in
    let same_pieces : pieces_below (was ∷ es) ≡ pieces_below next.divided =
    ap (λ zs. zs ++ pieces_below es) (pieces-append front (Below o again [] ∷ back) ∙ sym (pieces-append front (Here (map (shown_mark again) o.marks) busy ∷ back))) in
    let left_out : (P : OpenRequest → Type 0) → All P (parts_requests was.parts) → All P (parts_requests now.parts) = λ P all.
    subst (All P) (sym left) (All-others P (parts_requests front) o (parts_requests back) (subst (All P) (requests-append front (Below o again [] ∷ back)) all)) in
    record {
      same = IsSame-trans _ _ _ (record {
        arrays = sb.arrays;
        next_request = sb.next_request;
        next_piece = sb.next_piece;
        requests = open_others;
        pieces = subst (λ zs. IsPermutation zs s.pieces) same_pieces sb.pieces;
        owed = sb.owed;
        paused = sb.paused;
        removing = sb.removing;
        removed = sb.removed;
      }) (IsSame-sym _ _ after);
      shown = IsSame-trans _ _ _ sa (taken j e es front back o again);
      keeps = record {
        made_up = All-cons (IsMadeUp rules) now es (parts_taken rules e.request o again busy [] back 0 front (All-head (IsMadeUp rules) was es kh.made_up)) (All-tail (IsMadeUp rules) was es kh.made_up);
        agree = All-cons AgreesOnCancel now es (left_out (IsCancelledAs e.cancelled) (All-head AgreesOnCancel was es kh.agree)) (All-tail AgreesOnCancel was es kh.agree);
        in_turn = turns_follow_in j.removing es was now (follows_taken j.removing e front back o again busy gone) (λ P all. numbers_left P all) kh.in_turn;
        in_pieces = All-cons (IsInPieces rules) now es
            (in_pieces_with rules e front back (Below o again []) (Here (map (shown_mark again) o.marks) busy) (length-map o.marks (shown_mark again)) (let more = shown_begins again o.marks in omega arith) (All-head (IsInPieces rules) was es kh.in_pieces))
            (All-tail (IsInPieces rules) was es kh.in_pieces);
      };
    }
  where
    numbers_left : (P : ℕ → Type 0) → All P (map request_number (parts_requests (front ++ (Below o again [] ∷ back)))) → All P (map request_number (parts_requests (front ++ (Here (map (shown_mark again) o.marks) (again + o.busy_returns) ∷ back))))
    numbers_left P all =
        let xs : List ℕ = map request_number (parts_requests front) in
        let ys : List ℕ = map request_number (parts_requests back) in
        let a : map request_number (parts_requests (front ++ (Below o again [] ∷ back))) ≡ xs ++ (o.number ∷ ys) = ap (map request_number) (requests-append front (Below o again [] ∷ back)) ∙ map-append request_number (parts_requests front) (o ∷ parts_requests back) in
        let b : map request_number (parts_requests (front ++ (Here (map (shown_mark again) o.marks) (again + o.busy_returns) ∷ back))) ≡ xs ++ ys = ap (map request_number) (requests-append front (Here (map (shown_mark again) o.marks) (again + o.busy_returns) ∷ back)) ∙ map-append request_number (parts_requests front) (parts_requests back) in
        subst (All P) (sym b) (All-others P xs o.number ys (subst (All P) a all))

module _ (rules : Rules) (j : Joint) (s : State) (same : IsSame (below j) s) (sound : IsSound s) (places : HavePlaces s) (k : Keeps rules j) where
  -- the answer of a packet below, wherever its part was found
  pub taken_from : (number : ℕ) (status : NtStatus) (bytes : List ℕ) (s' : State) → (h : Answers (below_rules rules) s number status bytes s') → (f : Found j.divided h.request) → TakenFrom j rules f.whole (rest rules j h.request f) f.front f.back h.request f.again s'
  taken_from number status bytes s' h f =
      let o : OpenRequest = h.request in
      let in_s : Contains s.requests o = Contains-permutation _ _ o (IsPermutation-sym _ _ h.is_open) (0, omega arith, refl) in
      let es : List Divided = rest rules j o f in
      let sb : IsSame (below (here rules j o f f.pieces)) s = IsSame-trans _ _ _ (IsSame-sym _ _ (same_below rules j o f)) same in
      let kf : Keeps rules (here rules j o f f.pieces) = keeps_here rules j o f k in
      let known = part_in rules f.whole.request o f.again f.pieces f.front f.back (All-head (IsMadeUp rules) _ es kf.made_up) in
      let out : All (Contains s.pieces) f.pieces = λ i d low. Contains-permutation _ _ (get_or f.pieces i d) sb.pieces (in_pieces f es (get_or f.pieces i d) (Contains-get_or f.pieces i d low)) in
      let none : f.pieces ≡ [] = none_out (below_rules rules) s o f.pieces sound in_s known.1 out h.ended in
      taken_at rules j s f.whole es f.front f.back o f.again h.others s'
      (subst (λ ps. IsSame (above j) (above (here rules j o f ps))) none (same_above rules j o f))
      (subst (λ ps. IsSame (below (here rules j o f ps)) s) none sb)
      (subst (λ ps. Keeps rules (here rules j o f ps)) none kf)
      (subst (λ ps. IsPermutation j.divided (here rules j o f ps).divided) none (moved rules j o f))
      h.is_open h.after
      (λ staying timely. started_marks (below_rules rules) s o o.marks timely (sym same.removing ∙ staying) (All-contains HasPlaces s.requests o places in_s) h.ended)
    where
      in_pieces : {o : OpenRequest} (f : Found j.divided o) (es : List Divided) (p : Piece) → Contains f.pieces p → Contains (pieces_below (divided_with f.whole f.front f.back o f.again f.pieces ∷ es)) p
      in_pieces {o} f es p c =
          Contains-append_left _ (pieces_below es) p (subst (λ zs. Contains zs p) (sym (pieces-append f.front (Below o f.again f.pieces ∷ f.back))) (Contains-append_right (parts_pieces f.front) _ p (Contains-append_left f.pieces (parts_pieces f.back) p c)))
