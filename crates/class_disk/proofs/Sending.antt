-- A part goes below in a packet of a new number, and the machine above stays as it was.
use Rattle.std.proofs.Common.{◌≡◌, ◌≤◌, ◌⊎◌, inl, inr, ℕ, suc, ◌+◌, not, Bool, List, [], ◌∷◌, ◌++◌, refl, sym, ◌∙◌, ap, subst, arith, map, length, length-append}
use Rattle.std.specs.Prelude.{IsPermutation, All, Contains, IsTrue}
use Rattle.class_disk.proofs.Common.{list_all, length-map, IsPermutation-sym, IsPermutation-trans, IsPermutation-cons, IsPermutation-middle, IsPermutation-append_left, All-permutation, All-nil, All-cons, All-head, All-tail, All-weaker, All-map, Contains-append_cases, Contains-append_left, Contains-append_right, ClientRequest, Rules, OpenRequest, State, IsSame, request_number, restarts, is_untouched, IsSame-sym, IsSame-trans}
use Rattle.class_disk.specs.inside.Joint.{Part, Below, Here, Divided, Joint, IsPartOf, shown_mark, parts_requests, parts_marks, parts_busy, parts_lifted, requests_below, pieces_below, below, above}
use Rattle.class_disk.specs.inside.Invariant.{IsOwnedBy, AreParts, IsMadeUp, IsCancelledAs, AgreesOnCancel, IsAhead, AreBehind, IsInTurn, parts_back, IsInPieces, Keeps}
use Rattle.class_disk.proofs.InPieces.{cut_with}
use Rattle.class_disk.proofs.Coupled.{requests-append, pieces-append, marks-append}
use Rattle.class_disk.proofs.CoupledSteps.{same_part}
use Rattle.class_disk.proofs.Keeping.{Follows, behind_follows}
use Rattle.class_disk.proofs.Orderly.{All-from_map}

module _ (e : Divided) (front back : List Part) (o : OpenRequest) (again : ℕ) where
  abbrev pub waiting : Divided
  waiting = record e { parts = front ++ (Here (map (shown_mark again) o.marks) again ∷ back) }

  abbrev pub gone_down : Divided
  gone_down = record e { parts = front ++ (Below o again [] ∷ back) }

  same_marks : parts_marks waiting.parts ≡ parts_marks gone_down.parts
  same_marks = marks-append front (Here (map (shown_mark again) o.marks) again ∷ back) ∙ sym (marks-append front (Below o again [] ∷ back))

  were : parts_requests waiting.parts ≡ parts_requests front ++ parts_requests back
  were = requests-append front (Here (map (shown_mark again) o.marks) again ∷ back)

  are : parts_requests gone_down.parts ≡ parts_requests front ++ (o ∷ parts_requests back)
  are = requests-append front (Below o again [] ∷ back)

  one_more : (P : OpenRequest → Type 0) → P o → All P (parts_requests waiting.parts) → All P (parts_requests gone_down.parts)
  one_more P h all =
      subst (All P) (sym are) (All-permutation P _ _ (IsPermutation-sym _ _ (IsPermutation-middle (parts_requests front) o (parts_requests back)))
      (All-cons P o _ h (subst (All P) were all)))

  still_there : (x : OpenRequest) → Contains (parts_requests waiting.parts) x → Contains (parts_requests gone_down.parts) x
  still_there x c = subst (λ zs. Contains zs x) (sym are) (by (Contains-append_cases (parts_requests front) (parts_requests back) x (subst (λ zs. Contains zs x) were c)))
    where
      by : Contains (parts_requests front) x ⊎ Contains (parts_requests back) x → Contains (parts_requests front ++ (o ∷ parts_requests back)) x
      by (inl near) = Contains-append_left (parts_requests front) (o ∷ parts_requests back) x near
      by (inr (k, low, is)) = Contains-append_right (parts_requests front) (o ∷ parts_requests back) x (suc k, omega arith, is)

  follows_down : (removing : Bool) → Follows removing waiting gone_down
  follows_down removing = record {
    number = refl;
    timely = λ h. h;
    started = λ h. subst (λ ms. IsTrue (not (list_all is_untouched ms))) same_marks h;
    parts = λ staying n has. inr (record { part = has.part; there = still_there has.part has.there; timely = has.timely; before = has.before });
  }

  parts_down : (rules : Rules) (q : ClientRequest) (first : ℕ) (ahead : List Part) → IsPartOf rules q (first + length (parts_marks ahead)) o
      → AreParts rules q first (ahead ++ (Here (map (shown_mark again) o.marks) again ∷ back)) → AreParts rules q first (ahead ++ (Below o again [] ∷ back))
  parts_down rules q first [] part h =
      (subst (λ n. IsPartOf rules q n o) (omega arith) part, All-nil (IsOwnedBy o.number), subst (λ n. AreParts rules q (first + n) back) (length-map o.marks (shown_mark again)) h)
  parts_down rules q first (Below p before ps ∷ ahead) part h =
      (h.0, h.1, parts_down rules q (first + length p.marks) ahead (subst (λ n. IsPartOf rules q n o) (simp (length-append, length-map) (omega arith)) part) h.2)
  parts_down rules q first (Here marks busy ∷ ahead) part h =
      parts_down rules q (first + length marks) ahead (subst (λ n. IsPartOf rules q n o) (simp length-append (omega arith)) part) h

-- the part in front of all others, here until now, goes below in a packet of a new number: both machines, and the coupling
module _ (rules : Rules) (j : Joint) (e : Divided) (es : List Divided) (front back : List Part) (o : OpenRequest) (again next : ℕ) where
  abbrev pub until_now : Joint
  until_now = record j { divided = waiting e front back o again ∷ es }

  abbrev pub from_now : Joint
  from_now = record j { next_below = next; divided = gone_down e front back o again ∷ es }

  pub down_below : (s s' : State) → IsSame (below until_now) s → IsSame s' (record s { next_request = next; requests = o ∷ s.requests }) → IsSame (below from_now) s'
  down_below s s' same after = IsSame-trans _ _ _ (record {
    arrays = same.arrays;
    next_request = refl;
    next_piece = same.next_piece;
    requests = opened;
    pieces = subst (λ zs. IsPermutation zs s.pieces) same_pieces same.pieces;
    owed = same.owed;
    paused = same.paused;
    removing = same.removing;
    removed = same.removed;
  }) (IsSame-sym _ _ after)
    where
      same_pieces : pieces_below until_now.divided ≡ pieces_below from_now.divided
      same_pieces = ap (λ zs. zs ++ pieces_below es) (pieces-append front (Here (map (shown_mark again) o.marks) again ∷ back) ∙ sym (pieces-append front (Below o again [] ∷ back)))

      first : IsPermutation (requests_below from_now.divided) (o ∷ requests_below until_now.divided)
      first =
          subst (λ zs. IsPermutation (zs ++ requests_below es) (o ∷ requests_below until_now.divided)) (sym (are e front back o again))
          (subst (λ zs. IsPermutation ((parts_requests front ++ (o ∷ parts_requests back)) ++ requests_below es) (o ∷ (zs ++ requests_below es))) (sym (were e front back o again))
          (IsPermutation-append_left (requests_below es) _ _ (IsPermutation-middle (parts_requests front) o (parts_requests back))))

      opened : IsPermutation (requests_below from_now.divided) (o ∷ s.requests)
      opened = IsPermutation-trans _ _ _ first (IsPermutation-cons o _ _ same.requests)

  -- nothing changes above: the part shows as it did while it was here
  pub down_above : o.busy_returns ≡ 0 → IsSame (above until_now) (above from_now)
  down_above none =
      same_part j e es front back j.next_below next (Here (map (shown_mark again) o.marks) again) (Below o again []) refl (omega (arith, none)) (λ first. ap (λ n. parts_lifted e.number (first + n) back) (length-map o.marks (shown_mark again)))

  -- a part of its request, not cancelled, behind the parts of all earlier requests, and a restart if it was sent before
  pub down_keeps : IsPartOf rules e.request (length (parts_marks front)) o → o.cancelled ≡ e.cancelled → All (IsAhead j.removing e.number o.number) es
      → parts_busy (gone_down e front back o again).parts ≤ parts_back (gone_down e front back o again).parts + restarts rules → Keeps rules until_now → Keeps rules from_now
  down_keeps part agrees ahead few k =
      let was : Divided = waiting e front back o again in
      let now : Divided = gone_down e front back o again in
      let f : Follows j.removing was now = follows_down e front back o again j.removing in
      let old : All (AreBehind j.removing (was ∷ es) e.number) (map request_number (parts_requests was.parts)) = All-head (IsInTurn j.removing (was ∷ es)) was es k.in_turn in
      let new : AreBehind j.removing (now ∷ es) e.number o.number = All-cons (IsAhead j.removing e.number o.number) now es (λ staying lower timely. absurd (omega arith)) ahead in
      record {
        made_up = All-cons (IsMadeUp rules) now es (parts_down e front back o again rules e.request 0 front (subst (λ n. IsPartOf rules e.request n o) (omega arith) part) (All-head (IsMadeUp rules) was es k.made_up)) (All-tail (IsMadeUp rules) was es k.made_up);
        agree = All-cons AgreesOnCancel now es (one_more e front back o again (IsCancelledAs e.cancelled) agrees (All-head AgreesOnCancel was es k.agree)) (All-tail AgreesOnCancel was es k.agree);
        in_turn = All-cons (IsInTurn j.removing (now ∷ es)) now es
            (All-map (AreBehind j.removing (now ∷ es) e.number) request_number (parts_requests now.parts)
            (one_more e front back o again (λ x. AreBehind j.removing (now ∷ es) e.number x.number) new
            (All-from_map (AreBehind j.removing (now ∷ es) e.number) request_number (parts_requests was.parts)
            (All-weaker (AreBehind j.removing (was ∷ es) e.number) (AreBehind j.removing (now ∷ es) e.number) (λ n. behind_follows j.removing es was now f e.number n) _ old))))
            (All-weaker (IsInTurn j.removing (was ∷ es)) (IsInTurn j.removing (now ∷ es))
            (λ x. All-weaker (AreBehind j.removing (was ∷ es) x.number) (AreBehind j.removing (now ∷ es) x.number) (λ n. behind_follows j.removing es was now f x.number n) (map request_number (parts_requests x.parts)))
            es (All-tail (IsInTurn j.removing (was ∷ es)) was es k.in_turn));
        in_pieces = All-cons (IsInPieces rules) now es
            (record {
              cut = cut_with rules e front back (Here (map (shown_mark again) o.marks) again) (Below o again []) (sym (length-map o.marks (shown_mark again))) (All-head (IsInPieces rules) was es k.in_pieces).cut;
              few = few;
            })
            (All-tail (IsInPieces rules) was es k.in_pieces);
      }
