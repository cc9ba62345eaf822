-- Steps of the layer below at one part, as steps of the layer above.
use Rattle.std.proofs.Common.{◌≡◌, ◌≤◌, inl, inr, ℕ, zero, suc, ◌+◌, ◌-◌, true, false, List, [], ◌∷◌, ◌++◌, refl, sym, ◌∙◌, ap, subst, arith, map, length, take, drop, replicate, get_or, length-append}
use Rattle.std.specs.Prelude.{IsPermutation, All, Contains, IsFalse, slice_range}
use Rattle.class_disk.proofs.Common.{concat, length-map, length-replicate, take-map, drop-map, IsPermutation-refl, IsPermutation-sym, IsPermutation-trans, IsPermutation-cons, IsPermutation-middle, IsPermutation-append_left, All-cons, All-contains, All-map, Contains-append_left, Contains-append_right, Contains-get_or, splice, Extent, IsPlain, Means, Class, Fresh, Acted, Faulted, Kind, Read, Write, Flush, ClientRequest, Rules, first_sector, Cancels, Mark, Untouched, Out, Done, Failed, Back, OpenRequest, Piece, State, IsSame, with_marks, below_rules, IsAhead, IsInPieces, IsSame-refl, IsPermutation-uncons, length-splice}
use Rattle.srb.specs.declared.Class.TheVariants.{Good, Busy, Bad}
use Rattle.machine.specs.Sending.{Starts, Acts, Faults, Returns, MayStart, IsInTurn, IsSendable, IsLowestFreeTag, IsUnsent, LeavesMarks, Transfers, command_for, sent, new_piece, with_fate, given_back, one_if_busy}
use Rattle.class_disk.specs.inside.Joint.{Part, Below, Here, Divided, Joint, shown_mark, lifted, parts_requests, parts_pieces, parts_marks, parts_busy, parts_lifted, shown, requests_below, pieces_below, pieces_above, below, above, IsPartOf}
use Rattle.class_disk.proofs.Coupled.{requests-append, pieces-append, marks-append, busy-append, lifted-append}
use Rattle.class_disk.proofs.InPieces.{BeginsWhole, begins_whole, piece_begins, restart_left}
use Rattle.class_disk.proofs.CoupledMarks.{splice_middle, range_middle, map-splice, all_unsent, started_part, same_command, same_tags, IsLowestFreeTag-tags}

abbrev pub divided_with : Divided → List Part → List Part → OpenRequest → ℕ → List Piece → Divided
divided_with e front back o again pieces = record e { parts = front ++ (Below o again pieces ∷ back) }

module _ (e : Divided) (es : List Divided) (front back : List Part) where
  abbrev pub base : ℕ
  base = length (parts_marks front)

  pub marks_with : (o o' : OpenRequest) (again : ℕ) (ps ps' : List Piece) (f : ℕ) (x : List Mark) → o'.marks ≡ splice o.marks f x → f + length x ≤ length o.marks → map (shown_mark again) x ≡ x
      → parts_marks (front ++ (Below o' again ps' ∷ back)) ≡ splice (parts_marks (front ++ (Below o again ps ∷ back))) (base + f) x
  marks_with o o' again ps ps' f x is fits alike =
      let fits' : f + length x ≤ length (map (shown_mark again) o.marks) = simp length-map (omega arith) in
      let a : map (shown_mark again) o'.marks ≡ splice (map (shown_mark again) o.marks) f x = ap (map (shown_mark again)) is ∙ map-splice (shown_mark again) o.marks f x ∙ ap (λ y. splice (map (shown_mark again) o.marks) f y) alike in
      marks-append front (Below o' again ps' ∷ back)
      ∙ ap (λ y. parts_marks front ++ (y ++ parts_marks back)) a
      ∙ sym (splice_middle (parts_marks front) (map (shown_mark again) o.marks) (parts_marks back) x f fits')
      ∙ ap (λ y. splice y (base + f) x) (sym (marks-append front (Below o again ps ∷ back)))

  pub busy_with : (o o' : OpenRequest) (again : ℕ) (ps ps' : List Piece) (extra : ℕ) → o'.busy_returns ≡ o.busy_returns + extra
      → parts_busy (front ++ (Below o' again ps' ∷ back)) ≡ parts_busy (front ++ (Below o again ps ∷ back)) + extra
  busy_with o o' again ps ps' extra is =
      let a = busy-append front (Below o' again ps' ∷ back) in
      let b = busy-append front (Below o again ps ∷ back) in
      omega arith

  pub shown_with : (o o' : OpenRequest) (again : ℕ) (ps ps' : List Piece) (f : ℕ) (x : List Mark) (extra : ℕ) → o'.marks ≡ splice o.marks f x → f + length x ≤ length o.marks → map (shown_mark again) x ≡ x → o'.busy_returns ≡ o.busy_returns + extra
      → shown (divided_with e front back o' again ps') ≡ record (with_marks (base + f) x (shown (divided_with e front back o again ps))) { busy_returns = parts_busy (front ++ (Below o again ps ∷ back)) + extra }
  shown_with o o' again ps ps' f x extra is fits alike more =
      ap (λ m. record (shown (divided_with e front back o' again ps')) { marks = m }) (marks_with o o' again ps ps' f x is fits alike)
      ∙ ap (λ n. record (with_marks (base + f) x (shown (divided_with e front back o again ps))) { busy_returns = n }) (busy_with o o' again ps ps' extra more)

  pub shown_pieces : (o : OpenRequest) (again : ℕ) (ps ps' : List Piece) → shown (divided_with e front back o again ps) ≡ shown (divided_with e front back o again ps')
  shown_pieces o again ps ps' =
      ap (λ m. record (shown (divided_with e front back o again ps)) { marks = m }) (marks-append front (Below o again ps ∷ back) ∙ sym (marks-append front (Below o again ps' ∷ back)))
      ∙ ap (λ n. record (shown (divided_with e front back o again ps')) { busy_returns = n }) (busy-append front (Below o again ps ∷ back) ∙ sym (busy-append front (Below o again ps' ∷ back)))

  lifted_with : (o o' : OpenRequest) (again : ℕ) (ps : List Piece) → length o'.marks ≡ length o.marks
      → parts_lifted e.number 0 (front ++ (Below o' again ps ∷ back)) ≡ parts_lifted e.number 0 front ++ (map (lifted e.number base) ps ++ parts_lifted e.number (base + length o.marks) back)
  lifted_with o o' again ps long =
      let n : 0 + base ≡ base = omega arith in
      lifted-append e.number 0 front (Below o' again ps ∷ back)
      ∙ ap (λ m. parts_lifted e.number 0 front ++ (map (lifted e.number m) ps ++ parts_lifted e.number (m + length o'.marks) back)) n
      ∙ ap (λ m. parts_lifted e.number 0 front ++ (map (lifted e.number base) ps ++ parts_lifted e.number (base + m) back)) long

  pub above_first : (o o' : OpenRequest) (again : ℕ) (p : Piece) (ps : List Piece) → length o'.marks ≡ length o.marks
      → IsPermutation (pieces_above (divided_with e front back o' again (p ∷ ps) ∷ es)) (lifted e.number base p ∷ pieces_above (divided_with e front back o again ps ∷ es))
  above_first o o' again p ps long =
      rw (lifted_with o o' again (p ∷ ps) long, lifted_with o o again ps refl)
      (IsPermutation-append_left (pieces_above es) _ _ (IsPermutation-middle (parts_lifted e.number 0 front) (lifted e.number base p) (map (lifted e.number base) ps ++ parts_lifted e.number (base + length o.marks) back)))

  pub below_first : (o o' : OpenRequest) (again : ℕ) (p : Piece) (ps : List Piece)
      → IsPermutation (pieces_below (divided_with e front back o' again (p ∷ ps) ∷ es)) (p ∷ pieces_below (divided_with e front back o again ps ∷ es))
  below_first o o' again p ps =
      rw (pieces-append front (Below o' again (p ∷ ps) ∷ back), pieces-append front (Below o again ps ∷ back))
      (IsPermutation-append_left (pieces_below es) _ _ (IsPermutation-middle (parts_pieces front) p (ps ++ parts_pieces back)))

  pub request_first : (o : OpenRequest) (again : ℕ) (ps : List Piece)
      → IsPermutation (requests_below (divided_with e front back o again ps ∷ es)) (o ∷ ((parts_requests front ++ parts_requests back) ++ requests_below es))
  request_first o again ps =
      rw (requests-append front (Below o again ps ∷ back))
      (IsPermutation-append_left (requests_below es) _ _ (IsPermutation-middle (parts_requests front) o (parts_requests back)))

abbrev pub at : Joint → List (List (List ℕ)) → ℕ → List Divided → Joint
at j arrays next divided = record j { arrays = arrays; next_piece = next; divided = divided }

shown_outs : (again n : ℕ) → map (shown_mark again) (replicate n Out) ≡ replicate n Out
shown_outs again zero = refl
shown_outs zero (suc n) = ap (λ zs. Out ∷ zs) (shown_outs zero n)
shown_outs (suc m) (suc n) = ap (λ zs. Out ∷ zs) (shown_outs (suc m) n)

pub in_requests : (x : Divided) (part : OpenRequest) (es : List Divided) → Contains es x → Contains (parts_requests x.parts) part → Contains (requests_below es) part
in_requests x part [] c h = absurd (let w = c.1 in omega arith)
in_requests x part (y ∷ es) (zero, within, is) h = Contains-append_left _ _ _ (subst (λ z. Contains (parts_requests z.parts) part) (sym is) h)
in_requests x part (y ∷ es) (suc k, within, is) h = Contains-append_right _ _ _ (in_requests x part es (k, omega arith, is) h)

range-map : {X Y : Type 0} (f : X → Y) (xs : List X) (a b : ℕ) → slice_range (map f xs) a b ≡ map f (slice_range xs a b)
range-map f xs a b = ap (λ zs. take (b - a) zs) (drop-map f a xs) ∙ take-map f (b - a) (drop a xs)

same_moves : (rules : Rules) (arrays : List (List (List ℕ))) (s t : State) (q : ClientRequest) (first : ℕ) (o : OpenRequest) (places : Extent) (sectors : List (List ℕ)) (arrays' : List (List (List ℕ))) → s.arrays ≡ arrays → t.arrays ≡ arrays
    → IsPartOf rules q first o → places.first + places.count ≤ length o.marks
    → Transfers (below_rules rules) s o.request places o.request.kind sectors arrays' → Transfers rules t q (record { first = first + places.first; count = places.count }) q.kind sectors arrays'
same_moves rules arrays s t q first o places sectors arrays' es et h fits moves =
    by_kind q.kind (subst (λ kind. Transfers (below_rules rules) s o.request places kind sectors arrays') h.kind moves)
  where
    n : first_sector rules o.request + places.first ≡ first_sector rules q + (first + places.first)
    n = let e = h.from in omega arith

    same : s.arrays ≡ t.arrays
    same = es ∙ sym et

    by_kind : (kind : Kind) → Transfers (below_rules rules) s o.request places kind sectors arrays' → Transfers rules t q (record { first = first + places.first; count = places.count }) kind sectors arrays'
    by_kind Read m = (λ faithful. rw (sym same, sym h.partition, sym n) (m.0 faithful), m.1, m.2 ∙ same)
    by_kind Write m = (m.0 ∙ h.bytes places.first places.count fits, m.1, rw (sym same, sym h.partition, sym n) m.2)
    by_kind Flush m = (m.0, m.1 ∙ same)

same_leaves : (owner first : ℕ) (piece : Piece) (class : Class) (marks : List Mark) → LeavesMarks piece class marks → LeavesMarks (lifted owner first piece) class marks
same_leaves owner first piece Good marks h = h
same_leaves owner first piece Busy marks h = h
same_leaves owner first piece (Bad completion) marks h = h

shown_many : (again n : ℕ) (mark : Mark) → shown_mark again mark ≡ mark → map (shown_mark again) (replicate n mark) ≡ replicate n mark
shown_many again zero mark h = refl
shown_many again (suc n) mark h = cc (h, shown_many again n mark h)

pub shown_done : (again : ℕ) (sectors : List (List ℕ)) → map (shown_mark again) (map Done sectors) ≡ map Done sectors
shown_done again [] = refl
shown_done zero (x ∷ xs) = ap (λ zs. Done x ∷ zs) (shown_done zero xs)
shown_done (suc n) (x ∷ xs) = ap (λ zs. Done x ∷ zs) (shown_done (suc n) xs)

pub shown_back : (again : ℕ) → shown_mark again Back ≡ Back
shown_back zero = refl
shown_back (suc n) = refl

failed_stays : (again : ℕ) (status : _) → shown_mark again (Failed status) ≡ Failed status
failed_stays zero status = refl
failed_stays (suc n) status = refl

shown_left : (again : ℕ) (piece : Piece) (class : Class) (marks : List Mark) → LeavesMarks piece class marks → map (shown_mark again) marks ≡ marks
shown_left again piece Good marks (sectors, fate, is) = ap (map (shown_mark again)) is ∙ shown_done again sectors ∙ sym is
shown_left again piece Busy marks (fate, is) = ap (map (shown_mark again)) is ∙ shown_many again piece.places.count Back (shown_back again) ∙ sym is
shown_left again piece (Bad completion) marks (bad, is) = ap (map (shown_mark again)) is ∙ shown_many again piece.places.count _ (failed_stays again _) ∙ sym is

module _ (rules : Rules) (j : Joint) (e : Divided) (es : List Divided) (front back : List Part) (arrays : List (List (List ℕ))) (next : ℕ) where
  abbrev focus : List (List (List ℕ)) → ℕ → OpenRequest → ℕ → List Piece → Joint
  focus arrays' next' o again ps = at j arrays' next' (divided_with e front back o again ps ∷ es)

  -- no earlier request waits above, since no earlier part does below
  turns : IsFalse j.removing → (o : OpenRequest) (again : ℕ) (ps : List Piece) → All (IsAhead j.removing e.number o.number) es → All (IsInTurn o) (requests_below (divided_with e front back o again ps ∷ es))
      → All (IsInTurn (shown (divided_with e front back o again ps))) (map shown (divided_with e front back o again ps ∷ es))
  turns staying o again ps ahead turn =
      All-cons (IsInTurn (shown (divided_with e front back o again ps))) (shown (divided_with e front back o again ps)) (map shown es) (λ low timely. absurd (omega arith))
      (All-map (IsInTurn (shown (divided_with e front back o again ps))) shown es (λ k d within. one (get_or es k d) (Contains-get_or es k d within) (ahead k d within)))
    where
      one : (x : Divided) → Contains es x → IsAhead j.removing e.number o.number x → IsInTurn (shown (divided_with e front back o again ps)) (shown x)
      one x c h low timely = elim (h staying low timely) [
        | inl started ↦ started
        | inr w ↦
            started_part x w.part w.there (All-contains (IsInTurn o) _ w.part turn (in_requests x w.part (divided_with e front back o again ps ∷ es) (suc c.0, omega (arith, c.1), c.2) w.there) w.before w.timely)
      ]

  pub Starts-above : rules.one_piece ≡ false → (o : OpenRequest) (again : ℕ) (ps : List Piece) (tag : ℕ) (block : List ℕ) (places : Extent)
      → IsPartOf rules e.request (length (parts_marks front)) o → o.cancelled ≡ e.cancelled → All (IsAhead j.removing e.number o.number) es → IsInPieces rules (divided_with e front back o again ps)
      → IsLowestFreeTag rules.depth (below (focus arrays next o again ps)).pieces tag → MayStart (below (focus arrays next o again ps)) o → IsSendable (below_rules rules) o places
      → Means block (command_for (below_rules rules) o.request places o.request.kind) → IsPlain block (command_for (below_rules rules) o.request places o.request.kind)
      → Starts rules (above (focus arrays next o again ps)) next tag block (above (focus arrays (next + 1) (sent places o) again (new_piece (below (focus arrays next o again ps)) tag o places ∷ ps)))
  Starts-above many o again ps tag block places part same_cancel ahead in_pieces on_tag may sendable asks plain =
      let whole : BeginsWhole o places = begins_whole (below_rules rules) refl o places sendable in
      let outs : length (replicate places.count Out) ≡ places.count = length-replicate places.count Out in
      let fits : places.first + length (replicate places.count Out) ≤ length o.marks = let i = sendable.inside in omega arith in
      let long : length (sent places o).marks ≡ length o.marks = length-splice o.marks places.first (replicate places.count Out) fits in
      let zero_more : parts_busy (front ++ (Below o again ps ∷ back)) + 0 ≡ parts_busy (front ++ (Below o again ps ∷ back)) = omega arith in
      let here : Extent = record { first = length (parts_marks front) + places.first; count = places.count } in
      let owner : OpenRequest = shown (divided_with e front back o again ps) in
      let same : shown (divided_with e front back (sent places o) again (new_piece (below (focus arrays next o again ps)) tag o places ∷ ps)) ≡ sent here owner =
      shown_with e es front back o (sent places o) again ps (new_piece (below (focus arrays next o again ps)) tag o places ∷ ps) places.first (replicate places.count Out) 0 refl fits (shown_outs again places.count) (omega arith)
      ∙ ap (λ n. record (sent here owner) { busy_returns = n }) zero_more in
      let wide : length (parts_marks (front ++ (Below o again ps ∷ back))) ≡ length (parts_marks front) + (length o.marks + length (parts_marks back)) =
      ap length (marks-append front (Below o again ps ∷ back)) ∙ simp (length-append, length-map) in
      let waiting : All IsUnsent (slice_range (parts_marks (front ++ (Below o again ps ∷ back))) (length (parts_marks front) + places.first) (length (parts_marks front) + places.first + places.count)) =
      subst (λ z. All IsUnsent (slice_range z (length (parts_marks front) + places.first) (length (parts_marks front) + places.first + places.count))) (sym (marks-append front (Below o again ps ∷ back)))
      (subst (λ z. All IsUnsent z) (sym (range_middle (parts_marks front) (map (shown_mark again) o.marks) (parts_marks back) places.first places.count (simp length-map sendable.inside)))
      (subst (λ z. All IsUnsent z) (sym (range-map (shown_mark again) o.marks places.first (places.first + places.count))) (all_unsent again _ sendable.unsent))) in
      record {
        owner = owner;
        others = map shown es;
        places = here;
        next_number = refl;
        on_tag = IsLowestFreeTag-tags _ _ (sym (same_tags (divided_with e front back o again ps ∷ es))) rules.depth tag on_tag;
        is_open = IsPermutation-refl _;
        may_start = record {
          not_cancelled = sym same_cancel ∙ may.not_cancelled;
          not_removing = may.not_removing;
          not_held = λ paused. cc (paused);
          in_turn = turns may.not_removing o again ps ahead may.in_turn;
        };
        sendable = record {
          some = sendable.some;
          short = sendable.short;
          inside = let i = sendable.inside in omega arith;
          unsent = waiting;
          begins = λ grid. piece_begins rules e front back o again ps places in_pieces whole;
          spare = λ grid. restart_left rules e front back o again ps places in_pieces whole;
          whole = λ one. cc (one, many);
        };
        asks = subst (λ z. Means block z) (same_command rules e.request (length (parts_marks front)) o places part) asks;
        plain = subst (λ z. IsPlain block z) (same_command rules e.request (length (parts_marks front)) o places part) plain;
        after = record {
          arrays = refl;
          next_request = refl;
          next_piece = refl;
          requests = subst (λ z. IsPermutation (shown (divided_with e front back (sent places o) again (new_piece (below (focus arrays next o again ps)) tag o places ∷ ps)) ∷ map shown es) (z ∷ map shown es)) same (IsPermutation-refl _);
          pieces = above_first e es front back o (sent places o) again (new_piece (below (focus arrays next o again ps)) tag o places) ps long;
          owed = refl;
          paused = refl;
          removing = refl;
          removed = refl;
        };
      }

  pub Acts-above : (o : OpenRequest) (again k : ℕ) (p : Piece) (ps : List Piece) (bytes : List ℕ) (sectors : List (List ℕ)) (arrays' : List (List (List ℕ)))
      → IsPartOf rules e.request (length (parts_marks front)) o → p.number ≡ k → p.fate ≡ Fresh → p.places.first + p.places.count ≤ length o.marks → length sectors ≡ p.places.count
      → Transfers (below_rules rules) (below (focus arrays next o again (p ∷ ps))) o.request p.places o.request.kind sectors arrays' → bytes ≡ concat sectors
      → Acts rules (above (focus arrays next o again (p ∷ ps))) k bytes (above (focus arrays' next o again (with_fate (Acted sectors) p ∷ ps)))
  Acts-above o again k p ps bytes sectors arrays' part is_k fresh fits covers moves hands = record {
    piece = lifted e.number (length (parts_marks front)) p;
    other_pieces = pieces_above (divided_with e front back o again ps ∷ es);
    owner = shown (divided_with e front back o again (p ∷ ps));
    sectors = sectors;
    arrays' = arrays';
    fresh = record { is_out = above_first e es front back o o again p ps refl; is_number = is_k; is_fresh = fresh };
    is_open = (0, omega arith, refl);
    is_owner = refl;
    covers = covers;
    moves = same_moves rules arrays (below (focus arrays next o again (p ∷ ps))) (above (focus arrays next o again (p ∷ ps))) e.request (length (parts_marks front)) o p.places sectors arrays' refl refl part fits moves;
    hands_over = hands;
    after = record {
      arrays = refl;
      next_request = refl;
      next_piece = refl;
      requests = subst (λ z. IsPermutation (shown (divided_with e front back o again (with_fate (Acted sectors) p ∷ ps)) ∷ map shown es) (z ∷ map shown es)) (shown_pieces e es front back o again (with_fate (Acted sectors) p ∷ ps) (p ∷ ps)) (IsPermutation-refl _);
      pieces = above_first e es front back o o again (with_fate (Acted sectors) p) ps refl;
      owed = refl;
      paused = refl;
      removing = refl;
      removed = refl;
    };
  }

  pub Faults-above : (o : OpenRequest) (again k : ℕ) (p : Piece) (ps : List Piece) → p.number ≡ k → p.fate ≡ Fresh
      → Faults (above (focus arrays next o again (p ∷ ps))) k (above (focus arrays next o again (with_fate Faulted p ∷ ps)))
  Faults-above o again k p ps is_k fresh = record {
    piece = lifted e.number (length (parts_marks front)) p;
    other_pieces = pieces_above (divided_with e front back o again ps ∷ es);
    fresh = record { is_out = above_first e es front back o o again p ps refl; is_number = is_k; is_fresh = fresh };
    after = record {
      arrays = refl;
      next_request = refl;
      next_piece = refl;
      requests = subst (λ z. IsPermutation (shown (divided_with e front back o again (with_fate Faulted p ∷ ps)) ∷ map shown es) (z ∷ map shown es)) (shown_pieces e es front back o again (with_fate Faulted p ∷ ps) (p ∷ ps)) (IsPermutation-refl _);
      pieces = above_first e es front back o o again (with_fate Faulted p) ps refl;
      owed = refl;
      paused = refl;
      removing = refl;
      removed = refl;
    };
  }

  pub Returns-above : (o : OpenRequest) (again k : ℕ) (p : Piece) (ps : List Piece) (class : Class) (marks : List Mark) → p.number ≡ k → LeavesMarks p class marks → p.places.first + length marks ≤ length o.marks
      → Returns (above (focus arrays next o again (p ∷ ps))) k class (above (focus arrays next (given_back p class marks o) again ps))
  Returns-above o again k p ps class marks is_k leaves fits =
      let long : length (given_back p class marks o).marks ≡ length o.marks = length-splice o.marks p.places.first marks fits in
      let same : shown (divided_with e front back (given_back p class marks o) again ps) ≡ given_back (lifted e.number (length (parts_marks front)) p) class marks (shown (divided_with e front back o again (p ∷ ps))) =
      shown_with e es front back o (given_back p class marks o) again (p ∷ ps) ps p.places.first marks (one_if_busy class) refl fits (shown_left again p class marks leaves) refl in
      record {
        piece = lifted e.number (length (parts_marks front)) p;
        other_pieces = pieces_above (divided_with e front back (given_back p class marks o) again ps ∷ es);
        owner = shown (divided_with e front back o again (p ∷ ps));
        others = map shown es;
        marks = marks;
        is_out = above_first e es front back (given_back p class marks o) o again p ps (sym long);
        is_number = is_k;
        is_open = IsPermutation-refl _;
        is_owner = refl;
        leaves = same_leaves e.number (length (parts_marks front)) p class marks leaves;
        after = record {
          arrays = refl;
          next_request = refl;
          next_piece = refl;
          requests = subst (λ z. IsPermutation (shown (divided_with e front back (given_back p class marks o) again ps) ∷ map shown es) (z ∷ map shown es)) same (IsPermutation-refl _);
          pieces = IsPermutation-refl _;
          owed = refl;
          paused = refl;
          removing = refl;
          removed = refl;
        };
      }

-- THE SAME BELOW

module _ (e : Divided) (es : List Divided) (front back : List Part) where
  pub changed_below : (o o' : OpenRequest) (again : ℕ) (ps ps' : List Piece) (others : List OpenRequest) → IsPermutation (requests_below (divided_with e front back o again ps ∷ es)) (o ∷ others)
      → IsPermutation (o' ∷ others) (requests_below (divided_with e front back o' again ps' ∷ es))
  changed_below o o' again ps ps' others p =
      let rest : List OpenRequest = (parts_requests front ++ parts_requests back) ++ requests_below es in
      let q : IsPermutation others rest = IsPermutation-uncons o others rest (IsPermutation-trans _ _ _ (IsPermutation-sym _ _ p) (request_first e es front back o again ps)) in
      IsPermutation-trans _ _ _ (IsPermutation-cons o' _ _ q) (IsPermutation-sym _ _ (request_first e es front back o' again ps'))

-- WHAT THE LAYER DOES WITH AN ENDED PART LEAVES ITS MACHINE AS IT WAS

module _ (j : Joint) (e : Divided) (es : List Divided) (front back : List Part) where
  abbrev pub with_part : ℕ → Part → Joint
  with_part next part = record j { next_below = next; divided = record e { parts = front ++ (part ∷ back) } ∷ es }

  pub same_part : (m n : ℕ) (part part' : Part) → parts_marks (part ∷ back) ≡ parts_marks (part' ∷ back) → parts_busy (part ∷ back) ≡ parts_busy (part' ∷ back)
      → ((first : ℕ) → parts_lifted e.number first (part ∷ back) ≡ parts_lifted e.number first (part' ∷ back))
      → IsSame (above (with_part m part)) (above (with_part n part'))
  same_part m n part part' marks busy pieces =
      let a : parts_marks (front ++ (part ∷ back)) ≡ parts_marks (front ++ (part' ∷ back)) = marks-append front (part ∷ back) ∙ ap (λ z. parts_marks front ++ z) marks ∙ sym (marks-append front (part' ∷ back)) in
      let b : parts_busy (front ++ (part ∷ back)) ≡ parts_busy (front ++ (part' ∷ back)) = busy-append front (part ∷ back) ∙ ap (λ z. parts_busy front + z) busy ∙ sym (busy-append front (part' ∷ back)) in
      let c : parts_lifted e.number 0 (front ++ (part ∷ back)) ≡ parts_lifted e.number 0 (front ++ (part' ∷ back)) =
      lifted-append e.number 0 front (part ∷ back) ∙ ap (λ z. parts_lifted e.number 0 front ++ z) (pieces (0 + length (parts_marks front))) ∙ sym (lifted-append e.number 0 front (part' ∷ back)) in
      let o : OpenRequest = shown (record e { parts = front ++ (part ∷ back) }) in
      let same : o ≡ shown (record e { parts = front ++ (part' ∷ back) }) = ap (λ z. record o { marks = z }) a ∙ ap (λ z. record o { marks = parts_marks (front ++ (part' ∷ back)); busy_returns = z }) b in
      record {
        arrays = refl;
        next_request = refl;
        next_piece = refl;
        requests = subst (λ z. IsPermutation (o ∷ map shown es) (z ∷ map shown es)) same (IsPermutation-refl _);
        pieces = subst (λ z. IsPermutation (parts_lifted e.number 0 (front ++ (part ∷ back)) ++ pieces_above es) (z ++ pieces_above es)) c (IsPermutation-refl _);
        owed = refl;
        paused = refl;
        removing = refl;
        removed = refl;
      }

  -- an answer of a part, taken
  pub taken : (o : OpenRequest) (again : ℕ) → IsSame (above (with_part j.next_below (Below o again []))) (above (with_part j.next_below (Here (map (shown_mark again) o.marks) (again + o.busy_returns))))
  taken o again = same_part j.next_below j.next_below _ _ refl refl (λ first. ap (λ n. parts_lifted e.number (first + n) back) (sym (length-map o.marks (shown_mark again))))

-- ALL PARTS OF A NEW REQUEST, SENT

pub map_same : (n : ℕ) → map (shown_mark 0) (replicate n Untouched) ≡ replicate n Untouched
map_same zero = refl
map_same (suc n) = ap (λ zs. Untouched ∷ zs) (map_same n)

pub replicate_more : (m n : ℕ) (mark : Mark) → replicate m mark ++ replicate n mark ≡ replicate (m + n) mark
replicate_more zero n mark = ap (λ k. replicate k mark) (omega arith)
replicate_more (suc m) n mark = let e : suc m + n ≡ suc (m + n) = omega arith in rw e (ap (λ zs. mark ∷ zs) (replicate_more m n mark))

-- CANCELLATION

pub Cancels-above : (j : Joint) (e : Divided) (es : List Divided) → IsFalse e.cancelled → Cancels (above (record j { divided = e ∷ es })) e.number (above (record j { divided = record e { cancelled = true } ∷ es }))
Cancels-above j e es not_yet = record {
  request = shown e;
  others = map shown es;
  is_open = IsPermutation-refl _;
  is_number = refl;
  not_yet = not_yet;
  after = IsSame-refl _;
}
