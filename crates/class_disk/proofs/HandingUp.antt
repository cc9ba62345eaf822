-- A request that has ended goes up: the machine that the class driver shows answers it.
use Rattle.std.proofs.Common.{◌≡◌, ◌<◌, inl, inr, ℕ, zero, suc, ◌+◌, ◌*◌, ◌/◌, Bool, List, [], ◌∷◌, ◌++◌, refl, sym, ◌∙◌, ap, subst, arith, map}
use Rattle.std.specs.Prelude.{IsPermutation, All, Contains, IsTrue, if◌then◌else◌, ◌↔◌}
use Rattle.class_disk.proofs.Common.{list_all, range_with_len, cases_Bool, IsPermutation-sym, IsPermutation-trans, IsPermutation-middle, IsPermutation-map, All-permutation, Contains-permutation, All-nil, All-cons, All-head, All-tail, All-weaker, NtStatus, Success, Request, Rules, place_count, as_client, is_transfer, IsSame, HasEnded, HasCause, Answers, answer_bytes, is_done, IsSame-sym, IsSame-trans, IsPermutation-uncons, DeviceView, IsBounded, IsOrderly, part_count_of, part_request_of, requests_for, lowest_status, Opened, TableView, opened, note_of, Known, known_of, Divided, Joint, parts_marks, parts_busy, lifted_pieces, requests_below, pieces_below, pieces_above, shown, below, above, class_rules, shown_state, known, knowns, view_of, note, request_of_part, IsOpen, HaveCauses, IsInHand}
use Rattle.class_disk.specs.declared.parts.Part.{Part}
use Rattle.class_disk.specs.inside.Invariant.{IsMadeUp, AgreesOnCancel, IsAhead, AreBehind, IsInTurn, IsInPieces, Keeps, IsOver, noted_busy}
use Rattle.class_disk.proofs.Focus.{below_first}
use Rattle.class_disk.proofs.Showing.{shown_is, gathered-permutation}
use Rattle.class_disk.proofs.Orderly.{over_here}
use Rattle.class_disk.proofs.Resting.{AreEndedHere}
use Rattle.class_disk.proofs.Acting.{shows, ended_still}
use Rattle.class_disk.proofs.NewParts.{part_kind}
use Rattle.class_disk.proofs.Cutting.{can_cut}
use Rattle.class_disk.proofs.EndedParts.{IsKept, marks_noted, kept_marks, kept_busy, kept_lifted, kept_requests, kept_pieces, kept_ended, IsEndedPart, HasPlace, ended_parts, ended_kept, cause_lowest, success_lowest}
use Rattle.class_disk.proofs.EndedBytes.{whole_places, IsOfKind}

-- PLACES OF THE PARTS

some_place : (rules : Rules) (q : Request) → 0 < rules.sector_size → (IsTrue (is_transfer q.kind) → 0 < q.extent.count) → 0 < place_count rules (as_client rules q [])
some_place rules q size some = elim (cases_Bool (is_transfer q.kind)) [
  | inl moves ↦ let w = whole_places rules q size moves in let n = some moves in omega (arith, w.0, n)
  | inr rests ↦ let e : place_count rules (as_client rules q []) ≡ 1 = ap (λ b. if b then q.extent.count * rules.sector_size / rules.sector_size else 1) rests in omega (arith, e)
]

parts_from : (P : Request → Type 0) (limit : ℕ) (r : Request) (total : ℕ) → ((k : ℕ) → k < total → P (part_request_of limit r k)) → (first n : ℕ) → first + n ≡ total → (parts : List Part)
    → map request_of_part parts ≡ map (part_request_of limit r) (range_with_len first n) → All (λ (part : Part). P part.request) parts
parts_from P limit r total each first n all [] same = All-nil (λ (part : Part). P part.request)
parts_from P limit r total each first zero all (part ∷ parts) same = absurd (cc (same))
parts_from P limit r total each first (suc n) all (part ∷ parts) same =
    All-cons (λ (x : Part). P x.request) part parts (subst P (sym (heads same)) (each first (omega arith)))
    (parts_from P limit r total each (first + 1) n (omega arith) parts (tails same))
  where
    heads : {X : Type 0} {x y : X} {xs ys : List X} → x ∷ xs ≡ y ∷ ys → x ≡ y
    heads {X} {x} {y} {xs} {ys} e = cc (e)

    tails : {X : Type 0} {x y : X} {xs ys : List X} → x ∷ xs ≡ y ∷ ys → xs ≡ ys
    tails {X} {x} {y} {xs} {ys} e = cc (e)

-- each part is of the kind of its request
pub parts_kind : (rules : Rules) (limit : ℕ) (r : Request) (parts : List Part) → map request_of_part parts ≡ requests_for limit r → All (IsOfKind rules r.kind) parts
parts_kind rules limit r parts same = parts_from (λ q. q.kind ≡ r.kind) limit r (part_count_of limit r) (λ k low. part_kind limit r k) 0 (part_count_of limit r) (omega arith) parts same

-- AN OPEN REQUEST, DIVIDED

pub split_known : (es : List Divided) (k : Known) → Contains (map known_of es) k → (front : List Divided) × (e : Divided) × (back : List Divided) × (es ≡ front ++ (e ∷ back)) × (known_of e ≡ k)
split_known [] k c = absurd (let w = c.1 in omega arith)
split_known (e ∷ es) k (zero, low, is) = ([], e, es, refl, is)
split_known (e ∷ es) k (suc n, low, is) = let r = split_known es k (n, omega arith, is) in (e ∷ r.0, r.1, r.2, ap (λ zs. e ∷ zs) r.3, r.4)

module _ (v : DeviceView) (b : TableView) (h : IsInHand v b) (ordered : IsOrderly v)
    (slot : ℕ) (o : Opened) (opens' : List (ℕ × Opened)) (ended' : List ℕ) (is_in : IsPermutation b.opens ((slot, o) ∷ opens')) (over : o.unfinished ≡ 0) where
  abbrev pub rules : Rules
  rules = class_rules v.rules

  -- the table without it
  abbrev pub b' : TableView
  b' = record b { opens = opens'; ended = ended' }

  pub is_open : IsOpen rules b.owners (slot, o)
  is_open = All-head (IsOpen rules b.owners) (slot, o) opens' (All-permutation (IsOpen rules b.owners) _ _ is_in h.kept.opens)

  pub causes : HaveCauses rules b.removing (slot, o)
  causes = All-head (HaveCauses rules b.removing) (slot, o) opens' (All-permutation (HaveCauses rules b.removing) _ _ is_in h.kept.causes)

  pub ended : All IsEndedPart o.parts
  ended = ended_parts o.parts (sym is_open.unfinished ∙ over)

  pub some_bytes : 0 < rules.sector_size
  some_bytes = h.kept.sizes.whole.some_bytes

  pub limit_same : b.sizes.max_transfer ≡ rules.max_transfer
  limit_same = h.kept.sizes.max_transfer

  pub bounded_part : (k : ℕ) → k < part_count_of rules.max_transfer o.request → IsBounded v.rules (part_request_of rules.max_transfer o.request k)
  bounded_part k low =
      let c = can_cut v b.sizes o.request h.port ordered h.kept.sizes is_open.cut.bounded in
      subst (λ n. k < part_count_of n o.request → IsBounded v.rules (part_request_of n o.request k)) limit_same (c.bounded k) low

  pub have_places : All (HasPlace rules) o.parts
  have_places =
      parts_from (λ q. 0 < place_count rules (as_client rules q [])) rules.max_transfer o.request (part_count_of rules.max_transfer o.request)
      (λ k low. some_place rules (part_request_of rules.max_transfer o.request k) some_bytes (bounded_part k low).some) 0 (part_count_of rules.max_transfer o.request) (omega arith) o.parts is_open.cut.parts_are

  pub knows_first : IsPermutation (map known_of h.coupled.j.divided) (known rules o ∷ knowns rules b')
  knows_first = IsPermutation-trans _ _ _ h.coupled.knows (IsPermutation-map (known rules) _ _ (IsPermutation-map opened _ _ is_in))

  abbrev pub at_it : (front : List Divided) × (e : Divided) × (back : List Divided) × (h.coupled.j.divided ≡ front ++ (e ∷ back)) × (known_of e ≡ known rules o)
  at_it = split_known h.coupled.j.divided (known rules o) (Contains-permutation _ _ _ (IsPermutation-sym _ _ knows_first) (0, omega arith, refl))

  abbrev pub e : Divided
  e = at_it.1

  abbrev pub es : List Divided
  es = at_it.0 ++ at_it.2

  pub known_is : known_of e ≡ known rules o
  known_is = at_it.4

  abbrev pub j1 : Joint
  j1 = record h.coupled.j { divided = e ∷ es }

  abbrev pub j' : Joint
  j' = record h.coupled.j { divided = es }

  pub first_of_all : IsPermutation h.coupled.j.divided (e ∷ es)
  first_of_all = subst (λ ms. IsPermutation ms (e ∷ es)) (sym at_it.3) (IsPermutation-middle at_it.0 e at_it.2)

  pub notes : map note_of e.parts ≡ map (note rules) o.parts
  notes = ap (λ (k : Known). k.parts) known_is

  pub all_kept : All IsKept (map note_of e.parts)
  all_kept = subst (All IsKept) (sym notes) (ended_kept rules o.parts ended)

  pub marks_are : parts_marks e.parts ≡ marks_noted (map (note rules) o.parts)
  marks_are = kept_marks e.parts all_kept ∙ ap marks_noted notes

  pub busy_is : parts_busy e.parts ≡ noted_busy (map (note rules) o.parts)
  busy_is = kept_busy e.parts all_kept ∙ ap noted_busy notes

  pub knows_others : IsPermutation (map known_of es) (knowns rules b')
  knows_others =
      IsPermutation-uncons (known rules o) _ _ (subst (λ k. IsPermutation (k ∷ map known_of es) (known rules o ∷ knowns rules b')) known_is
      (IsPermutation-trans _ _ _ (IsPermutation-map known_of _ _ (IsPermutation-sym _ _ first_of_all)) knows_first))

  pub same_others : IsSame (below j') v.state
  same_others =
      let c : IsSame (below j1) v.state =
      IsSame-trans _ _ _ (IsSame-sym _ _ (below_first h.coupled.j at_it.0 e at_it.2))
      (subst (λ ms. IsSame (below (record h.coupled.j { divided = ms })) v.state) at_it.3 h.coupled.same) in
      record {
        arrays = c.arrays;
        next_request = c.next_request;
        next_piece = c.next_piece;
        requests = subst (λ zs. IsPermutation (zs ++ requests_below es) v.state.requests) (kept_requests e.parts all_kept) c.requests;
        pieces = subst (λ zs. IsPermutation (zs ++ pieces_below es) v.state.pieces) (kept_pieces e.parts all_kept) c.pieces;
        owed = c.owed;
        paused = c.paused;
        removing = c.removing;
        removed = c.removed;
      }

  fewer : (P : Divided → Type 0) → All P h.coupled.j.divided → All P es
  fewer P all = All-tail P e es (All-permutation P _ _ first_of_all all)

  pub keeps_others : Keeps rules j'
  keeps_others =
      let removing : Bool = h.coupled.j.removing in
      let divided : List Divided = h.coupled.j.divided in
      record {
        made_up = fewer (IsMadeUp rules) h.coupled.keeps.made_up;
        agree = fewer AgreesOnCancel h.coupled.keeps.agree;
        in_turn = All-weaker (IsInTurn removing divided) (IsInTurn removing es)
            (λ x. All-weaker (AreBehind removing divided x.number) (AreBehind removing es x.number) (λ n. fewer (IsAhead removing x.number n)) _) es
            (fewer (IsInTurn removing divided) h.coupled.keeps.in_turn);
        in_pieces = fewer (IsInPieces rules) h.coupled.keeps.in_pieces;
      }

  -- what is shown then
  pub shown_others : IsSame (above j') (view_of v b').state
  shown_others = subst (λ n. IsSame (above j') (shown_state v.state n (knowns rules b'))) h.coupled.next_above
      (shown_is rules j' v.state (knowns rules b') same_others h.sound.distinct keeps_others knows_others)

  pub all_ended : All (HasEnded rules (view_of v b).state (shown e)) (parts_marks e.parts)
  all_ended =
      let over_all : All (IsOver 17 v.state.removing) (map known_of (e ∷ es)) =
      All-permutation (IsOver 17 v.state.removing) _ _ (IsPermutation-trans _ _ _ (IsPermutation-sym _ _ h.coupled.knows) (IsPermutation-map known_of _ _ first_of_all)) h.below.over in
      let here : All (AreEndedHere rules (above j1)) (e ∷ es) =
      over_here rules j1 (e ∷ es) (subst (λ x. All (IsOver 17 x) (map known_of (e ∷ es))) (sym h.coupled.same.removing) over_all) in
      All-weaker (HasEnded rules (above j1) (shown e)) (HasEnded rules (view_of v b).state (shown e))
      (λ m. ended_still rules (view_of v b).state (above j1) (shown e) m (sym h.coupled.same.removing)) (parts_marks e.parts)
      (kept_ended rules (above j1) (shown e) e.parts all_kept (All-head (AreEndedHere rules (above j1)) e es here))

  abbrev pub status : NtStatus
  status = lowest_status o.parts

  pub cause : HasCause rules (view_of v b).state (shown e) (parts_marks e.parts) status
  cause = subst (λ ms. HasCause rules (view_of v b).state (shown e) ms status) (sym marks_are)
      (cause_lowest rules refl (view_of v b).state (shown e) refl o.irp.cancelled b.removing (noted_busy (map (note rules) o.parts)) (sym (ap (λ (k : Known). k.cancelled) known_is)) h.below.removing (sym busy_is)
      o.parts ended have_places causes)

  pub success : (status ≡ Success) ↔ IsTrue (list_all is_done (parts_marks e.parts))
  success = subst (λ ms. (status ≡ Success) ↔ IsTrue (list_all is_done ms)) (sym marks_are)
      (success_lowest rules refl (view_of v b).state (shown e) refl o.irp.cancelled b.removing (noted_busy (map (note rules) o.parts)) (sym (ap (λ (k : Known). k.cancelled) known_is)) h.below.removing (sym busy_is)
      o.parts ended have_places causes)

  abbrev pub bytes_up : List ℕ
  bytes_up = answer_bytes e.request.kind (parts_marks e.parts)

  pub same_pieces_up : IsPermutation (view_of v b').state.pieces (view_of v b).state.pieces
  same_pieces_up =
      let a : IsPermutation (pieces_above h.coupled.j.divided) (pieces_above es) =
      subst (λ zs. IsPermutation (pieces_above h.coupled.j.divided) (zs ++ pieces_above es)) (kept_lifted e.number 0 e.parts all_kept) (gathered-permutation lifted_pieces _ _ first_of_all) in
      IsPermutation-trans _ _ _ (IsPermutation-sym _ _ shown_others.pieces) (IsPermutation-trans _ _ _ (IsPermutation-sym _ _ a) (shows v b h).pieces)

  -- its request is answered
  abbrev pub answers_up : Answers rules (view_of v b).state o.irp.number status bytes_up (view_of v b').state
  answers_up = record {
    request = shown e;
    others = map shown es;
    is_open = IsPermutation-trans _ _ _ (IsPermutation-sym _ _ (shows v b h).requests) (IsPermutation-map shown _ _ first_of_all);
    is_number = ap (λ (k : Known). k.number) known_is;
    ended = all_ended;
    success = success;
    cause = cause;
    hands_back = refl;
    after = record {
      arrays = refl;
      next_request = refl;
      next_piece = refl;
      requests = IsPermutation-sym _ _ shown_others.requests;
      pieces = same_pieces_up;
      owed = refl;
      paused = refl;
      removing = refl;
      removed = refl;
    };
  }
