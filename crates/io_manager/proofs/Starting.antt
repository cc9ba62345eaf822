-- What a start does, and with a tag free fewer pieces are out than there are tags.
use Rattle.std.proofs.Common.{◌≡◌, ◌≢◌, ◌<◌, ◌≤◌, ℕ, zero, suc, ◌+◌, ◌-◌, Bool, true, false, not, cond, List, [], ◌∷◌, refl, sym, ◌∙◌, ap, subst, arith, map, length, get_or, replicate, inl, inr}
use Rattle.std.specs.Prelude.{IsPermutation, IsFalse, All, AllPairs, Contains, count_by, slice_range, eqb}
use Rattle.io_manager.proofs.Common.{IsDistinct, list_all, range_with_len, is_member, cases_lt, Decides-eqb, nat_eq_equiv, get_or-between, length-between, sum_by-cons, IsPermutation-sym, IsPermutation-map, All-permutation, Contains-permutation, length_permutation, sum_by-IsPermutation, All-head, All-tail, All-cons, All-map, All-contains, AllPairs-cons, length-range_with_len, get_or-range_with_len, length-le_from_is_member, is_member-Decides, IsDistinct-from_AllPairs, Extent, splice, DeviceLabel, Start, Act, Fault, Return, TagInUse, HaveOtherTags, tag_of, Rules, HasOtherTag, IsSendable, IsStart, IsUnsent, Starts, is_started, is_untouched, sent, started_count, Run, as_label, get_or-splice_inside, get_or-splice_below, get_or-splice_above, DeviceView, IsOrderly, OnTag, piece_on_tag, use_on_tag}
use Rattle.std.proofs.lemmas.List.{length-map, length-replicate, get_or-map, get_or-replicate}
use Rattle.machine.specs.State.{Mark, Untouched, Out, Done, Failed, Back, OpenRequest, Piece, State}

-- A FREE TAG

map_apart : (tags : List TagInUse) → AllPairs HaveOtherTags tags → AllPairs (λ x y. x ≢ y) (map tag_of tags)
map_apart [] h i j d before low = absurd (omega arith)
map_apart (t ∷ ts) h i j d before low =
    let n : length (map tag_of (t ∷ ts)) ≡ length (t ∷ ts) = length-map (t ∷ ts) tag_of in
    let low_j : j < length (t ∷ ts) = omega arith in
    let low_i : i < length (t ∷ ts) = omega arith in
    rw (get_or-map tag_of (t ∷ ts) i t d low_i, get_or-map tag_of (t ∷ ts) j t d low_j) (h i j t before low_j)

-- as many distinct numbers below a bound as the bound at most
below_fit : (n : ℕ) (xs : List ℕ) → IsDistinct eqb xs → All (λ x. x < n) xs → length xs ≤ n
below_fit n xs apart below =
    let e : length (range_with_len 0 n) ≡ n = length-range_with_len 0 n in
    let le : length xs ≤ length (range_with_len 0 n) = length-le_from_is_member nat_eq_equiv xs (range_with_len 0 n) apart inside in
    omega arith
  where
    there : (q : ℕ) → Contains xs q → Contains (range_with_len 0 n) q
    there q c =
        let low : q < n = All-contains (λ x. x < n) xs q below c in
        let l : length (range_with_len 0 n) ≡ n = length-range_with_len 0 n in
        let zero_plus : 0 + q ≡ q = omega arith in
        (q, omega arith, get_or-range_with_len 0 n q q low ∙ zero_plus)

    inside : (q : ℕ) → is_member eqb xs q ≡ true → is_member eqb (range_with_len 0 n) q ≡ true
    inside q h = (is_member-Decides Decides-eqb (range_with_len 0 n) q).1 (there q ((is_member-Decides Decides-eqb xs q).0 h))

-- the tag of what stands on it
abbrev on : OnTag → ℕ
on t = t.tag

pieces_on : (pieces : List Piece) (tag : ℕ) → All (HasOtherTag tag) pieces → All (λ x. tag ≢ x) (map on (map piece_on_tag pieces))
pieces_on pieces tag h =
    All-map (λ x. tag ≢ x) on (map piece_on_tag pieces) (All-map (λ (t : OnTag). tag ≢ t.tag) piece_on_tag pieces (λ k d low same. h k d low (sym same)))

tags_on : (tags : List TagInUse) → map on (map use_on_tag tags) ≡ map tag_of tags
tags_on [] = refl
tags_on (t ∷ ts) = ap (λ xs. t.tag ∷ xs) (tags_on ts)

pub free_leaves : (v : DeviceView) (tag : ℕ) → IsOrderly v → tag < v.rules.depth → All (HasOtherTag tag) v.state.pieces
    → length v.state.pieces < v.rules.depth
free_leaves v tag order low free =
    let same : IsPermutation (map on (map piece_on_tag v.state.pieces)) (map tag_of v.adapter.tags) =
    subst (IsPermutation (map on (map piece_on_tag v.state.pieces))) (tags_on v.adapter.tags) (IsPermutation-map on _ _ order.read.pieces) in
    let apart : All (λ x. tag ≢ x) (map tag_of v.adapter.tags) = All-permutation (λ x. tag ≢ x) _ _ same (pieces_on v.state.pieces tag free) in
    let depth : v.rules.depth ≡ v.adapter.depth = order.read.same_depth in
    let few : length (tag ∷ map tag_of v.adapter.tags) ≤ v.adapter.depth = below_fit v.adapter.depth (tag ∷ map tag_of v.adapter.tags)
    (IsDistinct-from_AllPairs Decides-eqb _ (AllPairs-cons (λ x y. x ≢ y) tag (map tag_of v.adapter.tags) apart (map_apart v.adapter.tags order.adapter.tags_differ)))
    (All-cons (λ x. x < v.adapter.depth) tag _ (rw (← depth) low) (All-map (λ x. x < v.adapter.depth) tag_of v.adapter.tags order.adapter.tags_below)) in
    let n : length (map tag_of v.adapter.tags) ≡ length (map on (map piece_on_tag v.state.pieces)) = length_permutation _ _ same in
    let m : length (map on (map piece_on_tag v.state.pieces)) ≡ length (map piece_on_tag v.state.pieces) = length-map (map piece_on_tag v.state.pieces) on in
    let l : length (map piece_on_tag v.state.pieces) ≡ length v.state.pieces = length-map v.state.pieces piece_on_tag in
    omega arith

-- A PLACE THAT IS OUT

out_still : (marks : List Mark) (first count i : ℕ) → first + count ≤ length marks → get_or marks i Untouched ≡ Out
    → get_or (splice marks first (replicate count Out)) i Untouched ≡ Out
out_still marks first count i inside out =
    let long : length (replicate {A = Mark} count Out) ≡ count = length-replicate count Out in
    elim (cases_lt i first) [
      | inl low ↦ get_or-splice_below marks first (replicate count Out) i Untouched (omega arith) low ∙ out
      | inr from ↦ elim (cases_lt i (first + count)) [
        | inl high ↦ get_or-splice_inside marks first (replicate count Out) i Untouched (omega arith) from (rw long high) ∙ get_or-replicate count (i - first) Out Untouched (omega arith)
        | inr past ↦ get_or-splice_above marks first (replicate count Out) i Untouched (omega arith) (rw long past) ∙ out
      ]
    ]

-- the first place of those that are sent
pub out_first : (rules : Rules) (o : OpenRequest) (places : Extent) → IsSendable rules o places → get_or (sent places o).marks places.first Untouched ≡ Out
out_first rules o places h =
    let long : length (replicate {A = Mark} places.count Out) ≡ places.count = length-replicate places.count Out in
    let some : 0 < places.count = h.some in
    let inside : places.first + places.count ≤ length o.marks = h.inside in
    get_or-splice_inside o.marks places.first (replicate places.count Out) places.first Untouched (omega arith) (omega arith) (omega arith)
    ∙ get_or-replicate places.count (places.first - places.first) Out Untouched (omega arith)

-- it waited before
pub unsent_first : (rules : Rules) (o : OpenRequest) (places : Extent) → IsSendable rules o places → IsUnsent (get_or o.marks places.first Untouched)
unsent_first rules o places h =
    let some : 0 < places.count = h.some in
    let inside : places.first + places.count ≤ length o.marks = h.inside in
    let n : length (slice_range o.marks places.first (places.first + places.count)) ≡ places.first + places.count - places.first = length-between o.marks places.first (places.first + places.count) inside in
    let at : IsUnsent (get_or (slice_range o.marks places.first (places.first + places.count)) 0 Untouched) = h.unsent 0 Untouched (omega arith) in
    let e : places.first + 0 ≡ places.first = omega arith in
    subst IsUnsent (get_or-between o.marks places.first (places.first + places.count) 0 Untouched (omega arith) ∙ ap (λ m. get_or o.marks m Untouched) e) at

-- a place of the request of this number is out
pub record HasOutAt (s : State) (number place : ℕ) : Type 0 where
  pub request : OpenRequest
  pub is_open : Contains s.requests request
  pub is_number : request.number ≡ number
  pub out : get_or request.marks place Untouched ≡ Out

out_after : (rules : Rules) (s : State) (piece tag : ℕ) (block : List ℕ) (s' : State) (number place : ℕ)
    → Starts rules s piece tag block s' → HasOutAt s number place → HasOutAt s' number place
out_after rules s piece tag block s' number place h o = by_place (Contains-permutation _ _ o.request h.is_open o.is_open)
  where
    now : (x : OpenRequest) → Contains (sent h.places h.owner ∷ h.others) x → Contains s'.requests x
    now x there = Contains-permutation _ _ x (IsPermutation-sym _ _ h.after.requests) there

    by_place : Contains (h.owner ∷ h.others) o.request → HasOutAt s' number place
    by_place (zero, low, is) = record {
      request = sent h.places h.owner;
      is_open = now _ (0, omega arith, refl);
      is_number = ap (λ (x : OpenRequest). x.number) is ∙ o.is_number;
      out = out_still h.owner.marks h.places.first h.places.count place h.sendable.inside (ap (λ (x : OpenRequest). get_or x.marks place Untouched) is ∙ o.out);
    }
    by_place (suc k, low, is) = record { request = o.request; is_open = now o.request (suc k, omega arith, is); is_number = o.is_number; out = o.out }

-- starts leave it out
pub out_along : (rules : Rules) (starts : List DeviceLabel) (s s' : State) (number place : ℕ)
    → All IsStart starts → Run rules s (map as_label starts) s' → HasOutAt s number place → HasOutAt s' number place
out_along rules [] s s' number place only run o =
    record { request = o.request; is_open = Contains-permutation _ _ o.request run.requests o.is_open; is_number = o.is_number; out = o.out }
out_along rules (Start piece tag block ∷ starts) s s' number place only (mid, inl (free, step), run) o =
    out_along rules starts mid s' number place (All-tail IsStart _ starts only) run (out_after rules s piece tag block mid number place step o)
out_along rules (Start piece tag block ∷ starts) s s' number place only (mid, inr none, run) o = absurd none
out_along rules (Act piece bytes ∷ starts) s s' number place only run o = absurd (All-head IsStart _ starts only)
out_along rules (Fault piece ∷ starts) s s' number place only run o = absurd (All-head IsStart _ starts only)
out_along rules (Return piece class ∷ starts) s s' number place only run o = absurd (All-head IsStart _ starts only)

-- HOW MANY ARE STARTED

untouched_at : (marks : List Mark) (i : ℕ) → list_all is_untouched marks ≡ true → is_untouched (get_or marks i Untouched) ≡ true
untouched_at [] i h = refl
untouched_at (Untouched ∷ marks) zero h = refl
untouched_at (Untouched ∷ marks) (suc i) h = untouched_at marks i h
untouched_at (Out ∷ marks) i h = cc (h)
untouched_at (Done sector ∷ marks) i h = cc (h)
untouched_at (Failed status ∷ marks) i h = cc (h)
untouched_at (Back ∷ marks) i h = cc (h)

started_out : (marks : List Mark) (i : ℕ) → get_or marks i Untouched ≡ Out → not (list_all is_untouched marks) ≡ true
started_out marks i out = by_test (list_all is_untouched marks) refl
  where
    by_test : (b : Bool) → list_all is_untouched marks ≡ b → not b ≡ true
    by_test false e = refl
    by_test true e =
        let f : is_untouched Out ≡ true = ap is_untouched (sym out) ∙ untouched_at marks i e in
        cc (f)

pub count_first : (o : OpenRequest) (xs : List OpenRequest) → count_by is_started (o ∷ xs) ≡ cond (is_started o) 1 0 + count_by is_started xs
count_first o xs = sum_by-cons (λ x. cond (is_started x) 1 0) o xs

pub count_same : (xs ys : List OpenRequest) → IsPermutation xs ys → count_by is_started xs ≡ count_by is_started ys
count_same xs ys p = sym (sum_by-IsPermutation (λ x. cond (is_started x) 1 0) xs ys p)

module _ (rules : Rules) (s : State) (piece tag : ℕ) (block : List ℕ) (s' : State) (h : Starts rules s piece tag block s') where
  after_it : started_count s' ≡ 1 + count_by is_started h.others
  after_it =
      count_same s'.requests (sent h.places h.owner ∷ h.others) h.after.requests
      ∙ count_first (sent h.places h.owner) h.others
      ∙ ap (λ b. cond b 1 0 + count_by is_started h.others) (started_out (sent h.places h.owner).marks h.places.first (out_first rules h.owner h.places h.sendable))

  before_it : started_count s ≡ cond (is_started h.owner) 1 0 + count_by is_started h.others
  before_it = count_same s.requests (h.owner ∷ h.others) h.is_open ∙ count_first h.owner h.others

  no_fewer : started_count s ≤ started_count s'
  no_fewer =
      let few : cond (is_started h.owner) 1 0 ≤ 1 = at_most_one (is_started h.owner) in
      let n : started_count s ≡ cond (is_started h.owner) 1 0 + count_by is_started h.others = before_it in
      let m : started_count s' ≡ 1 + count_by is_started h.others = after_it in
      omega arith
    where
      at_most_one : (b : Bool) → cond b 1 0 ≤ 1
      at_most_one true = omega arith
      at_most_one false = omega arith

  -- of one that was not started
  pub one_more : IsFalse (is_started h.owner) → started_count s < started_count s'
  one_more e =
      let n : started_count s ≡ 0 + count_by is_started h.others = before_it ∙ ap (λ b. cond b 1 0 + count_by is_started h.others) e in
      let m : started_count s' ≡ 1 + count_by is_started h.others = after_it in
      omega arith

at_most : (a b c : ℕ) → a ≤ b → b ≤ c → a ≤ c
at_most a b c low high = omega arith

pub started_along : (rules : Rules) (starts : List DeviceLabel) (s s' : State) → All IsStart starts → Run rules s (map as_label starts) s'
    → started_count s ≤ started_count s'
started_along rules [] s s' only run = let e : started_count s ≡ started_count s' = count_same _ _ run.requests in omega arith
started_along rules (Start piece tag block ∷ starts) s s' only (mid, inl (free, step), run) =
    at_most _ _ _ (no_fewer rules s piece tag block mid step) (started_along rules starts mid s' (All-tail IsStart _ starts only) run)
started_along rules (Start piece tag block ∷ starts) s s' only (mid, inr none, run) = absurd none
started_along rules (Act piece bytes ∷ starts) s s' only run = absurd (All-head IsStart _ starts only)
started_along rules (Fault piece ∷ starts) s s' only run = absurd (All-head IsStart _ starts only)
started_along rules (Return piece class ∷ starts) s s' only run = absurd (All-head IsStart _ starts only)
