-- An act on the sector is an event that may come, and any other act makes none; either leaves what a state shows of it in order.
use Rattle.std.proofs.Common.{◌≡◌, ◌<◌, ◌≤◌, ◌⊎◌, inl, inr, ℕ, ◌+◌, ◌-◌, Bool, true, false, cond, List, [], ◌∷◌, Option, Some, None, refl, sym, ◌∙◌, ap, subst, arith, length, get_or, take, drop, length-take, length-drop}
use Rattle.std.specs.Prelude.{IsNone, IsTrue, IsPermutation, All, Contains, is_none, unwrap_or, slice_get, slice_range, count_by}
use Rattle.std.specs.List.{remove}
use Rattle.std.proofs.lemmas.Bool.{cases_lt, cases_eq}
use Rattle.std.proofs.lemmas.List.{get_or_default, get_or-take, get_or-drop}
use Rattle.std.proofs.lemmas.List.Sums.{sum_by-cons}
use Rattle.std.proofs.lemmas.List.Sorted.{IsPermutation-remove, All-permutation, Contains-permutation}
use Rattle.std.proofs.lemmas.List.Elements.{All-nil, All-head, All-tail, All-cons, All-contains, Contains-get_or}
use Rattle.std.proofs.lemmas.Option.{slice_get-get_or}
use Rattle.sector.specs.declared.Extent.{Extent}
use Rattle.sector.specs.Extents.{IsSector}
use Rattle.srb.specs.declared.Kind.{Kind}
use Rattle.srb.specs.declared.Kind.TheVariants.{Read, Write, Flush}
use Rattle.srb.specs.Fate.{Fate, Fresh, Acted, Faulted}
use Rattle.machine.specs.declared.ClientRequest.{ClientRequest}
use Rattle.machine.specs.Rules.{Rules, as_faithful, is_transfer, first_sector, place_count}
use Rattle.machine.specs.State.{Mark, Untouched, Out, Done, Failed, Back, OpenRequest, Piece, State}
use Rattle.machine.specs.Sending.{Acts, Transfers, with_fate, partition_number, array_of, array_at}
use Rattle.machine.specs.Cutting.{mark_at}
use Rattle.machine.specs.Numbers.{request_number, IsGiven, AreDistinct}
use Rattle.machine.specs.Pieces.{covers, IsCovered, ArePlaced}
use Rattle.machine.proofs.Permuting.{distinct_first, is_first}
use Rattle.machine.proofs.Placed.{covers_inside, first_alone, IsCovered-permutation, is_out_there}
use Rattle.machine_laws.specs.Sectors.{sector_at, bytes_for}
use Rattle.machine_laws.proofs.Acted.{moves_faithfully}
use Rattle.machine_laws.proofs.Chunks.{chunk, concat_chunk, range_chunk}
use Rattle.machine_laws.proofs.Sectors.{bytes_are, act_writes, act_sector}
use Rattle.machine_laws.proofs.Serving.{act_inside}
use Rattle.machine_laws.proofs.Sound.{Anything, nothing, IsSound}
use Rattle.history_laws.specs.Schedules.{Event, Effect, value_after, IsAt, IsNoEffect, Moves, TakesEffect}
use Rattle.history_laws.proofs.Mirroring.{IsMarkFor, IsFateFor, IsMirrored, IsFateOf, IsFollowed, IsBelow, Mirrors, Mirrors-same, further, newest, open_more, mark_more, fate_more, none_owed}

-- LISTS

-- an item of a part, in the whole
part_at : (array sectors : List (List ℕ)) (from count : ℕ) → length sectors ≡ count → sectors ≡ slice_range array from (from + count)
    → (j : ℕ) (x : List ℕ) → j < length sectors → slice_get array (from + j) ≡ Some (get_or sectors j x)
part_at array sectors from count covers is j x within =
    let width : from + count - from ≡ count = omega arith in
    let is' : sectors ≡ take count (drop from array) = is ∙ ap (λ w. take w (drop from array)) width in
    let low : j < count = omega arith in
    let long : length (take count (drop from array)) ≡ count = ap length (sym is') ∙ covers in
    let reach : from + j < length array = reached long low in
    slice_get-get_or array (from + j) x reach ∙ ap Some (sym (ap (λ ys. get_or ys j x) is' ∙ get_or-take count (drop from array) j x low ∙ get_or-drop from array j x))
  where
    reached : length (take count (drop from array)) ≡ count → j < count → from + j < length array
    reached e low = let e' = simp (length-take, length-drop) at e in omega arith

-- none of those that aren't counted passes
none_counted : (n k : ℕ) (pieces : List Piece) → count_by (covers n k) pieces ≡ 0 → All (λ piece. covers n k piece ≡ false) pieces
none_counted n k [] e = All-nil (λ piece. covers n k piece ≡ false)
none_counted n k (piece ∷ pieces) e =
    let both : (covers n k piece ≡ false) × (count_by (covers n k) pieces ≡ 0) =
    none_here (covers n k piece) (count_by (covers n k) pieces) (sym (sum_by-cons (λ x. cond (covers n k x) 1 0) piece pieces) ∙ e) in
    All-cons (λ x. covers n k x ≡ false) piece pieces both.0 (none_counted n k pieces both.1)
  where
    none_here : (b : Bool) (m : ℕ) → cond b 1 0 + m ≡ 0 → (b ≡ false) × (m ≡ 0)
    none_here true m e = absurd (omega arith)
    none_here false m e = (refl, omega arith)

-- one open request has each number
same_open : (s : State) (a b : OpenRequest) → AreDistinct s → Contains s.requests a → Contains s.requests b → b.number ≡ a.number → a ≡ b
same_open s a b d (j, low, is) there e =
    let perm : IsPermutation s.requests (a ∷ remove s.requests j) = IsPermutation-remove s.requests j a low (sym is) in
    is_first request_number a (remove s.requests j) b (distinct_first request_number s.requests a (remove s.requests j) d.requests perm) (Contains-permutation _ _ b perm there) e

given_partition : (partition : Option ℕ) → is_none partition ≡ false → partition ≡ Some (unwrap_or partition 0)
given_partition None h = absurd (cc (h))
given_partition (Some p) h = refl

some_is : {a b : List ℕ} → Some a ≡ Some b → a ≡ b
some_is e = cc (e)

-- a read's sectors are whole
pub read_sized : (rules : Rules) (s : State) (q : ClientRequest) (places : Extent) (kind : Kind) (sectors : List (List ℕ)) (arrays' : List (List (List ℕ)))
    → Transfers rules s q places kind sectors arrays' → kind ≡ Read → All (IsSector rules.sector_size) sectors
read_sized rules s q places Read sectors arrays' t e = t.1
read_sized rules s q places Write sectors arrays' t e = t.1
read_sized rules s q places Flush sectors arrays' t e = absurd (cc (e))

-- AN ACT

module _ (rules : Rules) (p i : ℕ) (start : List ℕ) (past : List Event) (s : State) (n : ℕ) (bytes : List ℕ) (s' : State)
    (sound : IsSound rules s) (placed : ArePlaced s) (faithful : IsTrue rules.faithful) (free : IsNone s.owed) (m : Mirrors rules p i start past s) (h : Acts rules s n bytes s') where
  -- the piece has the sector
  abbrev Hit : ℕ → Type 0
  Hit k = (h.piece.places.first ≤ k) × (k < h.piece.places.first + h.piece.places.count) × IsAt rules p i h.owner.request k

  mine : IsMirrored rules p i past h.owner
  mine = All-contains (IsMirrored rules p i past) s.requests h.owner m.requests h.is_open

  inside : h.piece.places.first + h.piece.places.count ≤ place_count rules h.owner.request
  inside = act_inside rules 0 nothing Anything s n bytes s' sound.1 h

  hit_at : (k : ℕ) → h.piece.places.first ≤ k → k < h.piece.places.first + h.piece.places.count → is_transfer h.owner.request.kind ≡ true → partition_number h.owner.request ≡ p
      → first_sector rules h.owner.request + k ≡ i → Hit k
  hit_at k from below transfer on is = let fits = inside in (
    from,
    below,
    record {
      partition = given_partition h.owner.request.partition mine.known ∙ ap Some on;
      transfer = transfer;
      in_bounds = mine.in_bounds transfer;
      sector = is;
      inside = omega arith;
    },
  )

  hit_or_miss : ((k : ℕ) × Hit k) ⊎ ((k : ℕ) → Hit k → ⊥)
  hit_or_miss = by_transfer (is_transfer h.owner.request.kind) refl
    where
      too_low : (k : ℕ) → i < first_sector rules h.owner.request + h.piece.places.first → Hit k → ⊥
      too_low k before hit = let from = hit.0 in let is : first_sector rules h.owner.request + k ≡ i = hit.2.sector in absurd (omega arith)

      too_high : (k : ℕ) → first_sector rules h.owner.request + (h.piece.places.first + h.piece.places.count) ≤ i → Hit k → ⊥
      too_high k behind hit = let below = hit.1 in let is : first_sector rules h.owner.request + k ≡ i = hit.2.sector in absurd (omega arith)

      by_transfer : (transfer : Bool) → is_transfer h.owner.request.kind ≡ transfer → ((k : ℕ) × Hit k) ⊎ ((k : ℕ) → Hit k → ⊥)
      by_transfer false e = inr (λ k hit. let t : is_transfer h.owner.request.kind ≡ true = hit.2.transfer in absurd (cc (e, t)))
      by_transfer true e =
          elim (cases_eq (partition_number h.owner.request) p) [
            | inr other ↦ inr (λ k hit. other (ap (λ partition. unwrap_or partition 0) hit.2.partition))
            | inl on ↦ elim (cases_lt i (first_sector rules h.owner.request + h.piece.places.first)) [
              | inl before ↦ inr (λ k hit. too_low k before hit)
              | inr from ↦ elim (cases_lt i (first_sector rules h.owner.request + (h.piece.places.first + h.piece.places.count))) [
                | inl below ↦ inl (i - first_sector rules h.owner.request, hit_at (i - first_sector rules h.owner.request) (omega arith) (omega arith) e on (omega arith))
                | inr behind ↦ inr (λ k hit. too_high k behind hit)
              ]
            ]
          ]

  -- the state after it, with the events so far
  acted : (past' : List Event) → All (IsBelow s.next_request) past' → slice_get (array_at h.arrays' p) i ≡ Some (value_after start past') → All (IsMirrored rules p i past') s.requests
      → All (IsFollowed rules p i past' s.requests) h.other_pieces
      → ((j : ℕ) (d : List ℕ) → j < length h.sectors → IsAt rules p i h.owner.request (h.piece.places.first + j) → Contains past' (Effect h.owner.number (get_or h.sectors j d)))
      → Mirrors rules p i start past' s'
  acted past' given value requests others found = Mirrors-same rules p i start past' s' _ h.after (record {
    given = given;
    value = value;
    requests = requests;
    pieces = All-cons (IsFollowed rules p i past' s.requests) (with_fate (Acted h.sectors) h.piece) h.other_pieces followed others;
    owed = none_owed rules p i start past' s.requests s.owed free;
  })
    where
      of_owner : IsFateFor rules p i past' h.owner.number h.owner.request h.piece.places (Acted h.sectors)
      of_owner j d low = (λ read. read_sized rules s h.owner.request h.piece.places h.owner.request.kind h.sectors h.arrays' h.moves read j d low, found j d low)

      followed : IsFollowed rules p i past' s.requests (with_fate (Acted h.sectors) h.piece)
      followed k d low owner =
          let same : h.owner ≡ get_or s.requests k d = same_open s h.owner (get_or s.requests k d) sound.0 h.is_open (Contains-get_or s.requests k d low) (owner ∙ sym h.is_owner) in
          subst (λ o. IsFateFor rules p i past' o.number o.request h.piece.places (Acted h.sectors)) same of_owner

  -- it misses the sector
  missed : ((k : ℕ) → Hit k → ⊥) → Mirrors rules p i start past s'
  missed misses =
      acted past m.given (elim (act_sector rules s n bytes s' sound h p i) [
        | inl same ↦ same ∙ m.value
        | inr hits ↦ absurd (misses hits.place (hit_at hits.place hits.from hits.below (ap is_transfer hits.is_write) hits.on_partition hits.is_sector))
      ]) m.requests (All-tail (IsFollowed rules p i past s.requests) h.piece h.other_pieces (All-permutation (IsFollowed rules p i past s.requests) _ _ h.fresh.is_out m.pieces))
      (λ j d low at. let covers = h.covers in absurd (misses (h.piece.places.first + j) (omega arith, omega arith, at)))

  -- it has it
  module _ (k : ℕ) (hit : Hit k) where
    abbrev sector : List ℕ
    sector = get_or h.sectors (k - h.piece.places.first) []

    low : k - h.piece.places.first < h.piece.places.count
    low = let from = hit.0 in let below = hit.1 in omega arith

    index : first_sector rules h.owner.request + h.piece.places.first + (k - h.piece.places.first) ≡ i
    index = let from = hit.0 in let is : first_sector rules h.owner.request + k ≡ i = hit.2.sector in omega arith

    place : h.piece.places.first + (k - h.piece.places.first) ≡ k
    place = let from = hit.0 in omega arith

    on : partition_number h.owner.request ≡ p
    on = ap (λ partition. unwrap_or partition 0) hit.2.partition

    moved : Moves rules (value_after start past) h.owner.request k h.owner.request.kind sector × (slice_get (array_at h.arrays' p) i ≡ Some sector)
    moved = by_kind h.owner.request.kind refl transfers
      where
        transfers : Transfers (as_faithful rules) s h.owner.request h.piece.places h.owner.request.kind h.sectors h.arrays'
        transfers = moves_faithfully rules s h.owner.request h.piece.places h.owner.request.kind h.sectors h.arrays' faithful h.moves

        within : k - h.piece.places.first < length h.sectors
        within = rw h.covers low

        by_kind : (kind : Kind) → h.owner.request.kind ≡ kind → Transfers (as_faithful rules) s h.owner.request h.piece.places kind h.sectors h.arrays'
            → Moves rules (value_after start past) h.owner.request k kind sector × (slice_get (array_at h.arrays' p) i ≡ Some sector)
        by_kind Read e t =
            let there : slice_get (array_of s h.owner.request) (first_sector rules h.owner.request + h.piece.places.first + (k - h.piece.places.first)) ≡ Some sector =
            part_at (array_of s h.owner.request) h.sectors (first_sector rules h.owner.request + h.piece.places.first) h.piece.places.count h.covers (t.0 refl) (k - h.piece.places.first) [] within in
            let here : sector_at s p i ≡ Some sector = sym (ap (λ v. slice_get (array_at s.arrays v) i) on) ∙ sym (ap (λ v. slice_get (array_of s h.owner.request) v) index) ∙ there in
            (some_is (sym here ∙ m.value), ap (λ arrays. slice_get (array_at arrays p) i) t.2 ∙ here)
        by_kind Write e t =
            let there : slice_get (array_at h.arrays' (partition_number h.owner.request)) (first_sector rules h.owner.request + h.piece.places.first + (k - h.piece.places.first)) ≡ Some (bytes_for rules h.owner.request (h.piece.places.first + (k - h.piece.places.first))) =
            act_writes rules s n bytes s' sound h transfers e (k - h.piece.places.first) low in
            let is_own : sector ≡ bytes_for rules h.owner.request (h.piece.places.first + (k - h.piece.places.first)) =
            concat_chunk rules.sector_size h.sectors (k - h.piece.places.first) [] t.1 within ∙ ap (λ ys. chunk rules.sector_size (k - h.piece.places.first) ys) t.0
            ∙ range_chunk rules.sector_size h.piece.places.first h.piece.places.count (k - h.piece.places.first) h.owner.request.bytes low
            ∙ sym (bytes_are rules h.owner.request (h.piece.places.first + (k - h.piece.places.first))) in (
              is_own ∙ ap (λ v. bytes_for rules h.owner.request v) place,
              sym (ap (λ v. slice_get (array_at h.arrays' v) i) on) ∙ sym (ap (λ v. slice_get (array_at h.arrays' (partition_number h.owner.request)) v) index) ∙ there ∙ ap Some (sym is_own),
            )
        by_kind Flush e t = let transfer : is_transfer h.owner.request.kind ≡ true = hit.2.transfer in absurd (cc (ap is_transfer e, transfer))

    fresh : All (IsNoEffect h.owner.number) past
    fresh =
        let followed : IsFollowed rules p i past s.requests h.piece =
        All-head (IsFollowed rules p i past s.requests) h.piece h.other_pieces (All-permutation (IsFollowed rules p i past s.requests) _ _ h.fresh.is_out m.pieces) in
        let fate : IsFateFor rules p i past h.owner.number h.owner.request h.piece.places Fresh =
        subst (λ f. IsFateFor rules p i past h.owner.number h.owner.request h.piece.places f) h.fresh.is_fresh (All-contains (IsFateOf rules p i past h.piece) s.requests h.owner followed h.is_open h.is_owner) in
        fate k hit.0 hit.1 hit.2

    takes_effect : TakesEffect rules p i start past h.owner.number sector
    takes_effect = record { request = h.owner.request; place = k; is_open = mine.is_open; there = hit.2; once = fresh; moves = moved.0 }

    -- one place of a request is the sector
    one_place : (j : ℕ) → IsAt rules p i h.owner.request j → j ≡ k
    one_place j at =
        let a : first_sector rules h.owner.request + j ≡ i = at.sector in
        let b : first_sector rules h.owner.request + k ≡ i = hit.2.sector in
        omega arith

    covered : IsCovered (h.piece ∷ h.other_pieces) h.owner
    covered = IsCovered-permutation s.pieces (h.piece ∷ h.other_pieces) h.owner h.fresh.is_out (All-contains (IsCovered s.pieces) s.requests h.owner placed.places h.is_open)

    is_out : mark_at h.owner k ≡ Out
    is_out = is_out_there s.pieces h.piece h.other_pieces h.owner k h.fresh.is_out (All-contains (IsCovered s.pieces) s.requests h.owner placed.places h.is_open) h.is_owner hit.0 hit.1

    own_mark : (j : ℕ) (x mark : Mark) → j < length h.owner.marks → get_or h.owner.marks j x ≡ mark → IsMarkFor rules p i past h.owner.number h.owner.request j mark
        → IsMarkFor rules p i (Effect h.owner.number sector ∷ past) h.owner.number h.owner.request j mark
    own_mark j x (Done bytes') within is fit = (fit.0, λ at. further (Effect h.owner.number sector) past _ (fit.1 at))
    own_mark j x Out within is fit = tt
    own_mark j x (Failed status) within is fit = tt
    own_mark j x Untouched within is fit = λ at.
        let out : get_or h.owner.marks j Untouched ≡ Out = ap (λ v. get_or h.owner.marks v Untouched) (one_place j at) ∙ is_out in
        let same : get_or h.owner.marks j x ≡ get_or h.owner.marks j Untouched = get_or_default h.owner.marks j x Untouched within in
        absurd (cc (out, same, is))
    own_mark j x Back within is fit = λ at.
        let out : get_or h.owner.marks j Untouched ≡ Out = ap (λ v. get_or h.owner.marks v Untouched) (one_place j at) ∙ is_out in
        let same : get_or h.owner.marks j x ≡ get_or h.owner.marks j Untouched = get_or_default h.owner.marks j x Untouched within in
        absurd (cc (out, same, is))

    own_mirrored : IsMirrored rules p i (Effect h.owner.number sector ∷ past) h.owner
    own_mirrored = record {
      is_open = open_more (Effect h.owner.number sector) past h.owner.number h.owner.request tt mine.is_open;
      known = mine.known;
      in_bounds = mine.in_bounds;
      marks = λ j x within. own_mark j x (get_or h.owner.marks j x) within refl (mine.marks j x within);
    }

    others_mirrored : All (IsMirrored rules p i (Effect h.owner.number sector ∷ past)) s.requests
    others_mirrored j d within =
        let o : OpenRequest = get_or s.requests j d in
        let x : IsMirrored rules p i past o = m.requests j d within in
        elim (cases_eq o.number h.owner.number) [
          | inl same ↦ subst (λ a. IsMirrored rules p i (Effect h.owner.number sector ∷ past) a) (same_open s h.owner o sound.0 h.is_open (Contains-get_or s.requests j d within) same) own_mirrored
          | inr other ↦ record {
            is_open = open_more (Effect h.owner.number sector) past o.number o.request tt x.is_open;
            known = x.known;
            in_bounds = x.in_bounds;
            marks = λ v y low'. mark_more rules p i (Effect h.owner.number sector) past o.number o.request (λ e. other (sym e)) v (get_or o.marks v y) (x.marks v y low');
          }
        ]

    -- another piece of the same request has no fresh place there
    own_fate : (piece : Piece) → covers h.owner.number k piece ≡ false → piece.owner ≡ h.owner.number → (fate : Fate) → IsFateFor rules p i past h.owner.number h.owner.request piece.places fate
        → IsFateFor rules p i (Effect h.owner.number sector ∷ past) h.owner.number h.owner.request piece.places fate
    own_fate piece apart owner Fresh fit = λ j from below at.
        let here : j ≡ k = one_place j at in
        let yes : covers h.owner.number k piece ≡ true = covers_inside h.owner.number k piece owner (omega arith) (omega arith) in
        absurd (cc (apart, yes))
    own_fate piece apart owner (Acted sectors) fit = λ j d within. ((fit j d within).0, λ at. further (Effect h.owner.number sector) past _ ((fit j d within).1 at))
    own_fate piece apart owner Faulted fit = tt

    others_followed : All (IsFollowed rules p i (Effect h.owner.number sector ∷ past) s.requests) h.other_pieces
    others_followed v c within j d low' = λ owner.
        let piece : Piece = get_or h.other_pieces v c in
        let o : OpenRequest = get_or s.requests j d in
        let all : All (IsFollowed rules p i past s.requests) h.other_pieces = All-tail (IsFollowed rules p i past s.requests) h.piece h.other_pieces (All-permutation (IsFollowed rules p i past s.requests) _ _ h.fresh.is_out m.pieces) in
        let fit : IsFateFor rules p i past o.number o.request piece.places piece.fate = all v c within j d low' owner in
        let apart : All (λ x. covers h.owner.number k x ≡ false) h.other_pieces = none_counted h.owner.number k h.other_pieces (first_alone h.piece h.other_pieces h.owner k covered h.is_owner hit.0 hit.1).1 in
        elim (cases_eq o.number h.owner.number) [
          | inl same ↦
              let is : h.owner ≡ o = same_open s h.owner o sound.0 h.is_open (Contains-get_or s.requests j d low') same in
              let fit' : IsFateFor rules p i past h.owner.number h.owner.request piece.places piece.fate = subst (λ a. IsFateFor rules p i past a.number a.request piece.places piece.fate) (sym is) fit in
              subst (λ a. IsFateFor rules p i (Effect h.owner.number sector ∷ past) a.number a.request piece.places piece.fate) is (own_fate piece (apart v c within) (sym owner ∙ same) piece.fate fit')
          | inr other ↦ fate_more rules p i (Effect h.owner.number sector) past o.number o.request (λ e. other (sym e)) piece.places piece.fate fit
        ]

    found : (j : ℕ) (d : List ℕ) → j < length h.sectors → IsAt rules p i h.owner.request (h.piece.places.first + j) → Contains (Effect h.owner.number sector ∷ past) (Effect h.owner.number (get_or h.sectors j d))
    found j d within at =
        let here : h.piece.places.first + j ≡ k = one_place (h.piece.places.first + j) at in
        let e : k - h.piece.places.first ≡ j = omega arith in
        let same : sector ≡ get_or h.sectors j d = ap (λ v. get_or h.sectors v []) e ∙ get_or_default h.sectors j [] d within in
        subst (λ x. Contains (Effect h.owner.number sector ∷ past) (Effect h.owner.number x)) same (newest (Effect h.owner.number sector) past)

    mirrors : Mirrors rules p i start (Effect h.owner.number sector ∷ past) s'
    mirrors =
        acted (Effect h.owner.number sector ∷ past)
        (All-cons (IsBelow s.next_request) (Effect h.owner.number sector) past (All-contains (IsGiven s.next_request) s.requests h.owner sound.0.given h.is_open) m.given)
        moved.1 others_mirrored others_followed found

  pub Mirrors-Acts : Mirrors rules p i start past s'
      ⊎ ((number : ℕ) × (sector' : List ℕ) × TakesEffect rules p i start past number sector' × Mirrors rules p i start (Effect number sector' ∷ past) s')
  Mirrors-Acts = elim hit_or_miss [
    | inl found ↦ inr (h.owner.number, get_or h.sectors (found.0 - h.piece.places.first) [], takes_effect found.0 found.1, mirrors found.0 found.1)
    | inr misses ↦ inl (missed misses)
  ]
