-- A reset of the adapter, as the class driver shows it: the pieces that fault are those on the same tags.
use Rattle.class_disk.proofs.Common.{◌≡◌, Bool, true, false, List, [], ◌∷◌, ◌++◌, refl, sym, ◌∙◌, ap, subst, arith, map, cond, IsStrictlyIncreasing, length-map, All-weaker, IsPermutation-refl, IsPermutation-sym, IsPermutation-trans, IsPermutation-cons, IsPermutation-middle, IsPermutation-map, All-permutation, Contains-permutation, length_permutation, DeviceLabel, Fault, is_fresh, Rules, Piece, State, IsSame, IsCounted, Run, as_label, IsPermutation-uncons, IsSame-refl, DeviceView, OnTag, piece_on_tag, IsOrderly, Moves, Resets, is_fresh_piece, fault_of, piece_tag, TableView, all_open, class_rules, view_of, tickets, IsInHand, AreAsked, AreBelow}
use Rattle.std.specs.Prelude.{IsPermutation, All, Contains, filter}
use Rattle.class_disk.proofs.Rooms.{out_same}
use Rattle.class_disk.proofs.Showing.{IsPermutation-filter}
use Rattle.class_disk.proofs.Acting.{IsStill, still_run, unfinished_still, settled_still, asked_still, map_there, MovesAbove, moves_above, below_moved, hand_ran, same_tags}
use Rattle.std.proofs.lemmas.List.{nil_from_length}
use Rattle.class_disk.proofs.Standing.{split_there}

at_first : {Y : Type 0} {a b : Y} {us ws : List Y} → a ≡ b → us ≡ ws → a ∷ us ≡ b ∷ ws
at_first e h = cc (e, h)

-- what is arranged of the images can be arranged of the items
lift : {X Y : Type 0} (f : X → Y) (ys : List Y) (xs : List X) → IsPermutation (map f xs) ys → (zs : List X) × (map f zs ≡ ys) × IsPermutation zs xs
lift f [] xs p =
    let long = length_permutation _ _ p in
    let none : xs ≡ [] = nil_from_length xs (sym (length-map xs f) ∙ sym long) in
    ([], refl, subst (IsPermutation []) (sym none) (IsPermutation-refl []))
lift f (y ∷ ys) xs p =
    let there : Contains (map f xs) y = Contains-permutation _ _ y (IsPermutation-sym _ _ p) (0, omega arith, refl) in
    let x = map_there f xs y there in
    let c = split_there x.0 xs x.1 in
    let all : IsPermutation xs (x.0 ∷ (c.0 ++ c.1)) = subst (λ zs. IsPermutation zs (x.0 ∷ (c.0 ++ c.1))) (sym c.2) (IsPermutation-middle c.0 x.0 c.1) in
    let images : IsPermutation (f x.0 ∷ map f (c.0 ++ c.1)) (y ∷ ys) = IsPermutation-trans _ _ _ (IsPermutation-sym _ _ (IsPermutation-map f _ _ all)) p in
    let rest : IsPermutation (map f (c.0 ++ c.1)) ys = IsPermutation-uncons y _ _ (subst (λ z. IsPermutation (z ∷ map f (c.0 ++ c.1)) (y ∷ ys)) x.2 images) in
    let r = lift f ys (c.0 ++ c.1) rest in
    (x.0 ∷ r.0, at_first x.2 r.1, IsPermutation-trans _ _ _ (IsPermutation-cons x.0 _ _ r.2) (IsPermutation-sym _ _ all))

-- the piece has done nothing yet, by what is known of it
abbrev is_fresh_on : OnTag → Bool
is_fresh_on x = is_fresh x.fate

-- a test of what is known of the images passes the same
filter_images : (ps : List Piece) → map piece_on_tag (filter is_fresh_piece ps) ≡ filter is_fresh_on (map piece_on_tag ps)
filter_images [] = refl
filter_images (p ∷ ps) = by (is_fresh p.fate) (filter_images ps)
  where
    by : (b : Bool) → map piece_on_tag (filter is_fresh_piece ps) ≡ filter is_fresh_on (map piece_on_tag ps)
        → map piece_on_tag (cond b (p ∷ filter is_fresh_piece ps) (filter is_fresh_piece ps)) ≡ cond b (piece_on_tag p ∷ filter is_fresh_on (map piece_on_tag ps)) (filter is_fresh_on (map piece_on_tag ps))
    by true h = ap (λ xs. piece_on_tag p ∷ xs) h
    by false h = h

-- the fault of the piece of this number
abbrev fault_under : OnTag → DeviceLabel
fault_under x = Fault x.number

tags_by : (ps : List Piece) → map piece_tag ps ≡ map (λ (x : OnTag). x.tag) (map piece_on_tag ps)
tags_by [] = refl
tags_by (p ∷ ps) = ap (λ ts. piece_tag p ∷ ts) (tags_by ps)

faults_by : (ps : List Piece) → map fault_of ps ≡ map fault_under (map piece_on_tag ps)
faults_by [] = refl
faults_by (p ∷ ps) = ap (λ ls. fault_of p ∷ ls) (faults_by ps)

-- a run of faults leaves the requests and the number of pieces as they were
still_same : (s s' : State) → IsSame s s' → IsStill s s'
still_same s s' h = record { requests = h.requests; pieces = length_permutation _ _ h.pieces; owed = h.owed; paused = h.paused; removing = h.removing }

still_then : (s t u : State) → IsStill s t → IsStill t u → IsStill s u
still_then s t u h k = record {
  requests = IsPermutation-trans _ _ _ h.requests k.requests;
  pieces = k.pieces ∙ h.pieces;
  owed = h.owed ∙ k.owed;
  paused = h.paused ∙ k.paused;
  removing = h.removing ∙ k.removing;
}

still_faults : (rules : Rules) (ps : List Piece) (s s' : State) → Run rules s (map as_label (map fault_of ps)) s' → IsStill s s'
still_faults rules [] s s' run = still_same s s' run
still_faults rules (p ∷ ps) s s' run =
    still_then s run.0 s' (still_run rules s run.0 (fault_of p) p.number refl (run.0, run.1, IsSame-refl run.0)) (still_faults rules ps run.0 s' run.2)

module _ (v : DeviceView) (books : TableView) (h : IsInHand v books) where
  pub resets_above : (v' : DeviceView) → Resets v v' → IsOrderly v'
      → Resets (view_of v books) (view_of v' books) × IsInHand v' books
  resets_above v' r ordered =
      let faulted : DeviceView = record v' { adapter = r.all_faulted } in
      let m : MovesAbove v books (map fault_of r.fresh) faulted = moves_above v books h.port h.sound h.coupled (map fault_of r.fresh) faulted r.moves in
      let still : IsStill v.state v'.state = still_faults v.rules r.fresh v.state v'.state r.moves.run in
      let above : DeviceView = view_of v books in
      let same : IsPermutation (map piece_on_tag v.state.pieces) (map piece_on_tag above.state.pieces) = same_tags v books h 0 in
      let fresh_tags : IsPermutation (map piece_on_tag (filter is_fresh_piece above.state.pieces)) (map piece_on_tag r.fresh) =
      subst (λ xs. IsPermutation xs (map piece_on_tag r.fresh)) (sym (filter_images above.state.pieces))
      (IsPermutation-sym _ _ (IsPermutation-trans _ _ _ (IsPermutation-map piece_on_tag _ _ r.all_fresh)
      (subst (λ xs. IsPermutation xs (filter is_fresh_on (map piece_on_tag above.state.pieces))) (sym (filter_images v.state.pieces)) (IsPermutation-filter is_fresh_on _ _ same)))) in
      let lifted = lift piece_on_tag (map piece_on_tag r.fresh) (filter is_fresh_piece above.state.pieces) fresh_tags in
      let faults : map fault_of lifted.0 ≡ map fault_of r.fresh = faults_by lifted.0 ∙ ap (map fault_under) lifted.1 ∙ sym (faults_by r.fresh) in
      let tags : map piece_tag lifted.0 ≡ map piece_tag r.fresh = tags_by lifted.0 ∙ ap (map (λ (x : OnTag). x.tag)) lifted.1 ∙ sym (tags_by r.fresh) in
      let asked : All (AreAsked (class_rules v.rules) v'.state.requests) (all_open books) =
      All-weaker (AreAsked (class_rules v.rules) v.state.requests) (AreAsked (class_rules v.rules) v'.state.requests) (asked_still (class_rules v.rules) v.state.requests v'.state.requests still.requests) (all_open books) h.below.asked in
      let below : AreBelow faulted books = below_moved v books h.port h.sound h.coupled (map fault_of r.fresh) faulted m asked h.below in (
        record {
          fresh = lifted.0;
          all_faulted = r.all_faulted;
          all_fresh = lifted.2;
          rising = subst IsStrictlyIncreasing (sym tags) r.rising;
          moves = subst (λ labels. Moves above labels (view_of faulted books)) (sym faults) m.moves;
          noted = r.noted;
        },
        hand_ran v books h (map fault_of r.fresh) v' m.same_rules
            (record { j = m.coupled.j; same = m.coupled.same; knows = m.coupled.knows; next_above = m.coupled.next_above; keeps = m.coupled.keeps })
            m.sound m.moves.run ordered (out_same v v' (tickets books) ordered r.moves.same_rooms h.rooms_out)
            (unfinished_still v.rules v.state v'.state still h.unfinished) (settled_still v.rules v.state v'.state still h.settled)
            (All-permutation (IsCounted v.rules) _ _ still.requests h.counted)
            (record {
              removing = below.removing;
              next_number = below.next_number;
              sent = below.sent;
              submitted = below.submitted;
              asked = below.asked;
              spotted = below.spotted;
              topmost = below.topmost;
              some = below.some;
              over = below.over;
            }),
      )
