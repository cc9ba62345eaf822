-- A run lifted to the sectors that its journal replays.
use Rattle.machine_laws.proofs.Common.{◌≡◌, ◌<◌, ◌≤◌, inl, inr, ℕ, suc, ◌+◌, List, [], ◌∷◌, Some, true, refl, sym, ◌∙◌, ap, subst, arith, length, take, drop, All, slice_range, concat, take_at, drop_at, All-head, All-tail, All-take, All-drop, All-append, All-contains, IsPermutation-sym, Contains-permutation, Extent, IsSector, sectors_in, splice, length-splice, Start, Act, Fault, Return, Kind, Read, Write, Flush, ClientRequest, Label, Call, Device, Answer, Cancel, Pause, Resume, Remove, Surprise, Removed, Rules, as_faithful, is_transfer, first_sector, home, place_count, sectors_of, opening, Piece, State, IsMap, IsPartition, ArePlaced, Acts, Transfers, partition_number, Step, Run, AreDistinct-opening, Owns, owns, ArePlaced-opening, ArePlaced-Run, ArePlaced-Step, Entry, IsEntryOf, DeviceTakes, StepTakes, AreActsOf, over_disk, RunsLift, ReplaysKind, Replays}
use Rattle.machine_laws.proofs.DiskMap.{parts, home_at, count_at, read_at, write_at, home_inside, length-part, slice_is_part}
use Rattle.machine_laws.proofs.Lifting.{over, DeviceMoves, StepMoves, IsSame-over, lift_step}
use Rattle.machine_laws.proofs.Serving.{IsSized}
use Rattle.machine_laws.proofs.Sound.{IsSound, IsSound-Step, IsSound-reached}

-- sectors of one size that join to the same bytes are the same
pub concat_same : (size : ℕ) (xs ys : List (List ℕ)) → All (IsSector size) xs → All (IsSector size) ys → length xs ≡ length ys → concat xs ≡ concat ys → xs ≡ ys
concat_same size [] [] a b n e = refl
concat_same size [] (y ∷ ys) a b n e = absurd (omega arith)
concat_same size (x ∷ xs) [] a b n e = absurd (omega arith)
concat_same size (x ∷ xs) (y ∷ ys) a b n e =
    let long_x : length x ≡ size = All-head (IsSector size) x xs a in
    let long_y : length y ≡ size = All-head (IsSector size) y ys b in
    let first : x ≡ y = sym (take_at x (concat xs) size long_x) ∙ ap (λ zs. take size zs) e ∙ take_at y (concat ys) size long_y in
    let rest : concat xs ≡ concat ys = sym (drop_at x (concat xs) size long_x) ∙ ap (λ zs. drop size zs) e ∙ drop_at y (concat ys) size long_y in
    let more : xs ≡ ys = concat_same size xs ys (All-tail (IsSector size) x xs a) (All-tail (IsSector size) y ys b) (fewer n) rest in
    rw (first, more) refl
  where
    fewer : {m n : ℕ} → suc m ≡ suc n → m ≡ n
    fewer h = omega arith

-- ONE ACT

abbrev pub IsDisk : Rules → ℕ → List (List ℕ) → Type 0
IsDisk rules size disk = (length disk ≡ size) × All (IsSector rules.sector_size) disk

-- a piece of the request lies in its partition
abbrev pub Fits : Rules → ClientRequest → Extent → Kind → Type 0
Fits rules q places kind = is_transfer kind ≡ true → first_sector rules q + places.first + places.count ≤ sectors_of rules (Some (partition_number q))

module _ (rules : Rules) (size : ℕ) (is_map : IsMap size rules.partitions) where
  -- what the journal says of an act is what the faithful machine's act does
  act_lifts : (s : State) (disk : List (List ℕ)) (q : ClientRequest) (places extent : Extent) (kind : Kind) (sectors : List (List ℕ)) (arrays' : List (List (List ℕ))) (bytes : List ℕ) (mid : List (List ℕ))
      → IsDisk rules size disk → 0 < places.count → Fits rules q places kind → length sectors ≡ places.count → Transfers rules s q places kind sectors arrays' → bytes ≡ concat sectors
      → (is_transfer kind ≡ true → extent.first ≡ home rules (Some (partition_number q)) (first_sector rules q + places.first)) → (is_transfer kind ≡ true → extent.count ≡ places.count)
      → ReplaysKind rules.sector_size disk extent bytes kind mid
      → Transfers (as_faithful rules) (over (parts disk rules.partitions) s) q places kind sectors (parts mid rules.partitions) × IsDisk rules size mid
  act_lifts s disk q places extent Read sectors arrays' bytes mid is_disk some fits covers h are place count replays =
      let p : ℕ = partition_number q in
      let from : ℕ = first_sector rules q + places.first in
      let inside : home_at rules.partitions p from + places.count ≤ length disk = subst (λ n. home_at rules.partitions p from + places.count ≤ n) (sym is_disk.0) (home_inside rules.partitions p from places.count size some (fits refl) is_map.each) in
      let there : sectors_in disk extent ≡ slice_range disk (home_at rules.partitions p from) (home_at rules.partitions p from + places.count) = rw (place refl, count refl) refl in
      let long : length (sectors_in disk extent) ≡ places.count = ap (λ ys. length ys) (there ∙ slice_is_part disk (home_at rules.partitions p from) places.count) ∙ length-part disk (home_at rules.partitions p from) places.count inside in
      let whole : All (IsSector rules.sector_size) (sectors_in disk extent) = All-take (IsSector rules.sector_size) _ _ (All-drop (IsSector rules.sector_size) extent.first disk is_disk.1) in
      let same : sectors ≡ sectors_in disk extent = concat_same rules.sector_size sectors (sectors_in disk extent) h.1 whole (covers ∙ sym long) (sym are ∙ replays.0) in (
        (λ _. same ∙ there ∙ sym (read_at rules.partitions p from places.count disk some (fits refl)), h.1, ap (λ d. parts d rules.partitions) replays.1),
        subst (IsDisk rules size) (sym replays.1) is_disk,
      )
  act_lifts s disk q places extent Write sectors arrays' bytes mid is_disk some fits covers h are place count replays =
      let p : ℕ = partition_number q in
      let from : ℕ = first_sector rules q + places.first in
      let fits' : from + length sectors ≤ count_at rules.partitions p = rw covers (fits refl) in
      let some' : 0 < length sectors = rw covers some in
      let all : All (IsPartition (length disk)) rules.partitions = subst (λ n. All (IsPartition n) rules.partitions) (sym is_disk.0) is_map.each in
      let same : replays.0 ≡ sectors = concat_same rules.sector_size replays.0 sectors replays.3 h.1 (replays.2 ∙ count refl ∙ sym covers) (replays.1 ∙ are) in
      let is : mid ≡ splice disk (home_at rules.partitions p from) sectors = replays.4 ∙ ap (λ ys. splice disk extent.first ys) same ∙ ap (λ n. splice disk n sectors) (place refl) in
      let inside : home_at rules.partitions p from + length sectors ≤ length disk = home_inside rules.partitions p from (length sectors) (length disk) some' fits' all in
      let whole : All (IsSector rules.sector_size) (splice disk (home_at rules.partitions p from) sectors) =
      All-append (IsSector rules.sector_size) _ _ (All-take (IsSector rules.sector_size) _ disk is_disk.1) (All-append (IsSector rules.sector_size) sectors _ h.1 (All-drop (IsSector rules.sector_size) _ disk is_disk.1)) in (
        (h.0, h.1, ap (λ d. parts d rules.partitions) is ∙ write_at rules.partitions p from sectors disk some' fits' all is_map.apart),
        subst (IsDisk rules size) (sym is) (length-splice disk (home_at rules.partitions p from) sectors inside ∙ is_disk.0, whole),
      )
  act_lifts s disk q places extent Flush sectors arrays' bytes mid is_disk some fits covers h are place count replays =
      ((h.0, ap (λ d. parts d rules.partitions) replays), subst (IsDisk rules size) (sym replays) is_disk)

  -- ONE STEP

  -- what is kept of the machine whose sectors stand elsewhere
  record IsGood (s : State) : Type 0 where
    sound : IsSound rules s
    placed : ArePlaced s

  piece_fits : (s : State) (n : ℕ) (bytes : List ℕ) (s' : State) → IsGood s → (h : Acts rules s n bytes s') → (0 < h.piece.places.count) × Fits rules h.owner.request h.piece.places h.owner.request.kind
  piece_fits s n bytes s' good h =
      let out = Contains-permutation _ _ h.piece (IsPermutation-sym _ _ h.fresh.is_out) (0, first_low h.piece h.other_pieces, refl) in
      let mine : Owns h.owner h.piece = owns s good.placed h.owner h.piece h.is_open out h.is_owner in
      let sized : IsSized rules h.owner = All-contains (IsSized rules) s.requests h.owner good.sound.1.sized h.is_open in
      (mine.some, λ transfer. within mine.inside sized.places (sized.inside transfer))
    where
      first_low : (p : Piece) (ps : List Piece) → 0 < length (p ∷ ps)
      first_low p ps = omega arith

      within : h.piece.places.first + h.piece.places.count ≤ length h.owner.marks → length h.owner.marks ≡ place_count rules h.owner.request
          → first_sector rules h.owner.request + place_count rules h.owner.request ≤ sectors_of rules (Some (partition_number h.owner.request))
          → first_sector rules h.owner.request + h.piece.places.first + h.piece.places.count ≤ sectors_of rules (Some (partition_number h.owner.request))
      within a b c = omega arith

  -- the disk after the entries that a step takes, and the arrays with it
  record Follows (s : State) (label : Label) (s' : State) (h : Step rules s label s') (disk : List (List ℕ)) (left : List Entry) (after : List (List ℕ)) : Type 0 where
    mid : List (List ℕ)
    moves : StepMoves rules s label s' h (parts disk rules.partitions) (parts mid rules.partitions)
    is_disk : IsDisk rules size mid
    rest : Replays rules.sector_size mid left after

  act_follows : (s : State) (n : ℕ) (bytes : List ℕ) (s' : State) (disk : List (List ℕ)) (entries left : List Entry) (after : List (List ℕ)) → IsGood s → IsDisk rules size disk → (h : Acts rules s n bytes s')
      → DeviceTakes rules s (Act n bytes) s' h entries left → Replays rules.sector_size disk entries after
      → (mid : List (List ℕ)) × DeviceMoves rules s (Act n bytes) s' h (parts disk rules.partitions) (parts mid rules.partitions) × IsDisk rules size mid × Replays rules.sector_size mid left after
  act_follows s n bytes s' disk entries left after good is_disk h takes replays =
      let entry : Entry = takes.0 in
      let mine : IsEntryOf rules s n bytes s' h entry = takes.2 in
      let all : Replays rules.sector_size disk (entry ∷ left) after = subst (λ es. Replays rules.sector_size disk es after) takes.1 replays in
      let ok = piece_fits s n bytes s' good h in
      let first : ReplaysKind rules.sector_size disk entry.extent entry.bytes h.owner.request.kind all.0 = subst (λ kind. ReplaysKind rules.sector_size disk entry.extent entry.bytes kind all.0) mine.kind all.1 in
      let lifted = act_lifts s disk h.owner.request h.piece.places entry.extent h.owner.request.kind h.sectors h.arrays' entry.bytes all.0 is_disk ok.0 ok.1 h.covers h.moves (mine.bytes_are ∙ h.hands_over) mine.place mine.count first in
      (all.0, lifted.0, lifted.1, all.2)

  abbrev Kept : (s : State) (label : Label) (s' : State) → Step rules s label s' → List (List ℕ) → List Entry → List (List ℕ) → Type 0
  Kept s label s' h disk left after = Follows s label s' h disk left after

  quiet : (s : State) (label : Label) (s' : State) (h : Step rules s label s') (disk : List (List ℕ)) (entries left : List Entry) (after : List (List ℕ)) → IsDisk rules size disk
      → StepMoves rules s label s' h (parts disk rules.partitions) (parts disk rules.partitions) → left ≡ entries → Replays rules.sector_size disk entries after → Kept s label s' h disk left after
  quiet s label s' h disk entries left after is_disk moves same replays =
      record { mid = disk; moves = moves; is_disk = is_disk; rest = subst (λ es. Replays rules.sector_size disk es after) (sym same) replays }

  follows : (s : State) (label : Label) (s' : State) (h : Step rules s label s') (disk : List (List ℕ)) (entries left : List Entry) (after : List (List ℕ)) → IsGood s → IsDisk rules size disk
      → StepTakes rules s label s' h entries left → Replays rules.sector_size disk entries after → Follows s label s' h disk left after
  follows s (Device (Act n bytes)) s' (inl h) disk entries left after good is_disk takes replays =
      let f = act_follows s n bytes s' disk entries left after good is_disk h.1 takes replays in
      record { mid = f.0; moves = f.1; is_disk = f.2; rest = f.3 }
  follows s (Device (Start n tag block)) s' (inl h) disk entries left after good is_disk takes replays = quiet s _ s' (inl h) disk entries left after is_disk refl takes replays
  follows s (Device (Fault n)) s' (inl h) disk entries left after good is_disk takes replays = quiet s _ s' (inl h) disk entries left after is_disk refl takes replays
  follows s (Device (Return n class)) s' (inl h) disk entries left after good is_disk takes replays = quiet s _ s' (inl h) disk entries left after is_disk refl takes replays
  follows s (Call n q) s' (inl h) disk entries left after good is_disk takes replays = quiet s _ s' (inl h) disk entries left after is_disk refl takes replays
  follows s (Answer n status informed bytes) s' (inl h) disk entries left after good is_disk takes replays = quiet s _ s' (inl h) disk entries left after is_disk refl takes replays
  follows s (Cancel n) s' (inl h) disk entries left after good is_disk takes replays = quiet s _ s' (inl h) disk entries left after is_disk refl takes replays
  follows s Pause s' (inl h) disk entries left after good is_disk takes replays = quiet s _ s' (inl h) disk entries left after is_disk refl takes replays
  follows s Resume s' (inl h) disk entries left after good is_disk takes replays = quiet s _ s' (inl h) disk entries left after is_disk refl takes replays
  follows s Remove s' (inl h) disk entries left after good is_disk takes replays = quiet s _ s' (inl h) disk entries left after is_disk refl takes replays
  follows s Surprise s' (inl h) disk entries left after good is_disk takes replays = quiet s _ s' (inl h) disk entries left after is_disk refl takes replays
  follows s Removed s' (inl h) disk entries left after good is_disk takes replays = quiet s _ s' (inl h) disk entries left after is_disk refl takes replays
  follows s label s' (inr h) disk entries left after good is_disk takes replays = quiet s label s' (inr h) disk entries left after is_disk refl takes replays

  -- A RUN

  run_follows : (s : State) (labels : List Label) (s' : State) (run : Run rules s labels s') (entries : List Entry) (disk after : List (List ℕ)) → IsGood s → IsDisk rules size disk
      → AreActsOf rules s labels s' run entries → Replays rules.sector_size disk entries after
      → Run (as_faithful rules) (over_disk rules disk s) labels (over_disk rules after s')
  run_follows s [] s' run entries disk after good is_disk acts replays =
      let same : after ≡ disk = subst (λ es. Replays rules.sector_size disk es after) acts replays in
      rw same (IsSame-over (parts disk rules.partitions) s s' run)
  run_follows s (label ∷ labels) s' run entries disk after good is_disk acts replays =
      let f : Follows s label run.0 run.1 disk acts.0 after = follows s label run.0 run.1 disk entries acts.0 after good is_disk acts.1 replays in
      let good' : IsGood run.0 = record { sound = IsSound-Step rules s label run.0 good.sound run.1; placed = ArePlaced-Step rules s label run.0 good.sound.0 good.placed run.1 } in
      let step : Step (as_faithful rules) (over_disk rules disk s) label (over_disk rules f.mid run.0) = lift_step rules s label run.0 run.1 (parts disk rules.partitions) (parts f.mid rules.partitions) f.moves in
      (over_disk rules f.mid run.0, step, run_follows run.0 labels s' run.2 acts.0 f.mid after good' f.is_disk acts.2 f.rest)

pub runs_lift : RunsLift
runs_lift rules s labels s' run entries disk after reached is_map whole acts replays =
    let good : IsGood rules (length disk) is_map s = record {
      sound = IsSound-reached rules s reached;
      placed = ArePlaced-Run rules (opening reached.arrays) reached.labels s (AreDistinct-opening reached.arrays) (ArePlaced-opening reached.arrays) reached.run;
    } in
    run_follows rules (length disk) is_map s labels s' run entries disk after good (refl, whole) acts replays
