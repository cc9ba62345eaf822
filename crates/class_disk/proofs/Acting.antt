-- The calls that move both machines by the same labels: act and reset, and the taking of a label.
use Rattle.std.proofs.Common.{◌≡◌, ◌<◌, ◌≤◌, ◌⊎◌, inl, inr, ℕ, zero, suc, ◌+◌, Bool, true, false, List, [], ◌∷◌, refl, sym, ◌∙◌, ap, subst, arith, map, length, cond, Option, Some, None, Result, Ok, Err, MatchBool, length-append}
use Rattle.std.specs.Prelude.{IsPermutation, All, Any, Contains, IsTrue, IsFalse}
use Rattle.class_disk.proofs.Common.{room_in_all, length-map, IsPermutation-refl, IsPermutation-sym, IsPermutation-trans, IsPermutation-map, All-permutation, Contains-permutation, length_permutation, sum_by-IsPermutation, All-nil, All-cons, All-head, All-tail, All-weaker, All-map, DeviceLabel, Start, Act, Fault, Return, ClientRequest, Request, Rules, place_count, Mark, Untouched, Out, Done, Failed, Back, OpenRequest, Piece, State, IsSame, AreDistinct, HasPlaces, HavePlaces, request_number, is_started, with_fate, HasEnded, Acted, IsCounted, AreCounted, Run, as_label, DeviceView, Packet, OnTag, packet_number, piece_on_tag, use_on_tag, label_places, IsOrderly, IsTopmost, Entry, Completion, AdapterView, TagInUse, with_booked, books_tags, books_sectors, sectors_in, BooksPiece, Moves, AwaitsRestartIfEnded, IsFreshOn, IsActOrFault, ActsOrFaults, ActsNot, TakesLabel, ForgetsLabels, IsAt, Run-same, none_there, AreDistinct-Run, AreDistinct-same, Opened, TableView, all_open, Progress, IsSound, Keeps, AreParts, IsMadeUp, HasSome, IsOver, class_rules, IsPort, divided_of, shown_state, knowns, view_of, AreKept, AreBelow, IsCoupled, IsInHand, AsksUnder, IsAskedBy, IsAsked, AreAsked, IsSpottedBy, IsSpotted, AreSpotted, tickets, most_over, AllOut}
use Rattle.machine.specs.Settled.{Settled, IsHeld, WaitsIfCancelled, Waits, IsAllSent, IsHeldBack, HasMore, IsAtWork, IsFull, IsWithin, started_count}
use Rattle.class_disk.specs.declared.parts.Progress.TheVariants.{Ready, Below as SentBelow, Ended as PartEnded}
use Rattle.class_disk.specs.inside.Joint.{Part, Below, Here, Known, known_of, Divided, Joint, parts_marks, pieces_below, pieces_above, shown, above}
use Rattle.class_disk.proofs.Rooms.{out_same}
use Rattle.class_disk.proofs.CoupledRun.{Ran, run_coupled, Contains-map}
use Rattle.class_disk.proofs.Showing.{shown_is}
use Rattle.class_disk.proofs.Orderly.{on_tags, orderly_above, may_act_above, All-from_map}
use Rattle.class_disk.proofs.PortRules.{port_rules}
use Rattle.std.proofs.lemmas.List.{nil_from_length}

-- WHAT STAYS WHERE NO REQUEST CHANGES

-- the requests and the number of pieces are as they were
pub record IsStill (s s' : State) : Type 0 where
  pub requests : IsPermutation s.requests s'.requests
  pub pieces : length s'.pieces ≡ length s.pieces
  pub owed : s.owed ≡ s'.owed
  pub paused : s.paused ≡ s'.paused
  pub removing : s.removing ≡ s'.removing

pub ended_still : (rules : Rules) (s s' : State) (o : OpenRequest) (m : Mark) → s.removing ≡ s'.removing → HasEnded rules s' o m → HasEnded rules s o m
ended_still rules s s' o m same (inl done) = inl done
ended_still rules s s' o Untouched same (inr (status, inl h)) = inr (status, inl h)
ended_still rules s s' o Untouched same (inr (status, inr (removing, is))) = inr (status, inr (same ∙ removing, is))
ended_still rules s s' o Back same (inr (status, inl (inl h))) = inr (status, inl (inl h))
ended_still rules s s' o Back same (inr (status, inl (inr (removing, is)))) = inr (status, inl (inr (same ∙ removing, is)))
ended_still rules s s' o Back same (inr (status, inr h)) = inr (status, inr h)
ended_still rules s s' o (Failed failure) same (inr (status, h)) = inr (status, h)
ended_still rules s s' o Out same (inr (status, h)) = absurd h
ended_still rules s s' o (Done sector) same (inr (status, h)) = absurd h

pub unfinished_still : (rules : Rules) (s s' : State) → IsStill s s' → All (AwaitsRestartIfEnded rules s) s.requests → All (AwaitsRestartIfEnded rules s') s'.requests
unfinished_still rules s s' h all =
    All-permutation (AwaitsRestartIfEnded rules s') _ _ h.requests
    (All-weaker (AwaitsRestartIfEnded rules s) (AwaitsRestartIfEnded rules s') (λ o not_yet ended.
    let awaits = not_yet (All-weaker (HasEnded rules s' o) (HasEnded rules s o) (λ m. ended_still rules s s' o m h.removing) o.marks ended) in
    record {
      in_pieces = awaits.in_pieces;
      not_cancelled = awaits.not_cancelled;
      not_removing = sym h.removing ∙ awaits.not_removing;
      back = awaits.back;
    }) s.requests all)

pub settled_still : (rules : Rules) (s s' : State) → IsStill s s' → Settled rules s → Settled rules s'
settled_still rules s s' h k =
    let count : started_count s ≡ started_count s' = sym (sum_by-IsPermutation (λ o. cond (is_started o) 1 0) _ _ h.requests) in
    let empty : s'.pieces ≡ [] → s.pieces ≡ [] = λ none. nil_from_length s.pieces (sym h.pieces ∙ ap length none) in
    let there : (P : OpenRequest → Type 0) → All P s.requests → All P s'.requests = λ P all. All-permutation P _ _ h.requests all in
    let held : All (IsHeldBack rules s) s.requests → All (IsHeldBack rules s') s'.requests = λ all. subst (λ n. All (λ o. IsFalse (is_started o) → IsTrue o.late ⊎ IsFull rules.window n) s'.requests) count (there (IsHeldBack rules s) all) in
    record {
      none_owed = rw (← h.owed) k.none_owed;
      idle = λ none. there IsHeld (k.idle (empty none));
      idle_unpaused = λ none unpaused. none_there s.requests s'.requests (k.idle_unpaused (empty none) (rw h.paused unpaused)) h.requests;
      cancelled = there WaitsIfCancelled k.cancelled;
      removing = λ removing. there Waits (k.removing (rw h.removing removing));
      sent = λ free staying. there (IsAllSent rules) (k.sent (rw (← h.pieces) free) (rw h.removing staying));
      released = λ free staying. held (k.released (rw (← h.pieces) free) (rw h.removing staying));
      alive = there HasMore k.alive;
      at_work = λ free. there IsAtWork (k.at_work (rw (← h.pieces) free));
      within_window = subst (λ n. IsWithin rules.window n) count k.within_window;
    }

-- an act or a fault leaves the requests and the number of pieces as they were
pub still_run : (rules : Rules) (s s' : State) (label : DeviceLabel) (number : ℕ) → IsActOrFault number label → Run rules s (as_label label ∷ []) s' → IsStill s s'
still_run rules s s' (Act piece bytes) number told (mid, inl (none, h), end) =
    let p : IsPermutation mid.pieces (with_fate (Acted h.sectors) h.piece ∷ h.other_pieces) = h.after.pieces in
    let a = length_permutation _ _ h.fresh.is_out in let b = length_permutation _ _ p in let c = length_permutation _ _ end.pieces in
    record {
      requests = IsPermutation-sym _ _ (IsPermutation-trans _ _ _ (IsPermutation-sym _ _ end.requests) h.after.requests);
      pieces = omega arith;
      owed = sym h.after.owed ∙ end.owed;
      paused = sym h.after.paused ∙ end.paused;
      removing = sym h.after.removing ∙ end.removing;
    }
still_run rules s s' (Fault piece) number told (mid, inl (none, h), end) =
    let a = length_permutation _ _ h.fresh.is_out in let b = length_permutation _ _ h.after.pieces in let c = length_permutation _ _ end.pieces in
    record {
      requests = IsPermutation-sym _ _ (IsPermutation-trans _ _ _ (IsPermutation-sym _ _ end.requests) h.after.requests);
      pieces = omega arith;
      owed = sym h.after.owed ∙ end.owed;
      paused = sym h.after.paused ∙ end.paused;
      removing = sym h.after.removing ∙ end.removing;
    }
still_run rules s s' (Start piece tag block) number told run = absurd told
still_run rules s s' (Return piece class) number told run = absurd told
still_run rules s s' (Act piece bytes) number told (mid, inr owing, end) = absurd owing
still_run rules s s' (Fault piece) number told (mid, inr owing, end) = absurd owing

-- what the parts below ask for is as it was
part_asked : (rules : Rules) (r : Request) (os os' : List OpenRequest) → IsPermutation os os' → (p : Progress) → IsAskedBy rules os r p → IsAskedBy rules os' r p
part_asked rules r os os' same (Ready place) h = tt
part_asked rules r os os' same (SentBelow number spot) h = All-permutation (AsksUnder rules r number) _ _ same h
part_asked rules r os os' same (PartEnded ended) h = tt

pub asked_still : (rules : Rules) (os os' : List OpenRequest) → IsPermutation os os' → (o : Opened) → AreAsked rules os o → AreAsked rules os' o
asked_still rules os os' same o h = All-weaker (IsAsked rules os) (IsAsked rules os') (λ p. part_asked rules p.request os os' same p.progress) o.parts h

-- and where it stands there
any_permuted : {X : Type 0} (P : X → Type 0) (xs ys : List X) → IsPermutation xs ys → Any P xs → Any P ys
any_permuted P xs ys same (i, x, low, is, h) =
    let c = Contains-permutation _ _ x same (i, low, is) in
    (c.0, x, c.1, c.2, h)

part_spotted : (ps ps' : List Packet) → IsPermutation ps ps' → (p : Progress) → IsSpottedBy ps p → IsSpottedBy ps' p
part_spotted ps ps' same (Ready place) h = tt
part_spotted ps ps' same (SentBelow number spot) h = any_permuted (IsAt spot number) ps ps' same h
part_spotted ps ps' same (PartEnded ended) h = tt

pub spotted_still : (ps ps' : List Packet) → IsPermutation ps ps' → (o : Opened) → AreSpotted ps o → AreSpotted ps' o
spotted_still ps ps' same o h = All-weaker (IsSpotted ps) (IsSpotted ps') (λ p. part_spotted ps ps' same p.progress) o.parts h

-- PLACES

pub parts_long : (rules : Rules) (q : ClientRequest) (first : ℕ) (parts : List Part) → AreParts rules q first parts → first + length (parts_marks parts) ≡ place_count rules q
parts_long rules q first [] h = omega (arith, h)
parts_long rules q first (Below o again ps ∷ parts) h =
    let r = parts_long rules q (first + length o.marks) parts h.2 in
    simp (length-append, length-map) (omega (arith, r))
parts_long rules q first (Here marks busy ∷ parts) h =
    let r = parts_long rules q (first + length marks) parts h in
    simp length-append (omega (arith, r))

pub have_places : (rules : Rules) (j : Joint) (ks : List Known) → Keeps rules j → IsPermutation (map known_of j.divided) ks → All (HasSome rules) ks → HavePlaces (above j)
have_places rules j ks k same some =
    All-map HasPlaces shown j.divided (both j.divided k.made_up (All-from_map (HasSome rules) known_of j.divided (All-permutation (HasSome rules) _ _ (IsPermutation-sym _ _ same) some)))
  where
    both : (es : List Divided) → All (IsMadeUp rules) es → All (λ e. HasSome rules (known_of e)) es → All (λ e. HasPlaces (shown e)) es
    both [] made some = All-nil (λ e. HasPlaces (shown e))
    both (e ∷ es) made some =
        let long = parts_long rules e.request 0 e.parts (All-head (IsMadeUp rules) e es made) in
        let n : 0 < place_count rules e.request = All-head (λ e. HasSome rules (known_of e)) e es some in
        All-cons (λ e. HasPlaces (shown e)) e es (omega arith) (both es (All-tail (IsMadeUp rules) e es made) (All-tail (λ e. HasSome rules (known_of e)) e es some))

-- BOTH LAYERS MOVE

-- a run of the machine below by labels of the adapter, told of the class driver
pub record MovesAbove (v : DeviceView) (books : TableView) (labels : List DeviceLabel) (v' : DeviceView) : Type 0 where
  pub moves : Moves (view_of v books) labels (view_of v' books)
  pub coupled : IsCoupled v' books
  pub sound : IsSound v'.state
  pub same_removing : v.state.removing ≡ v'.state.removing
  pub same_rules : v'.rules ≡ v.rules
  pub next_request : v'.state.next_request ≡ v.state.next_request
  pub same_packets : IsPermutation v'.packets v.packets
  pub same_submitted : v'.submitted ≡ v.submitted
  pub same_most : v'.most ≡ v.most

module _ (v : DeviceView) (books : TableView) (port : IsPort v.rules) (sound : IsSound v.state) (coupled : IsCoupled v books) where
  pub moves_above : (labels : List DeviceLabel) (v' : DeviceView) → Moves v labels v' → MovesAbove v books labels v'
  moves_above labels v' m =
      let rules : Rules = class_rules v.rules in
      let ran : Ran rules coupled.j labels v'.state = run_coupled rules refl labels coupled.j v.state v'.state coupled.same sound coupled.keeps (subst (λ r. Run r v.state (map as_label labels) v'.state) (port_rules port) m.run) in
      let same_rules : class_rules v'.rules ≡ rules = ap class_rules m.same_rules in
      let ks : IsPermutation (map known_of ran.next.divided) (knowns rules books) = IsPermutation-trans _ _ _ ran.like.transfers coupled.knows in
      let here : IsSame (above coupled.j) (shown_state v.state (books.last_request + 1) (knowns rules books)) =
      subst (λ n. IsSame (above coupled.j) (shown_state v.state n (knowns rules books))) coupled.next_above (shown_is rules coupled.j v.state (knowns rules books) coupled.same sound.distinct coupled.keeps coupled.knows) in
      let there : IsSame (above ran.next) (shown_state v'.state (books.last_request + 1) (knowns rules books)) =
      subst (λ n. IsSame (above ran.next) (shown_state v'.state n (knowns rules books))) (ran.like.next_above ∙ coupled.next_above) (shown_is rules ran.next v'.state (knowns rules books) ran.same ran.sound.distinct ran.keeps ks) in
      record {
        moves = record {
          same_rules = same_rules;
          same_packets = IsPermutation-refl _;
          same_rooms = λ spot. refl;
          same_submitted = refl;
          same_most = ap most_over m.same_most;
          same_places = ap (λ n. n + room_in_all books) m.same_places;
          run = subst (λ r. Run rules (shown_state v.state (books.last_request + 1) (knowns rules books)) (map as_label labels) (shown_state v'.state (books.last_request + 1) (knowns r books))) (sym same_rules)
              (Run-same rules (map as_label labels) (above coupled.j) _ (above ran.next) _ here there ran.run);
          adapter = m.adapter;
        };
        coupled = record {
          j = ran.next;
          same = ran.same;
          knows = subst (λ r. IsPermutation (map known_of ran.next.divided) (knowns r books)) (sym same_rules) ks;
          next_above = ran.like.next_above ∙ coupled.next_above;
          keeps = subst (λ r. Keeps r ran.next) (sym same_rules) ran.keeps;
        };
        sound = ran.sound;
        same_removing = sym coupled.same.removing ∙ sym ran.like.removing ∙ ran.same.removing;
        same_rules = m.same_rules;
        next_request = sym ran.same.next_request ∙ ran.like.next_below ∙ coupled.same.next_request;
        same_packets = m.same_packets;
        same_submitted = m.same_submitted;
        same_most = m.same_most;
      }

  -- what the class driver keeps of its packets below, once it is known that they ask for the same
  pub below_moved : (labels : List DeviceLabel) (v' : DeviceView) → MovesAbove v books labels v' → All (AreAsked (class_rules v.rules) v'.state.requests) (all_open books) → AreBelow v books → AreBelow v' books
  below_moved labels v' m asked h =
      let to : (P : Rules → Type 0) → P v.rules → P v'.rules = λ P x. subst P (sym m.same_rules) x in
      record {
        removing = h.removing ∙ m.same_removing;
        next_number = let a = h.next_number in let b = m.next_request in omega arith;
        sent = let a = h.sent in let b = m.same_submitted in omega arith;
        submitted = subst (λ n. books.submitted ≤ most_over n) (sym m.same_most) h.submitted;
        asked = to (λ r. All (AreAsked (class_rules r) v'.state.requests) (all_open books)) asked;
        spotted = All-weaker (AreSpotted v.packets) (AreSpotted v'.packets) (spotted_still v.packets v'.packets (IsPermutation-sym _ _ m.same_packets)) (all_open books) h.spotted;
        topmost = All-permutation IsTopmost _ _ (IsPermutation-sym _ _ m.same_packets) h.topmost;
        some = to (λ r. All (HasSome (class_rules r)) (knowns (class_rules r) books)) h.some;
        over = subst (λ b. All (IsOver 17 b) (knowns (class_rules v'.rules) books)) m.same_removing (to (λ r. All (IsOver 17 v.state.removing) (knowns (class_rules r) books)) h.over);
      }

pub numbers_known : (s : State) (ks : List Known) → map request_number (map shown (map (divided_of s) ks)) ≡ map (λ k. k.number) ks
numbers_known s [] = refl
numbers_known s (k ∷ ks) = ap (λ zs. k.number ∷ zs) (numbers_known s ks)

as_many : (es : List Divided) → length (pieces_above es) ≡ length (pieces_below es)
as_many es = sym (length-map (pieces_above es) piece_on_tag) ∙ ap length (on_tags es) ∙ length-map (pieces_below es) piece_on_tag

-- IN HAND AGAIN

module _ (v : DeviceView) (books : TableView) (h : IsInHand v books) where
  -- the coupled machine is the one shown
  pub shows : IsSame (above h.coupled.j) (view_of v books).state
  shows = subst (λ n. IsSame (above h.coupled.j) (shown_state v.state n (knowns (class_rules v.rules) books))) h.coupled.next_above
      (shown_is (class_rules v.rules) h.coupled.j v.state (knowns (class_rules v.rules) books) h.coupled.same h.sound.distinct h.coupled.keeps h.coupled.knows)

  pub same_pieces : length (view_of v books).state.pieces ≡ length v.state.pieces
  same_pieces = length_permutation _ _ shows.pieces ∙ as_many h.coupled.j.divided ∙ sym (length_permutation _ _ h.coupled.same.pieces)

  pub label_place : (n : ℕ) → label_places (view_of v books) + n ≤ 64 → label_places v + n ≤ 64
  label_place n few = let e = same_pieces in omega arith

  pub hand_ran : (labels : List DeviceLabel) (v' : DeviceView) → v'.rules ≡ v.rules → IsCoupled v' books → IsSound v'.state
      → Run (class_rules v.rules) (view_of v books).state (map as_label labels) (view_of v' books).state → IsOrderly v' → AllOut v' (tickets books)
      → All (AwaitsRestartIfEnded v.rules v'.state) v'.state.requests → Settled v.rules v'.state → AreCounted v.rules v'.state → AreBelow v' books → IsInHand v' books
  hand_ran labels v' same_rules coupled sound run ordered rooms_out unfinished settled counted below =
      let to : (P : Rules → Type 0) → P v.rules → P v'.rules = λ P x. subst P (sym same_rules) x in
      let port : IsPort v'.rules = to IsPort h.port in
      let ks : List Known = knowns (class_rules v'.rules) books in
      let j : Joint = coupled.j in
      let same_shown : IsSame (above j) (view_of v' books).state = subst (λ n. IsSame (above j) (shown_state v'.state n ks)) coupled.next_above
      (shown_is (class_rules v'.rules) j v'.state ks coupled.same sound.distinct coupled.keeps coupled.knows) in
      let distinct : AreDistinct (view_of v' books).state = AreDistinct-Run (class_rules v.rules) (view_of v books).state (map as_label labels) (view_of v' books).state h.orderly.distinct run in
      let unfinished' : All (AwaitsRestartIfEnded v'.rules v'.state) v'.state.requests = to (λ r. All (AwaitsRestartIfEnded r v'.state) v'.state.requests) unfinished in
      let settled' : Settled v'.rules v'.state = to (λ r. Settled r v'.state) settled in
      let over_j : All (IsOver 17 j.removing) (map known_of j.divided) = subst (λ b. All (IsOver 17 b) (map known_of j.divided)) (sym coupled.same.removing) (All-permutation (IsOver 17 v'.state.removing) _ _ (IsPermutation-sym _ _ coupled.knows) below.over) in
      let numbers : map request_number (view_of v books).state.requests ≡ map request_number (view_of v' books).state.requests =
      numbers_known v.state (knowns (class_rules v.rules) books) ∙ subst (λ r. map (λ k. k.number) (knowns (class_rules v.rules) books) ≡ map (λ k. k.number) (knowns (class_rules r) books)) (sym same_rules) refl ∙ sym (numbers_known v'.state ks) in
      record {
        port = port;
        sound = sound;
        counted = to (λ r. AreCounted r v'.state) counted;
        coupled = coupled;
        rooms_out = rooms_out;
        unfinished = unfinished';
        settled = settled';
        kept = to (λ r. AreKept (class_rules r) books) h.kept;
        below = below;
        orderly = orderly_above v' port ordered sound j coupled.same coupled.keeps unfinished' settled'
            (AreDistinct-same (above j) (view_of v' books).state same_shown distinct)
            (have_places (class_rules v'.rules) j ks coupled.keeps coupled.knows below.some) over_j
            (view_of v' books).state same_shown (view_of v' books).packets (subst (IsPermutation (map packet_number (view_of v books).packets)) numbers h.orderly.packets)
            books.rooms h.orderly.spots h.orderly.vacant books.submitted (most_over v'.most) (view_of v' books).places;
      }

  pub hand_moved : (labels : List DeviceLabel) (v' : DeviceView) → MovesAbove v books labels v' → IsOrderly v' → AllOut v' (tickets books)
      → All (AwaitsRestartIfEnded v.rules v'.state) v'.state.requests → Settled v.rules v'.state → AreCounted v.rules v'.state → AreBelow v' books → IsInHand v' books
  hand_moved labels v' m = hand_ran labels v' m.same_rules m.coupled m.sound m.moves.run

-- nothing changed that is shown
pub hand_same : (v : DeviceView) (books : TableView) → IsInHand v books → (v' : DeviceView) → v' ≡ v → IsInHand v' books
hand_same v books h v' same = subst (λ x. IsInHand x books) (sym same) h

-- ACT

pub map_there : {X Y : Type 0} (f : X → Y) (xs : List X) (y : Y) → Contains (map f xs) y → (x : X) × Contains xs x × (f x ≡ y)
map_there f [] y c = absurd (let w = c.1 in omega arith)
map_there f (x ∷ xs) y (zero, low, is) = (x, (0, omega arith, refl), is)
map_there f (x ∷ xs) y (suc k, low, is) =
    let r = map_there f xs y (k, omega arith, is) in (r.0, (suc r.1.0, let w = r.1.1 in omega arith, r.1.2), r.2)

module _ (v : DeviceView) (books : TableView) (h : IsInHand v books) (tag : ℕ) where
  -- each machine has a fresh piece on the tag where the other has
  pub same_tags : IsPermutation (map piece_on_tag v.state.pieces) (map piece_on_tag (view_of v books).state.pieces)
  same_tags =
      IsPermutation-trans _ _ _ (IsPermutation-map piece_on_tag _ _ (IsPermutation-sym _ _ h.coupled.same.pieces))
      (subst (λ zs. IsPermutation zs (map piece_on_tag (view_of v books).state.pieces)) (on_tags h.coupled.j.divided) (IsPermutation-map piece_on_tag _ _ (shows v books h).pieces))

  carried : (s t : State) → IsPermutation (map piece_on_tag s.pieces) (map piece_on_tag t.pieces) → (p : Piece) → IsFreshOn s tag p → (q : Piece) × IsFreshOn t tag q × (q.number ≡ p.number)
  carried s t same p f =
      let r = map_there piece_on_tag t.pieces (piece_on_tag p) (Contains-permutation _ _ _ same (Contains-map piece_on_tag s.pieces p f.is_out)) in
      (r.0, record { is_out = r.1; is_tag = ap (λ (x : OnTag). x.tag) r.2 ∙ f.is_tag; is_fresh = ap (λ (x : OnTag). x.fate) r.2 ∙ f.is_fresh }, ap (λ (x : OnTag). x.number) r.2)

  pub acts_above : (v' : DeviceView) → ActsOrFaults v tag v' → IsOrderly v' → ActsOrFaults (view_of v books) tag (view_of v' books) × IsInHand v' books
  acts_above v' a ordered =
      let m = moves_above v books h.port h.sound h.coupled (a.label ∷ []) v' a.moves in
      let still = still_run v.rules v.state v'.state a.label a.piece.number a.told a.moves.run in
      let c = carried v.state (view_of v books).state same_tags a.piece a.fresh in (
        record { piece = c.0; label = a.label; fresh = c.1; told = subst (λ n. IsActOrFault n a.label) (sym c.2) a.told; if_booked = a.if_booked; moves = m.moves },
        hand_moved v books h (a.label ∷ []) v' m ordered (out_same v v' (tickets books) ordered a.moves.same_rooms h.rooms_out) (unfinished_still v.rules v.state v'.state still h.unfinished) (settled_still v.rules v.state v'.state still h.settled)
            (All-permutation (IsCounted v.rules) _ _ still.requests h.counted)
            (below_moved v books h.port h.sound h.coupled (a.label ∷ []) v' m
            (All-weaker (AreAsked (class_rules v.rules) v.state.requests) (AreAsked (class_rules v.rules) v'.state.requests) (asked_still (class_rules v.rules) v.state.requests v'.state.requests still.requests) (all_open books) h.below.asked)
            h.below),
      )

  pub acts_not_above : (v' : DeviceView) → ActsNot v tag v' → ActsNot (view_of v books) tag (view_of v' books)
  acts_not_above v' a = record {
    none = λ p f. let c = carried (view_of v books).state v.state (IsPermutation-sym _ _ same_tags) p f in a.none c.0 c.1;
    same = ap (λ (x : DeviceView). view_of x books) a.same;
  }

  pub either_acts : (v' : DeviceView) (result : Bool) → MatchBool result (ActsOrFaults v tag v') (ActsNot v tag v') → IsOrderly v'
      → MatchBool result (ActsOrFaults (view_of v books) tag (view_of v' books)) (ActsNot (view_of v books) tag (view_of v' books)) × IsInHand v' books
  either_acts v' true a ordered = acts_above v' a ordered
  either_acts v' false a ordered = (acts_not_above v' a, hand_same v books h v' a.same)

-- A LABEL TAKEN

module _ (v : DeviceView) (books : TableView) (h : IsInHand v books) where
  abbrev with_adapter : AdapterView → DeviceView
  with_adapter adapter = record v { adapter = adapter }

  -- the adapter shows the same sectors, and the same pieces on the same tags
  hand_beside : (adapter : AdapterView) → IsOrderly (with_adapter adapter) → adapter.sectors ≡ v.adapter.sectors → map use_on_tag adapter.tags ≡ map use_on_tag v.adapter.tags
      → IsInHand (with_adapter adapter) books
  hand_beside adapter ordered same_sectors same_uses = record {
    port = h.port;
    sound = h.sound;
    counted = h.counted;
    coupled = record { j = h.coupled.j; same = h.coupled.same; knows = h.coupled.knows; next_above = h.coupled.next_above; keeps = h.coupled.keeps };
    rooms_out = record { orderly = ordered; good = h.rooms_out.good; apart = h.rooms_out.apart; all = h.rooms_out.all };
    unfinished = h.unfinished;
    settled = h.settled;
    kept = h.kept;
    below = record {
      removing = h.below.removing;
      next_number = h.below.next_number;
      sent = h.below.sent;
      submitted = h.below.submitted;
      asked = h.below.asked;
      spotted = h.below.spotted;
      topmost = h.below.topmost;
      some = h.below.some;
      over = h.below.over;
    };
    orderly = record {
      adapter = ordered.adapter;
      read = record {
        same_size = ordered.read.same_size;
        same_sectors = ordered.read.same_sectors;
        same_depth = ordered.read.same_depth;
        arrays = subst (λ sectors. (view_of v books).state.arrays ≡ map (sectors_in sectors) v.rules.partitions) (sym same_sectors) h.orderly.read.arrays;
        pieces = subst (λ uses. IsPermutation (map piece_on_tag (view_of v books).state.pieces) uses) (sym same_uses) h.orderly.read.pieces;
        may_act = may_act_above (with_adapter adapter) h.port h.sound h.coupled.j h.coupled.same h.coupled.keeps (view_of v books).state (shows v books h) adapter.tags ordered.read.may_act;
      };
      distinct = h.orderly.distinct;
      places = h.orderly.places;
      packets = h.orderly.packets;
      spots = h.orderly.spots;
      vacant = h.orderly.vacant;
      sending = h.orderly.sending;
      labels = let l = ordered.labels in let e = same_pieces v books h in omega arith;
      uncounted = h.orderly.uncounted;
      none_owed = h.orderly.none_owed;
      not_removed = h.orderly.not_removed;
    };
  }

  pub takes_above : (v' : DeviceView) (label : Option DeviceLabel) → TakesLabel v label v' → IsOrderly v'
      → TakesLabel (view_of v books) label (view_of v' books) × IsInHand v' books
  takes_above v' None a ordered = ((a.0, ap (λ (x : DeviceView). view_of x books) a.1), hand_same v books h v' a.1)
  takes_above v' (Some label) (labels, is, same) ordered = (
    (labels, is, ap (λ (x : DeviceView). view_of x books) same),
    subst (λ x. IsInHand x books) (sym same) (hand_beside (record v.adapter { labels = labels }) (subst IsOrderly same ordered) refl refl),
  )

  pub forgets_above : (v' : DeviceView) → ForgetsLabels v v' → IsOrderly v'
      → ForgetsLabels (view_of v books) (view_of v' books) × IsInHand v' books
  forgets_above v' same ordered = (
    ap (λ (x : DeviceView). view_of x books) same,
    subst (λ x. IsInHand x books) (sym same) (hand_beside (record v.adapter { labels = [] }) (subst IsOrderly same ordered) refl refl),
  )

  -- WHAT IS BOOKED

  pub books_above : (v' : DeviceView) (tag piece : ℕ) (what : Result Entry Completion) → BooksPiece v tag piece what v' → IsOrderly v'
      → BooksPiece (view_of v books) tag piece what (view_of v' books) × IsInHand v' books
  books_above v' tag piece what b ordered = (
    record { adapter = b.adapter; same = ap (λ (x : DeviceView). view_of x books) b.same },
    subst (λ x. IsInHand x books) (sym b.same)
        (hand_beside v'.adapter (subst IsOrderly b.same ordered) (books_sectors v.adapter tag piece what v'.adapter b.adapter) (books_tags use_on_tag v.adapter tag piece what v'.adapter b.adapter (use_same what))),
  )
    where
      use_same : (what : Result Entry Completion) (u : TagInUse) → use_on_tag (with_booked what u) ≡ use_on_tag u
      use_same (Ok entry) u = refl
      use_same (Err completion) u = refl
