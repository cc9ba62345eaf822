-- A reset, and labels that are taken.
use Rattle.std.proofs.Common.{◌≡◌, ◌≤◌, inl, ℕ, ◌+◌, ◌-◌, Bool, true, false, not, List, [], ◌∷◌, ◌++◌, Option, Some, None, refl, sym, subst, ap, ◌∙◌, arith, map, length}
use Rattle.std.specs.Prelude.{All, IsNone, IsPermutation, MatchOption, filter}
use Rattle.std.proofs.lemmas.List.{length-append, length-map, map-append}
use Rattle.std.proofs.lemmas.List.Elements.{All-nil, All-cons, All-weaker, All-head, All-tail, All-map}
use Rattle.std.specs.List.Sorted.{IsStrictlyIncreasing}
use Rattle.std.proofs.lemmas.List.Sorted.{IsPermutation-refl, IsPermutation-sym, IsPermutation-trans, IsPermutation-cons, IsPermutation-map, IsPermutation-middle, IsPermutation-append_left, IsPermutation-append_right, IsPermutation-filter_both, All-permutation, length_permutation}
use Rattle.srb.specs.declared.Srb.{Srb}
use Rattle.srb.specs.declared.DeviceLabel.{DeviceLabel}
use Rattle.srb.specs.Fate.{Fate, Fresh, Acted, Faulted, is_fresh}
use Rattle.adapter.specs.View.{AdapterView, TagInUse, IsInOrder, IsSpoiled, MovesByAll, NotesReset}
use Rattle.adapter.specs.Calls.{Resets as AdapterResets, HasNoLabel, LeavesFirst, after_reset, srb_after_reset, fate_after_reset, IsLeftSo, tag_of, is_fresh_use, fault_of as use_fault}
use Rattle.machine.specs.declared.Request.{Request}
use Rattle.irp.specs.declared.Payload.TheVariants.{Srb as Packed}
use Rattle.machine.specs.Rules.{Rules, as_client}
use Rattle.machine.specs.State.{OpenRequest, Piece, State, IsSame}
use Rattle.machine.specs.Sending.{with_fate}
use Rattle.device.specs.View.{AsksFor, label_places, sent_bytes}
use Rattle.device.specs.Served.{Resets, piece_tag, is_fresh_piece, fault_of}
use Rattle.machine.specs.Step.{Run, as_label}
use Rattle.machine.proofs.Same.{IsSame-refl, Run-same}
use Rattle.machine.proofs.Numbers.{AreDistinct-Run}
use Rattle.port.specs.declared.queues.PortPacket.{PortPacket}
use Rattle.port.specs.inside.TableView.{PacketEntry, TableView, entry_of, spot_in}
use Rattle.port.specs.Shown.{rules_of, waiting_open, done_open, entry_on, entry_or_nobody, out_open, open_on, piece_on, packet as packet_as, of_packets, of_waiting, of_tag, of_done, state_of, view_of}
use Rattle.port.specs.inside.Invariant.{asked, IsInHand, IsRoom, IsWaiting, IsAtWork, IsDoing, IsTaken}
use Rattle.port.proofs.Places.{distinct_same}
use Rattle.port.proofs.Tags.{tags_fit}
use Rattle.port.proofs.Starting.{room_moves, waiting_moves}
use Rattle.port.proofs.Orderly.{in_hand, maps_are}
use Rattle.port.proofs.Spoiling.{spoiled_same, none_as_many}

-- THE MACHINE'S FAULTS

abbrev IsFreshFate : Piece → Type 0
IsFreshFate piece = piece.fate ≡ Fresh

abbrev faulted_piece : Piece → Piece
faulted_piece piece = with_fate Faulted piece

abbrev with_pieces : State → List Piece → State
with_pieces s pieces = record s { pieces = pieces }

same_pieces : (s : State) (ps qs : List Piece) → IsPermutation ps qs → IsSame (with_pieces s ps) (with_pieces s qs)
same_pieces s ps qs p = record {
  arrays = refl;
  next_request = refl;
  next_piece = refl;
  requests = IsPermutation-refl _;
  pieces = p;
  owed = refl;
  paused = refl;
  removing = refl;
  removed = refl;
}

faults_run : (rules : Rules) (s : State) (fresh rest : List Piece) → All IsFreshFate fresh → IsNone s.owed → IsPermutation s.pieces (fresh ++ rest)
    → Run rules s (map as_label (map fault_of fresh)) (with_pieces s (map faulted_piece fresh ++ rest))
faults_run rules s [] rest all none p = same_pieces s s.pieces rest p
faults_run rules s (f ∷ fs) rest all none p =
    let mid : State = with_pieces s (faulted_piece f ∷ (fs ++ rest)) in
    let more = faults_run rules mid fs (faulted_piece f ∷ rest) (All-tail IsFreshFate f fs all) none (IsPermutation-sym _ _ (IsPermutation-middle fs (faulted_piece f) rest)) in (
      mid,
      inl (
        none,
        record {
          piece = f;
          other_pieces = fs ++ rest;
          fresh = record { is_out = p; is_number = refl; is_fresh = All-head IsFreshFate f fs all };
          after = IsSame-refl _;
        },
      ),
      Run-same rules _ mid mid _ _ (IsSame-refl _) (same_pieces s _ _ (IsPermutation-middle (map faulted_piece fs) (faulted_piece f) rest)) more,
    )

-- THE TAGS

abbrev is_other : TagInUse → Bool
is_other use' = not (is_fresh_use use')

fresh_fates : (tags : List TagInUse) → All (λ u. u.fate ≡ Fresh) (filter is_fresh_use tags)
fresh_fates [] = All-nil (λ u. u.fate ≡ Fresh)
fresh_fates (u ∷ us) = by_fate (fresh_fates us) u.fate refl
  where
    by_fate : All (λ x. x.fate ≡ Fresh) (filter is_fresh_use us) → (fate : Fate) → u.fate ≡ fate → All (λ x. x.fate ≡ Fresh) (filter is_fresh_use (u ∷ us))
    by_fate h Fresh is = let e : is_fresh u.fate ≡ true = ap is_fresh is in rw e (All-cons (λ x. x.fate ≡ Fresh) u (filter is_fresh_use us) is h)
    by_fate h (Acted moved) is = rw is h
    by_fate h Faulted is = rw is h

filter_pieces : (rules : Rules) (started : List (Option PortPacket)) (tags : List TagInUse) → map (piece_on rules started) (filter is_fresh_use tags) ≡ filter is_fresh_piece (map (piece_on rules started) tags)
filter_pieces rules started [] = refl
filter_pieces rules started (u ∷ us) = by_fate (filter_pieces rules started us) u.fate refl
  where
    by_fate : map (piece_on rules started) (filter is_fresh_use us) ≡ filter is_fresh_piece (map (piece_on rules started) us) → (fate : Fate) → u.fate ≡ fate → map (piece_on rules started) (filter is_fresh_use (u ∷ us)) ≡ filter is_fresh_piece (map (piece_on rules started) (u ∷ us))
    by_fate h Fresh is =
        let e : is_fresh u.fate ≡ true = ap is_fresh is in
        rw e (ap (λ ps. piece_on rules started u ∷ ps) h)
    by_fate h (Acted moved) is = rw is h
    by_fate h Faulted is = rw is h

-- what had done nothing has faulted, and all else is as it was
reset_pieces : (left : TagInUse → Srb) (rules : Rules) (started : List (Option PortPacket)) (tags : List TagInUse)
    → IsPermutation (map (piece_on rules started) (map (after_reset left) tags)) (map faulted_piece (map (piece_on rules started) (filter is_fresh_use tags)) ++ map (piece_on rules started) (filter is_other tags))
reset_pieces left rules started [] = IsPermutation-refl _
reset_pieces left rules started (u ∷ us) = by_fate (reset_pieces left rules started us) u.fate refl
  where
    by_fate : IsPermutation (map (piece_on rules started) (map (after_reset left) us)) (map faulted_piece (map (piece_on rules started) (filter is_fresh_use us)) ++ map (piece_on rules started) (filter is_other us))
        → (fate : Fate) → u.fate ≡ fate
        → IsPermutation (map (piece_on rules started) (map (after_reset left) (u ∷ us))) (map faulted_piece (map (piece_on rules started) (filter is_fresh_use (u ∷ us))) ++ map (piece_on rules started) (filter is_other (u ∷ us)))
    by_fate h Fresh is = rw is (IsPermutation-cons _ _ _ h)
    by_fate h (Acted moved) is = rw is (IsPermutation-trans _ _ _ (IsPermutation-cons _ _ _ h) (IsPermutation-sym _ _ (IsPermutation-middle (map faulted_piece (map (piece_on rules started) (filter is_fresh_use us))) _ (map (piece_on rules started) (filter is_other us)))))
    by_fate h Faulted is = rw is (IsPermutation-trans _ _ _ (IsPermutation-cons _ _ _ h) (IsPermutation-sym _ _ (IsPermutation-middle (map faulted_piece (map (piece_on rules started) (filter is_fresh_use us))) _ (map (piece_on rules started) (filter is_other us)))))

-- a fresh piece's SRB is left as the reset may leave it
abbrev IsLeftIfFresh : (TagInUse → Srb) → TagInUse → Type 0
IsLeftIfFresh left u = u.fate ≡ Fresh → IsSpoiled u.srb (left u)

-- of the fresh ones each is so, hence each of all
left_if_fresh : (left : TagInUse → Srb) (tags fresh : List TagInUse) → IsPermutation (filter is_fresh_use tags) fresh → All (IsLeftSo left) fresh → All (IsLeftIfFresh left) tags
left_if_fresh left tags fresh p all = by tags (All-permutation (IsLeftSo left) _ _ (IsPermutation-sym _ _ p) all)
  where
    one : (u : TagInUse) (us : List TagInUse) → All (IsLeftSo left) (filter is_fresh_use (u ∷ us)) → IsLeftIfFresh left u
    one u us h fresh = All-head (IsLeftSo left) u (filter is_fresh_use us) (let e : is_fresh u.fate ≡ true = ap is_fresh fresh in rw e at h)

    rest : (u : TagInUse) (us : List TagInUse) (fate : Fate) → u.fate ≡ fate → All (IsLeftSo left) (filter is_fresh_use (u ∷ us)) → All (IsLeftSo left) (filter is_fresh_use us)
    rest u us Fresh is h = All-tail (IsLeftSo left) u (filter is_fresh_use us) (let e : is_fresh u.fate ≡ true = ap is_fresh is in rw e at h)
    rest u us (Acted moved) is h = let e : is_fresh u.fate ≡ false = ap is_fresh is in rw e at h
    rest u us Faulted is h = let e : is_fresh u.fate ≡ false = ap is_fresh is in rw e at h

    by : (us : List TagInUse) → All (IsLeftSo left) (filter is_fresh_use us) → All (IsLeftIfFresh left) us
    by [] h = All-nil (IsLeftIfFresh left)
    by (u ∷ us) h = All-cons (IsLeftIfFresh left) u us (one u us h) (by us (rest u us u.fate refl h))

work_reset : (left : TagInUse → Srb) (rules : Rules) (started : List (Option PortPacket)) (u : TagInUse) → IsLeftIfFresh left u → IsAtWork rules started u → IsAtWork rules started (after_reset left u)
work_reset left rules started u so w =
    record { held = w.held; on_tag = w.on_tag; bounded = w.bounded; doing = by_fate u.fate w.doing; empty = λ flush. none_by u.fate refl (w.empty flush) }
  where
    by_fate : (fate : Fate) → IsDoing rules w.held.request fate u.srb → IsDoing rules w.held.request (fate_after_reset fate) (srb_after_reset fate (left u) u.srb)
    by_fate Fresh h = tt
    by_fate (Acted moved) h = h
    by_fate Faulted h = tt

    none_by : (fate : Fate) → u.fate ≡ fate → u.srb.data ≡ [] → (srb_after_reset fate (left u) u.srb).data ≡ []
    none_by Fresh is none = none_as_many u.srb.data (left u).data (so is).as_many none
    none_by (Acted moved) is none = none
    none_by Faulted is none = none

works_reset : (left : TagInUse → Srb) (rules : Rules) (started : List (Option PortPacket)) (tags : List TagInUse) → All (IsLeftIfFresh left) tags → All (IsAtWork rules started) tags
    → All (IsAtWork rules started) (map (after_reset left) tags)
works_reset left rules started [] so w = All-nil (IsAtWork rules started)
works_reset left rules started (u ∷ us) so w =
    All-cons (IsAtWork rules started) (after_reset left u) (map (after_reset left) us)
    (work_reset left rules started u (All-head (IsLeftIfFresh left) u us so) (All-head (IsAtWork rules started) u us w))
    (works_reset left rules started us (All-tail (IsLeftIfFresh left) u us so) (All-tail (IsAtWork rules started) u us w))

-- what is shown open of a tag's packet, with another SRB
abbrev open_with : Rules → List (Option PortPacket) → TagInUse → Srb → OpenRequest
open_with rules started u srb = out_open rules (entry_on started u.tag) (record u { srb = srb })

open_reset : (left : TagInUse → Srb) (rules : Rules) (started : List (Option PortPacket)) (u : TagInUse) → IsLeftIfFresh left u → IsAtWork rules started u
    → open_on rules started (after_reset left u) ≡ open_on rules started u
open_reset left rules started u so w = by u.fate refl
  where
    by : (fate : Fate) → u.fate ≡ fate → open_with rules started u (srb_after_reset fate (left u) u.srb) ≡ open_with rules started u u.srb
    by Fresh fresh =
        let is : entry_on started u.tag ≡ entry_of w.held = ap entry_or_nobody w.on_tag in
        let request : Request = w.held.request in
        let asks : AsksFor rules request u.srb = subst (λ f. IsDoing rules request f u.srb) fresh w.doing in
        let sent : sent_bytes request.kind (Packed (left u)) ≡ sent_bytes request.kind (Packed u.srb) = spoiled_same rules request request.kind u.srb (left u) refl asks.asks (so fresh) in
        ap (λ (e : PacketEntry). out_open rules e (record u { srb = left u })) is
        ∙ ap (λ (bytes : List ℕ). record (out_open rules (entry_of w.held) u) { request = as_client rules request bytes }) sent
        ∙ sym (ap (λ (e : PacketEntry). out_open rules e u) is)
    by (Acted moved) fate = refl
    by Faulted fate = refl

opens_reset : (left : TagInUse → Srb) (rules : Rules) (started : List (Option PortPacket)) (tags : List TagInUse) → All (IsLeftIfFresh left) tags → All (IsAtWork rules started) tags
    → map (open_on rules started) (map (after_reset left) tags) ≡ map (open_on rules started) tags
opens_reset left rules started [] so w = refl
opens_reset left rules started (u ∷ us) so w =
    let first : open_on rules started (after_reset left u) ≡ open_on rules started u =
    open_reset left rules started u (All-head (IsLeftIfFresh left) u us so) (All-head (IsAtWork rules started) u us w) in
    let rest : map (open_on rules started) (map (after_reset left) us) ≡ map (open_on rules started) us =
    opens_reset left rules started us (All-tail (IsLeftIfFresh left) u us so) (All-tail (IsAtWork rules started) u us w) in
    cc

-- THE RESET

abbrev view_reset : AdapterView → List TagInUse → ℕ → List DeviceLabel → AdapterView
view_reset v tags failures labels = record v { tags = tags; failures = failures; labels = v.labels ++ labels }

packets_reset : {Y : Type 0} (left : TagInUse → Srb) (f : PacketEntry → Y) (b : TableView) (v : AdapterView) (tags' : List TagInUse) (failures : ℕ) (labels : List DeviceLabel) → IsPermutation tags' (map (after_reset left) v.tags)
    → IsPermutation (of_packets f b (view_reset v tags' failures labels)) (of_packets f b v)
packets_reset left f b v tags' failures labels p =
    let e : map (of_tag f b.started) (map (after_reset left) v.tags) ≡ map (of_tag f b.started) v.tags = maps_are (after_reset left) (of_tag f b.started) (of_tag f b.started) (λ u. refl) v.tags in
    IsPermutation-append_right (map (of_waiting f) b.waiting) _ _ (IsPermutation-append_left (map (of_done f) b.done) _ _ (subst (λ xs. IsPermutation (map (of_tag f b.started) tags') xs) e (IsPermutation-map (of_tag f b.started) _ _ p)))

reset_run : (left : TagInUse → Srb) (b : TableView) (v : AdapterView) (tags' fresh : List TagInUse) (failures : ℕ) (labels : List DeviceLabel) → IsPermutation tags' (map (after_reset left) v.tags) → IsPermutation (filter is_fresh_use v.tags) fresh
    → All (IsLeftIfFresh left) v.tags → All (IsAtWork (rules_of b.sizes) b.started) v.tags
    → Run (rules_of b.sizes) (state_of b v) (map as_label (map fault_of (map (piece_on (rules_of b.sizes) b.started) fresh))) (state_of b (view_reset v tags' failures labels))
reset_run left b v tags' fresh failures labels p f so w =
    let rules : Rules = rules_of b.sizes in
    let on : TagInUse → Piece = piece_on rules b.started in
    let split : IsPermutation (map on v.tags) (map on fresh ++ map on (filter is_other v.tags)) =
    IsPermutation-trans _ _ _ (subst (λ ps. IsPermutation (map on v.tags) ps) (map-append on (filter is_fresh_use v.tags) (filter is_other v.tags)) (IsPermutation-map on _ _ (IsPermutation-filter_both is_fresh_use is_other (λ u. refl) v.tags)))
    (IsPermutation-append_left (map on (filter is_other v.tags)) _ _ (IsPermutation-map on _ _ f)) in
    let all : All IsFreshFate (map on fresh) = All-map IsFreshFate on fresh (All-permutation (λ u. u.fate ≡ Fresh) _ _ f (fresh_fates v.tags)) in
    let run = faults_run rules (state_of b v) (map on fresh) (map on (filter is_other v.tags)) all refl split in
    let pieces : IsPermutation (map faulted_piece (map on fresh) ++ map on (filter is_other v.tags)) (map on tags') =
    IsPermutation-sym _ _ (IsPermutation-trans _ _ _ (IsPermutation-map on _ _ p) (IsPermutation-trans _ _ _ (reset_pieces left rules b.started v.tags)
    (IsPermutation-append_left (map on (filter is_other v.tags)) _ _ (IsPermutation-map faulted_piece _ _ (IsPermutation-map on _ _ f))))) in
    let e : map (open_on rules b.started) (map (after_reset left) v.tags) ≡ map (open_on rules b.started) v.tags = opens_reset left rules b.started v.tags so w in
    let opens : IsPermutation (map (open_on rules b.started) tags') (map (open_on rules b.started) v.tags) = subst (λ xs. IsPermutation (map (open_on rules b.started) tags') xs) e (IsPermutation-map (open_on rules b.started) _ _ p) in
    Run-same rules _ (state_of b v) (state_of b v) _ _ (IsSame-refl _) (record {
      arrays = refl;
      next_request = refl;
      next_piece = refl;
      requests = IsPermutation-append_right (map (waiting_open rules) b.waiting) _ _ (IsPermutation-append_left (map (done_open rules) b.done) _ _ (IsPermutation-sym _ _ opens));
      pieces = pieces;
      owed = refl;
      paused = refl;
      removing = refl;
      removed = refl;
    }) run

hand_reset : (left : TagInUse → Srb) (b : TableView) (v : AdapterView) (tags' fresh : List TagInUse) (failures : ℕ) (rooms : List Request) → IsInHand b v rooms → IsPermutation tags' (map (after_reset left) v.tags) → IsPermutation (filter is_fresh_use v.tags) fresh
    → length v.labels + (v.depth - length v.tags) + v.depth ≤ 64 → All (IsLeftIfFresh left) v.tags → IsInOrder (view_reset v tags' failures (map use_fault fresh)) → IsInHand b (view_reset v tags' failures (map use_fault fresh)) rooms
hand_reset left b v tags' fresh failures rooms i p f space so order =
    let k = i.kept in
    let rules : Rules = rules_of b.sizes in
    let v' : AdapterView = view_reset v tags' failures (map use_fault fresh) in
    let t = length_permutation _ _ p in
    let m = length-map v.tags (after_reset left) in
    let n = length_permutation _ _ f in
    let parts = length_permutation _ _ (IsPermutation-filter_both is_fresh_use is_other (λ u. refl) v.tags) in
    let sum = length-append (filter is_fresh_use v.tags) (filter is_other v.tags) in
    let fits = tags_fit v k.adapter in
    in_hand b v' rooms (record {
      adapter = order;
      sizes = record { sector_size = k.sizes.sector_size; sectors = k.sizes.sectors; max_transfer = k.sizes.max_transfer; depth = k.sizes.depth; faithful = k.sizes.faithful; keeps_bytes = k.sizes.keeps_bytes };
      started = k.started;
      waiting = All-weaker (IsWaiting rules v) (IsWaiting rules v') (waiting_moves rules v v' (λ extent r. r)) b.waiting k.waiting;
      in_turn = k.in_turn;
      at_work = All-permutation (IsAtWork rules b.started) _ _ (IsPermutation-sym _ _ p) (works_reset left rules b.started v.tags so k.at_work);
      ended = k.ended;
      reserved = All-permutation (IsRoom rules v') _ _ (IsPermutation-sym _ _ (packets_reset left asked b v tags' failures (map use_fault fresh) p)) (All-weaker (IsRoom rules v) (IsRoom rules v') (room_moves rules v v' (λ extent r. r)) (of_packets asked b v) k.reserved);
      spots = distinct_same _ _ (IsPermutation-sym _ _ (packets_reset left spot_in b v tags' failures (map use_fault fresh) p)) k.spots;
      taken = All-permutation (IsTaken b.rooms) _ _ (IsPermutation-sym _ _ (packets_reset left spot_in b v tags' failures (map use_fault fresh) p)) k.taken;
      rooms_out = All-weaker (IsRoom rules v) (IsRoom rules v') (room_moves rules v v' (λ extent r. r)) rooms k.rooms_out;
      removing = k.removing;
      distinct = AreDistinct-Run rules (state_of b v) _ _ k.distinct (reset_run left b v tags' fresh failures (map use_fault fresh) p f so k.at_work);
      places = let c = k.places in omega arith;
      submitted = k.submitted;
      accepted = k.accepted;
      numbered = k.numbered;
      labels = omega (arith, length-append v.labels (map use_fault fresh), length-map fresh use_fault);
    }) (λ free. i.busy (omega arith))

pub record IsReset (b : TableView) (v v' : AdapterView) : Type 0 where
  pub rooms : (rooms : List Request) → IsInHand b v rooms → IsInHand b v' rooms
  pub resets : Resets (view_of b v) (view_of b v')

pub reset_all : (b : TableView) (v v' : AdapterView) (rooms : List Request) → IsInHand b v rooms → label_places (view_of b v) + (rules_of b.sizes).depth ≤ 64 → AdapterResets v v' → IsInOrder v' → IsReset b v v'
reset_all b v v' rooms k space h order =
    let rules : Rules = rules_of b.sizes in
    let l = length-map v.tags (piece_on rules b.started) in
    let d = k.kept.sizes.depth in
    let room : length v.labels + (v.depth - length v.tags) + v.depth ≤ 64 = omega arith in
    let so : All (IsLeftIfFresh h.left) v.tags = left_if_fresh h.left v.tags h.fresh h.are_fresh h.spoiled in
    let faults : map fault_of (map (piece_on rules b.started) h.fresh) ≡ map use_fault h.fresh = maps_are (piece_on rules b.started) fault_of use_fault (λ u. refl) h.fresh in
    subst (λ x. IsReset b v x) (sym h.after) (record {
      rooms = λ rs i. hand_reset h.left b v h.tags h.fresh h.failures rs i h.in_use h.are_fresh room so (subst IsInOrder h.after order);
      resets = record {
        fresh = map (piece_on rules b.started) h.fresh;
        all_faulted = h.all_faulted;
        all_fresh = subst (λ ps. IsPermutation (map (piece_on rules b.started) h.fresh) ps) (filter_pieces rules b.started v.tags) (IsPermutation-map (piece_on rules b.started) _ _ (IsPermutation-sym _ _ h.are_fresh));
        rising = subst IsStrictlyIncreasing (sym (maps_are (piece_on rules b.started) piece_tag tag_of (λ u. refl) h.fresh)) h.rising;
        moves = record {
          same_rules = refl;
          same_packets = packets_reset h.left packet_as b v h.tags h.failures (map use_fault h.fresh) h.in_use;
          same_rooms = λ _. refl;
          same_submitted = refl;
          same_most = refl;
          same_places = refl;
          run = reset_run h.left b v h.tags h.fresh h.failures (map use_fault h.fresh) h.in_use h.are_fresh so k.kept.at_work;
          adapter = subst (λ ls. MovesByAll v ls h.all_faulted) (sym faults) h.moves;
        };
        noted = subst (λ x. NotesReset h.all_faulted x) h.after h.noted;
      };
    })

-- LABELS

-- with fewer labels
hand_fewer : (b : TableView) (v : AdapterView) (rooms : List Request) (labels : List DeviceLabel) → length labels ≤ length v.labels → IsInOrder (record v { labels = labels }) → IsInHand b v rooms
    → IsInHand b (record v { labels = labels }) rooms
hand_fewer b v rooms labels fewer order i =
    let k = i.kept in
    let rules : Rules = rules_of b.sizes in
    let x : AdapterView = record v { labels = labels } in
    in_hand b x rooms (record {
      adapter = order;
      sizes = record { sector_size = k.sizes.sector_size; sectors = k.sizes.sectors; max_transfer = k.sizes.max_transfer; depth = k.sizes.depth; faithful = k.sizes.faithful; keeps_bytes = k.sizes.keeps_bytes };
      started = k.started;
      waiting = All-weaker (IsWaiting rules v) (IsWaiting rules x) (waiting_moves rules v x (λ extent r. r)) b.waiting k.waiting;
      in_turn = k.in_turn;
      at_work = k.at_work;
      ended = k.ended;
      reserved = All-weaker (IsRoom rules v) (IsRoom rules x) (room_moves rules v x (λ extent r. r)) (of_packets asked b v) k.reserved;
      spots = k.spots;
      taken = k.taken;
      rooms_out = All-weaker (IsRoom rules v) (IsRoom rules x) (room_moves rules v x (λ extent r. r)) rooms k.rooms_out;
      removing = k.removing;
      distinct = k.distinct;
      places = k.places;
      submitted = k.submitted;
      accepted = k.accepted;
      numbered = k.numbered;
      labels = let c = k.labels in omega arith;
    }) i.busy

-- the earliest label leaves
pub hand_labels : (b : TableView) (v v' : AdapterView) (rooms : List Request) (result : Option DeviceLabel) → MatchOption result (HasNoLabel v v') (λ label. LeavesFirst v label v') → IsInOrder v' → IsInHand b v rooms → IsInHand b v' rooms
hand_labels b v v' rooms None h order i = subst (λ x. IsInHand b x rooms) (sym h.same) i
hand_labels b v v' rooms (Some label) h order i =
    let l = ap (λ (ls : List DeviceLabel). length ls) h.first in
    subst (λ x. IsInHand b x rooms) (sym h.after) (hand_fewer b v rooms h.rest (omega arith) (subst IsInOrder h.after order) i)

-- all are forgotten
pub hand_forgotten : (b : TableView) (v v' : AdapterView) (rooms : List Request) → v' ≡ record v { labels = [] } → IsInOrder v' → IsInHand b v rooms → IsInHand b v' rooms
hand_forgotten b v v' rooms after order i = subst (λ x. IsInHand b x rooms) (sym after) (hand_fewer b v rooms [] (omega arith) (subst IsInOrder after order) i)
