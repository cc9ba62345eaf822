-- A packet is taken in.
use Rattle.std.specs.Global.{Box}
use Rattle.std.proofs.Common.{◌≡◌, ◌<◌, ◌≤◌, ◌⊎◌, inl, inr, ℕ, ◌+◌, Bool, true, List, [], ◌∷◌, ◌++◌, Option, Some, None, ◌∙◌, refl, sym, subst, ap, arith, map, length, length-append}
use Rattle.std.specs.Prelude.{All, Contains, IsFalse, IsPermutation}
use Rattle.std.proofs.lemmas.Bool.{cases_lt}
use Rattle.std.proofs.lemmas.List.{map-append, append_assoc}
use Rattle.std.proofs.lemmas.List.Elements.{All-nil, All-cons, All-push, All-head, All-tail, All-weaker, Contains-append_right}
use Rattle.std.proofs.lemmas.List.Sorted.{IsPermutation-refl, IsPermutation-sym, IsPermutation-trans, IsPermutation-middle, All-permutation}
use Rattle.adapter.specs.View.{AdapterView}
use Rattle.irp.specs.declared.Irp.{Irp}
use Rattle.machine.specs.declared.Request.{Request}
use Rattle.machine.specs.Rules.{Rules, as_client}
use Rattle.machine.specs.State.{OpenRequest}
use Rattle.machine.specs.Calling.{Opens, new_request}
use Rattle.machine.specs.Numbers.{IsGiven}
use Rattle.device.specs.View.{Carries, sent_bytes, packet_of, whole_for}
use Rattle.device.specs.Served.{Submits, SetsRoom}
use Rattle.machine.proofs.Numbers.{AreDistinct-Admits}
use Rattle.port.specs.declared.queues.PortPacket.{PortPacket}
use Rattle.port.specs.inside.TableView.{held_with, PacketEntry, TableView, entry, spot_in}
use Rattle.port.specs.inside.TableCalls.{Queued, SetsSlot}
use Rattle.port.specs.Shown.{rules_of, most, waiting_open, open_on, done_open, packet as packet_as, of_packets, of_waiting, of_tag, of_done, state_of, view_of, requests_of}
use Rattle.port.specs.inside.Invariant.{asked, PortKept, IsBusy, IsInHand, IsRoom, IsWaiting, IsBefore, AreInTurn, IsTaken}
use Rattle.port.proofs.Places.{distinct_same, spots_more, taken_more, sets_room}
use Rattle.port.specs.inside.Releases.{begun_of, Releases}
use Rattle.port.proofs.Lists.{contains_behind}
use Rattle.device.proofs.Bounded.{not_refused, carries_bytes}
use Rattle.port.proofs.Starting.{kept_sector_some}
use Rattle.port.proofs.Opening.{true_false}

abbrev pub books_queued : TableView → Box Irp → Request → ℕ → List (Option (Option Request)) → TableView
books_queued b irp r spot slots = record b { waiting = b.waiting ++ held_with irp r spot ∷ []; last_request = irp.value.number; submitted = b.submitted + 1; rooms = slots }

abbrev pub numbered_below : ℕ → PortPacket → Type 0
numbered_below n held = held.irp.value.number < n

-- the last comes after all before it
turn_push : (waiting : List PortPacket) (held : PortPacket) → All (numbered_below held.irp.value.number) waiting → AreInTurn waiting → AreInTurn (waiting ++ held ∷ [])
turn_push [] held below h = (All-nil (IsBefore held), tt)
turn_push (x ∷ xs) held below h =
    (All-push (IsBefore x) xs held h.0 (All-head (numbered_below held.irp.value.number) x xs below), turn_push xs held (All-tail (numbered_below held.irp.value.number) x xs below) h.1)

-- those that wait have numbers that were given
waiting_given : (rules : Rules) (next : ℕ) (waiting : List PortPacket) (rest : List OpenRequest) → All (IsGiven next) (map (waiting_open rules) waiting ++ rest) → All (numbered_below next) waiting
waiting_given rules next [] rest h = All-nil (numbered_below next)
waiting_given rules next (x ∷ xs) rest h =
    All-cons (numbered_below next) x xs (All-head (IsGiven next) _ _ h) (waiting_given rules next xs rest (All-tail (IsGiven next) _ _ h))

behind_all : {X : Type 0} (before : List X) (x : X) (rest : List X) → IsPermutation ((before ++ x ∷ []) ++ rest) (x ∷ (before ++ rest))
behind_all before x rest = rw append_assoc (IsPermutation-middle before x rest)

pub record MayQueue (b : TableView) (irp : Box Irp) (r : Request) : Type 0 where
  pub stays : IsFalse b.removing
  pub number : b.last_request + 1 ≤ irp.value.number
  pub few : b.submitted < most
  pub not_cancelled : IsFalse irp.value.cancelled
  pub carries : Carries true (rules_of b.sizes) r irp.value.payload

opens_queued : (b : TableView) (v : AdapterView) (irp : Box Irp) (r : Request) (spot : ℕ) (slots : List (Option (Option Request))) (rooms : List Request) → PortKept b v (r ∷ rooms) → MayQueue b irp r
    → Opens (rules_of b.sizes) (state_of b v) irp.value.number (as_client (rules_of b.sizes) r (sent_bytes r.kind irp.value.payload)) (state_of (books_queued b irp r spot slots) v)
opens_queued b v irp r spot slots rooms k m =
    let rules : Rules = rules_of b.sizes in
    let room : IsRoom rules v r = All-head (IsRoom rules v) r rooms k.rooms_out in
    let some : 0 < b.sizes.sector_size = kept_sector_some b v (r ∷ rooms) k in
    record {
      new_number = m.number;
      not_refused = not_refused rules r (sent_bytes r.kind irp.value.payload) (state_of b v) some refl room.bounded m.stays;
      carries = carries_bytes true rules r irp.value.payload m.carries;
      after = record {
        arrays = refl;
        next_request = refl;
        next_piece = refl;
        requests = requests_after rules;
        pieces = IsPermutation-refl _;
        owed = refl;
        paused = refl;
        removing = refl;
        removed = refl;
      };
    }
  where
    requests_after : (rules : Rules) → IsPermutation (map (waiting_open rules) (b.waiting ++ held_with irp r spot ∷ []) ++ (map (open_on rules b.started) v.tags ++ map (done_open rules) b.done))
        (new_request rules (state_of b v) irp.value.number (as_client rules r (sent_bytes r.kind irp.value.payload)) ∷ (map (waiting_open rules) b.waiting ++ (map (open_on rules b.started) v.tags ++ map (done_open rules) b.done)))
    requests_after rules =
        let e : waiting_open rules (held_with irp r spot) ≡ new_request rules (state_of b v) irp.value.number (as_client rules r (sent_bytes r.kind irp.value.payload)) =
        ap (λ (flag : Bool). record (new_request rules (state_of b v) irp.value.number (as_client rules r (sent_bytes r.kind irp.value.payload))) { cancelled = flag }) m.not_cancelled in
        let p : IsPermutation ((map (waiting_open rules) b.waiting ++ waiting_open rules (held_with irp r spot) ∷ []) ++ (map (open_on rules b.started) v.tags ++ map (done_open rules) b.done)) (waiting_open rules (held_with irp r spot) ∷ (map (waiting_open rules) b.waiting ++ (map (open_on rules b.started) v.tags ++ map (done_open rules) b.done))) = behind_all (map (waiting_open rules) b.waiting) (waiting_open rules (held_with irp r spot)) (map (open_on rules b.started) v.tags ++ map (done_open rules) b.done) in
        subst (λ ws. IsPermutation (ws ++ (map (open_on rules b.started) v.tags ++ map (done_open rules) b.done)) (new_request rules (state_of b v) irp.value.number (as_client rules r (sent_bytes r.kind irp.value.payload)) ∷ (map (waiting_open rules) b.waiting ++ (map (open_on rules b.started) v.tags ++ map (done_open rules) b.done)))) (sym (map-append (waiting_open rules) b.waiting (held_with irp r spot ∷ [])))
        (subst (λ (x : OpenRequest). IsPermutation ((map (waiting_open rules) b.waiting ++ waiting_open rules (held_with irp r spot) ∷ []) ++ (map (open_on rules b.started) v.tags ++ map (done_open rules) b.done)) (x ∷ (map (waiting_open rules) b.waiting ++ (map (open_on rules b.started) v.tags ++ map (done_open rules) b.done)))) e p)

packets_queued : {Y : Type 0} (f : PacketEntry → Y) (b : TableView) (v : AdapterView) (irp : Box Irp) (r : Request) (spot : ℕ) (slots : List (Option (Option Request))) → IsPermutation (of_packets f (books_queued b irp r spot slots) v) (f (entry irp.value r spot) ∷ of_packets f b v)
packets_queued {Y} f b v irp r spot slots =
    subst (λ (ws : List Y). IsPermutation (ws ++ (map (of_tag f b.started) v.tags ++ map (of_done f) b.done)) (f (entry irp.value r spot) ∷ of_packets f b v)) (sym (map-append (of_waiting f) b.waiting (held_with irp r spot ∷ [])))
    (behind_all (map (of_waiting f) b.waiting) (f (entry irp.value r spot)) (map (of_tag f b.started) v.tags ++ map (of_done f) b.done))

kept_queued : (b : TableView) (v : AdapterView) (irp : Box Irp) (r : Request) (spot : ℕ) (slots : List (Option (Option Request))) (rooms : List Request) → PortKept b v (r ∷ rooms) → MayQueue b irp r → SetsSlot b.rooms spot (Some (Some r)) (Some None) slots → PortKept (books_queued b irp r spot slots) v rooms
kept_queued b v irp r spot slots rooms k m slot =
    let rules : Rules = rules_of b.sizes in
    let room : IsRoom rules v r = All-head (IsRoom rules v) r rooms k.rooms_out in
    let below : All (numbered_below irp.value.number) b.waiting =
    All-weaker (numbered_below (b.last_request + 1)) (numbered_below irp.value.number) (λ h low. omega (arith, m.number)) b.waiting (waiting_given rules (b.last_request + 1) b.waiting _ k.distinct.given) in
    let l = length-append b.waiting (held_with irp r spot ∷ []) in
    record {
      adapter = k.adapter;
      sizes = k.sizes;
      started = k.started;
      waiting = All-push (IsWaiting rules v) b.waiting (held_with irp r spot) k.waiting (record { room = room; carries = m.carries; not_cancelled = m.not_cancelled });
      in_turn = turn_push b.waiting (held_with irp r spot) below k.in_turn;
      at_work = k.at_work;
      ended = k.ended;
      reserved = All-permutation (IsRoom rules v) _ _ (IsPermutation-sym _ _ (packets_queued asked b v irp r spot slots)) (All-cons (IsRoom rules v) r (of_packets asked b v) room k.reserved);
      rooms_out = All-tail (IsRoom rules v) r rooms k.rooms_out;
      spots = distinct_same _ _ (IsPermutation-sym _ _ (packets_queued spot_in b v irp r spot slots)) (spots_more b.rooms spot r slots slot (of_packets spot_in b v) k.taken k.spots);
      taken = All-permutation (IsTaken slots) _ _ (IsPermutation-sym _ _ (packets_queued spot_in b v irp r spot slots)) (taken_more b.rooms spot r slots slot (of_packets spot_in b v) k.taken);
      removing = λ removes. true_false b.removing removes m.stays;
      distinct = AreDistinct-Admits rules (state_of b v) irp.value.number (as_client rules r (sent_bytes r.kind irp.value.payload)) None (state_of (books_queued b irp r spot slots) v) m.number k.distinct (opens_queued b v irp r spot slots rooms k m);
      places = let c = k.places in omega arith;
      submitted = let c = m.few in omega arith;
      accepted = let c = k.accepted in omega arith;
      numbered = let c = k.numbered in omega arith;
      labels = k.labels;
    }

-- with a tag free nothing waited; with none free nothing is started
others_queued : (b : TableView) (v : AdapterView) (irp : Box Irp) (r : Request) (spot : ℕ) (slots : List (Option (Option Request))) (rooms : List Request) (b' : TableView) (v' : AdapterView) → PortKept b v (r ∷ rooms) → MayQueue b irp r → IsBusy b v
    → Releases (books_queued b irp r spot slots) v b' v' → All (Contains (requests_of b' v')) (requests_of b v)
others_queued b v irp r spot slots rooms b' v' k m busy h = by_tags (cases_lt (length v.tags) v.depth)
  where
    by_tags : (length v.tags < v.depth) ⊎ (v.depth ≤ length v.tags) → All (Contains (requests_of b' v')) (requests_of b v)
    by_tags (inl free) =
        let waiting : List OpenRequest = map (waiting_open (rules_of b'.sizes)) b'.waiting in
        let stay : All (Contains (requests_of b' v')) (begun_of b v) =
        All-weaker (Contains (begun_of b' v')) (Contains (requests_of b' v')) (λ o c. Contains-append_right waiting (begun_of b' v') o c) (begun_of b v) h.stay in
        subst (λ (hs : List PortPacket). All (Contains (requests_of b' v')) (map (waiting_open (rules_of b.sizes)) hs ++ begun_of b v)) (sym (busy free)) stay
    by_tags (inr full) =
        let opens = opens_queued b v irp r spot slots rooms k m in
        let same = h.full full in
        subst (λ (x : TableView). All (Contains (requests_of x v')) (requests_of b v)) (sym same.0)
        (subst (λ (y : AdapterView). All (Contains (requests_of (books_queued b irp r spot slots) y)) (requests_of b v)) (sym same.1)
        (contains_behind (requests_of b v) (requests_of (books_queued b irp r spot slots) v) _ opens.after.requests))

-- the room is spent, and no start changes another
submitted_room : (b : TableView) (v : AdapterView) (irp : Box Irp) (r : Request) (spot : ℕ) (slots : List (Option (Option Request))) (b' : TableView) (v' : AdapterView) → SetsSlot b.rooms spot (Some (Some r)) (Some None) slots
    → Releases (books_queued b irp r spot slots) v b' v' → SetsRoom (view_of b v).rooms spot (Some (whole_for r)) None (view_of b' v').rooms
submitted_room b v irp r spot slots b' v' slot h =
    let x = sets_room b.rooms spot (Some (Some r)) (Some None) slots slot in
    record { was = x.was; is = h.moves.same_rooms spot ∙ x.is; others = λ other away. h.moves.same_rooms other ∙ x.others other away }

submits_queued : (b : TableView) (v : AdapterView) (irp : Box Irp) (r : Request) (spot : ℕ) (slots : List (Option (Option Request))) (rooms : List Request) (b' : TableView) (v' : AdapterView) → PortKept b v (r ∷ rooms) → MayQueue b irp r → IsBusy b v → SetsSlot b.rooms spot (Some (Some r)) (Some None) slots
    → Releases (books_queued b irp r spot slots) v b' v' → Submits (view_of b v) (packet_of irp.value spot) r irp.value.payload (view_of b' v')
submits_queued b v irp r spot slots rooms b' v' k m busy slot h = record {
  room = submitted_room b v irp r spot slots b' v' slot h;
  opened = state_of (books_queued b irp r spot slots) v;
  starts = h.starts;
  opens = opens_queued b v irp r spot slots rooms k m;
  only_starts = h.only_starts;
  moves = record {
    same_rules = h.moves.same_rules;
    same_packets = IsPermutation-trans _ _ _ h.moves.same_packets (packets_queued packet_as b v irp r spot slots);
    same_rooms = λ _. refl;
    same_submitted = h.moves.same_submitted;
    same_most = h.moves.same_most;
    same_places = h.moves.same_places;
    run = h.moves.run;
    adapter = h.moves.adapter;
  };
  others_stay = others_queued b v irp r spot slots rooms b' v' k m busy h;
}

-- as the queues say it
pub queued_kept : (b : TableView) (v : AdapterView) (irp : Box Irp) (r : Request) (spot : ℕ) (b' : TableView) → Queued b irp r spot b' → MayQueue b irp r → (rooms : List Request) → PortKept b v (r ∷ rooms) → PortKept b' v rooms
queued_kept b v irp r spot b' q m rooms k = subst (λ x. PortKept x v rooms) (sym q.after) (kept_queued b v irp r spot b'.rooms rooms k m q.slot)

pub queued_submits : (b : TableView) (v : AdapterView) (irp : Box Irp) (r : Request) (spot : ℕ) (rooms : List Request) (b' c : TableView) (v' : AdapterView) → Queued b irp r spot b' → MayQueue b irp r → IsInHand b v (r ∷ rooms)
    → Releases b' v c v' → Submits (view_of b v) (packet_of irp.value spot) r irp.value.payload (view_of c v')
queued_submits b v irp r spot rooms b' c v' q m k h = submits_queued b v irp r spot b'.rooms rooms c v' k.kept m k.busy q.slot (subst (λ x. Releases x v c v') q.after h)
