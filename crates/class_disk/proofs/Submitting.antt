-- A request is taken in: all of its parts are here, and then the layer below starts some.
use Rattle.std.proofs.Common.{◌≡◌, ◌<◌, ◌≤◌, ℕ, ◌+◌, false, List, [], ◌∷◌, ◌++◌, refl, sym, ◌∙◌, ap, subst, arith, map, length, get_or, replicate, Some, None}
use Rattle.std.specs.Prelude.{IsPermutation, All}
use Rattle.class_disk.proofs.Common.{SamePlaces, length-replicate, IsPermutation-cons, All-nil, All-cons, All-weaker, MovesByAll, DeviceLabel, ClientRequest, Request, Rules, place_count, as_client, Untouched, State, IsSame, request_number, AreCounted, Opens, refusal, bytes_carried, new_request, IsStart, as_label, IsSame-refl, Run-same, Payload, DeviceView, Packet, sent_bytes, whole_for, SetsRoom, Submits, StaysOpen, TableView, below_rules, class_rules, IsPort, shown_state, knowns, view_of, packet_above, IsCoupled, most_over, IsTaking}
use Rattle.class_disk.specs.inside.Joint.{Part, Here, Note, Kept, Known, note_of, known_of, Divided, Joint, parts_requests, parts_pieces, parts_marks, parts_busy, parts_lifted, requests_below, pieces_below, pieces_above, shown, below, above}
use Rattle.class_disk.specs.inside.Invariant.{IsSound, AreParts, IsMadeUp, IsCancelledAs, AgreesOnCancel, IsAhead, AreBehind, IsInTurn, places_in, AreCut, IsInPieces, Keeps}
use Rattle.class_disk.proofs.CoupledSteps.{replicate_more}
use Rattle.class_disk.proofs.Showing.{shown_is}
use Rattle.class_disk.proofs.Retaking.{taking_begins}
use Rattle.class_disk.proofs.PortRules.{port_rules}

-- A PART OF SO MANY PLACES, BEFORE IT IS SENT

abbrev pub new_part : ℕ → Part
new_part count = Here (replicate count Untouched) 0

abbrev pub new_note : ℕ → Note
new_note count = Kept (replicate count Untouched) 0

abbrev pub total : List ℕ → ℕ
total [] = 0
total (count ∷ counts) = count + total counts

pub new_notes : (counts : List ℕ) → map note_of (map new_part counts) ≡ map new_note counts
new_notes [] = refl
new_notes (count ∷ counts) = ap (λ ns. new_note count ∷ ns) (new_notes counts)

new_requests : (counts : List ℕ) → parts_requests (map new_part counts) ≡ []
new_requests [] = refl
new_requests (count ∷ counts) = new_requests counts

new_pieces : (counts : List ℕ) → parts_pieces (map new_part counts) ≡ []
new_pieces [] = refl
new_pieces (count ∷ counts) = new_pieces counts

new_lifted : (owner first : ℕ) (counts : List ℕ) → parts_lifted owner first (map new_part counts) ≡ []
new_lifted owner first [] = refl
new_lifted owner first (count ∷ counts) = new_lifted owner (first + length (replicate count Untouched)) counts

new_busy : (counts : List ℕ) → parts_busy (map new_part counts) ≡ 0
new_busy [] = refl
new_busy (count ∷ counts) = let e = new_busy counts in omega (arith, e)

new_marks : (counts : List ℕ) → parts_marks (map new_part counts) ≡ replicate (total counts) Untouched
new_marks [] = refl
new_marks (count ∷ counts) = ap (λ ms. replicate count Untouched ++ ms) (new_marks counts) ∙ replicate_more count (total counts) Untouched

new_made : (rules : Rules) (q : ClientRequest) (first : ℕ) (counts : List ℕ) → first + total counts ≡ place_count rules q → AreParts rules q first (map new_part counts)
new_made rules q first [] covers = omega (arith, covers)
new_made rules q first (count ∷ counts) covers =
    let long = length-replicate count Untouched in
    new_made rules q (first + length (replicate count Untouched)) counts (omega (arith, long, covers))

new_places : (counts : List ℕ) → map places_in (map new_part counts) ≡ counts
new_places [] = refl
new_places (count ∷ counts) = ap (λ n. n ∷ map places_in (map new_part counts)) (length-replicate count Untouched) ∙ ap (λ ns. count ∷ ns) (new_places counts)

-- the request has a number below this one
abbrev pub IsBefore : ℕ → Divided → Type 0
IsBefore number e = e.number < number

module _ (rules : Rules) (j : Joint) (number : ℕ) (q : ClientRequest) (counts : List ℕ) (covers : total counts ≡ place_count rules q) where
  abbrev pub new_divided : Divided
  new_divided = record { number = number; request = q; cancelled = false; parts = map new_part counts }

  abbrev pub with_new : Joint
  with_new = record j { next_above = number + 1; divided = new_divided ∷ j.divided }

  -- the machine above opens it
  pub opens_new : (t : State) → IsSame (above j) t → t.next_request ≤ number → refusal rules t q ≡ None → length q.bytes ≡ bytes_carried q.kind q.length → Opens rules t number q (above with_new)
  opens_new t same high free carries =
      let m : parts_marks (map new_part counts) ≡ replicate (place_count rules q) Untouched = new_marks counts ∙ ap (λ n. replicate n Untouched) covers in
      let made : shown new_divided ≡ new_request rules t number q =
      ap (λ z. record (shown new_divided) { marks = z }) m ∙ ap (λ z. record (new_request rules (above j) number q) { busy_returns = z }) (new_busy counts)
      ∙ ap (λ z. record (new_request rules (above j) number q) { late = z }) same.paused in
      record {
        new_number = high;
        not_refused = free;
        carries = carries;
        after = record {
          arrays = same.arrays;
          next_request = refl;
          next_piece = same.next_piece;
          requests = subst (λ z. IsPermutation (shown new_divided ∷ map shown j.divided) (z ∷ t.requests)) made (IsPermutation-cons (shown new_divided) _ _ same.requests);
          pieces = subst (λ z. IsPermutation (z ++ pieces_above j.divided) t.pieces) (sym (new_lifted number 0 counts)) same.pieces;
          owed = same.owed;
          paused = same.paused;
          removing = same.removing;
          removed = same.removed;
        };
      }

  -- the machine below stays as it was
  pub below_new : (s : State) → IsSame (below j) s → IsSame (below with_new) s
  below_new s same = record {
    arrays = same.arrays;
    next_request = same.next_request;
    next_piece = same.next_piece;
    requests = subst (λ z. IsPermutation (z ++ requests_below j.divided) s.requests) (sym (new_requests counts)) same.requests;
    pieces = subst (λ z. IsPermutation (z ++ pieces_below j.divided) s.pieces) (sym (new_pieces counts)) same.pieces;
    owed = same.owed;
    paused = same.paused;
    removing = same.removing;
    removed = same.removed;
  }

  -- and the coupling is kept: no part of it is below, and all other requests are earlier
  pub keeps_new : AreCut rules.max_transfer counts → All (IsBefore number) j.divided → Keeps rules j → Keeps rules with_new
  keeps_new cut before k = record {
    made_up = All-cons (IsMadeUp rules) new_divided j.divided (new_made rules q 0 counts (omega (arith, covers))) k.made_up;
    agree = All-cons AgreesOnCancel new_divided j.divided (subst (All (IsCancelledAs false)) (sym (new_requests counts)) (All-nil (IsCancelledAs false))) k.agree;
    in_turn = All-cons (IsInTurn j.removing (new_divided ∷ j.divided)) new_divided j.divided
        (subst (λ os. All (AreBehind j.removing (new_divided ∷ j.divided) number) (map request_number os)) (sym (new_requests counts)) (All-nil (AreBehind j.removing (new_divided ∷ j.divided) number)))
        (λ i d low. let x : Divided = get_or j.divided i d in
        let earlier : x.number < number = before i d low in
        All-weaker (AreBehind j.removing j.divided x.number) (AreBehind j.removing (new_divided ∷ j.divided) x.number)
        (λ n h. All-cons (IsAhead j.removing x.number n) new_divided j.divided (λ staying lower timely. absurd (omega arith)) h)
        (map request_number (parts_requests x.parts)) (k.in_turn i d low));
    in_pieces = All-cons (IsInPieces rules) new_divided j.divided
        (record { cut = subst (AreCut rules.max_transfer) (sym (new_places counts)) cut; few = let none = new_busy counts in omega arith }) k.in_pieces;
  }

  -- so the machine above runs from there on
  pub taking_new : rules.one_piece ≡ false → (s : State) (ks : List Known) → IsSame (below j) s → IsPermutation (map known_of j.divided) ks → AreCut rules.max_transfer counts → All (IsBefore number) j.divided → Keeps rules j → IsSound s → AreCounted (below_rules rules) s
      → IsTaking rules (above with_new) [] s (record { number = number; request = q; cancelled = false; parts = map new_note counts } ∷ ks)
  taking_new many s ks same knows cut before k sound counted =
      taking_begins rules many with_new s s _ [] (below_new s same)
      (subst (λ ns. IsPermutation (record { number = number; request = q; cancelled = false; parts = ns } ∷ map known_of j.divided) (record { number = number; request = q; cancelled = false; parts = map new_note counts } ∷ ks))
      (sym (new_notes counts)) (IsPermutation-cons _ _ _ knows))
      (keeps_new cut before k) sound counted (IsSame-refl s)

-- ALL PARTS ARE SENT: what the class driver shows has taken its request in
pub submits_above : (v : DeviceView) (b : TableView) (packet : Packet) (request : Request) (payload : Payload) (first : State) (starts : List DeviceLabel) (v' : DeviceView) (b' : TableView) → IsPort v.rules
    → Opens (class_rules v.rules) (view_of v b).state packet.number (as_client (class_rules v.rules) request (sent_bytes request.kind payload)) first
    → All IsStart starts → IsTaking (class_rules v.rules) first starts v'.state (knowns (class_rules v.rules) b') → MovesByAll v.adapter starts v'.adapter
    → v'.rules ≡ v.rules → v'.most ≡ v.most → SamePlaces (view_of v b) (view_of v' b') → first.next_request ≡ b'.last_request + 1 → b'.submitted ≡ b.submitted + 1 → IsPermutation (map packet_above b'.opens) (packet ∷ map packet_above b.opens)
    → SetsRoom b.rooms packet.spot (Some (whole_for request)) None b'.rooms
    → All (StaysOpen (view_of v' b').state) (view_of v b).state.requests
    → Submits (view_of v b) packet request payload (view_of v' b') × IsCoupled v' b' × IsSound v'.state × AreCounted v'.rules v'.state
submits_above v b packet request payload first starts v' b' port opens only t adapter same_rules same_most same_places next same_submitted same_packets spent others =
    let rules : Rules = class_rules v.rules in
    let next_above : t.j.next_above ≡ b'.last_request + 1 = t.next_above ∙ next in
    let shown_now : IsSame (above t.j) (view_of v' b').state =
    subst (λ r. IsSame (above t.j) (shown_state v'.state (b'.last_request + 1) (knowns (class_rules r) b'))) (sym same_rules)
    (subst (λ n. IsSame (above t.j) (shown_state v'.state n (knowns rules b'))) next_above
    (shown_is rules t.j v'.state (knowns rules b') t.same t.sound.distinct t.keeps t.knows)) in (
      record {
        room = spent;
        opened = first;
        starts = starts;
        opens = opens;
        only_starts = only;
        moves = record {
          same_rules = ap class_rules same_rules;
          same_packets = same_packets;
          same_rooms = λ spot. refl;
          same_submitted = same_submitted;
          same_most = ap most_over same_most;
          same_places = same_places;
          run = Run-same rules (map as_label starts) first first (above t.j) _ (IsSame-refl first) shown_now t.run;
          adapter = adapter;
        };
        others_stay = others;
      },
      record {
        j = t.j;
        same = t.same;
        knows = subst (λ r. IsPermutation (map known_of t.j.divided) (knowns (class_rules r) b')) (sym same_rules) t.knows;
        next_above = next_above;
        keeps = subst (λ r. Keeps (class_rules r) t.j) (sym same_rules) t.keeps;
      },
      t.sound,
      subst (λ r. AreCounted r v'.state) (sym same_rules) (subst (λ r. AreCounted r v'.state) (sym (port_rules port)) t.counted),
    )
