-- The request is in the table, and all of its parts are ready to be sent.
use Rattle.std.proofs.Common.{◌≡◌, ◌<◌, ◌≤◌, ℕ, ◌+◌, ◌^◌, ◌==◌, Bool, true, false, List, [], ◌∷◌, refl, sym, ◌∙◌, subst, arith, length, append_assoc}
use Rattle.class_disk.proofs.Common.{eqb-true, IsPermutation-refl, IsPermutation-sym, IsPermutation-trans, IsPermutation-append_left, IsPermutation-append_right, IsPermutation-append_comm, IsPermutation-map, All-permutation, length_permutation, All-nil, All-cons, All-head, All-tail, All-weaker, Irp, Rules, State, DeviceView, Carries, payload_bytes, AwaitsRestartIfEnded, Progress, AllOut, AreOwnedFrom, part_count_of, part_request_of, Opened, TableView, opened, all_open, ended_in, IsNothing, IsIfEnded, EndedAre, HasSome, IsOpening, class_rules, IsPort, OpensAt, new_opened}
use Rattle.std.specs.Prelude.{IsPermutation, All, IsFalse, if◌then◌else◌}
use Rattle.class_disk.specs.declared.parts.Part.{Part}
use Rattle.class_disk.specs.declared.parts.Progress.TheVariants.{Ready, Below, Ended as HasEnded}
use Rattle.class_disk.proofs.Rooms.{out_any_order}
use Rattle.class_disk.proofs.NewRequest.{held_there}
use Rattle.class_disk.specs.inside.Driver.{view_of, known, knowns, tickets, tickets_held, tickets_open, IsInHand, IsReadyBy, IsReadyPart, IsHeld, IsWrittenBy, IsAskedBy, IsSpottedBy, AreAsked, AreSpotted, IsCut}
use Rattle.class_disk.specs.inside.Parts.{IsDown, restarts_of, tickets_of}
use Rattle.class_disk.proofs.AnyOrder.{rooms_same, held_same, ended_same, left_same}
use Rattle.class_disk.proofs.Cutting.{can_cut}
use Rattle.class_disk.proofs.PiecePlaces.{as_many, parts_some, places_some}

-- AT REST nothing that has ended waits below
pub none_ended : (rules : Rules) → IsPort rules → (s : State) → All (AwaitsRestartIfEnded rules s) s.requests → EndedAre IsNothing rules s
none_ended rules port s all =
    All-weaker (AwaitsRestartIfEnded rules s) (IsIfEnded IsNothing rules s)
    (λ o not_yet ended. let whole : rules.one_piece ≡ true = port.one_piece in let awaits = not_yet ended in cc
    (awaits.in_pieces, whole)) s.requests all

-- PARTS THAT ARE READY

-- what holds of each part that is here, by its progress
ready_holds : (P : Part → Progress → Type 0) → ((x : Part) (unsent : _) → P x (Ready unsent)) → (x : Part) → IsReadyPart x → P x x.progress
ready_holds P holds x h = by x.progress h.1
  where
    by : (p : Progress) → IsReadyBy p → P x p
    by (Ready unsent) w = holds x unsent
    by (Below number spot) w = absurd w
    by (HasEnded ended) w = absurd w

no_restarts : (parts : List Part) → All IsReadyPart parts → restarts_of parts ≡ 0
no_restarts [] all = refl
no_restarts (x ∷ parts) all =
    let first : x.restarts ≡ 0 = (All-head IsReadyPart x parts all).0 in
    let rest = no_restarts parts (All-tail IsReadyPart x parts all) in
    omega arith

-- A REQUEST IS TAKEN IN

module _ (v : DeviceView) (b : TableView) (h : IsInHand v b) (slot : ℕ) (irp : Irp) (b1 : TableView) (opens : OpensAt b slot irp b1)
    (stays : IsFalse (view_of v b).state.removing) (timely : IsFalse irp.cancelled) (carries : Carries false (class_rules v.rules) opens.held.request irp.payload)
    (few : (view_of v b).submitted < (view_of v b).most) where
  abbrev rules : Rules
  rules = class_rules v.rules

  abbrev parts : List Part
  parts = opens.held.parts

  abbrev o : Opened
  o = new_opened irp opens.held.request parts

  abbrev b_new : TableView
  b_new = record b { held = b1.held; rooms = b1.rooms; opens = b1.opens; last_request = irp.number; submitted = b.submitted + 1 }

  is_room : IsHeld rules b.owners opens.held
  is_room = held_there rules b slot irp b1 opens h.kept

  is_cut : IsCut rules opens.held.request parts
  is_cut = is_room.cut opens.whole

  is_ready : All IsReadyPart parts
  is_ready = is_room.ready

  each : (P : Part → Progress → Type 0) → ((x : Part) (unsent : _) → P x (Ready unsent)) → All (λ (x : Part). P x x.progress) parts
  each P holds = All-weaker IsReadyPart (λ (x : Part). P x x.progress) (ready_holds P holds) parts is_ready

  open_first : IsPermutation (all_open b_new) (o ∷ all_open b)
  open_first = IsPermutation-map opened _ _ opens.opens

  one_more : (P : Opened → Type 0) → P o → All P (all_open b) → All P (all_open b_new)
  one_more P own all = All-permutation P _ _ (IsPermutation-sym _ _ open_first) (All-cons P o (all_open b) own all)

  long : length parts ≡ part_count_of rules.max_transfer opens.held.request
  long = as_many (part_request_of rules.max_transfer opens.held.request) 0 (part_count_of rules.max_transfer opens.held.request) parts is_cut.parts_are

  few_parts : length parts ≤ 2 ^ 16
  few_parts =
      let c = can_cut v b.sizes opens.held.request h.port h.rooms_out.orderly h.kept.sizes is_cut.bounded in
      let n : part_count_of rules.max_transfer opens.held.request ≤ 2 ^ 16 =
      subst (λ m. part_count_of m opens.held.request ≤ 2 ^ 16) h.kept.sizes.max_transfer c.count in
      let e = long in
      omega arith

  some_part : 0 < length parts
  some_part = let e = long in let n = parts_some rules.max_transfer opens.held.request h.port.some_transfer is_cut.bounded.some in omega arith

  rooms_open : AllOut v (tickets b_new)
  rooms_open =
      out_any_order v _ _ (IsPermutation-trans _ _ _ (IsPermutation-append_left (tickets_open (all_open b)) _ _ (held_same _ _ opens.fewer))
      (IsPermutation-trans _ _ _ (IsPermutation-append_left (tickets_open (all_open b)) _ _ (IsPermutation-append_comm (tickets_of parts) (tickets_held b1.held)))
      (subst (λ zs. IsPermutation zs (tickets b_new))
      (sym (append_assoc (tickets_held b1.held) (tickets_of parts) (tickets_open (all_open b))))
      (IsPermutation-append_right (tickets_held b1.held) _ _ (IsPermutation-sym _ _ (rooms_same _ _ open_first)))))) h.rooms_out

  ended_open : IsPermutation b.ended (ended_in b1.opens)
  ended_open =
      IsPermutation-trans _ _ _ h.kept.ended
      (IsPermutation-trans _ _ _ (not_yet (length parts) some_part) (IsPermutation-sym _ _ (ended_same _ _ opens.opens)))
    where
      not_yet : (n : ℕ) → 0 < n → IsPermutation (ended_in b.opens) (if n == 0 then slot ∷ ended_in b.opens else ended_in b.opens)
      not_yet n some = by (n == 0) refl
        where
          by : (t : Bool) → (n == 0) ≡ t → IsPermutation (ended_in b.opens) (if t then slot ∷ ended_in b.opens else ended_in b.opens)
          by false is = IsPermutation-refl _
          by true is = absurd (let e = eqb-true n 0 is in omega arith)

  pub opening_begins : IsOpening v b1 slot 0
  opening_begins = subst (λ (c : TableView). IsOpening v c slot 0) (sym opens.after) (record {
    port = h.port;
    o = o;
    others = b.opens;
    is_open = opens.is_open;
    others_are = opens.opens;
    not_cancelled = timely;
    staying = h.below.removing ∙ stays;
    rooms_out = rooms_open;
    ready_from = is_ready;
    sent = All-nil IsDown;
    sizes = h.kept.sizes;
    in_hand = All-tail (IsHeld rules b.owners) opens.held b1.held (All-permutation (IsHeld rules b.owners) _ _ opens.fewer h.kept.in_hand);
    opens = h.kept.opens;
    cut = record { bounded = is_cut.bounded; parts_are = is_cut.parts_are };
    carries = carries;
    buffered = is_room.buffered;
    written = each (λ x p. IsWrittenBy rules opens.held.request (payload_bytes irp.payload) x.request p) (λ x unsent. tt);
    owned = subst (λ n. AreOwnedFrom b.owners n 0 parts) opens.slot_is is_room.owned;
    lent = refl;
    restarts = (refl, no_restarts parts is_ready);
    unfinished = refl;
    ended = ended_open;
    causes = h.kept.causes;
    places = let p = h.kept.places in let a = length_permutation _ _ opens.fewer in let c = length_permutation _ _ opens.opens in omega arith;
    budget = let p = h.kept.budget in let a = left_same _ _ opens.opens in let c = few_parts in omega arith;
    next_number_is = h.below.next_number;
    few = h.below.sent;
    submitted = omega (arith, few);
    removing = h.below.removing;
    asked = one_more (AreAsked rules v.state.requests) (each (λ x p. IsAskedBy rules v.state.requests x.request p) (λ x unsent. tt)) h.below.asked;
    spotted = one_more (AreSpotted v.packets) (each (λ x p. IsSpottedBy v.packets p) (λ x unsent. tt)) h.below.spotted;
    topmost = h.below.topmost;
    some = All-permutation (HasSome rules) _ _ (IsPermutation-sym _ _ (IsPermutation-map (known rules) _ _ open_first))
        (All-cons (HasSome rules) (known rules o) (knowns rules b)
        (places_some rules h.kept.sizes.whole.some_bytes opens.held.request is_cut.bounded) h.below.some);
    over = h.below.over;
    none_ended = none_ended v.rules h.port v.state h.unfinished;
  })
