-- A cancellation: the class driver's own flag, and then the parts below one by one.
use Rattle.std.proofs.Common.{◌≡◌, ◌≤◌, inl, inr, ℕ, ◌+◌, true, false, List, [], ◌∷◌, ◌++◌, refl, sym, ◌∙◌, ap, subst, arith, map, length, length-append}
use Rattle.std.specs.Prelude.{IsPermutation, All, Contains, IsFalse}
use Rattle.class_disk.proofs.Common.{room_in_all, map-append, IsPermutation-refl, IsPermutation-sym, IsPermutation-trans, IsPermutation-cons, IsPermutation-middle, IsPermutation-map, All-permutation, Contains-permutation, All-nil, All-cons, All-head, All-tail, All-weaker, All-map, ClientRequest, Cancel, Request, Rules, OpenRequest, State, IsSame, request_number, AreCounted, Cancels, as_cancelled, Step, IsSame-refl, IsSame-sym, IsSame-trans, Step-same, IsPermutation-uncons, AreDistinct-Step, AreDistinct-same, DeviceView, IsOrderly, IsTopmost, room_at, IsBeside, Progress, Unsent, class_rules, cancelled_one, note, known, knowns, view_of, packet_above, tickets_held, tickets_open, IsAsked, IsAskedBy, AreAsked, AreSpotted, IsOpen, AreKept, AreBelow, IsInHand, HaveCauses, tickets, most_over, AllOut, IsTaking, IsMidway, CancelsAll, packet_of_part, TakesAll}
use Rattle.class_disk.specs.declared.parts.Progress.TheVariants.{Ready, Below as SentBelow, Ended as HasEnded}
use Rattle.class_disk.specs.inside.Joint.{Part, Below, Here, Known, note_of, known_of, Divided, Joint, IsPartOf, parts_requests, parts_marks, parts_busy, parts_lifted, shown, pieces_above, below, above, lifted, shown_mark}
use Rattle.class_disk.specs.inside.Invariant.{AreParts, IsMadeUp, IsCancelledAs, AgreesOnCancel, IsAhead, AreBehind, IsInTurn, places_in, AreCut, begins_back, parts_back, IsInPieces, Keeps, NeverSent, IsOver, HasSome, noted_busy}
use Rattle.class_disk.specs.inside.TableView.{Opened, TableView, opened, all_open, put_at, ended_in, restarts_left}
use Rattle.class_disk.proofs.Rooms.{out_same}
use Rattle.class_disk.proofs.Standing.{IsApart}
use Rattle.class_disk.proofs.Focus as focus
use Rattle.class_disk.proofs.CoupledSteps.{Cancels-above}
use Rattle.class_disk.proofs.Acting.{map_there, spotted_still, shows}
use Rattle.class_disk.proofs.Ending.{ends_unsent, never_sent}
use Rattle.class_disk.proofs.Causes.{causes_more}
use Rattle.class_disk.proofs.Standing.{StandsIn, is_put, split_there, All-middle, All-at}
use Rattle.class_disk.proofs.Noting.{ended-append, left-append, tickets_open-append}
use Rattle.class_disk.proofs.Midst.{InMidst, AllCancelled, cancelled_part, all_cancelled}
use Rattle.class_disk.proofs.Withdrawn.{StandsAgain, stands_again, same_adapter, over_more}
use Rattle.class_disk.proofs.PortRules.{port_rules}
use Rattle.class_disk.proofs.CoupledRun.{keeps_permuted}

-- CANCELLED PARTS SHOW AS THEY WERE

marks_cancelled : (ps : List Part) → parts_marks (map cancelled_part ps) ≡ parts_marks ps
marks_cancelled [] = refl
marks_cancelled (Below o again pieces ∷ ps) = ap (λ zs. map (shown_mark again) o.marks ++ zs) (marks_cancelled ps)
marks_cancelled (Here marks busy ∷ ps) = ap (λ zs. marks ++ zs) (marks_cancelled ps)

busy_cancelled : (ps : List Part) → parts_busy (map cancelled_part ps) ≡ parts_busy ps
busy_cancelled [] = refl
busy_cancelled (Below o again pieces ∷ ps) = ap (λ n. again + o.busy_returns + n) (busy_cancelled ps)
busy_cancelled (Here marks busy ∷ ps) = ap (λ n. busy + n) (busy_cancelled ps)

back_cancelled : (ps : List Part) → parts_back (map cancelled_part ps) ≡ parts_back ps
back_cancelled [] = refl
back_cancelled (Below o again pieces ∷ ps) = ap (λ n. begins_back o.marks + n) (back_cancelled ps)
back_cancelled (Here marks busy ∷ ps) = ap (λ n. begins_back marks + n) (back_cancelled ps)

places_cancelled : (ps : List Part) → map places_in (map cancelled_part ps) ≡ map places_in ps
places_cancelled [] = refl
places_cancelled (Below o again pieces ∷ ps) = ap (λ ns. length o.marks ∷ ns) (places_cancelled ps)
places_cancelled (Here marks busy ∷ ps) = ap (λ ns. length marks ∷ ns) (places_cancelled ps)

lifted_cancelled : (owner first : ℕ) (ps : List Part) → parts_lifted owner first (map cancelled_part ps) ≡ parts_lifted owner first ps
lifted_cancelled owner first [] = refl
lifted_cancelled owner first (Below o again pieces ∷ ps) = ap (λ zs. map (lifted owner first) pieces ++ zs) (lifted_cancelled owner (first + length o.marks) ps)
lifted_cancelled owner first (Here marks busy ∷ ps) = lifted_cancelled owner (first + length marks) ps

notes_cancelled : (ps : List Part) → map note_of (map cancelled_part ps) ≡ map note_of ps
notes_cancelled [] = refl
notes_cancelled (Below o again pieces ∷ ps) = ap (λ ns. note_of (Below o again pieces) ∷ ns) (notes_cancelled ps)
notes_cancelled (Here marks busy ∷ ps) = ap (λ ns. note_of (Here marks busy) ∷ ns) (notes_cancelled ps)

numbers_cancelled : (ps : List Part) → map request_number (parts_requests (map cancelled_part ps)) ≡ map request_number (parts_requests ps)
numbers_cancelled [] = refl
numbers_cancelled (Below o again pieces ∷ ps) = ap (λ ns. o.number ∷ ns) (numbers_cancelled ps)
numbers_cancelled (Here marks busy ∷ ps) = numbers_cancelled ps

part_of_cancelled : (rules : Rules) (q : ClientRequest) (first : ℕ) (o : OpenRequest) → IsPartOf rules q first o → IsPartOf rules q first (as_cancelled o)
part_of_cancelled rules q first o h = record { kind = h.kind; through = h.through; partition = h.partition; from = h.from; short = h.short; timely = h.timely; bytes = h.bytes; long = h.long }

parts_cancelled : (rules : Rules) (q : ClientRequest) (first : ℕ) (ps : List Part) → AreParts rules q first ps → AreParts rules q first (map cancelled_part ps)
parts_cancelled rules q first [] h = h
parts_cancelled rules q first (Below o again pieces ∷ ps) h = (part_of_cancelled rules q first o h.0, h.1, parts_cancelled rules q (first + length o.marks) ps h.2)
parts_cancelled rules q first (Here marks busy ∷ ps) h = parts_cancelled rules q (first + length marks) ps h

agree_cancelled : (ps : List Part) → All (IsCancelledAs true) (parts_requests (map cancelled_part ps))
agree_cancelled [] = All-nil (IsCancelledAs true)
agree_cancelled (Below o again pieces ∷ ps) = All-cons (IsCancelledAs true) (as_cancelled o) (parts_requests (map cancelled_part ps)) refl (agree_cancelled ps)
agree_cancelled (Here marks busy ∷ ps) = agree_cancelled ps

-- the request with its parts, cancelled
abbrev pub cancelled_divided : Divided → Divided
cancelled_divided e = record e { cancelled = true; parts = map cancelled_part e.parts }

pieces_cancelled : (rules : Rules) (e : Divided) → IsInPieces rules e → IsInPieces rules (cancelled_divided e)
pieces_cancelled rules e h =
    let few = h.few in
    let busy = busy_cancelled e.parts in
    let came = back_cancelled e.parts in
    record { cut = subst (AreCut rules.max_transfer) (sym (places_cancelled e.parts)) h.cut; few = omega (arith, few, busy, came) }

module _ (rules : Rules) (j : Joint) (e : Divided) (es : List Divided) where
  -- a cancelled request is ahead of none
  behind_cancelled : (n m : ℕ) → AreBehind j.removing (e ∷ es) n m → AreBehind j.removing (cancelled_divided e ∷ es) n m
  behind_cancelled n m all = All-cons (IsAhead j.removing n m) (cancelled_divided e) es (λ staying lower timely. absurd (cc (timely))) (All-tail (IsAhead j.removing n m) e es all)

  keeps_cancelled : Keeps rules (record j { divided = e ∷ es }) → Keeps rules (record j { divided = cancelled_divided e ∷ es })
  keeps_cancelled k = record {
    made_up = All-cons (IsMadeUp rules) (cancelled_divided e) es (parts_cancelled rules e.request 0 e.parts (All-head (IsMadeUp rules) e es k.made_up)) (All-tail (IsMadeUp rules) e es k.made_up);
    agree = All-cons AgreesOnCancel (cancelled_divided e) es (agree_cancelled e.parts) (All-tail AgreesOnCancel e es k.agree);
    in_turn = All-cons (IsInTurn j.removing (cancelled_divided e ∷ es)) (cancelled_divided e) es
        (subst (All (AreBehind j.removing (cancelled_divided e ∷ es) e.number)) (sym (numbers_cancelled e.parts))
        (All-weaker (AreBehind j.removing (e ∷ es) e.number) (AreBehind j.removing (cancelled_divided e ∷ es) e.number) (behind_cancelled e.number) (map request_number (parts_requests e.parts))
        (All-head (IsInTurn j.removing (e ∷ es)) e es k.in_turn)))
        (All-weaker (IsInTurn j.removing (e ∷ es)) (IsInTurn j.removing (cancelled_divided e ∷ es))
        (λ x. All-weaker (AreBehind j.removing (e ∷ es) x.number) (AreBehind j.removing (cancelled_divided e ∷ es) x.number) (behind_cancelled x.number) (map request_number (parts_requests x.parts)))
        es (All-tail (IsInTurn j.removing (e ∷ es)) e es k.in_turn));
    in_pieces = All-cons (IsInPieces rules) (cancelled_divided e) es (pieces_cancelled rules e (All-head (IsInPieces rules) e es k.in_pieces)) (All-tail (IsInPieces rules) e es k.in_pieces);
  }

  -- above it is one cancel
  shown_cancelled : shown (record e { cancelled = true }) ≡ shown (cancelled_divided e)
  shown_cancelled =
      ap (λ (n : ℕ). record (shown (record e { cancelled = true })) { busy_returns = n }) (sym (busy_cancelled e.parts))
      ∙ ap (λ ms. record (shown (record e { cancelled = true })) { busy_returns = parts_busy (map cancelled_part e.parts); marks = ms }) (sym (marks_cancelled e.parts))

  cancels_there : IsFalse e.cancelled → Cancels (above (record j { divided = e ∷ es })) e.number (above (record j { divided = cancelled_divided e ∷ es }))
  cancels_there timely =
      let c = Cancels-above j e es timely in
      let pieces : parts_lifted e.number 0 e.parts ++ pieces_above es ≡ parts_lifted e.number 0 (map cancelled_part e.parts) ++ pieces_above es = ap (λ zs. zs ++ pieces_above es) (sym (lifted_cancelled e.number 0 e.parts)) in
      record {
        request = c.request;
        others = c.others;
        is_open = c.is_open;
        is_number = c.is_number;
        not_yet = c.not_yet;
        after = IsSame-trans _ _ _ (IsSame-sym _ _ (record {
          arrays = refl;
          next_request = refl;
          next_piece = refl;
          requests = subst (λ x. IsPermutation (shown (record e { cancelled = true }) ∷ map shown es) (x ∷ map shown es)) shown_cancelled (IsPermutation-refl _);
          pieces = subst (λ zs. IsPermutation (parts_lifted e.number 0 e.parts ++ pieces_above es) zs) pieces (IsPermutation-refl _);
          owed = refl;
          paused = refl;
          removing = refl;
          removed = refl;
        })) c.after;
      }

-- MIDWAY, with all parts cancelled

module _ (v : DeviceView) (b : TableView) (h : IsInHand v b) (slot : ℕ) (o : Opened) (s : StandsIn b.opens slot o) (timely : IsFalse o.irp.cancelled) (v1 : DeviceView) (all : CancelsAll v (map packet_of_part o.parts) v1) (ordered1 : IsOrderly v1) where
  abbrev pub books_cancelled : TableView
  books_cancelled = record b { opens = put_at slot (cancelled_one o) b.opens }

  abbrev rules : Rules
  rules = class_rules v.rules

  abbrev j : Joint
  j = h.coupled.j

  others : List Known
  others = map (known rules) (map opened (s.before ++ s.after))

  opens_now : books_cancelled.opens ≡ s.before ++ ((slot, cancelled_one o) ∷ s.after)
  opens_now = is_put b.opens slot o s (cancelled_one o)

  known_old : IsPermutation (knowns rules b) (known rules o ∷ map (known rules) (map opened (s.before ++ s.after)))
  known_old = IsPermutation-map (known rules) _ _ (IsPermutation-map opened _ _ (subst (λ xs. IsPermutation xs ((slot, o) ∷ (s.before ++ s.after))) (sym s.opens_are) (IsPermutation-middle s.before (slot, o) s.after)))

  known_now : IsPermutation (knowns rules books_cancelled) (known rules (cancelled_one o) ∷ map (known rules) (map opened (s.before ++ s.after)))
  known_now =
      IsPermutation-map (known rules) _ _ (IsPermutation-map opened _ _ (subst (λ xs. IsPermutation xs ((slot, cancelled_one o) ∷ (s.before ++ s.after))) (sym opens_now) (IsPermutation-middle s.before (slot, cancelled_one o) s.after)))

  -- the request in the coupling
  pub record InCoupling : Type 0 where
    pub e : Divided
    pub es : List Divided
    pub is_known : known_of e ≡ known rules o
    pub moved : IsPermutation j.divided (e ∷ es)
    pub same_below : IsSame (below j) (below (record j { divided = e ∷ es }))
    pub same_above : IsSame (above j) (above (record j { divided = e ∷ es }))

  in_coupling : InCoupling
  in_coupling =
      let there : Contains (map known_of j.divided) (known rules o) = Contains-permutation _ _ (known rules o) (IsPermutation-sym _ _ h.coupled.knows) (Contains-permutation _ _ (known rules o) (IsPermutation-sym _ _ known_old) (0, omega arith, refl)) in
      let m = map_there known_of j.divided (known rules o) there in
      let sp = split_there m.0 j.divided m.1 in
      record {
        e = m.0;
        es = sp.0 ++ sp.1;
        is_known = m.2;
        moved = subst (λ ms. IsPermutation ms (m.0 ∷ (sp.0 ++ sp.1))) (sym sp.2) (IsPermutation-middle sp.0 m.0 sp.1);
        same_below = subst (λ ms. IsSame (below (record j { divided = ms })) (below (record j { divided = m.0 ∷ (sp.0 ++ sp.1) }))) (sym sp.2) (focus.below_first j sp.0 m.0 sp.1);
        same_above = subst (λ ms. IsSame (above (record j { divided = ms })) (above (record j { divided = m.0 ∷ (sp.0 ++ sp.1) }))) (sym sp.2) (focus.above_first j sp.0 m.0 sp.1);
      }

  module _ (i : InCoupling) where
    abbrev pub joint_cancelled : Joint
    joint_cancelled = record j { divided = cancelled_divided i.e ∷ i.es }

    keeps_first : Keeps rules (record j { divided = i.e ∷ i.es })
    keeps_first = keeps_permuted rules j (i.e ∷ i.es) i.moved h.coupled.keeps

    e_timely : i.e.cancelled ≡ false
    e_timely = ap (λ (k : Known). k.cancelled) i.is_known ∙ timely

    -- of the entries of the table
    opened_all : (P : Opened → Type 0) (es : List (ℕ × Opened)) → All P (map opened es) → All (λ e. P (opened e)) es
    opened_all P [] h' = All-nil (λ e. P (opened e))
    opened_all P (x ∷ es) h' = All-cons (λ y. P (opened y)) x es (All-head P (opened x) (map opened es) h') (opened_all P es (All-tail P (opened x) (map opened es) h'))

    of_one : (P : Opened → Type 0) → All P (all_open b) → P o
    of_one P h' = All-at (λ e. P (opened e)) s.before (slot, o) s.after (subst (All (λ e. P (opened e))) s.opens_are (opened_all P b.opens h'))

    -- what holds of the request holds of it cancelled
    of_now : (P : Opened → Type 0) → (P o → P (cancelled_one o)) → All P (all_open b) → All P (all_open books_cancelled)
    of_now P more h' =
        All-map P opened books_cancelled.opens
        (subst (All (λ e. P (opened e))) (sym opens_now)
        (All-middle (λ e. P (opened e)) s.before (slot, o) (slot, cancelled_one o) s.after more (subst (All (λ e. P (opened e))) s.opens_are (opened_all P b.opens h'))))

    cancelled : AllCancelled j i.e i.es [] i.e.parts v v1
    cancelled =
        all_cancelled rules j i.e i.es v (h.port.one_piece) [] i.e.parts o.parts (ap (λ (k : Known). k.parts) i.is_known) v v1
        (record {
          beside = record { same_rules = refl; same_packets = IsPermutation-refl _; same_rooms = λ spot. refl; same_submitted = refl; same_most = refl; same_places = refl; same_adapter = refl };
          sound = h.sound;
          counted = h.counted;
          unsent = ends_unsent v.rules (h.port.first_busy) (h.port.one_piece)
              v.state h.sound h.rooms_out.orderly.places h.unfinished;
          asked = λ r q n h'. h';
          next = refl;
          removing = refl;
        })
        (IsSame-trans _ _ _ (IsSame-sym _ _ i.same_below) h.coupled.same)
        (of_one (AreSpotted v.packets) h.below.spotted)
        (subst (λ t. All (IsCancelledAs t) (parts_requests i.e.parts)) e_timely (All-head AgreesOnCancel i.e i.es keeps_first.agree))
        all

    m : InMidst v v1
    m = cancelled.midst

    known_cancelled : known_of (cancelled_divided i.e) ≡ known rules (cancelled_one o)
    known_cancelled =
        ap (λ ns. record (known_of i.e) { cancelled = true; parts = ns }) (notes_cancelled i.e.parts) ∙ ap (λ (k : Known). record k { cancelled = true }) i.is_known

    others_known : IsPermutation (map known_of i.es) (map (known rules) (map opened (s.before ++ s.after)))
    others_known =
        IsPermutation-uncons (known rules o) _ _ (IsPermutation-trans _ _ _
        (subst (λ k. IsPermutation (k ∷ map known_of i.es) (map known_of j.divided)) i.is_known (IsPermutation-sym _ _ (IsPermutation-map known_of _ _ i.moved)))
        (IsPermutation-trans _ _ _ h.coupled.knows known_old))

    taking : IsTaking rules (above joint_cancelled) [] v1.state (knowns rules books_cancelled)
    taking = record {
      j = joint_cancelled;
      same = cancelled.same;
      knows = IsPermutation-trans _ _ _ (subst (λ k. IsPermutation (known_of (cancelled_divided i.e) ∷ map known_of i.es) (k ∷ map (known rules) (map opened (s.before ++ s.after)))) known_cancelled (IsPermutation-cons _ _ _ others_known))
          (IsPermutation-sym _ _ known_now);
      keeps = keeps_cancelled rules j i.e i.es keeps_first;
      sound = m.sound;
      counted = subst (λ r. AreCounted r v1.state) (port_rules h.port) m.counted;
      next_above = refl;
      run = IsSame-refl _;
    }

    -- THE TABLE
    open_cancelled : IsOpen rules b.owners (slot, o) → IsOpen rules b.owners (slot, cancelled_one o)
    open_cancelled x = record {
      cut = record { bounded = x.cut.bounded; parts_are = x.cut.parts_are };
      carries = x.carries;
      sent = x.sent;
      buffered = x.buffered;
      written = x.written;
      owned = x.owned;
      lent = x.lent;
      restarts = x.restarts;
      few = x.few;
      unfinished = x.unfinished;
    }

    same_ended : ended_in books_cancelled.opens ≡ ended_in b.opens
    same_ended = ap ended_in opens_now ∙ ended-append s.before ((slot, cancelled_one o) ∷ s.after) ∙ sym (ap ended_in s.opens_are ∙ ended-append s.before ((slot, o) ∷ s.after))

    same_left : restarts_left books_cancelled.opens ≡ restarts_left b.opens
    same_left = ap restarts_left opens_now ∙ left-append s.before ((slot, cancelled_one o) ∷ s.after) ∙ sym (ap restarts_left s.opens_are ∙ left-append s.before ((slot, o) ∷ s.after))

    same_long : length books_cancelled.opens ≡ length b.opens
    same_long = ap length opens_now ∙ length-append s.before ((slot, cancelled_one o) ∷ s.after) ∙ sym (ap length s.opens_are ∙ length-append s.before ((slot, o) ∷ s.after))

    same_rooms : tickets_open (all_open books_cancelled) ≡ tickets_open (all_open b)
    same_rooms =
        ap (λ os. tickets_open (map opened os)) opens_now ∙ ap tickets_open (map-append opened s.before ((slot, cancelled_one o) ∷ s.after)) ∙ tickets_open-append (map opened s.before) (cancelled_one o ∷ map opened s.after)
        ∙ sym (ap (λ os. tickets_open (map opened os)) s.opens_are ∙ ap tickets_open (map-append opened s.before ((slot, o) ∷ s.after)) ∙ tickets_open-append (map opened s.before) (o ∷ map opened s.after))

    same_packets : map packet_above books_cancelled.opens ≡ map packet_above b.opens
    same_packets = ap (map packet_above) opens_now ∙ map-append packet_above s.before ((slot, cancelled_one o) ∷ s.after) ∙ sym (ap (map packet_above) s.opens_are ∙ map-append packet_above s.before ((slot, o) ∷ s.after))

    kept_cancelled : AreKept rules books_cancelled
    kept_cancelled =
        let k = h.kept in
        let long = same_long in
        let left = same_left in
        record {
          sizes = k.sizes;
          in_hand = k.in_hand;
          opens = subst (All (IsOpen rules b.owners)) (sym opens_now) (All-middle (IsOpen rules b.owners) s.before (slot, o) (slot, cancelled_one o) s.after open_cancelled (subst (All (IsOpen rules b.owners)) s.opens_are k.opens));
          ended = subst (IsPermutation b.ended) (sym same_ended) k.ended;
          places = let p = k.places in omega arith;
          causes = subst (All (HaveCauses rules b.removing)) (sym opens_now)
              (All-middle (HaveCauses rules b.removing) s.before (slot, o) (slot, cancelled_one o) s.after
              (causes_more o.irp.cancelled true b.removing b.removing (noted_busy (map (note rules) o.parts)) (noted_busy (map (note rules) o.parts)) (λ is. refl) (λ is. is) (omega arith) o.parts)
              (subst (All (HaveCauses rules b.removing)) s.opens_are k.causes));
          budget = let p = k.budget in omega arith;
        }

    asked_part : (r : Request) (p : Progress) → IsAskedBy rules v.state.requests r p → IsAskedBy rules v1.state.requests r p
    asked_part r (Ready place) is = tt
    asked_part r (SentBelow number spot) is = m.asked rules r number is
    asked_part r (HasEnded ended) is = tt

    below_cancelled : AreBelow (record v1 { rules = v.rules }) books_cancelled
    below_cancelled =
        let next = m.next in
        let sent = m.beside.same_submitted in
        let over : All (IsOver 17 v.state.removing) (known rules o ∷ map (known rules) (map opened (s.before ++ s.after))) = All-permutation (IsOver 17 v.state.removing) _ _ known_old h.below.over in
        let some : All (HasSome rules) (known rules o ∷ map (known rules) (map opened (s.before ++ s.after))) = All-permutation (HasSome rules) _ _ known_old h.below.some in
        record {
          removing = h.below.removing ∙ sym m.removing;
          next_number = let a = h.below.next_number in omega arith;
          sent = let a = h.below.sent in omega arith;
          submitted = subst (λ n. b.submitted ≤ most_over n) (sym m.beside.same_most) h.below.submitted;
          asked = of_now (AreAsked rules v1.state.requests) (λ x. x)
              (All-weaker (AreAsked rules v.state.requests) (AreAsked rules v1.state.requests) (λ x. All-weaker (IsAsked rules v.state.requests) (IsAsked rules v1.state.requests) (λ p. asked_part p.request p.progress) x.parts) (all_open b) h.below.asked);
          spotted = of_now (AreSpotted v1.packets) (λ x. x) (All-weaker (AreSpotted v.packets) (AreSpotted v1.packets) (spotted_still v.packets v1.packets (IsPermutation-sym _ _ m.beside.same_packets)) (all_open b) h.below.spotted);
          topmost = All-permutation IsTopmost _ _ (IsPermutation-sym _ _ m.beside.same_packets) h.below.topmost;
          some = All-permutation (HasSome rules) _ _ (IsPermutation-sym _ _ known_now)
              (All-cons (HasSome rules) (known rules (cancelled_one o)) (map (known rules) (map opened (s.before ++ s.after))) (All-head (HasSome rules) (known rules o) _ some) (All-tail (HasSome rules) (known rules o) _ some));
          over = subst (λ t. All (IsOver 17 t) (knowns rules books_cancelled)) (sym m.removing) (All-permutation (IsOver 17 v.state.removing) _ _ (IsPermutation-sym _ _ known_now)
              (All-cons (IsOver 17 v.state.removing) (known rules (cancelled_one o)) (map (known rules) (map opened (s.before ++ s.after)))
              (over_more 17 v.state.removing v.state.removing (known rules o) true (λ is. refl) (λ is. is) (All-head (IsOver 17 v.state.removing) (known rules o) _ over))
              (All-tail (IsOver 17 v.state.removing) (known rules o) _ over)));
        }

    midway_with : IsMidway NeverSent (above joint_cancelled) [] v1 books_cancelled
    midway_with =
        subst (λ (r : Rules). IsMidway NeverSent (above joint_cancelled) [] (record v1 { rules = r }) books_cancelled) (sym m.beside.same_rules) (record {
          port = h.port;
          taking = taking;
          rooms_out = subst (λ (r : Rules). AllOut (record v1 { rules = r }) (tickets books_cancelled)) m.beside.same_rules
              (subst (λ rs. AllOut v1 (tickets_held b.held ++ rs)) (sym same_rooms) (out_same v v1 (tickets b) ordered1 m.beside.same_rooms h.rooms_out));
          kept = kept_cancelled;
          below = below_cancelled;
          ended = never_sent v.rules v1.state m.unsent;
        })

    -- ALL IS TAKEN
    module _ (v2 : DeviceView) (b2 : TableView) (w : TakesAll Unsent v1 books_cancelled v2 b2) (apart : IsApart b2) where
      first_shows : IsSame (above (record j { divided = i.e ∷ i.es })) (view_of v b).state
      first_shows = IsSame-trans _ _ _ (IsSame-sym _ _ i.same_above) (shows v b h)

      by_step : Step rules (above (record j { divided = i.e ∷ i.es })) (Cancel i.e.number) (above joint_cancelled)
      by_step = inl (refl, cancels_there rules j i.e i.es e_timely)

      stands : StandsAgain (above joint_cancelled) v2 b2
      stands =
          stands_again (above joint_cancelled) v1 books_cancelled v2 b2 midway_with w apart
          (AreDistinct-Step rules (above (record j { divided = i.e ∷ i.es })) (Cancel i.e.number) (above joint_cancelled) (AreDistinct-same (above (record j { divided = i.e ∷ i.es })) (view_of v b).state first_shows h.orderly.distinct) by_step)
          h.coupled.next_above

      stripped : (number : ℕ) (s1 s2 : State) → Step rules s1 (Cancel number) s2 → Cancels s1 number s2
      stripped number s1 s2 (inl (none, c)) = c
      stripped number s1 s2 (inr owing) = absurd owing

      cancels_shown : Cancels (view_of v b).state o.irp.number (view_of v2 b2).state
      cancels_shown =
          subst (λ n. Cancels (view_of v b).state n (view_of v2 b2).state) (ap (λ (k : Known). k.number) i.is_known)
          (stripped i.e.number (view_of v b).state (view_of v2 b2).state (Step-same rules (Cancel i.e.number) _ (view_of v b).state _ (view_of v2 b2).state first_shows stands.shows by_step))

      beside_shown : IsBeside (view_of v b) (view_of v2 b2)
      beside_shown = record {
        same_rules = ap class_rules (w.goes_on.same_rules ∙ m.beside.same_rules);
        same_packets = subst (λ ps. IsPermutation ps (map packet_above b.opens)) (sym (w.goes_on.same_packets ∙ same_packets)) (IsPermutation-refl _);
        same_rooms = λ spot. ap (λ rooms. room_at rooms spot) w.goes_on.same_rooms;
        same_submitted = w.goes_on.same_submitted;
        same_most = ap most_over (w.goes_on.same_most ∙ m.beside.same_most);
        same_places = w.goes_on.same_places ∙ ap (λ n. n + room_in_all b) m.beside.same_places;
        same_adapter = same_adapter v1 books_cancelled v2 b2 w ∙ m.beside.same_adapter;
      }

  -- AND SO
  pub midway_cancelled : (first : State) × IsMidway NeverSent first [] v1 books_cancelled
  midway_cancelled = (above (joint_cancelled in_coupling), midway_with in_coupling)

  pub hand_cancelled : (v2 : DeviceView) (b2 : TableView) → TakesAll Unsent v1 books_cancelled v2 b2 → IsApart b2 → IsInHand v2 b2
  hand_cancelled v2 b2 w apart = (stands in_coupling v2 b2 w apart).in_hand

  pub cancels_above : (v2 : DeviceView) (b2 : TableView) → TakesAll Unsent v1 books_cancelled v2 b2 → IsApart b2
      → Cancels (view_of v b).state o.irp.number (view_of v2 b2).state × IsBeside (view_of v b) (view_of v2 b2)
  cancels_above v2 b2 w apart = (cancels_shown in_coupling v2 b2 w apart, beside_shown in_coupling v2 b2 w apart)
