-- The class driver is in order between calls, since the layer below is.
use Rattle.std.proofs.Common.{◌≡◌, ◌<◌, ◌≤◌, inl, inr, ℕ, not, Bool, true, false, List, [], ◌∷◌, refl, sym, ◌∙◌, ap, subst, arith, map, length, get_or}
use Rattle.std.specs.Prelude.{IsPermutation, All, Contains, IsTrue, IsFalse, Option, eqb, is_some}
use Rattle.class_disk.proofs.Common.{IsDistinct, list_all, IsPermutation-sym, IsPermutation-trans, IsPermutation-map, All-permutation, length_permutation, All-nil, All-cons, All-head, All-tail, All-weaker, All-map, All-contains, Contains-get_or, Rules, Mark, Untouched, Out, Done, Failed, Back, OpenRequest, State, IsSame, AreDistinct, HasPlaces, HavePlaces, request_number, is_started, is_untouched, HasEnded, Settled, HasGone, IsAllSent, IsWithin, started_count, AwaitsRestartIfEnded, IsSame-sym, AreDistinct-same, below_rules, IsSound, Keeps, noted_busy, IsOverMark, IsOverNote, IsOver, class_rules, IsPort}
use Rattle.adapter.specs.View.{TagInUse}
use Rattle.srb.specs.declared.DeviceLabel.TheVariants.{Act}
use Rattle.machine.specs.Step.{Run, as_label}
use Rattle.machine.proofs.Same.{IsSame-refl, Run-same}
use Rattle.device.specs.View.{DeviceView, Packet, Reserved, packet_number, packet_spot, piece_on_tag, use_on_tag, IsOffRooms, WaitsForTag, IsOrderly, MayAct}
use Rattle.class_disk.proofs.CoupledRun.{Ran, run_coupled}
use Rattle.class_disk.specs.inside.Joint.{Part, Below, Here, Sent, Kept, note_of, known_of, Divided, Joint, parts_busy, pieces_below, pieces_above, shown, below, above}
use Rattle.class_disk.proofs.Resting.{HasEndedHere, AreEndedHere, gone, all_sent, same_count}
use Rattle.class_disk.proofs.PortRules.{port_rules}
use Rattle.class_disk.proofs.CoupledMarks.{of_pieces}

pub All-from_map : {X Y : Type 0} (P : Y → Type 0) (f : X → Y) (xs : List X) → All P (map f xs) → All (λ x. P (f x)) xs
All-from_map P f [] h = All-nil (λ x. P (f x))
All-from_map P f (x ∷ xs) h = All-cons (λ x. P (f x)) x xs (All-head P (f x) (map f xs) h) (All-from_map P f xs (All-tail P (f x) (map f xs) h))

-- WHAT THE ADAPTER KNOWS OF THE PIECES

pub on_tags : (es : List Divided) → map piece_on_tag (pieces_above es) ≡ map piece_on_tag (pieces_below es)
on_tags = of_pieces piece_on_tag (λ owner first p. refl)

-- WHAT MAY ACT BELOW MAY ACT HERE

pub may_act_above : (v : DeviceView) → IsPort v.rules → IsSound v.state → (j : Joint) → IsSame (below j) v.state → Keeps (class_rules v.rules) j → (t : State) → IsSame (above j) t
    → (tags : List TagInUse) → All (MayAct v.rules v.state) tags → All (MayAct (class_rules v.rules) t) tags
may_act_above v port sound j same k t to tags all = All-weaker (MayAct v.rules v.state) (MayAct (class_rules v.rules) t) one tags all
  where
    one : (u : TagInUse) → MayAct v.rules v.state u → MayAct (class_rules v.rules) t u
    one u may apart fresh =
        let b : (acted : State) × Run v.rules v.state (as_label (Act u.piece u.srb.data) ∷ []) acted = may apart fresh in
        let run : Run (below_rules (class_rules v.rules)) v.state (as_label (Act u.piece u.srb.data) ∷ []) b.0 =
        subst (λ r. Run r v.state (as_label (Act u.piece u.srb.data) ∷ []) b.0) (port_rules port) b.1 in
        let ran : Ran (class_rules v.rules) j (Act u.piece u.srb.data ∷ []) b.0 = run_coupled (class_rules v.rules) refl (Act u.piece u.srb.data ∷ []) j v.state b.0 same sound k run in
        (above ran.next, Run-same (class_rules v.rules) (as_label (Act u.piece u.srb.data) ∷ []) (above j) t (above ran.next) (above ran.next) to (IsSame-refl _) ran.run)

-- WHAT IS HERE HAS ENDED

busy_noted : (parts : List Part) → noted_busy (map note_of parts) ≤ parts_busy parts
busy_noted [] = omega arith
busy_noted (Below o again ps ∷ parts) = let h = busy_noted parts in omega arith
busy_noted (Here marks busy ∷ parts) = let h = busy_noted parts in omega arith

module _ (rules : Rules) (j : Joint) (e : Divided) where
  over_mark : (m : Mark) → IsOverMark e.cancelled j.removing rules.busy_limit (noted_busy (map note_of e.parts)) m → HasEnded rules (above j) (shown e) m
  over_mark Untouched (inl cancelled) = inr (_, inl (cancelled, refl))
  over_mark Untouched (inr removing) = inr (_, inr (removing, refl))
  over_mark Back (inl cancelled) = inr (_, inl (inl (cancelled, refl)))
  over_mark Back (inr (inl removing)) = inr (_, inl (inr (removing, refl)))
  over_mark Back (inr (inr often)) = inr (_, inr (let h = busy_noted e.parts in omega arith, refl))
  over_mark Out h = absurd h
  over_mark (Done sector) h = inl refl
  over_mark (Failed status) h = inr (status, refl)

  over_parts : (parts : List Part) → All (IsOverNote e.cancelled j.removing rules.busy_limit (noted_busy (map note_of e.parts))) (map note_of parts) → All (HasEndedHere rules (above j) (shown e)) parts
  over_parts [] h = All-nil (HasEndedHere rules (above j) (shown e))
  over_parts (Below o again ps ∷ parts) h = All-cons (HasEndedHere rules (above j) (shown e)) (Below o again ps) parts tt (over_parts parts (All-tail (IsOverNote e.cancelled j.removing rules.busy_limit (noted_busy (map note_of e.parts))) (Sent o.number again) (map note_of parts) h))
  over_parts (Here marks busy ∷ parts) h =
      All-cons (HasEndedHere rules (above j) (shown e)) (Here marks busy) parts
      (All-weaker (IsOverMark e.cancelled j.removing rules.busy_limit (noted_busy (map note_of e.parts))) (HasEnded rules (above j) (shown e)) over_mark marks
      (All-head (IsOverNote e.cancelled j.removing rules.busy_limit (noted_busy (map note_of e.parts))) (Kept marks busy) (map note_of parts) h))
      (over_parts parts (All-tail (IsOverNote e.cancelled j.removing rules.busy_limit (noted_busy (map note_of e.parts))) (Kept marks busy) (map note_of parts) h))

pub over_here : (rules : Rules) (j : Joint) (es : List Divided) → All (IsOver rules.busy_limit j.removing) (map known_of es) → All (AreEndedHere rules (above j)) es
over_here rules j [] h = All-nil (AreEndedHere rules (above j))
over_here rules j (e ∷ es) h =
    All-cons (AreEndedHere rules (above j)) e es (over_parts rules j e e.parts (All-head (IsOver rules.busy_limit j.removing) (known_of e) (map known_of es) h))
    (over_here rules j es (All-tail (IsOver rules.busy_limit j.removing) (known_of e) (map known_of es) h))

-- IN ORDER

module _ (v : DeviceView) (port : IsPort v.rules) (ordered : IsOrderly v) (sound : IsSound v.state) (j : Joint) (same : IsSame (below j) v.state) (k : Keeps (class_rules v.rules) j)
    (unfinished : All (AwaitsRestartIfEnded v.rules v.state) v.state.requests) (settled : Settled v.rules v.state)
    (distinct : AreDistinct (above j)) (places : HavePlaces (above j)) (over : All (IsOver 17 j.removing) (map known_of j.divided)) where
  abbrev rules : Rules
  rules = class_rules v.rules

  unfinished_below : All (AwaitsRestartIfEnded (below_rules rules) v.state) v.state.requests
  unfinished_below = subst (λ r. All (AwaitsRestartIfEnded r v.state) v.state.requests) (port_rules port) unfinished

  settled_below : Settled (below_rules rules) v.state
  settled_below = subst (λ r. Settled r v.state) (port_rules port) settled

  here_ended : All (AreEndedHere rules (above j)) j.divided
  here_ended = over_here rules j j.divided over

  started_if : (o : OpenRequest) → HasPlaces o → All (HasGone rules o) o.marks → IsTrue (is_started o)
  started_if o some all = by (list_all is_untouched o.marks) refl
    where
      first_gone : (m : Mark) (marks : List Mark) → HasGone rules o m → list_all is_untouched (m ∷ marks) ≡ true → ⊥
      first_gone Untouched marks gone h = gone
      first_gone Out marks gone h = cc (h)
      first_gone (Done sector) marks gone h = cc (h)
      first_gone (Failed status) marks gone h = cc (h)
      first_gone Back marks gone h = cc (h)

      none : (marks : List Mark) → 0 < length marks → All (HasGone rules o) marks → list_all is_untouched marks ≡ true → ⊥
      none [] some all h = omega arith
      none (m ∷ marks) some all h = first_gone m marks (All-head (HasGone rules o) m marks all) h

      by : (b : Bool) → list_all is_untouched o.marks ≡ b → IsTrue (not b)
      by false is = refl
      by true is = absurd (none o.marks some all is)

  count : (t : State) → IsSame (above j) t → length t.pieces ≡ length v.state.pieces
  count t to = length_permutation _ _ to.pieces ∙ same_count rules port.no_window j v.state same sound ordered.places k unfinished_below settled_below here_ended

  -- with a tag free, a request that isn't cancelled is started
  none_waits : length v.state.pieces < rules.depth → IsFalse v.state.removing → (t : State) → All (WaitsForTag rules t) (map shown j.divided)
  none_waits free staying t =
      All-map (WaitsForTag rules t) shown j.divided (λ n d low timely still.
      let e : Divided = get_or j.divided n d in
      let c : Contains j.divided e = Contains-get_or j.divided n d low in
      let started : IsTrue (is_started (shown e)) = started_if (shown e) (All-contains (λ x. HasPlaces (shown x)) j.divided e divided_have c) (gone rules port.no_window j v.state same sound ordered.places k unfinished_below settled_below here_ended e c free staying timely) in
      absurd (cc (started, still)))
    where
      divided_have : All (λ x. HasPlaces (shown x)) j.divided
      divided_have = All-from_map HasPlaces shown j.divided places

  pub orderly_above : (t : State) → IsSame (above j) t → (packets : List Packet) → IsPermutation (map packet_number packets) (map request_number t.requests)
      → (rooms : List (Option Reserved)) → IsDistinct eqb (map packet_spot packets) → All (IsOffRooms rooms) packets → (submitted most held : ℕ)
      → IsOrderly (record { rules = rules; state = t; packets = packets; rooms = rooms; submitted = submitted; most = most; places = held; adapter = v.adapter })
  orderly_above t to packets packed rooms spots vacant submitted most held =
      let same_pieces : length t.pieces ≡ length v.state.pieces = count t to in
      record {
        adapter = ordered.adapter;
        read = record {
          same_size = ordered.read.same_size;
          same_sectors = ordered.read.same_sectors;
          same_depth = ordered.read.same_depth;
          arrays = sym to.arrays ∙ same.arrays ∙ ordered.read.arrays;
          pieces = IsPermutation-trans _ _ _ (IsPermutation-map piece_on_tag _ _ (IsPermutation-sym _ _ to.pieces))
              (subst (λ zs. IsPermutation zs (map use_on_tag v.adapter.tags)) (sym (on_tags j.divided)) (IsPermutation-trans _ _ _ (IsPermutation-map piece_on_tag _ _ same.pieces) ordered.read.pieces));
          may_act = may_act_above v port sound j same k t to v.adapter.tags ordered.read.may_act;
        };
        distinct = AreDistinct-same t (above j) (IsSame-sym _ _ to) distinct;
        places = All-permutation HasPlaces _ _ to.requests places;
        packets = packed;
        spots = spots;
        vacant = vacant;
        sending = record {
          sent = λ free staying. All-permutation (IsAllSent rules) _ _ to.requests
              (all_sent rules port.no_window j v.state same sound ordered.places k unfinished_below settled_below here_ended (omega arith) (sym same.removing ∙ to.removing ∙ staying));
          released = λ free staying. All-permutation (WaitsForTag rules t) _ _ to.requests (none_waits (omega arith) (sym same.removing ∙ to.removing ∙ staying) t);
          within_window = subst (λ w. IsWithin w (started_count t)) (sym port.no_window) tt;
        };
        labels = let l = ordered.labels in omega arith;
        uncounted = port.uncounted;
        none_owed = ap is_some (sym to.owed);
        not_removed = sym to.removed;
      }
