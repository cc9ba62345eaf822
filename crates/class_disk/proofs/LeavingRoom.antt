-- A request that has gone up leaves its room, and the class driver is in order again.
use Rattle.std.proofs.Common.{◌≡◌, inl, ℕ, ◌+◌, ◌==◌, List, [], ◌∷◌, ◌++◌, refl, sym, ◌∙◌, ap, subst, arith}
use Rattle.std.specs.Prelude.{IsPermutation, All, if◌then◌else◌}
use Rattle.class_disk.proofs.Common.{IsPermutation-sym, IsPermutation-trans, IsPermutation-append_left, IsPermutation-append_right, IsPermutation-map, All-permutation, length_permutation, All-cons, All-tail, Answer, Rules, AreDistinct, information, IsSame-refl, AreDistinct-Run, IsPermutation-uncons, DeviceView, IsOrderly, AllOut, Places, Opened, TableView, opened, all_open, ended_in, open_from, AddsSlot, TakesEnded, HasSome, IsOver, class_rules, held_as, All-nil, IsHere, AreLeft, IsBuffered, IsReadyPart, goes_whole}
use Rattle.class_disk.proofs.Rooms.{out_any_order}
use Rattle.class_disk.specs.declared.parts.Part.{Part}
use Rattle.class_disk.specs.inside.Parts.{tickets_of}
use Rattle.class_disk.specs.inside.Driver.{known, knowns, view_of, tickets, tickets_held, tickets_open, IsHeld, IsOpen, HaveCauses, AreAsked, AreSpotted, AreKept, AreBelow, IsCoupled, IsInHand}
use Rattle.class_disk.proofs.AnyOrder.{second_first, rooms_same, held_same, ended_same, left_same}
use Rattle.class_disk.proofs.Finishing.{in_hand_again}
use Rattle.class_disk.proofs.EndedParts.{ended_here}
use Rattle.class_disk.proofs.PartsLeft.{tickets_left, ended_left_parts}
use Rattle.class_disk.proofs.Slots.{Slots}
use Rattle.class_disk.proofs.Standing.{IsApart}
use Rattle.class_disk.proofs.HandingUp.{b', ended, j', same_others, knows_others, keeps_others, status, bytes_up, answers_up}
use Rattle.class_disk.proofs.Ended.{over_it}

-- THE ROOM LEFT

module _ (v : DeviceView) (b : TableView) (h : IsInHand v b) (ordered : IsOrderly v)
    (slots : Slots) (of_slots : b.opens ≡ open_from 0 slots) (slot : ℕ) (o : Opened) (new : TableView) (t : TakesEnded b slot o new) (parts : List Part) (are : AreLeft o.parts parts)
    (empty : Places) (none : empty.parts.items ≡ []) (last : TableView) (adds : AddsSlot new (held_as slot empty) last) where
  abbrev rules : Rules
  rules = class_rules v.rules

  over : o.unfinished ≡ 0
  over = over_it v b h ordered slots of_slots slot o new t

  abbrev left : TableView
  left = record (b' v b h ordered slot o new.opens new.ended t.opens over) { held = last.held; rooms = last.rooms }

  is_left : last ≡ left
  is_left = adds.after ∙ ap (λ (x : TableView). record x { held = last.held; rooms = last.rooms }) t.after

  one_more : IsPermutation last.held (held_as slot empty ∷ b.held)
  one_more = subst (λ hs. IsPermutation last.held (held_as slot empty ∷ hs)) (ap (λ (x : TableView). x.held) t.after) adds.more

  open_others : IsPermutation (all_open b) (o ∷ all_open left)
  open_others = IsPermutation-map opened _ _ t.opens

  fewer : (P : Opened → Type 0) → All P (all_open b) → All P (all_open left)
  fewer P all = All-tail P o (all_open left) (All-permutation P _ _ open_others all)

  room_left : IsHeld rules b.owners (held_as slot empty)
  room_left = subst (λ ps. IsHeld rules b.owners (record { slot = slot; request = empty.request; parts = ps })) (sym none) (record {
    cut = λ whole. absurd (cc (whole));
    buffered = All-nil (IsBuffered rules (goes_whole rules.max_transfer empty.request));
    owned = tt;
    ready = All-nil IsReadyPart;
  })

  ended_left : IsPermutation left.ended (ended_in left.opens)
  ended_left =
      let here : (if o.unfinished == 0 then slot ∷ ended_in new.opens else ended_in new.opens) ≡ slot ∷ ended_in new.opens = ap (λ n. if n == 0 then slot ∷ ended_in new.opens else ended_in new.opens) over in
      IsPermutation-uncons slot _ _ (subst (λ zs. IsPermutation zs (slot ∷ ended_in new.opens)) t.front
      (subst (IsPermutation b.ended) here (IsPermutation-trans _ _ _ h.kept.ended (ended_same _ _ t.opens))))

  kept_left : AreKept rules left
  kept_left = record {
    sizes = h.kept.sizes;
    in_hand = All-permutation (IsHeld rules b.owners) _ _ (IsPermutation-sym _ _ one_more) (All-cons (IsHeld rules b.owners) (held_as slot empty) b.held room_left h.kept.in_hand);
    opens = All-tail (IsOpen rules b.owners) (slot, o) new.opens (All-permutation (IsOpen rules b.owners) _ _ t.opens h.kept.opens);
    ended = ended_left;
    places = let a = h.kept.places in let n = length_permutation _ _ t.opens in let m = length_permutation _ _ one_more in omega (arith, a, n, m);
    causes = All-tail (HaveCauses rules b.removing) (slot, o) new.opens (All-permutation (HaveCauses rules b.removing) _ _ t.opens h.kept.causes);
    budget = let a = h.kept.budget in let n = left_same _ _ t.opens in omega (arith, a, n);
  }

  -- the rooms of its parts come first, and none of these is below
  rooms_first : AllOut v (tickets_of parts ++ tickets left)
  rooms_first =
      let held : IsPermutation (tickets_held last.held) (tickets_held b.held) = subst (λ ps. IsPermutation (tickets_held last.held) (tickets_of ps ++ tickets_held b.held)) none (held_same _ _ one_more) in
      subst (λ ts. AllOut v (ts ++ tickets left)) (sym (tickets_left o.parts parts are))
      (out_any_order v _ _ (IsPermutation-trans _ _ _ (IsPermutation-append_right (tickets_held b.held) _ _ (rooms_same _ _ open_others))
      (IsPermutation-trans _ _ _ (second_first (tickets_held b.held) (tickets_of o.parts) (tickets_open (all_open left)))
      (IsPermutation-append_right (tickets_of o.parts) _ _ (IsPermutation-append_left (tickets_open (all_open left)) _ _ (IsPermutation-sym _ _ held))))) h.rooms_out)

  pub parts_first : AllOut v (tickets_of parts ++ tickets last)
  parts_first = subst (λ x. AllOut v (tickets_of parts ++ tickets x)) (sym is_left) rooms_first

  pub parts_here : All IsHere parts
  parts_here = ended_here parts (ended_left_parts o.parts parts are (ended v b h ordered slot o new.opens new.ended t.opens over))

  -- THE ROOMS BELOW ARE GIVEN BACK
  module _ (v' : DeviceView) (same : v' ≡ record v { rooms = v'.rooms }) (out : AllOut v' (tickets last)) (apart : IsApart last) where
    abbrev freed : DeviceView
    freed = record v { rooms = v'.rooms }

    below_left : AreBelow freed left
    below_left =
        let ks : IsPermutation (knowns rules b) (known rules o ∷ knowns rules left) = IsPermutation-map (known rules) _ _ open_others in
        record {
          removing = h.below.removing;
          next_number = h.below.next_number;
          sent = h.below.sent;
          submitted = h.below.submitted;
          asked = fewer (AreAsked rules v.state.requests) h.below.asked;
          spotted = fewer (AreSpotted v.packets) h.below.spotted;
          topmost = h.below.topmost;
          some = All-tail (HasSome rules) (known rules o) (knowns rules left) (All-permutation (HasSome rules) _ _ ks h.below.some);
          over = All-tail (IsOver 17 v.state.removing) (known rules o) (knowns rules left) (All-permutation (IsOver 17 v.state.removing) _ _ ks h.below.over);
        }

    coupled_left : IsCoupled freed left
    coupled_left = record {
      j = j' v b h ordered slot o new.opens new.ended t.opens over;
      same = same_others v b h ordered slot o new.opens new.ended t.opens over;
      knows = knows_others v b h ordered slot o new.opens new.ended t.opens over;
      next_above = h.coupled.next_above;
      keeps = keeps_others v b h ordered slot o new.opens new.ended t.opens over;
    }

    distinct_left : AreDistinct (view_of v left).state
    distinct_left =
        let answers = answers_up v b h ordered slot o new.opens new.ended t.opens over in
        let st = status v b h ordered slot o new.opens new.ended t.opens over in
        let informed : ℕ = information answers.request.request st in
        AreDistinct-Run rules (view_of v b).state (Answer o.irp.number st informed (bytes_up v b h ordered slot o new.opens new.ended t.opens over) ∷ []) (view_of v left).state h.orderly.distinct
        ((view_of v left).state, inl (refl, record { answers = answers; informs = refl }), IsSame-refl _)

    pub in_hand_left : IsInHand v' last
    in_hand_left =
        let rooms_out : AllOut freed (tickets left) = subst (λ x. AllOut x (tickets left)) same (subst (λ x. AllOut v' (tickets x)) is_left out) in
        subst (λ x. IsInHand x last) (sym same) (subst (IsInHand freed) (sym is_left)
        (in_hand_again freed left freed
        (record { port = h.port; rooms_out = rooms_out; kept = kept_left; below = below_left; apart = subst IsApart is_left apart })
        coupled_left h.sound h.counted rooms_out.orderly distinct_left (record { unfinished = h.unfinished; settled = h.settled; same = refl })))
