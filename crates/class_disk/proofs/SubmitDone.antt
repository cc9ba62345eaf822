-- A request was taken in, its parts were sent, and nothing came back: so the class driver has submitted it.
use Rattle.std.proofs.Common.{◌≡◌, ◌<◌, ◌≤◌, ℕ, suc, ◌+◌, ◌^◌, false, Some, None, List, [], ◌∷◌, sym, ◌∙◌, ap, subst, arith, map}
use Rattle.std.specs.Prelude.{IsPermutation, All, IsFalse}
use Rattle.class_disk.proofs.Common.{room_in_all, IsPermutation-sym, IsPermutation-map, Contains-permutation, Irp, DeviceLabel, Rules, State, AreDistinct, AreCounted, as_label, AreDistinct-Run, AreDistinct-Admits, DeviceView, Carries, packet_of, whole_for, request_at, request_of, most_over, SetsRoom, Submits, StaysOpen, TableView, OpensAt, IsSound, IsNothing, class_rules, view_of, packet_above, knowns, places_of, IsCoupled, IsInHand, IsTaking, IsMidway, IsOpening, OpeningSoFar, SendsAll, FindsNone, All-contains}
use Rattle.class_disk.proofs.Finishing.{IsKeptInTable, in_hand_again}
use Rattle.class_disk.proofs.OpeningBegins.{opening_begins}
use Rattle.class_disk.proofs.OthersStay.{others_stay_above, others_apart}
use Rattle.class_disk.proofs.Standing.{HasOtherSlot, AreRising, IsApart}
use Rattle.class_disk.proofs.Submitting.{total, submits_above}
use Rattle.class_disk.proofs.NewRequest.{held_there, first_above, opens_above, taking_opened, parts_cover, places_for}

module _ (v : DeviceView) (b : TableView) (h : IsInHand v b) (slot : ℕ) (irp : Irp) (b1 : TableView) (opens : OpensAt b slot irp b1)
    (high : (view_of v b).state.next_request ≤ irp.number) (stays : IsFalse (view_of v b).state.removing) (timely : IsFalse irp.cancelled)
    (carries : Carries false (class_rules v.rules) opens.held.request irp.payload) (few : (view_of v b).submitted < (view_of v b).most) where
  abbrev pub rules : Rules
  rules = class_rules v.rules

  abbrev pub covers : total (map (places_of rules) opens.held.parts) ≡ places_for rules opens.held.request
  covers = parts_cover rules opens.held.request opens.held.parts h.kept.sizes.whole.some_bytes h.port.some_transfer
      ((held_there rules b slot irp b1 opens h.kept).cut opens.whole)

  abbrev pub first : State
  first = first_above v b h slot irp b1 opens high stays timely carries covers

  -- the machine above begins with the request open
  begins : OpeningSoFar v b1 first []
  begins = record { taking = taking_opened v b h slot irp b1 opens high stays timely carries covers }

  -- and all parts can be sent
  pub opening : IsOpening v b1 slot 0
  opening = opening_begins v b h slot irp b1 opens stays timely carries few

  module _ (rise : AreRising 0 b1.opens) (v2 : DeviceView) (b2 : TableView)
      (sends : (from : State) (labels : List DeviceLabel) → OpeningSoFar v b1 from labels → IsOpening v b1 slot 0 → SendsAll from labels v b1 slot v2 b2) where
    abbrev all : SendsAll first [] v b1 slot v2 b2
    all = sends first [] begins opening

    mid : IsMidway IsNothing first all.starts v2 b2
    mid = all.midway

    -- so the layer below can be asked
    pub can_settle : (from : State) × (labels : List DeviceLabel) × IsMidway IsNothing from labels v2 b2
    can_settle = (first, all.starts, mid)

    same_rules : v2.rules ≡ v.rules
    same_rules = all.goes_on.same_rules

    others : All (StaysOpen (view_of v2 b2).state) (view_of v b).state.requests
    others =
        let apart : All (HasOtherSlot slot) b.opens = others_apart slot _ b.opens b1.opens rise opens.is_open opens.opens in
        others_stay_above v b v2 b2 h.coupled h.sound.distinct mid.taking.sound.distinct all.others_stay same_rules
        (λ e (i, low, is). all.table_stays e (All-contains (HasOtherSlot slot) b.opens e apart (i, low, is))
        (Contains-permutation _ _ e (IsPermutation-sym _ _ opens.opens) (suc i, omega arith, is)))

    -- the room is spent, and no start changes another
    spent : SetsRoom b.rooms slot (Some (whole_for opens.held.request)) None b2.rooms
    spent = subst (SetsRoom b.rooms slot (Some (whole_for opens.held.request)) None) (sym all.goes_on.same_rooms) opens.room

    sent : Submits (view_of v b) (packet_of irp slot) opens.held.request irp.payload
        (view_of v2 b2) × IsCoupled v2 b2 × IsSound v2.state × AreCounted v2.rules v2.state
    sent =
        submits_above v b (packet_of irp slot) opens.held.request irp.payload first all.starts v2 b2 h.port
        (opens_above v b h slot irp b1 opens high stays timely carries covers)
        all.goes_on.only_starts
        (subst (λ r. IsTaking (class_rules r) first all.starts v2.state (knowns (class_rules r) b2)) same_rules mid.taking)
        all.goes_on.adapter same_rules all.goes_on.same_most
        (all.goes_on.same_places ∙ ap (λ (x : TableView). v.places + room_in_all x) opens.after)
        (ap (λ n. n + 1) (sym (all.goes_on.same_last ∙ ap (λ (x : TableView). x.last_request) opens.after)))
        (all.goes_on.same_submitted ∙ ap (λ (x : TableView). x.submitted) opens.after)
        (subst (λ ps. IsPermutation ps (packet_of irp slot ∷ map packet_above b.opens)) (sym all.goes_on.same_packets)
        (IsPermutation-map packet_above _ _ opens.opens))
        spent others

    distinct : AreDistinct (view_of v2 b2).state
    distinct =
        let d = sent.0 in
        AreDistinct-Run rules d.opened (map as_label d.starts) (view_of v2 b2).state
        (AreDistinct-Admits rules (view_of v b).state irp.number _ None d.opened d.opens.new_number h.orderly.distinct d.opens) d.moves.run

    -- and it had nothing to give
    module _ (v3 : DeviceView) (b3 : TableView) (found : FindsNone v2 b2 v3 b3) where
      pub all_done : Submits (view_of v b) (packet_of irp slot) opens.held.request irp.payload (view_of v3 b3)
      all_done =
          subst (λ (c : TableView). Submits (view_of v b) (packet_of irp slot) opens.held.request irp.payload (view_of v3 c)) (sym found.same)
          (subst (λ (w : DeviceView). Submits (view_of v b) (packet_of irp slot) opens.held.request irp.payload (view_of w b2))
          (sym found.none.same) sent.0)

      -- and the class driver is in hand again
      pub hand_again : IsApart b2 → IsInHand v3 b3
      hand_again apart =
          let own : IsKeptInTable v2 b2 = record { port = mid.port; rooms_out = mid.rooms_out; kept = mid.kept; below = mid.below; apart = apart } in
          subst (IsInHand v3) (sym found.same)
          (subst (λ (w : DeviceView). IsInHand w b2) (sym found.none.same)
          (in_hand_again v2 b2 v3 own sent.1 sent.2 sent.3 mid.rooms_out.orderly distinct found.none))

-- WHAT THE LAYER ABOVE ASKS FOR, by what is reserved

pub carries_there : (v : DeviceView) (b : TableView) (slot : ℕ) (irp : Irp) (b1 : TableView) (opens : OpensAt b slot irp b1) (shown : DeviceView) → view_of v b ≡ shown
    → Carries false shown.rules (request_at shown.rooms slot) irp.payload → Carries false (class_rules v.rules) opens.held.request irp.payload
carries_there v b slot irp b1 opens shown is h =
    subst (λ q. Carries false (class_rules v.rules) q irp.payload) (ap request_of opens.room.was)
    (subst (λ (x : DeviceView). Carries false x.rules (request_at x.rooms slot) irp.payload) (sym is) h)

pub submits_there : (v : DeviceView) (b : TableView) (slot : ℕ) (irp : Irp) (b1 : TableView) (opens : OpensAt b slot irp b1) (after : DeviceView)
    → Submits (view_of v b) (packet_of irp slot) opens.held.request irp.payload after → Submits (view_of v b) (packet_of irp slot) (request_at b.rooms slot) irp.payload after
submits_there v b slot irp b1 opens after h = subst (λ q. Submits (view_of v b) (packet_of irp slot) q irp.payload after) (sym (ap request_of opens.room.was)) h

pub few_there : (v : DeviceView) (b : TableView) (shown : DeviceView) → view_of v b ≡ shown → shown.submitted < shown.most → b.submitted < 2 ^ 127
few_there v b shown is few =
    let low : b.submitted < most_over v.most = subst (λ (x : DeviceView). x.submitted < x.most) (sym is) few in
    omega (arith, low)
