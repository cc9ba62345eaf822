-- A packet is cancelled by its spot, or by its number.
use Rattle.std.proofs.Common.{◌≡◌, inl, inr, ℕ, ◌==◌, ◌&&◌, not, Bool, true, false, List, [], Some, refl, sym, ◌∙◌, ap, subst, arith, map}
use Rattle.std.specs.Prelude.{All, Any, Contains, IsTrue, IsFalse}
use Rattle.class_disk.proofs.Common.{eqb-true, eqb-false, IsPermutation-sym, Contains-permutation, All-contains, OpenRequest, State, Cancels, DeviceView, Packet, IsOrderly, CancelsIfOpen, CancelsAt, NoneToCancel, IsAt, HasOtherNumber, Unsent, Known, Divided, shown, NeverSent, class_rules, divided_of, Opened, TableView, opened, all_open, open_at, put_at, cancelled_one, is_cancellable, CancelsAtSlot, CancelsNoneAt, CannotCancel, known, knowns, view_of, packet_above, IsInHand, IsMidway, CancelsAll, packet_of_part, TakesAll}
use Rattle.class_disk.proofs.Standing.{IsApart}
use Rattle.class_disk.proofs.Acting.{map_there}
use Rattle.class_disk.proofs.CoupledRun.{one_request, Contains-map}
use Rattle.class_disk.proofs.Standing.{AreRising, StandsIn, stands_there, stands_by, is_found, found_put, found_there}
use Rattle.class_disk.proofs.CancellingParts.{midway_cancelled, hand_cancelled, cancels_above}

both_true : (x y : Bool) → (x && not y) ≡ true → (x ≡ true) × (y ≡ false)
both_true true false h = (refl, refl)
both_true true true h = absurd (cc (h))
both_true false y h = absurd (cc (h))

-- an entry with this number that can't be cancelled is so already
already : (number : ℕ) (e : ℕ × Opened) → e.1.irp.number ≡ number → is_cancellable number e ≡ false → e.1.irp.cancelled ≡ true
already number e is h = by (e.1.irp.number == number) (e.1.irp.cancelled) refl h
  where
    by : (x y : Bool) → (e.1.irp.number == number) ≡ x → (x && not y) ≡ false → y ≡ true
    by true true same g = refl
    by true false same g = absurd (cc (g))
    by false y same g = absurd (eqb-false e.1.irp.number number same is)

-- a request of the machine shown is one of the table
shown_there : (v : DeviceView) (b : TableView) (x : OpenRequest) → Contains (view_of v b).state.requests x → (e : ℕ × Opened) × Contains b.opens e × (e.1.irp.number ≡ x.number) × (e.1.irp.cancelled ≡ x.cancelled)
shown_there v b x c =
    let ks : List Known = knowns (class_rules v.rules) b in
    let a = map_there shown (map (divided_of v.state) ks) x c in
    let d = map_there (divided_of v.state) ks a.0 a.1 in
    let f = map_there (known (class_rules v.rules)) (all_open b) d.0 d.1 in
    let g = map_there opened b.opens f.0 f.1 in (
      g.0,
      g.1,
      ap (λ (o : Opened). o.irp.number) g.2 ∙ ap (λ (k : Known). k.number) f.2 ∙ ap (λ (e : Divided). e.number) d.2 ∙ ap (λ (o : OpenRequest). o.number) a.2,
      ap (λ (o : Opened). o.irp.cancelled) g.2 ∙ ap (λ (k : Known). k.cancelled) f.2 ∙ ap (λ (e : Divided). e.cancelled) d.2 ∙ ap (λ (o : OpenRequest). o.cancelled) a.2,
    )

-- and the other way round
there_shown : (v : DeviceView) (b : TableView) (e : ℕ × Opened) → Contains b.opens e → Contains (view_of v b).state.requests (shown (divided_of v.state (known (class_rules v.rules) e.1)))
there_shown v b e c =
    Contains-map shown (map (divided_of v.state) (knowns (class_rules v.rules) b)) _
    (Contains-map (divided_of v.state) (knowns (class_rules v.rules) b) _ (Contains-map (known (class_rules v.rules)) (all_open b) e.1 (Contains-map opened b.opens e c)))

-- NONE IS CANCELLED

-- none of this number can be, as a search tells
pub none_cancellable : (v : DeviceView) (b : TableView) (number : ℕ) → All (CannotCancel number) b.opens → CancelsIfOpen (view_of v b) number (view_of v b)
none_cancellable v b number none = record { one_of = inr (refused, refl) }
  where
    refused : NoneToCancel (view_of v b).state number
    refused s' h =
        let e = shown_there v b h.request (Contains-permutation _ _ h.request (IsPermutation-sym _ _ h.is_open) (0, omega arith, refl)) in
        let done : e.0.1.irp.cancelled ≡ true = already number e.0 (e.2 ∙ h.is_number) (All-contains (CannotCancel number) b.opens e.0 none e.1) in
        let not_yet : e.0.1.irp.cancelled ≡ false = e.3 ∙ h.not_yet in
        cc (done, not_yet)

-- the packet that stands at this spot
at_spot : (b : TableView) (slot number : ℕ) → Any (IsAt slot number) (map packet_above b.opens) → (e : ℕ × Opened) × Contains b.opens e × (e.0 ≡ slot) × (e.1.irp.number ≡ number)
at_spot b slot number (i, x, low, is, at) =
    let a = map_there packet_above b.opens x (i, low, is) in
    (a.0, a.1, ap (λ (p : Packet). p.spot) a.2 ∙ at.is_spot, ap (λ (p : Packet). p.number) a.2 ∙ at.is_number)

found_at : (b : TableView) (slot : ℕ) → AreRising 0 b.opens → (e : ℕ × Opened) → Contains b.opens e → e.0 ≡ slot → open_at slot b.opens ≡ Some e.1
found_at b slot r e c same = subst (λ n. open_at n b.opens ≡ Some e.1) same (is_found b.opens e.0 e.1 (stands_there 0 e.0 e.1 b.opens r c))

pub none_at : (v : DeviceView) (b : TableView) → IsInHand v b → AreRising 0 b.opens → (slot number : ℕ) (b' : TableView)
    → CancelsNoneAt b slot number b' → CancelsAt (view_of v b) slot number (view_of v b')
none_at v b h r slot number b' none = subst (λ x. CancelsAt (view_of v b) slot number (view_of v x)) (sym none.same) (record {
  there = λ any. record { one_of = inr (refused (at_spot b slot number any), refl) };
  gone = λ apart. refl;
  either = inr refl;
})
  where
    refused : (e : ℕ × Opened) × Contains b.opens e × (e.0 ≡ slot) × (e.1.irp.number ≡ number) → NoneToCancel (view_of v b).state number
    refused (e, c, at, is) s' k =
        let done : e.1.irp.cancelled ≡ true = already number e is (none.none e.1 (found_at b slot r e c at)) in
        let mine : OpenRequest = shown (divided_of v.state (known (class_rules v.rules) e.1)) in
        let same : k.request ≡ mine = one_request (view_of v b).state k.request mine h.orderly.distinct (Contains-permutation _ _ k.request (IsPermutation-sym _ _ k.is_open) (0, omega arith, refl)) (there_shown v b e c) (k.is_number ∙ sym is) in
        let not_yet : e.1.irp.cancelled ≡ false = sym (ap (λ (x : OpenRequest). x.cancelled) same) ∙ k.not_yet in
        cc (done, not_yet)

-- by the number of a packet that a search found
pub by_spot : (v : DeviceView) (b : TableView) (number slot : ℕ) (w : DeviceView) → (found : (o : Opened) × ((open_at slot b.opens ≡ Some o) × IsTrue (is_cancellable number (slot, o)))) → CancelsAt (view_of v b) slot number w → CancelsIfOpen (view_of v b) number w
by_spot v b number slot w (o, (is_open, can)) h =
    let c : Contains b.opens (slot, o) = found_there slot b.opens o is_open in
    let p = Contains-map packet_above b.opens (slot, o) c in
    h.there (p.0, packet_above (slot, o), p.1, p.2, record { is_spot = refl; is_number = eqb-true o.irp.number number (both_true (o.irp.number == number) o.irp.cancelled can).0 })

-- ONE IS CANCELLED

module _ (v : DeviceView) (b : TableView) (r : AreRising 0 b.opens) (slot number : ℕ) (b1 : TableView) (c : CancelsAtSlot b slot number b1) where
  stands : StandsIn b.opens slot c.o
  stands = stands_by 0 slot b.opens c.o r c.is_open

  open_now : open_at slot b1.opens ≡ Some (cancelled_one c.o)
  open_now = subst (λ (x : TableView). open_at slot x.opens ≡ Some (cancelled_one c.o)) (sym c.after) (found_put b.opens slot c.o stands (cancelled_one c.o))

  pub still_open : (o : Opened) × (open_at slot b1.opens ≡ Some o)
  still_open = (cancelled_one c.o, open_now)

  timely : IsFalse c.o.irp.cancelled
  timely = (both_true (c.o.irp.number == number) c.o.irp.cancelled c.can).1

  number_is : c.o.irp.number ≡ number
  number_is = eqb-true c.o.irp.number number (both_true (c.o.irp.number == number) c.o.irp.cancelled c.can).0

  module _ (h : IsInHand v b) (v1 : DeviceView) (ordered1 : IsOrderly v1)
      (cancels : (o : Opened) → open_at slot b1.opens ≡ Some o → CancelsAll v (map packet_of_part o.parts) v1) (b1' : TableView) (same : b1' ≡ b1) where
    all : CancelsAll v (map packet_of_part c.o.parts) v1
    all = cancels (cancelled_one c.o) open_now

    pub midway_at : (first : State) × IsMidway NeverSent first [] v1 b1'
    midway_at =
        let m = midway_cancelled v b h slot c.o stands timely v1 all ordered1 in
        (m.0, subst (λ x. IsMidway NeverSent m.0 [] v1 x) (sym (same ∙ c.after)) m.1)

    module _ (v2 : DeviceView) (b2 : TableView) (w : TakesAll Unsent v1 b1' v2 b2) (apart : IsApart b2) where
      withdraws : TakesAll Unsent v1 (record b { opens = put_at slot (cancelled_one c.o) b.opens }) v2 b2
      withdraws = subst (λ x. TakesAll Unsent v1 x v2 b2) (same ∙ c.after) w

      pub hand_at : IsInHand v2 b2
      hand_at = hand_cancelled v b h slot c.o stands timely v1 all ordered1 v2 b2 withdraws apart

      pub cancels_at : CancelsAt (view_of v b) slot number (view_of v2 b2)
      cancels_at =
          let k = cancels_above v b h slot c.o stands timely v1 all ordered1 v2 b2 withdraws apart in
          let is_cancelled : Cancels (view_of v b).state number (view_of v2 b2).state =
          subst (λ n. Cancels (view_of v b).state n (view_of v2 b2).state) number_is k.0 in
          record {
            there = λ any. record { one_of = inl (is_cancelled, k.1) };
            gone = λ apart. absurd (All-contains (HasOtherNumber number) (map packet_above b.opens) (packet_above (slot, c.o)) apart (Contains-map packet_above b.opens (slot, c.o) (found_there slot b.opens c.o c.is_open)) number_is);
            either = inl (is_cancelled, k.1);
          }
