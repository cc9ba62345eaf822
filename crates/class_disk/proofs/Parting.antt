-- The parts of a request one after the other, and the cancellations of their packets below.
use Rattle.std.proofs.Common.{◌≡◌, ◌<◌, ℕ, zero, suc, ◌+◌, List, [], ◌∷◌, Option, Some, refl, sym, ◌∙◌, ap, subst, arith, map, length, drop}
use Rattle.class_disk.proofs.Common.{slice_get, slice_get_within, DeviceView, below_by, Opened, TableView, open_at, IsPartAt, CancelsBelow, CancelsAll, packet_of_part}
use Rattle.class_disk.specs.declared.parts.Part.{Part}
use Rattle.std.proofs.lemmas.List.{drop_all}

-- what stands at a place, and all behind it
pub at_place : {X : Type 0} (xs : List X) (k : ℕ) → k < length xs → (x : X) × (slice_get xs k ≡ Some x) × (drop k xs ≡ x ∷ drop (k + 1) xs)
at_place [] k low = absurd (omega arith)
at_place (x ∷ xs) zero low = (x, refl, refl)
at_place (x ∷ xs) (suc k) low =
    let r = at_place xs k (omega arith) in
    let e : suc k + 1 ≡ suc (k + 1) = omega arith in
    (r.0, r.1, r.2 ∙ ap (λ n. r.0 ∷ drop n (x ∷ xs)) (sym e))

pub found_same : {X : Type 0} (x : Option X) (y z : X) → x ≡ Some y → x ≡ Some z → y ≡ z
found_same x y z a b = cc (a, b)

-- the packets of the parts before this place were cancelled: those behind it are left to be
pub record CancelsSoFar (v : DeviceView) (b : TableView) (slot k : ℕ) (v' : DeviceView) : Type 0 where
  pub goes_on : (o : Opened) → open_at slot b.opens ≡ Some o → (w : DeviceView) → CancelsAll v' (map packet_of_part (drop k o.parts)) w → CancelsAll v (map packet_of_part o.parts) w

module _ (v : DeviceView) (b : TableView) (slot : ℕ) where
  pub cancels_none : CancelsSoFar v b slot 0 v
  cancels_none = record { goes_on = λ o is_open w h. h }

  -- there is such a part
  pub part_at : (k count : ℕ) → k < count → (is_open : (o : Opened) × (open_at slot b.opens ≡ Some o)) → ((o : Opened) → open_at slot b.opens ≡ Some o → count ≡ length o.parts) → (part : Part) × IsPartAt b slot k part
  part_at k count low (o, is_open) counts =
      let n = counts o is_open in
      let at = at_place o.parts k (omega arith) in
      (at.0, record { o = o; is_open = is_open; is_there = at.1 })

  pub cancels_more : (k : ℕ) (v' v'' : DeviceView) (part : Part) → IsPartAt b slot k part → CancelsSoFar v b slot k v' → CancelsBelow v' (below_by part.progress) v'' → CancelsSoFar v b slot (k + 1) v''
  cancels_more k v' v'' part at h c = record {
    goes_on = λ o is_open w more.
        let same : at.o ≡ o = found_same _ _ _ at.is_open is_open in
        let there : slice_get o.parts k ≡ Some part = subst (λ (x : Opened). slice_get x.parts k ≡ Some part) same at.is_there in
        let p = at_place o.parts k (slice_get_within o.parts k part there) in
        let is : p.0 ≡ part = found_same _ _ _ p.1 there in
        h.goes_on o is_open w (subst (λ ps. CancelsAll v' (map packet_of_part ps) w) (sym p.2)
        (v'', subst (λ (x : Part). CancelsBelow v' (below_by x.progress) v'') (sym is) c, more));
  }

  pub cancels_all : (k count : ℕ) (v' : DeviceView) → k ≡ count → ((o : Opened) → open_at slot b.opens ≡ Some o → count ≡ length o.parts) → CancelsSoFar v b slot k v' → (o : Opened) → open_at slot b.opens ≡ Some o → CancelsAll v (map packet_of_part o.parts) v'
  cancels_all k count v' at_end counts h o is_open =
      let n : k ≡ length o.parts = at_end ∙ counts o is_open in
      h.goes_on o is_open v' (subst (λ ps. CancelsAll v' (map packet_of_part ps) v') (sym (ap (λ m. drop m o.parts) n ∙ drop_all (length o.parts) o.parts (omega arith))) refl)
