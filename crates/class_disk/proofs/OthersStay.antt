-- What the layer below leaves as it is, and the table too, is shown as it was.
use Rattle.std.proofs.Common.{◌≡◌, ℕ, suc, ◌+◌, List, [], ◌∷◌, ◌++◌, Some, refl, sym, ◌∙◌, ap, subst, arith, map, get_or}
use Rattle.std.specs.Prelude.{IsPermutation, All, Contains}
use Rattle.class_disk.proofs.Common.{IsPermutation-sym, IsPermutation-trans, IsPermutation-middle, All-permutation, Contains-permutation, All-map, All-contains, Contains-get_or, AreDistinct, Rules, OpenRequest, State, IsPermutation-uncons, DeviceView, StaysOpen, Opened, TableView, opened, open_at, known, knowns, view_of, IsCoupled, class_rules, open_under, part_of, divided_of}
use Rattle.class_disk.specs.inside.Joint.{Part, Below, Here, Known, note_of, known_of, Divided, parts_requests, parts_marks, parts_busy, shown, shown_mark}
use Rattle.class_disk.proofs.Acting.{map_there}
use Rattle.class_disk.proofs.CoupledRun.{Contains-map}
use Rattle.class_disk.proofs.CoupledSteps.{in_requests}
use Rattle.class_disk.proofs.Showing.{open_is}
use Rattle.class_disk.proofs.Standing.{HasOtherSlot, AreRising, StandsIn, stands_by}

-- A REQUEST WHOSE PARTS BELOW STAY

module _ (s s' : State) where
  -- below these are the same under their numbers
  abbrev AreSame : List Part → Type 0
  AreSame parts = (o : OpenRequest) → Contains (parts_requests parts) o → open_under o.number s.requests ≡ open_under o.number s'.requests

  same_marks : (parts : List Part) → AreSame parts → parts_marks (map (part_of s) (map note_of parts)) ≡ parts_marks
      (map (part_of s') (map note_of parts))
  same_marks [] same = refl
  same_marks (Below o again ps ∷ parts) same =
      ap (λ x. map (shown_mark again) x.marks ++ parts_marks (map (part_of s) (map note_of parts))) (same o (0, omega arith, refl))
      ∙ ap (λ zs. map (shown_mark again) (open_under o.number s'.requests).marks ++ zs)
      (same_marks parts (λ x (k, low, is). same x (suc k, omega arith, is)))
  same_marks (Here marks busy ∷ parts) same = ap (λ zs. marks ++ zs) (same_marks parts same)

  same_busy : (parts : List Part) → AreSame parts → parts_busy (map (part_of s) (map note_of parts)) ≡ parts_busy
      (map (part_of s') (map note_of parts))
  same_busy [] same = refl
  same_busy (Below o again ps ∷ parts) same =
      ap (λ x. (again + x.busy_returns) + parts_busy (map (part_of s) (map note_of parts))) (same o (0, omega arith, refl))
      ∙ ap (λ n. (again + (open_under o.number s'.requests).busy_returns) + n) (same_busy parts (λ x (k, low, is). same x (suc k, omega arith, is)))
  same_busy (Here marks busy ∷ parts) same = ap (λ n. busy + n) (same_busy parts same)

  same_shown : (e : Divided) → AreSame e.parts → shown (divided_of s (known_of e)) ≡ shown (divided_of s' (known_of e))
  same_shown e same =
      ap (λ m. record (shown (divided_of s (known_of e))) { marks = m }) (same_marks e.parts same)
      ∙ ap (λ n. record (shown (divided_of s' (known_of e))) { busy_returns = n }) (same_busy e.parts same)

module _ (v : DeviceView) (b : TableView) (v' : DeviceView) (b' : TableView) (c : IsCoupled v b) (distinct : AreDistinct v.state)
    (distinct' : AreDistinct v'.state)
    (below : All (StaysOpen v'.state) v.state.requests) (same_rules : v'.rules ≡ v.rules) (table : (e : ℕ × Opened) → Contains b.opens e
    → Contains b'.opens e) where
  abbrev rules : Rules
  rules = class_rules v.rules

  known_stays : (k : Known) → Contains (knowns rules b) k → shown (divided_of v.state k) ≡ shown (divided_of v'.state k)
  known_stays k there =
      let m = map_there known_of c.j.divided k (Contains-permutation _ _ k (IsPermutation-sym _ _ c.knows) there) in
      let e : Divided = m.0 in
      subst (λ (x : Known). shown (divided_of v.state x) ≡ shown (divided_of v'.state x)) m.2
      (same_shown v.state v'.state e (λ o in_e.
      let is_open : Contains v.state.requests o = Contains-permutation _ _ o c.same.requests (in_requests e o c.j.divided m.1 in_e) in
      open_is v.state o distinct is_open ∙ sym (open_is v'.state o distinct' (All-contains (StaysOpen v'.state) v.state.requests o below is_open))))

  pub others_stay_above : All (StaysOpen (view_of v' b').state) (view_of v b).state.requests
  others_stay_above =
      let Stays : OpenRequest → Type 0 = λ o. Contains (map shown (map (divided_of v'.state) (knowns (class_rules v'.rules) b'))) o in
      All-map Stays shown (map (divided_of v.state) (knowns rules b))
      (All-map (λ m. Stays (shown m)) (divided_of v.state) (knowns rules b)
      (All-map (λ k. Stays (shown (divided_of v.state k))) (known rules) (map opened b.opens)
      (All-map (λ (o : Opened). Stays (shown (divided_of v.state (known rules o)))) opened b.opens
      (λ i d low. one (get_or b.opens i d) (Contains-get_or b.opens i d low)))))
    where
      one : (e : ℕ × Opened) → Contains b.opens e → Contains (map shown (map (divided_of v'.state) (knowns (class_rules v'.rules) b')))
          (shown (divided_of v.state (known rules e.1)))
      one e there =
          let old : Contains (knowns rules b) (known rules e.1) =
          Contains-map (known rules) (map opened b.opens) e.1 (Contains-map opened b.opens e there) in
          let new : Contains (knowns rules b') (known rules e.1) =
          Contains-map (known rules) (map opened b'.opens) e.1 (Contains-map opened b'.opens e (table e there)) in
          subst (λ (r : Rules). Contains (map shown (map (divided_of v'.state) (knowns (class_rules r) b'))) (shown (divided_of v.state (known rules e.1))))
          (sym same_rules)
          (subst (Contains (map shown (map (divided_of v'.state) (knowns rules b')))) (sym (known_stays (known rules e.1) old))
          (Contains-map shown (map (divided_of v'.state) (knowns rules b')) _ (Contains-map (divided_of v'.state) (knowns rules b') _ new)))

-- the requests that were open before another was have other slots
pub others_apart : (slot : ℕ) (o : Opened) (opens now : List (ℕ × Opened)) → AreRising 0 now → open_at slot now ≡ Some o
    → IsPermutation now ((slot, o) ∷ opens) → All (HasOtherSlot slot) opens
others_apart slot o opens now rise is_open all =
    let s : StandsIn now slot o = stands_by 0 slot now o rise is_open in
    All-permutation (HasOtherSlot slot) _ _
    (IsPermutation-uncons (slot, o) _ _
    (IsPermutation-trans _ _ _
    (IsPermutation-sym _ _ (subst (λ es. IsPermutation es ((slot, o) ∷ (s.before ++ s.after))) (sym s.opens_are) (IsPermutation-middle s.before (slot, o) s.after))) all))
    s.apart
