-- The request that ended first, taken out of the table.
use Rattle.std.proofs.Common.{◌≡◌, ◌<◌, ◌≤◌, ℕ, zero, suc, ◌+◌, ◌*◌, ◌==◌, ◌^◌, Bool, true, false, List, [], ◌∷◌, Some, None, refl, sym, ◌∙◌, ap, subst, arith, length, IsSome}
use Rattle.std.specs.Prelude.{Contains, if◌then◌else◌}
use Rattle.class_disk.proofs.Common.{mul-le-mul_left, ne_eqb, eqb-true, Contains-permutation, Climb, Buffer, Read, Success, Rules, is_transfer, DeviceView, IsOrderly, Carries, HandsUp, SetsRoom, Sizes, Places, lowest_status, joined_of, Opened, TableView, opened_of, open_from, open_at, ended_in, AddsSlot, TakesEnded, Completes, class_rules, view_of, AreKept, IsInHand, part_count_of, part_request_of, held_as, reserved_for, is_whole}
use Rattle.class_disk.specs.declared.requests.Slot.TheVariants.{Reserved, Open}
use Rattle.class_disk.proofs.Slots.{Slots, equals}
use Rattle.class_disk.proofs.PiecePlaces.{as_many}
use Rattle.class_disk.proofs.HandingUp.{is_open}
use Rattle.class_disk.proofs.HandedUp.{handed_up, fits}
use Rattle.class_disk.specs.declared.parts.Part.{Part}

-- a request whose slot stands among those that have ended has none unfinished
pub ended_entry : (es : List (ℕ × Opened)) (slot : ℕ) → Contains (ended_in es) slot → (x : ℕ × Opened) × Contains es x × (x.0 ≡ slot) × (x.1.unfinished ≡ 0)
ended_entry [] slot c = absurd (let w = c.1 in omega arith)
ended_entry (x ∷ es) slot c = by (x.1.unfinished == 0) refl c (λ later. ended_entry es slot later)
  where
    by : (over : Bool) → (x.1.unfinished == 0) ≡ over → Contains (if over then x.0 ∷ ended_in es else ended_in es) slot
        → (Contains (ended_in es) slot → (y : ℕ × Opened) × Contains es y × (y.0 ≡ slot) × (y.1.unfinished ≡ 0))
        → (y : ℕ × Opened) × Contains (x ∷ es) y × (y.0 ≡ slot) × (y.1.unfinished ≡ 0)
    by true is (zero, low, at) rest = (x, (0, omega arith, refl), at, eqb-true _ _ is)
    by true is (suc k, low, at) rest = let r = rest (k, omega arith, at) in (r.0, (suc r.1.0, let w = r.1.1 in omega arith, r.1.2), r.2, r.3)
    by false is c rest = let r = rest c in (r.0, (suc r.1.0, let w = r.1.1 in omega arith, r.1.2), r.2, r.3)

from_first : (first : ℕ) (slots : Slots) (x : ℕ × Opened) → Contains (open_from first slots) x → first ≤ x.0
from_first first [] x c = absurd (let w = c.1 in omega arith)
from_first first (None ∷ rest) x c = let l = from_first (first + 1) rest x c in omega arith
from_first first (Some (Reserved places) ∷ rest) x c = let l = from_first (first + 1) rest x c in omega arith
from_first first (Some (Open t) ∷ rest) x (zero, low, is) = let e : first ≡ x.0 = ap (λ (y : ℕ × Opened). y.0) is in omega (arith, e)
from_first first (Some (Open t) ∷ rest) x (suc k, low, is) = let l = from_first (first + 1) rest x (k, omega arith, is) in omega arith

-- the slots of the table differ, so it is the one open in its slot
pub open_entry : (first : ℕ) (slots : Slots) (x : ℕ × Opened) → Contains (open_from first slots) x → open_at x.0 (open_from first slots) ≡ Some x.1
open_entry first [] x c = absurd (let w = c.1 in omega arith)
open_entry first (None ∷ rest) x c = open_entry (first + 1) rest x c
open_entry first (Some (Reserved places) ∷ rest) x c = open_entry (first + 1) rest x c
open_entry first (Some (Open t) ∷ rest) x (zero, low, is) =
    subst (λ (y : ℕ × Opened). open_at y.0 ((first, opened_of t) ∷ open_from (first + 1) rest) ≡ Some y.1) is
    (let e : (first == first) ≡ true = equals first in rw e refl)
open_entry first (Some (Open t) ∷ rest) x (suc k, low, is) =
    let c : Contains (open_from (first + 1) rest) x = (k, omega arith, is) in
    let l = from_first (first + 1) rest x c in
    let e : (first == x.0) ≡ false = ne_eqb first x.0 (λ same. omega (arith, same, l)) in
    let r = open_entry (first + 1) rest x c in
    rw e r

some_same : (x y : Opened) → Some x ≡ Some y → x ≡ y
some_same x y e = cc (e)

module _ (rules : Rules) (b : TableView) (k : AreKept rules b) (slots : Slots) (of_slots : b.opens ≡ open_from 0 slots) where
  ended_there : (slot : ℕ) → Contains b.ended slot → (x : ℕ × Opened) × Contains b.opens x × (x.0 ≡ slot) × (x.1.unfinished ≡ 0)
  ended_there slot c = ended_entry b.opens slot (Contains-permutation _ _ slot k.ended c)

  there_open : (x : ℕ × Opened) → Contains b.opens x → open_at x.0 b.opens ≡ Some x.1
  there_open x c = subst (λ es. open_at x.0 es ≡ Some x.1) (sym of_slots) (open_entry 0 slots x (subst (λ es. Contains es x) of_slots c))

  pub ended_open : (slot : ℕ) → Contains b.ended slot → IsSome (open_at slot b.opens)
  ended_open slot c =
      let r = ended_there slot c in
      subst IsSome (sym (ap (λ n. open_at n b.opens) (sym r.2) ∙ there_open r.0 r.1)) refl

  pub over_of : (slot : ℕ) (o : Opened) (new : TableView) → TakesEnded b slot o new → o.unfinished ≡ 0
  over_of slot o new t =
      let r = ended_there slot (subst (λ ns. Contains ns slot) (sym t.front) (0, omega arith, refl)) in
      let same : o ≡ r.0.1 = some_same o r.0.1 (sym t.is_open ∙ ap (λ n. open_at n b.opens) (sym r.2) ∙ there_open r.0 r.1) in
      ap (λ (x : Opened). x.unfinished) same ∙ r.3

module _ (v : DeviceView) (b : TableView) (h : IsInHand v b) (ordered : IsOrderly v)
    (slots : Slots) (of_slots : b.opens ≡ open_from 0 slots) (slot : ℕ) (o : Opened) (new : TableView) (t : TakesEnded b slot o new) where
  pub over_it : o.unfinished ≡ 0
  over_it = over_of (class_rules v.rules) b h.kept slots of_slots slot o new t

  pub small_up : o.request.extent.count * new.sizes.sector_size < 2 ^ 64
  small_up =
      let same = ap (λ (x : TableView). x.sizes.sector_size) t.after in
      let cut = (is_open v b h ordered slot o new.opens new.ended t.opens over_it).cut.bounded.short in
      let bytes : b.sizes.sector_size ≤ 4096 = let a = ordered.adapter.sector_size in let e = ordered.read.same_size in let f = h.kept.sizes.sector_size in omega arith in
      let m : o.request.extent.count * b.sizes.sector_size ≤ o.request.extent.count * 4096 = mul-le-mul_left o.request.extent.count bytes in
      subst (λ n. o.request.extent.count * n < 2 ^ 64) (sym same) (omega (arith, m, cut))

  pub room_up : (bytes : List ℕ) → o.irp.payload ≡ Buffer bytes → o.request.kind ≡ Read → lowest_status o.parts ≡ Success → length (joined_of o.parts) ≤ length bytes
  room_up bytes is kind succeeds =
      let f = fits v b h ordered slot o new.opens new.ended t.opens over_it kind succeeds in
      let c : Carries false (class_rules v.rules) o.request (Buffer bytes) = subst (Carries false (class_rules v.rules) o.request) is (is_open v b h ordered slot o new.opens new.ended t.opens over_it).carries in
      let l = ap (λ x. if is_transfer x then o.request.extent.count * v.rules.sector_size else 0) kind in
      omega (arith, f, c, l)

  pub some_up : o.lent ≡ true → 0 < length o.parts
  some_up lent =
      let w = is_open v b h ordered slot o new.opens new.ended t.opens over_it in
      let limit : ℕ = (class_rules v.rules).max_transfer in
      let many = as_many (part_request_of limit o.request) 0 (part_count_of limit o.request) o.parts w.cut.parts_are in
      let one = eqb-true (part_count_of limit o.request) 1 (sym w.lent ∙ lent) in
      omega (arith, many, one)

  pub hands_up : (climb : Climb) (parts : List Part) → Completes new.sizes o climb parts → (empty : Places) → empty.parts.items ≡ [] → empty.request ≡ o.request
      → (last : TableView) → AddsSlot new (held_as slot empty) last → (v' : DeviceView) → v' ≡ record v { rooms = v'.rooms } → HandsUp false (view_of v b) climb slot (view_of v' last)
  hands_up climb parts c empty none request_is last adds v' freed =
      let same : new.sizes ≡ b.sizes = ap (λ (x : TableView). x.sizes) t.after in
      let rooms : new.rooms ≡ b.rooms = ap (λ (x : TableView). x.rooms) t.after in
      let sets : SetsRoom b.rooms slot None (Some (record { request = o.request; whole = false })) last.rooms =
      subst (λ w. SetsRoom b.rooms slot None (Some (record { request = o.request; whole = w })) last.rooms) (ap is_whole none)
      (subst (λ q. SetsRoom b.rooms slot None (Some (record { request = q; whole = is_whole empty.parts.items })) last.rooms) request_is
      (subst (λ rs. SetsRoom rs slot None (Some (reserved_for (held_as slot empty))) last.rooms) rooms adds.room)) in
      subst (λ (x : DeviceView). HandsUp false (view_of v b) climb slot (view_of x last)) (sym freed)
      (subst (λ x. HandsUp false (view_of v b) climb slot (view_of v x)) (sym (adds.after ∙ ap (λ (x : TableView). record x { held = last.held; rooms = last.rooms }) t.after))
      (handed_up v b h ordered slot o new.opens new.ended t.opens over_it climb parts (subst (λ (s : Sizes). Completes s o climb parts) same c) last.held last.rooms sets))
