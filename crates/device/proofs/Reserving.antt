-- What the adapter reserves, by one call after the other.
use Rattle.std.proofs.Common.{◌≡◌, ◌⊎◌, inl, inr, ℕ, ◌+◌, List, [], ◌∷◌, Option, Some, None, refl, sym, ap, subst, ◌∙◌, arith}
use Rattle.std.specs.Prelude.{slice_get, All}
use Rattle.std.proofs.lemmas.List.Elements.{All-weaker}
use Rattle.sector.specs.declared.Extent.{Extent}
use Rattle.sector.specs.Extents.{CoversMoreNear, IsIn, IsInSome, IsNear}
use Rattle.adapter.specs.View.{AdapterView}
use Rattle.machine.specs.declared.Request.{Request}
use Rattle.machine.specs.Rules.{Rules, home}
use Rattle.device.specs.View.{DeviceView, Packet, Reserved, IsOffRooms, room_at, sectors_asked}
use Rattle.device.specs.Served.{HasOtherSpot, Reserves, ReservesNear}

near_then : (run : ℕ) (extent : Extent) (old mid new : List Extent) → CoversMoreNear run extent old mid → CoversMoreNear run extent mid new
    → CoversMoreNear run extent old new
near_then run extent old mid new first second = λ sector covered. by sector (second sector covered)
  where
    by : (sector : ℕ) → IsInSome mid sector ⊎ IsNear run extent sector → IsInSome old sector ⊎ IsNear run extent sector
    by sector (inl covered) = first sector covered
    by sector (inr near) = inr near

-- what is near a part of an extent is near the extent
near_inside : (run : ℕ) (part whole : Extent) (old new : List Extent) → ((sector : ℕ) → IsIn sector part → IsIn sector whole)
    → CoversMoreNear run part old new → CoversMoreNear run whole old new
near_inside run part whole old new inside h = λ sector covered. by sector (h sector covered)
  where
    by : (sector : ℕ) → IsInSome old sector ⊎ IsNear run part sector → IsInSome old sector ⊎ IsNear run whole sector
    by sector (inl covered) = inl covered
    by sector (inr (other, is_in, same)) = inr (other, inside other is_in, same)

-- the adapter stays as it was, or as it was after a call
pub near_same : (v v' : DeviceView) (r : Request) → v'.adapter ≡ v.adapter → ReservesNear v r v'
near_same v v' r same =
    subst (λ (a : AdapterView). CoversMoreNear v.adapter.run (sectors_asked v.rules r) v.adapter.reserved a.reserved) (sym same) (λ sector covered. inl covered)

pub near_after : (v v1 v2 : DeviceView) (r : Request) → v2.adapter ≡ v1.adapter → ReservesNear v r v1 → ReservesNear v r v2
near_after v v1 v2 r same h =
    subst (λ (a : AdapterView). CoversMoreNear v.adapter.run (sectors_asked v.rules r) v.adapter.reserved a.reserved) (sym same) h

-- then it reserves for a part of the request
pub near_part : (v v1 v2 : DeviceView) (r part : Request) → Reserves v v1
    → ((sector : ℕ) → IsIn sector (sectors_asked v.rules part) → IsIn sector (sectors_asked v.rules r))
    → ReservesNear v r v1 → ReservesNear v1 part v2 → ReservesNear v r v2
near_part v v1 v2 r part reserves inside first second =
    let same_run : v1.adapter.run ≡ v.adapter.run = ap (λ (x : DeviceView). x.adapter.run) reserves.same in
    let same_rules : v1.rules ≡ v.rules = ap (λ (x : DeviceView). x.rules) reserves.same in
    let by_rules : CoversMoreNear v1.adapter.run (sectors_asked v.rules part) v1.adapter.reserved v2.adapter.reserved =
    subst (λ (x : Rules). CoversMoreNear v1.adapter.run (sectors_asked x part) v1.adapter.reserved v2.adapter.reserved) same_rules second in
    let moved : CoversMoreNear v.adapter.run (sectors_asked v.rules part) v1.adapter.reserved v2.adapter.reserved =
    subst (λ (n : ℕ). CoversMoreNear n (sectors_asked v.rules part) v1.adapter.reserved v2.adapter.reserved) same_run by_rules in
    near_then v.adapter.run (sectors_asked v.rules r) v.adapter.reserved v1.adapter.reserved v2.adapter.reserved first
    (near_inside v.adapter.run (sectors_asked v.rules part) (sectors_asked v.rules r) v1.adapter.reserved v2.adapter.reserved inside moved)

-- WHERE A SECTOR STANDS

abbrev at_home : Option Extent → ℕ → ℕ
at_home None i = i
at_home (Some extent) i = extent.first + i

home_at : (rules : Rules) (volume i : ℕ) → home rules (Some volume) i ≡ at_home (slice_get rules.partitions volume) i
home_at rules volume i = cases (slice_get rules.partitions volume)
  where
    cases : (o : Option Extent) → (elim o as (λ _. ℕ) [ Some extent ↦ extent.first + i | None ↦ i ]) ≡ at_home o i
    cases None = refl
    cases (Some e) = refl

-- this many sectors further
pub home_further : (rules : Rules) (volume i n : ℕ) → home rules (Some volume) (i + n) ≡ home rules (Some volume) i + n
home_further rules volume i n = home_at rules volume (i + n) ∙ by (slice_get rules.partitions volume) ∙ ap (λ m. m + n) (sym (home_at rules volume i))
  where
    by : (o : Option Extent) → at_home o (i + n) ≡ at_home o i + n
    by None = refl
    by (Some e) = omega arith

-- on the whole disk, at its own number
pub home_of_whole : (rules : Rules) (volume i count : ℕ) → rules.partitions ≡ record { first = 0; count = count } ∷ [] → volume ≡ 0 → home rules (Some volume) i ≡ i
home_of_whole rules volume i count one top =
    let disk : Extent = record { first = 0; count = count } in
    home_at rules volume i
    ∙ ap (λ (es : List Extent). at_home (slice_get es volume) i) one
    ∙ ap (λ (v : ℕ). at_home (slice_get (disk ∷ []) v) i) top ∙ (let e : disk.first + i ≡ i = omega arith in e)

-- WHOSE SPOT IT IS

none_some : {X : Type 0} (x : X) → None ≡ Some x → ⊥
none_some x e = absurd (cc (e))

-- a spot that is reserved is that of no packet whose spot is vacant
pub packets_apart : (rooms : List (Option Reserved)) (spot : ℕ) (reserved : Reserved) (packets : List Packet) → room_at rooms spot ≡ Some reserved
    → All (IsOffRooms rooms) packets → All (HasOtherSpot spot) packets
packets_apart rooms spot reserved packets is off =
    All-weaker (IsOffRooms rooms) (HasOtherSpot spot)
    (λ packet vacant same. none_some reserved (sym vacant ∙ ap (room_at rooms) same ∙ is)) packets off
