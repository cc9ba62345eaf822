-- The part whose packet the layer below hands up, in the table.
use Rattle.std.proofs.Common.{◌≡◌, ◌<◌, ◌≤◌, ℕ, suc, ◌+◌, ◌==◌, Bool, true, false, List, [], ◌∷◌, ◌++◌, refl, sym, ◌∙◌, ap, subst, arith, map, length, rules, tests}
use Rattle.std.specs.Prelude.{slice_get, All, Any, Contains, IsPermutation, Some, eqb, if◌then◌else◌}
use Rattle.class_disk.proofs.Common.{eqb-true, IsPermutation-sym, IsPermutation-middle, Contains-permutation, All-permutation, length_permutation, All-head, All-contains, Contains-append_right, Box, IsDistinct, IsDistinct-IsPermutation, Irp, first_unique, Rules, OpenRequest, State, Climb, Routine, Finished, Climbs, information, DeviceLabel, DeviceView, Packet, IsOrderly, IsTopmost, packet_number, HandsUp, IsAt, Progress, class_rules, unfinished_of, unfinished_by, Opened, TableView, opened, all_open, ended_in, open_at, note_by, note, known, knowns, IsOpen, AreSpotted, IsSpotted, IsSpottedBy, IsMidway}
use Rattle.class_disk.specs.declared.parts.Part.{Part}
use Rattle.class_disk.specs.declared.parts.Progress.TheVariants.{Ready, Below, Ended as HasEnded}
use Rattle.class_disk.specs.inside.Joint.{Sent, Known, note_of, known_of, Divided, Joint, Below as IsBelow}
use Rattle.class_disk.specs.inside.Owners.{IsOwnedBy, AreOwnedFrom, slot_at, place_at}
use Rattle.class_disk.proofs.CoupledRun.{Contains-map}
use Rattle.class_disk.proofs.CoupledSteps.{divided_with}
use Rattle.class_disk.proofs.Focus.{Found, find}
use Rattle.class_disk.proofs.Acting.{map_there}
use Rattle.class_disk.proofs.Standing.{AreRising, StandsIn, stands_there, is_found, split_there, at_end_of, All-at}
use Rattle.class_disk.proofs.Noting.{PartStands, owned_at, unfinished-append}

-- a packet with no location above is finished
pub finished_by : {takes : Bool} (v : DeviceView) (climb : Climb) (spot : ℕ) (v' : DeviceView) → HandsUp takes v climb spot v' → All IsTopmost v.packets → (irp : Box Irp) × (climb ≡ Finished irp)
finished_by {takes} v climb spot v' h topmost = by climb h.climbs
  where
    top : h.answer.packet.above ≡ []
    top = All-head IsTopmost h.answer.packet h.left.others (All-permutation IsTopmost _ _ h.left.is_in topmost)

    by : (c : Climb) → Climbs h.answer.packet.above h.answer.packet.number h.answer.answers.request.cancelled h.answer.status (information h.answer.answers.request.request h.answer.status) h.answer.payload c → (irp : Box Irp) × (c ≡ Finished irp)
    by (Finished irp) is = (irp, refl)
    by (Routine driver irp) is = absurd (none is.higher is.own is.nearer (sym top ∙ is.are_above))
      where
        none : {X : Type 0} (xs : List X) (y : X) (zs : List X) → [] ≡ (xs ++ y ∷ []) ++ zs → ⊥
        none [] y zs e = cc (e)
        none (x ∷ xs) y zs e = cc (e)

-- a part that is noted as below is there
sent_by : (rules : Rules) (part : Part) (p : Progress) (number again : ℕ) → note_by rules part p ≡ Sent number again → (spot : ℕ) × (p ≡ Below number spot) × (part.restarts ≡ again)
sent_by rules part (Ready place) number again h = absurd (cc (h))
sent_by rules part (HasEnded ended) number again h = absurd (cc (h))
sent_by rules part (Below n spot) number again h =
    let a : n ≡ number = cc (h) in
    let b : part.restarts ≡ again = cc (h) in
    (spot, ap (λ m. Below m spot) a, b)

-- of those that have ended there are fewer, where one has not
pub ended_few : (xs : List (ℕ × Opened)) → length (ended_in xs) ≤ length xs
ended_few [] = omega arith
ended_few (x ∷ xs) = by (x.1.unfinished == 0) (ended_few xs)
  where
    by : (t : Bool) → length (ended_in xs) ≤ length xs → length (if t then x.0 ∷ ended_in xs else ended_in xs) ≤ suc (length xs)
    by true h = omega arith
    by false h = omega arith

ended_fewer : (xs : List (ℕ × Opened)) (x : ℕ × Opened) (ys : List (ℕ × Opened)) → 0 < x.1.unfinished → length (ended_in (xs ++ (x ∷ ys))) < length (xs ++ (x ∷ ys))
ended_fewer [] x ys some = by (x.1.unfinished == 0) refl (ended_few ys)
  where
    by : (t : Bool) → (x.1.unfinished == 0) ≡ t → length (ended_in ys) ≤ length ys → length (if t then x.0 ∷ ended_in ys else ended_in ys) < suc (length ys)
    by true e h = absurd (let n = eqb-true x.1.unfinished 0 e in omega arith)
    by false e h = omega arith
ended_fewer (z ∷ xs) x ys some = by (z.1.unfinished == 0) (ended_fewer xs x ys some)
  where
    by : (t : Bool) → length (ended_in (xs ++ (x ∷ ys))) < length (xs ++ (x ∷ ys)) → length (if t then z.0 ∷ ended_in (xs ++ (x ∷ ys)) else ended_in (xs ++ (x ∷ ys))) < suc (length (xs ++ (x ∷ ys)))
    by true h = omega arith
    by false h = omega arith

-- packets of one number are at one spot
same_spot : (v : DeviceView) → IsOrderly v → (packet : Packet) → Contains v.packets packet → (spot number : ℕ) → packet.number ≡ number → Any (IsAt spot number) v.packets → spot ≡ packet.spot
same_spot v o packet there spot number is (i, x, low, x_is, at) =
    let a = split_there packet v.packets there in
    let c = split_there x v.packets (i, low, x_is) in
    let p : IsPermutation v.packets (packet ∷ (a.0 ++ a.1)) = subst (λ xs. IsPermutation xs (packet ∷ (a.0 ++ a.1))) (sym a.2) (IsPermutation-middle a.0 packet a.1) in
    let q : IsPermutation v.packets (x ∷ (c.0 ++ c.1)) = subst (λ xs. IsPermutation xs (x ∷ (c.0 ++ c.1))) (sym c.2) (IsPermutation-middle c.0 x c.1) in
    let apart : IsDistinct eqb (map packet_number v.packets) = IsDistinct-IsPermutation eqb flips _ _ (IsPermutation-sym _ _ o.packets) o.distinct.requests in
    let one = first_unique packet_number v.packets packet x (a.0 ++ a.1) (c.0 ++ c.1) apart p q (at.is_number ∙ sym is) in
    sym at.is_spot ∙ ap (λ (y : Packet). y.spot) (sym one.0)
  where
    flips : (m n : ℕ) → eqb m n ≡ eqb n m
    flips m n = search (rules, tests)

-- the part of a packet of this number, at this spot
pub record Handed (b : TableView) (number spot : ℕ) : Type 0 where
  pub o : Opened
  pub part : Part
  pub stands : PartStands b (slot_at b.owners spot) (place_at b.owners spot) o part number spot

-- at some spot
record HandedAt (v : DeviceView) (b : TableView) (number : ℕ) : Type 0 where
  spot : ℕ
  handed : Handed b number spot
  spotted : Any (IsAt spot number) v.packets

module _ (Is : OpenRequest → Type 0) (first : State) (labels : List DeviceLabel) (v : DeviceView) (b : TableView) (m : IsMidway Is first labels v b)
    (r : AreRising 0 b.opens) where
  abbrev rules_here : Rules
  rules_here = class_rules v.rules

  -- a request below is a part of an open request
  handed_by : (x : OpenRequest) → Contains v.state.requests x → HandedAt v b x.number
  handed_by x open' =
      let j : Joint = m.taking.j in
      let f : Found j.divided x = find j.divided x (Contains-permutation _ _ x (IsPermutation-sym _ _ m.taking.same.requests) open') in
      let e : Divided = divided_with f.whole f.front f.back x f.again f.pieces in
      let e_there : Contains j.divided e = subst (λ es. Contains es e) (sym f.is_there) (Contains-append_right f.before (e ∷ f.after) e (0, omega arith, refl)) in
      let k_there : Contains (knowns rules_here b) (known_of e) = Contains-permutation _ _ (known_of e) m.taking.knows (Contains-map known_of j.divided e e_there) in
      let a = map_there (known rules_here) (all_open b) (known_of e) k_there in
      let q = map_there opened b.opens a.0 a.1 in
      let entry : ℕ × Opened = q.0 in
      let notes : map (note rules_here) entry.1.parts ≡ map note_of e.parts = ap (λ (o : Opened). map (note rules_here) o.parts) q.2 ∙ ap (λ (k : Known). k.parts) a.2 in
      let sent : Contains (map (note rules_here) entry.1.parts) (Sent x.number f.again) = subst (λ ns. Contains ns (Sent x.number f.again)) (sym notes) (Contains-map note_of e.parts (IsBelow x f.again f.pieces) (Contains-append_right f.front (IsBelow x f.again f.pieces ∷ f.back) (IsBelow x f.again f.pieces) (0, omega arith, refl))) in
      let p = map_there (note rules_here) entry.1.parts (Sent x.number f.again) sent in
      let below = sent_by rules_here p.0 p.0.progress x.number f.again p.2 in
      let sp = split_there p.0 entry.1.parts p.1 in
      let is_open : IsOpen rules_here b.owners entry = All-contains (IsOpen rules_here b.owners) b.opens entry m.kept.opens q.1 in
      let owned : IsOwnedBy b.owners entry.0 (0 + length sp.0) (Below x.number below.0) = subst (IsOwnedBy b.owners entry.0 (0 + length sp.0)) below.1 (owned_at b.owners entry.0 0 sp.0 p.0 sp.1 (subst (AreOwnedFrom b.owners entry.0 0) sp.2 is_open.owned)) in
      let n = owned.1 in
      let spotted : AreSpotted v.packets a.0 = All-contains (AreSpotted v.packets) (all_open b) a.0 m.below.spotted a.1 in
      let mine : IsSpotted v.packets p.0 = All-contains (IsSpotted v.packets) entry.1.parts p.0 (subst (AreSpotted v.packets) (sym q.2) spotted) p.1 in
      record {
        spot = below.0;
        handed = record {
          o = entry.1;
          part = p.0;
          stands = record {
            stands = subst (λ s. StandsIn b.opens s entry.1) (sym owned.0) (stands_there 0 entry.0 entry.1 b.opens r q.1);
            front = sp.0;
            back = sp.1;
            parts_are = sp.2;
            place = omega arith;
            is_below = below.1;
          };
        };
        spotted = subst (IsSpottedBy v.packets) below.1 mine;
      }

  pub handed : {takes : Bool} (climb : Climb) (spot : ℕ) (v' : DeviceView) → IsOrderly v → (h : HandsUp takes v climb spot v') → Handed b h.answer.packet.number h.answer.packet.spot
  handed climb spot v' ordered h =
      let d = handed_by h.answer.answers.request (Contains-permutation _ _ h.answer.answers.request (IsPermutation-sym _ _ h.answer.answers.is_open) (0, omega arith, refl)) in
      let there : Contains v.packets h.answer.packet = Contains-permutation _ _ h.answer.packet (IsPermutation-sym _ _ h.left.is_in) (0, omega arith, refl) in
      let at : d.spot ≡ h.answer.packet.spot = same_spot v ordered h.answer.packet there d.spot h.answer.answers.request.number (sym h.answer.answers.is_number) d.spotted in
      subst (λ n. Handed b n h.answer.packet.spot) h.answer.answers.is_number (subst (Handed b h.answer.answers.request.number) at d.handed)

  -- the spot of a packet that is handed up has an owner
  pub spot_inside : (number spot : ℕ) (d : Handed b number spot) → spot < length b.owners
  spot_inside number spot d =
      let s = d.stands in
      let is_open : IsOpen rules_here b.owners (slot_at b.owners spot, d.o) = All-at (IsOpen rules_here b.owners) s.stands.before (slot_at b.owners spot, d.o) s.stands.after (subst (All (IsOpen rules_here b.owners)) s.stands.opens_are m.kept.opens) in
      (subst (IsOwnedBy b.owners (slot_at b.owners spot) (0 + length s.front)) s.is_below (owned_at b.owners (slot_at b.owners spot) 0 s.front d.part s.back (subst (AreOwnedFrom b.owners (slot_at b.owners spot) 0) s.parts_are is_open.owned))).2

  pub ends_there : (number spot : ℕ) (d : Handed b number spot) → (open_at (slot_at b.owners spot) b.opens ≡ Some d.o) × (slice_get d.o.parts (place_at b.owners spot) ≡ Some d.part) × (0 < d.o.unfinished)
  ends_there number spot d =
      let s = d.stands in
      let found : open_at (slot_at b.owners spot) b.opens ≡ Some d.o = is_found b.opens (slot_at b.owners spot) d.o s.stands in
      let got : slice_get d.o.parts (place_at b.owners spot) ≡ Some d.part = ap (λ ps. slice_get ps (place_at b.owners spot)) s.parts_are ∙ ap (slice_get (s.front ++ (d.part ∷ s.back))) (sym s.place) ∙ at_end_of s.front d.part s.back in
      let is_open : IsOpen rules_here b.owners (slot_at b.owners spot, d.o) = All-at (IsOpen rules_here b.owners) s.stands.before (slot_at b.owners spot, d.o) s.stands.after (subst (All (IsOpen rules_here b.owners)) s.stands.opens_are m.kept.opens) in
      let a = is_open.unfinished in
      let u : unfinished_of d.o.parts ≡ unfinished_of s.front + (unfinished_by d.part.progress + unfinished_of s.back) = ap unfinished_of s.parts_are ∙ unfinished-append s.front (d.part ∷ s.back) in
      let one : unfinished_by d.part.progress ≡ 1 = ap unfinished_by s.is_below in
      (found, got, omega arith)

  -- its end finds a place in the list of the ended
  pub has_place : (number spot : ℕ) (d : Handed b number spot) → length b.ended < b.ended_places
  has_place number spot d =
      let s = d.stands.stands in
      let some = (ends_there number spot d).2 in
      let few : length (ended_in b.opens) < length b.opens = subst (λ xs. length (ended_in xs) < length xs) (sym s.opens_are) (ended_fewer s.before (slot_at b.owners spot, d.o) s.after some) in
      let n = length_permutation _ _ m.kept.ended in
      let p = m.kept.places in
      omega arith
