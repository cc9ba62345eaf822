-- Where no open request has ended, each has a part below, and what the class driver shows is settled.
use Rattle.std.proofs.Common.{◌≡◌, ◌≢◌, ◌<◌, ℕ, zero, suc, ◌==◌, Bool, true, false, List, [], ◌∷◌, refl, sym, ap, subst, arith, map}
use Rattle.std.specs.Prelude.{All, Contains, if◌then◌else◌}
use Rattle.class_disk.proofs.Common.{eqb-false, IsPermutation-sym, All-permutation, length_permutation, All-nil, All-cons, All-head, All-tail, All-weaker, Rules, OpenRequest, Settled, none_there, DeviceView, IsOrderly, AwaitsRestartIfEnded, HandsUpNone, TakesNone, PartId, Progress, Opened, TableView, opened, ended_in, below_rules, IsOver, class_rules, known, view_of, note, note_by, IsOpen, IsInHand}
use Rattle.class_disk.specs.declared.parts.Part.{Part}
use Rattle.class_disk.specs.declared.parts.Progress.TheVariants.{Ready, Below as SentBelow, Ended as PartEnded}
use Rattle.class_disk.specs.inside.Parts.{WasSent, WasSentBy, unfinished_by, unfinished_of}
use Rattle.class_disk.specs.inside.Joint.{Part as JointPart, Below, Here, Sent, note_of, Known, known_of, Divided, parts_requests, above}
use Rattle.class_disk.proofs.Resting.{AreEndedHere, HasBelow, settled_above, unfinished_above}
use Rattle.class_disk.proofs.Orderly.{All-from_map, over_here}
use Rattle.class_disk.proofs.Acting.{IsStill, shows, settled_still, unfinished_still}
use Rattle.class_disk.proofs.PortRules.{port_rules}

-- some part of it is below
pub record IsBelowSome (k : Known) : Type 0 where
  pub number : ℕ
  pub again : ℕ
  pub there : Contains k.parts (Sent number again)

part_below : (parts : List JointPart) (number again : ℕ) → Contains (map note_of parts) (Sent number again) → (o : OpenRequest) × Contains (parts_requests parts) o
part_below [] number again c = absurd (let w = c.1 in omega arith)
part_below (Below o a ps ∷ parts) number again c = (o, (0, omega arith, refl))
part_below (Here marks busy ∷ parts) number again (zero, low, is) = absurd (cc (is))
part_below (Here marks busy ∷ parts) number again (suc k, low, is) = part_below parts number again (k, omega arith, is)

divided_below : (e : Divided) → IsBelowSome (known_of e) → HasBelow e
divided_below e h = let r = part_below e.parts h.number h.again h.there in record { part = r.0; there = r.1 }

module _ (rules : Rules) where
  sent_some : (parts : List Part) → All WasSent parts → 0 < unfinished_of parts → (number : ℕ) × (again : ℕ) × Contains (map (note rules) parts) (Sent number again)
  sent_some [] sent some = absurd (omega arith)
  sent_some (part ∷ parts) sent some = by part.progress refl (All-head WasSent part parts sent) (λ more. sent_some parts (All-tail WasSent part parts sent) more)
    where
      by : (p : Progress) → part.progress ≡ p → WasSent part → (0 < unfinished_of parts → (number : ℕ) × (again : ℕ) × Contains (map (note rules) parts) (Sent number again))
          → (number : ℕ) × (again : ℕ) × Contains (map (note rules) (part ∷ parts)) (Sent number again)
      by (Ready place) is was rest = absurd (subst WasSentBy is was)
      by (SentBelow number spot) is was rest = (number, part.restarts, (0, omega arith, ap (note_by rules part) is))
      by (PartEnded ended) is was rest =
          let none : unfinished_by part.progress ≡ 0 = ap unfinished_by is in
          let r = rest (omega (arith, some, none)) in
          (r.0, r.1, (suc r.2.0, let w = r.2.1 in omega arith, r.2.2))

  all_below : (owners : List PartId) (es : List (ℕ × Opened)) → All (IsOpen rules owners) es → ended_in es ≡ [] → All IsBelowSome (map (known rules) (map opened es))
  all_below owners [] opens none = All-nil IsBelowSome
  all_below owners (x ∷ es) opens none = by (x.1.unfinished == 0) refl none (λ rest. all_below owners es (All-tail (IsOpen rules owners) x es opens) rest)
    where
      by : (over : Bool) → (x.1.unfinished == 0) ≡ over → (if over then x.0 ∷ ended_in es else ended_in es) ≡ [] → (ended_in es ≡ [] → All IsBelowSome (map (known rules) (map opened es))) → All IsBelowSome (map (known rules) (map opened (x ∷ es)))
      by true is none rest = absurd (cc (none))
      by false is none rest =
          let own = All-head (IsOpen rules owners) x es opens in
          let u = own.unfinished in
          let not : x.1.unfinished ≢ 0 = eqb-false x.1.unfinished 0 is in
          let some : 0 < unfinished_of x.1.parts = omega (arith, u, not) in
          let r = sent_some x.1.parts own.sent some in
          All-cons IsBelowSome (known rules x.1) (map (known rules) (map opened es)) (record { number = r.0; again = r.1; there = r.2 }) (rest none)

module _ (v : DeviceView) (b : TableView) (h : IsInHand v b) (ordered : IsOrderly v) (none : b.ended ≡ []) where
  abbrev rules : Rules
  rules = class_rules v.rules

  pub all_have : All HasBelow h.coupled.j.divided
  all_have =
      let nothing : ended_in b.opens ≡ [] = none_there b.ended (ended_in b.opens) none h.kept.ended in
      All-weaker (λ e. IsBelowSome (known_of e)) HasBelow divided_below h.coupled.j.divided
      (All-from_map IsBelowSome known_of h.coupled.j.divided (All-permutation IsBelowSome _ _ (IsPermutation-sym _ _ h.coupled.knows) (all_below rules b.owners b.opens h.kept.opens nothing)))

  over_divided : All (IsOver 17 h.coupled.j.removing) (map known_of h.coupled.j.divided)
  over_divided =
      subst (λ x. All (IsOver 17 x) (map known_of h.coupled.j.divided)) (sym h.coupled.same.removing)
      (All-permutation (IsOver 17 v.state.removing) _ _ (IsPermutation-sym _ _ h.coupled.knows) h.below.over)

  unfinished_below : All (AwaitsRestartIfEnded (below_rules rules) v.state) v.state.requests
  unfinished_below = subst (λ r. All (AwaitsRestartIfEnded r v.state) v.state.requests) (port_rules h.port) h.unfinished

  settled_below : Settled (below_rules rules) v.state
  settled_below = subst (λ r. Settled r v.state) (port_rules h.port) h.settled

  ended_here : All (AreEndedHere rules (above h.coupled.j)) h.coupled.j.divided
  ended_here = over_here rules h.coupled.j h.coupled.j.divided over_divided

  shown_still : IsStill (above h.coupled.j) (view_of v b).state
  shown_still =
      let s = shows v b h in
      record { requests = s.requests; pieces = length_permutation _ _ s.pieces; owed = s.owed; paused = s.paused; removing = s.removing }

  pub settled_shown : Settled rules (view_of v b).state
  settled_shown =
      settled_still rules (above h.coupled.j) (view_of v b).state shown_still
      (settled_above rules h.port.no_window h.coupled.j v.state h.coupled.same h.sound ordered.places h.coupled.keeps
      unfinished_below settled_below ended_here all_have)

  -- no open request has ended, unless a part of it awaits its restart
  pub unfinished_shown : All (AwaitsRestartIfEnded rules (view_of v b).state) (view_of v b).state.requests
  unfinished_shown =
      unfinished_still rules (above h.coupled.j) (view_of v b).state shown_still
      (unfinished_above rules h.port.no_window h.coupled.j v.state h.coupled.same h.sound ordered.places h.coupled.keeps
      unfinished_below settled_below ended_here refl all_have)

  pub none_up : (new : TableView) → TakesNone b new → HandsUpNone (view_of v b) (view_of v new)
  none_up new t = record { unfinished = unfinished_shown; settled = settled_shown; same = ap (view_of v) t.same }
