-- All that ended unsent is taken: the class driver is in hand again, and its machine stands where it stood midway.
use Rattle.class_disk.proofs.Common.{◌≡◌, inl, inr, ℕ, ◌+◌, Bool, [], refl, sym, ◌∙◌, ap, subst, All-weaker, Rules, Mark, Untouched, Out, Done, Failed, Back, State, IsSame, AreDistinct, AreCounted, IsSame-sym, IsSame-trans, AreDistinct-same, MovesByAll, DeviceView, Unsent, Note, Sent, Kept, Known, above, NeverSent, IsOver, IsOverNote, IsOverMark, noted_busy, class_rules, shown_state, TableView, knowns, view_of, IsInHand, IsTaking, IsMidway, TakesAll}
use Rattle.std.specs.Prelude.{IsTrue}
use Rattle.class_disk.proofs.Standing.{IsApart}
use Rattle.class_disk.proofs.Showing.{shown_is}
use Rattle.class_disk.proofs.Finishing.{in_hand_again}
use Rattle.class_disk.proofs.PortRules.{port_rules}

-- the two: the class driver is in hand, and shows the state that it was brought to
pub record StandsAgain (first : State) (v : DeviceView) (b : TableView) : Type 0 where
  pub in_hand : IsInHand v b
  pub shows : IsSame first (view_of v b).state

pub stands_again : (first : State) (v1 : DeviceView) (b1 : TableView) (v2 : DeviceView) (b2 : TableView)
    → IsMidway NeverSent first [] v1 b1 → TakesAll Unsent v1 b1 v2 b2 → IsApart b2 → AreDistinct first → first.next_request ≡ b1.last_request + 1
    → StandsAgain first v2 b2
stands_again first v1 b1 v2 b2 m1 w apart distinct next =
    let m : IsMidway NeverSent first [] v2 b2 = subst (λ ls. IsMidway NeverSent first ls v2 b2) (w.still refl) (w.stays first [] m1) in
    let rules : Rules = class_rules v2.rules in
    let t : IsTaking rules first [] v2.state (knowns rules b2) = m.taking in
    let next_above : t.j.next_above ≡ b2.last_request + 1 = t.next_above ∙ next ∙ ap (λ n. n + 1) (sym w.goes_on.same_last) in
    let shown : IsSame (above t.j) (view_of v2 b2).state = subst (λ n. IsSame (above t.j) (shown_state v2.state n (knowns rules b2))) next_above (shown_is rules t.j v2.state (knowns rules b2) t.same t.sound.distinct t.keeps t.knows) in
    let shows : IsSame first (view_of v2 b2).state = IsSame-trans _ _ _ t.run shown in
    record {
      in_hand = in_hand_again v2 b2 v2 (record { port = m.port; rooms_out = m.rooms_out; kept = m.kept; below = m.below; apart = apart })
          (record { j = t.j; same = t.same; knows = t.knows; next_above = next_above; keeps = t.keeps })
          t.sound (subst (λ r. AreCounted r v2.state) (sym (port_rules m.port)) t.counted) m.rooms_out.orderly
          (AreDistinct-same (view_of v2 b2).state first (IsSame-sym _ _ shows) distinct) w.none;
      shows = shows;
    }

-- and the adapter stays as it was
pub same_adapter : (v : DeviceView) (b : TableView) (v' : DeviceView) (b' : TableView) → TakesAll Unsent v b v' b' → v'.adapter ≡ v.adapter
same_adapter v b v' b' w = subst (λ ls. MovesByAll v.adapter ls v'.adapter) (w.still refl) w.goes_on.adapter

-- WHAT IS OVER STAYS SO, with more cancelled or removed

over_mark_more : (c c' r r' : Bool) (limit busy : ℕ) → (IsTrue c → IsTrue c') → (IsTrue r → IsTrue r') → (m : Mark) → IsOverMark c r limit busy m → IsOverMark c' r' limit busy m
over_mark_more c c' r r' limit busy f g Untouched (inl is) = inl (f is)
over_mark_more c c' r r' limit busy f g Untouched (inr is) = inr (g is)
over_mark_more c c' r r' limit busy f g Back (inl is) = inl (f is)
over_mark_more c c' r r' limit busy f g Back (inr (inl is)) = inr (inl (g is))
over_mark_more c c' r r' limit busy f g Back (inr (inr is)) = inr (inr is)
over_mark_more c c' r r' limit busy f g Out h = h
over_mark_more c c' r r' limit busy f g (Done sector) h = tt
over_mark_more c c' r r' limit busy f g (Failed status) h = tt

over_note_more : (c c' r r' : Bool) (limit busy : ℕ) → (IsTrue c → IsTrue c') → (IsTrue r → IsTrue r') → (n : Note) → IsOverNote c r limit busy n → IsOverNote c' r' limit busy n
over_note_more c c' r r' limit busy f g (Sent number again) h = tt
over_note_more c c' r r' limit busy f g (Kept marks kept) h = All-weaker (IsOverMark c r limit busy) (IsOverMark c' r' limit busy) (over_mark_more c c' r r' limit busy f g) marks h

pub over_more : (limit : ℕ) (r r' : Bool) (k : Known) (c' : Bool) → (IsTrue k.cancelled → IsTrue c') → (IsTrue r → IsTrue r') → IsOver limit r k → IsOver limit r' (record k { cancelled = c' })
over_more limit r r' k c' f g h = All-weaker (IsOverNote k.cancelled r limit (noted_busy k.parts)) (IsOverNote c' r' limit (noted_busy k.parts)) (over_note_more k.cancelled c' r r' limit (noted_busy k.parts) f g) k.parts h
