-- In the midst of a cancellation: its parts below are cancelled one by one.
use Rattle.std.proofs.Common.{◌≡◌, ◌⊎◌, inl, inr, ℕ, true, false, List, [], ◌∷◌, ◌++◌, Option, None, refl, sym, ◌∙◌, ap, subst, map, append_assoc}
use Rattle.std.specs.Prelude.{IsPermutation, All, Any, IsTrue, IsFalse}
use Rattle.class_disk.proofs.Common.{IsPermutation-sym, IsPermutation-trans, IsPermutation-cons, All-permutation, Contains-permutation, All-head, All-tail, Cancel, Request, Rules, Mark, OpenRequest, Piece, State, IsSame, AreDistinct, request_number, AreCounted, Cancels, as_cancelled, Step, IsSame-refl, All-changed, first_unique, AreDistinct-Step, ArePlaced-Step, HaveEarned-Step, AreOnePiece-Step, AreCounted-Cancels, DeviceView, CancelsIfOpen, CancelsAt, NoneToCancel, IsBeside, IsAt, Progress, IsSound, IsCancelledAs, EndsUnsent, below_by, note, note_by, AsksUnder, IsSpotted, IsSpottedBy, CancelsBelow, CancelsAll, packet_of_part}
use Rattle.class_disk.specs.declared.parts.Part.{Part as DriverPart}
use Rattle.class_disk.specs.declared.parts.Progress.TheVariants.{Ready, Below as SentBelow, Ended as HasEnded}
use Rattle.class_disk.specs.inside.Joint.{Part, Below, Here, Sent, Kept, note_of, Divided, Joint, parts_requests, requests_below, pieces_below, below}
use Rattle.class_disk.proofs.Coupled.{pieces-append}
use Rattle.class_disk.proofs.CoupledSteps.{divided_with, changed_below, request_first}
use Rattle.class_disk.proofs.Ending.{unsent_cancels}

-- WHAT CANCELLATIONS BELOW KEEP

any_in : {X : Type 0} (P : X → Type 0) (xs ys : List X) → IsPermutation xs ys → Any P xs → Any P ys
any_in P xs ys same (i, x, low, is, h) = let c = Contains-permutation _ _ x same (i, low, is) in (c.0, x, c.1, c.2, h)

pub record InMidst (v v' : DeviceView) : Type 0 where
  pub beside : IsBeside v v'
  pub sound : IsSound v'.state
  pub counted : AreCounted v.rules v'.state
  pub unsent : All (EndsUnsent v.rules) v'.state.requests
  pub asked : (rules : Rules) (r : Request) (number : ℕ) → All (AsksUnder rules r number) v.state.requests → All (AsksUnder rules r number) v'.state.requests
  pub next : v'.state.next_request ≡ v.state.next_request
  pub removing : v'.state.removing ≡ v.state.removing

asks_cancel : (rules : Rules) (r : Request) (n : ℕ) (s : State) (number : ℕ) (s' : State) → Cancels s number s' → All (AsksUnder rules r n) s.requests → All (AsksUnder rules r n) s'.requests
asks_cancel rules r n s number s' h all =
    All-permutation (AsksUnder rules r n) _ _ (IsPermutation-sym _ _ h.after.requests) (All-changed (AsksUnder rules r n) s.requests h.request (as_cancelled h.request) h.others h.is_open all (λ x. x))

sound_cancel : (rules : Rules) → IsTrue rules.one_piece → (s : State) (number : ℕ) (s' : State) → None ≡ s.owed → IsSound s → Cancels s number s' → IsSound s'
sound_cancel rules one s number s' none k h =
    let step : Step rules s (Cancel number) s' = inl (rw (← none) refl, h) in
    record {
      distinct = AreDistinct-Step rules s (Cancel number) s' k.distinct step;
      placed = ArePlaced-Step rules s (Cancel number) s' k.distinct k.placed step;
      earned = HaveEarned-Step rules s (Cancel number) s' k.earned step;
      whole = AreOnePiece-Step rules one s (Cancel number) s' k.distinct k.placed k.whole step;
    }

beside_then : (a b c : DeviceView) → IsBeside a b → IsBeside b c → IsBeside a c
beside_then a b c x y = record {
  same_rules = y.same_rules ∙ x.same_rules;
  same_packets = IsPermutation-trans _ _ _ y.same_packets x.same_packets;
  same_rooms = λ spot. y.same_rooms spot ∙ x.same_rooms spot;
  same_submitted = y.same_submitted ∙ x.same_submitted;
  same_most = y.same_most ∙ x.same_most;
  same_places = y.same_places ∙ x.same_places;
  same_adapter = y.same_adapter ∙ x.same_adapter;
}

pub midst_more : (v v' v'' : DeviceView) → v.rules.one_piece ≡ true → None ≡ v'.state.owed → InMidst v v' → (number : ℕ) → Cancels v'.state number v''.state → IsBeside v' v'' → InMidst v v''
midst_more v v' v'' one none m number c beside = record {
  beside = beside_then v v' v'' m.beside beside;
  sound = sound_cancel v.rules one v'.state number v''.state none m.sound c;
  counted = AreCounted-Cancels v.rules one v'.state number v''.state m.counted c;
  unsent = subst (λ r. All (EndsUnsent r) v''.state.requests) m.beside.same_rules (unsent_cancels v' number v'' (subst (λ r. All (EndsUnsent r) v'.state.requests) (sym m.beside.same_rules) m.unsent) (record { one_of = inl (c, beside) }));
  asked = λ rules r n all. asks_cancel rules r n v'.state number v''.state c (m.asked rules r n all);
  next = c.after.next_request ∙ m.next;
  removing = c.after.removing ∙ m.removing;
}

-- PARTS, CANCELLED

abbrev pub cancelled_part : Part → Part
cancelled_part (Below o again ps) = Below (as_cancelled o) again ps
cancelled_part (Here marks busy) = Here marks busy

module _ (j : Joint) (e : Divided) (es : List Divided) where
  -- both machines with these parts of the request
  abbrev pub joint_with : List Part → Joint
  joint_with ps = record j { divided = record e { parts = ps } ∷ es }

  -- one part is cancelled
  one_cancelled : (front back : List Part) (o : OpenRequest) (again : ℕ) (ps : List Piece) (v v' : DeviceView) → IsSame (below (joint_with (front ++ (Below o again ps ∷ back)))) v.state → AreDistinct v.state → IsFalse o.cancelled
      → CancelsIfOpen v o.number v' → IsSame (below (joint_with (front ++ (Below (as_cancelled o) again ps ∷ back)))) v'.state × Cancels v.state o.number v'.state × IsBeside v v'
  one_cancelled front back o again ps v v' same distinct timely h = by h.one_of
    where
      others : List OpenRequest
      others = (parts_requests front ++ parts_requests back) ++ requests_below es

      there : IsPermutation v.state.requests (o ∷ others)
      there = IsPermutation-trans _ _ _ (IsPermutation-sym _ _ same.requests) (request_first e es front back o again ps)

      pieces : pieces_below (divided_with e front back o again ps ∷ es) ≡ pieces_below (divided_with e front back (as_cancelled o) again ps ∷ es)
      pieces = ap (λ zs. zs ++ pieces_below es) (pieces-append front (Below o again ps ∷ back) ∙ sym (pieces-append front (Below (as_cancelled o) again ps ∷ back)))

      by : (Cancels v.state o.number v'.state × IsBeside v v') ⊎ (NoneToCancel v.state o.number × (v' ≡ v)) → IsSame (below (joint_with (front ++ (Below (as_cancelled o) again ps ∷ back)))) v'.state × Cancels v.state o.number v'.state × IsBeside v v'
      by (inr (none, is)) = absurd (none (record v.state { requests = as_cancelled o ∷ others }) (record { request = o; others = others; is_open = there; is_number = refl; not_yet = timely; after = IsSame-refl _ }))
      by (inl (c, beside)) =
          let u = first_unique request_number v.state.requests o c.request others c.others distinct.requests there c.is_open c.is_number in
          let changed : IsPermutation (as_cancelled o ∷ others) (requests_below (divided_with e front back (as_cancelled o) again ps ∷ es)) =
          changed_below e es front back o (as_cancelled o) again ps ps others (request_first e es front back o again ps) in
          let a = c.after in
          let now : IsPermutation (as_cancelled o ∷ others) v'.state.requests =
          IsPermutation-trans _ _ _ (IsPermutation-cons (as_cancelled o) _ _ u.1) (subst (λ x. IsPermutation (as_cancelled x ∷ c.others) v'.state.requests) (sym u.0) (IsPermutation-sym _ _ a.requests)) in (
            record {
              arrays = same.arrays ∙ sym a.arrays;
              next_request = same.next_request ∙ sym a.next_request;
              next_piece = same.next_piece ∙ sym a.next_piece;
              requests = IsPermutation-trans _ _ _ (IsPermutation-sym _ _ changed) now;
              pieces = IsPermutation-trans _ _ _ (subst (λ zs. IsPermutation zs v.state.pieces) pieces same.pieces) (IsPermutation-sym _ _ a.pieces);
              owed = same.owed ∙ sym a.owed;
              paused = same.paused ∙ sym a.paused;
              removing = same.removing ∙ sym a.removing;
              removed = same.removed ∙ sym a.removed;
            },
            c,
            beside,
          )

front_more : (front : List Part) (p : Part) (ps : List Part) → front ++ (p ∷ ps) ≡ (front ++ (p ∷ [])) ++ ps
front_more front p ps = sym (append_assoc front (p ∷ []) ps)

-- what all of them leave
pub record AllCancelled (j : Joint) (e : Divided) (es : List Divided) (front ps : List Part) (v v' : DeviceView) : Type 0 where
  pub same : IsSame (below (joint_with j e es (front ++ map cancelled_part ps))) v'.state
  pub midst : InMidst v v'

module _ (rules : Rules) (j : Joint) (e : Divided) (es : List Divided) (v : DeviceView) (one : v.rules.one_piece ≡ true) where
  none_below : (part : DriverPart) (p : Progress) (marks : List Mark) (busy : ℕ) → Kept marks busy ≡ note_by rules part p → below_by p ≡ None
  none_below part (Ready place) marks busy h = refl
  none_below part (SentBelow number spot) marks busy h = absurd (cc (h))
  none_below part (HasEnded ended) marks busy h = refl

  sent_below : (part : DriverPart) (p : Progress) (number again : ℕ) → Sent number again ≡ note_by rules part p → (spot : ℕ) × (p ≡ SentBelow number spot)
  sent_below part (Ready place) number again h = absurd (cc (h))
  sent_below part (SentBelow n spot) number again h = let is : n ≡ number = cc (h) in (spot, ap (λ m. SentBelow m spot) is)
  sent_below part (HasEnded ended) number again h = absurd (cc (h))

  pub all_cancelled : (front ps : List Part) (parts : List DriverPart) → map note_of ps ≡ map (note rules) parts → (v' w : DeviceView) → InMidst v v' → IsSame (below (joint_with j e es (front ++ ps))) v'.state
      → All (IsSpotted v.packets) parts → All (IsCancelledAs false) (parts_requests ps) → CancelsAll v' (map packet_of_part parts) w → AllCancelled j e es front ps v w
  all_cancelled front [] [] notes v' w m same spotted timely h = subst (AllCancelled j e es front [] v) (sym h) (record { same = same; midst = m })
  all_cancelled front [] (part ∷ parts) notes v' w m same spotted timely h = absurd (cc (notes))
  all_cancelled front (p ∷ ps) [] notes v' w m same spotted timely h = absurd (cc (notes))
  all_cancelled front (Here marks busy ∷ ps) (part ∷ parts) notes v' w m same spotted timely h =
      let first : Kept marks busy ≡ note rules part = cc (notes) in
      let more : map note_of ps ≡ map (note rules) parts = cc (notes) in
      let none : packet_of_part part ≡ None = none_below part part.progress marks busy first in
      let is : h.0 ≡ v' = subst (λ x. CancelsBelow v' x h.0) none h.1 in
      let r = all_cancelled (front ++ (Here marks busy ∷ [])) ps parts more v' w m (subst (λ zs. IsSame (below (joint_with j e es zs)) v'.state) (front_more front (Here marks busy) ps) same)
      (All-tail (IsSpotted v.packets) part parts spotted) timely (subst (λ x. CancelsAll x (map packet_of_part parts) w) is h.2) in
      record { same = subst (λ zs. IsSame (below (joint_with j e es zs)) w.state) (sym (front_more front (Here marks busy) (map cancelled_part ps))) r.same; midst = r.midst }
  all_cancelled front (Below o again pieces ∷ ps) (part ∷ parts) notes v' w m same spotted timely h =
      let first : Sent o.number again ≡ note rules part = cc (notes) in
      let more : map note_of ps ≡ map (note rules) parts = cc (notes) in
      let s = sent_below part part.progress o.number again first in
      let at : CancelsAt v' s.0 o.number h.0 = subst (λ (x : Option (ℕ × ℕ)). CancelsBelow v' x h.0) (ap below_by s.1) h.1 in
      let spot : Any (IsAt s.0 o.number) v.packets = subst (IsSpottedBy v.packets) s.1 (All-head (IsSpotted v.packets) part parts spotted) in
      let cancels : CancelsIfOpen v' o.number h.0 = at.there (any_in (IsAt s.0 o.number) _ _ (IsPermutation-sym _ _ m.beside.same_packets) spot) in
      let c = one_cancelled j e es front ps o again pieces v' h.0 same m.sound.distinct (All-head (IsCancelledAs false) o (parts_requests ps) timely) cancels in
      let m' : InMidst v h.0 = midst_more v v' h.0 one same.owed m o.number c.1 c.2 in
      let r = all_cancelled (front ++ (Below (as_cancelled o) again pieces ∷ [])) ps parts more h.0 w m' (subst (λ zs. IsSame (below (joint_with j e es zs)) h.0.state) (front_more front (Below (as_cancelled o) again pieces) ps) c.0)
      (All-tail (IsSpotted v.packets) part parts spotted) (All-tail (IsCancelledAs false) o (parts_requests ps) timely) h.2 in
      record { same = subst (λ zs. IsSame (below (joint_with j e es zs)) w.state) (sym (front_more front (Below (as_cancelled o) again pieces) (map cancelled_part ps))) r.same; midst = r.midst }
