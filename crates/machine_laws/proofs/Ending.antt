-- What comes no more after an answer.
use Rattle.machine_laws.proofs.Common.{◌≡◌, ◌≢◌, ◌<◌, ◌≤◌, inl, inr, ℕ, Bool, true, false, List, [], ◌∷◌, Option, Some, None, refl, sym, ◌∙◌, arith, lt_of_lt_of_le, IsDistinct-tail, IsPermutation-sym, All-permutation, All-head, All-tail, All-cons, All-weaker, All-map, All-contains, NtStatus, DeviceLabel, Start, Act, Fault, Return, ClientRequest, Label, Call, Device, Answer, Cancel, Pause, Resume, Remove, Surprise, Removed, Rules, OpenRequest, Piece, State, IsSame, opening, refusal, Admits, Answers, held_back, beyond, as_timely, DeviceStep, FreeStep, OwingStep, Step, Run, request_number, IsGiven, AreDistinct, IsOwner, IsPlaced, ArePlaced, Step-number, AreDistinct-opening, AreDistinct-same, AreDistinct-Step, AreDistinct-Run, requests_in_order, ArePlaced-opening, ArePlaced-Answers, ArePlaced-Step, ArePlaced-Run, distinct_first, WritesSector, Sometime, Always, HasOtherNumber, HasOtherOwner, IsOver, AnsweredAreOver}
use Rattle.std.specs.Prelude.{IsPermutation, All, Any, eqb, if◌then◌else◌}

-- NO REQUEST OF THE NUMBER

pub record IsGone (number : ℕ) (s : State) : Type 0 where
  pub given : number < s.next_request
  pub not_open : All (HasOtherNumber number) s.requests

module _ (number : ℕ) where
  open_along : (s s' : State) (os : List OpenRequest) → IsPermutation s'.requests os → All (HasOtherNumber number) os → All (HasOtherNumber number) s'.requests
  open_along s s' os perm a = All-permutation (HasOtherNumber number) _ _ (IsPermutation-sym _ _ perm) a

  one_changed : (xs : List OpenRequest) (o o' : OpenRequest) (others : List OpenRequest) → IsPermutation xs (o ∷ others) → o'.number ≡ o.number → All (HasOtherNumber number) xs → All (HasOtherNumber number) (o' ∷ others)
  one_changed xs o o' others perm same a =
      let a' : All (HasOtherNumber number) (o ∷ others) = All-permutation (HasOtherNumber number) _ _ perm a in
      All-cons (HasOtherNumber number) o' others (λ e. All-head (HasOtherNumber number) o others a' (sym same ∙ e)) (All-tail (HasOtherNumber number) o others a')

  one_less : (xs : List OpenRequest) (o : OpenRequest) (others : List OpenRequest) → IsPermutation xs (o ∷ others) → All (HasOtherNumber number) xs → All (HasOtherNumber number) others
  one_less xs o others perm a = All-tail (HasOtherNumber number) o others (All-permutation (HasOtherNumber number) _ _ perm a)

  admitted : (rules : Rules) (s : State) (n : ℕ) (q : ClientRequest) (answer : Option NtStatus) (s' : State) → s.next_request ≤ n → IsGone number s → Admits rules s n q answer s' → All (HasOtherNumber number) s'.requests
  admitted rules s n q None s' above g h = open_along s s' _ h.after.requests (All-cons (HasOtherNumber number) _ s.requests (λ e. above_it g.given above e) g.not_open)
    where
      above_it : {a b c : ℕ} → a < b → b ≤ c → c ≡ a → ⊥
      above_it x y e = absurd (omega arith)
  admitted rules s n q (Some status) s' above g h = open_along s s' _ h.after.requests g.not_open

  by_device : (rules : Rules) (s : State) (label : DeviceLabel) (s' : State) → IsGone number s → DeviceStep rules s label s' → All (HasOtherNumber number) s'.requests
  by_device rules s (Start n tag block) s' g h = open_along s s' _ h.after.requests (one_changed s.requests h.owner _ h.others h.is_open refl g.not_open)
  by_device rules s (Act n bytes) s' g h = open_along s s' _ h.after.requests g.not_open
  by_device rules s (Fault n) s' g h = open_along s s' _ h.after.requests g.not_open
  by_device rules s (Return n class) s' g h = open_along s s' _ h.after.requests (one_changed s.requests h.owner _ h.others h.is_open refl g.not_open)

  held : (window : Option ℕ) (xs : List OpenRequest) → All (HasOtherNumber number) xs → All (HasOtherNumber number) (held_back window xs)
  held None xs a = a
  held (Some window) xs a = All-map (HasOtherNumber number) (beyond window xs) xs a

  by_label : (rules : Rules) (s : State) (label : Label) (s' : State) → IsGone number s → FreeStep rules s label s' → All (HasOtherNumber number) s'.requests
  by_label rules s (Call n q) s' g h = admitted rules s n q (refusal rules s q) s' (rw h.next_number (omega arith)) g h.admits
  by_label rules s (Device label) s' g h = by_device rules s label s' g h
  by_label rules s (Answer n status informed bytes) s' g h = open_along s s' _ h.answers.after.requests (one_less s.requests h.answers.request h.answers.others h.answers.is_open g.not_open)
  by_label rules s (Cancel n) s' g h = open_along s s' _ h.after.requests (one_changed s.requests h.request _ h.others h.is_open refl g.not_open)
  by_label rules s Pause s' g h = open_along s s' _ h.after.requests (held rules.window s.requests g.not_open)
  by_label rules s Resume s' g h = open_along s s' _ h.after.requests (All-map (HasOtherNumber number) as_timely s.requests g.not_open)
  by_label rules s Remove s' g h = open_along s s' _ h.after.requests g.not_open
  by_label rules s Surprise s' g h = open_along s s' _ h.drains.requests (by_pause s.paused)
    where
      by_pause : (paused : Bool) → All (HasOtherNumber number) (if paused then s.requests else held_back rules.window s.requests)
      by_pause true = g.not_open
      by_pause false = held rules.window s.requests g.not_open
  by_label rules s Removed s' g h = open_along s s' _ h.after.requests g.not_open

  by_owing : (s : State) (label : Label) (s' : State) → IsGone number s → OwingStep s label s' → All (HasOtherNumber number) s'.requests
  by_owing s (Answer n status informed bytes) s' g h = open_along s s' _ h.after.requests g.not_open
  by_owing s _ s' g h = absurd h

  pub IsGone-Step : (rules : Rules) (s : State) (label : Label) (s' : State) → IsGone number s → Step rules s label s' → IsGone number s'
  IsGone-Step rules s label s' g h = record { given = lt_of_lt_of_le g.given (Step-number rules s label s' h); not_open = by_side h }
    where
      by_side : Step rules s label s' → All (HasOtherNumber number) s'.requests
      by_side (inl h') = by_label rules s label s' g h'.1
      by_side (inr h') = by_owing s label s' g h'

  -- then no piece of it is out, since each has an open owner
  is_over : (s : State) → IsGone number s → ArePlaced s → IsOver number s
  is_over s g placed = record {
    not_open = g.not_open;
    none_out = All-weaker (IsPlaced s.requests) (HasOtherOwner number) (λ p h. not_owned p h.owned) s.pieces placed.pieces;
  }
    where
      not_owned : (p : Piece) → Any (IsOwner p) s.requests → p.owner ≢ number
      not_owned p (k, o, low, is, owner) e = All-contains (HasOtherNumber number) s.requests o g.not_open (k, low, is) (owner ∙ e)

  IsOver-same : (s t : State) → IsSame s t → IsOver number s → IsOver number t
  IsOver-same s t h over = record { not_open = All-permutation (HasOtherNumber number) _ _ h.requests over.not_open; none_out = All-permutation (HasOtherOwner number) _ _ h.pieces over.none_out }

  gone_for_good : (rules : Rules) (s : State) (labels : List Label) (s' : State) → AreDistinct s → ArePlaced s → IsGone number s → (run : Run rules s labels s') → Always (IsOver number) rules s labels s' run
  gone_for_good rules s [] s' distinct placed g run = (is_over s g placed, IsOver-same s s' run (is_over s g placed))
  gone_for_good rules s (label ∷ labels) s' distinct placed g run =
      (is_over s g placed, gone_for_good rules run.0 labels s' (AreDistinct-Step rules s label run.0 distinct run.1) (ArePlaced-Step rules s label run.0 distinct placed run.1) (IsGone-Step rules s label run.0 g run.1) run.2)

  -- a request that is over writes nothing
  pub over_writes_nothing : (rules : Rules) (s : State) (labels : List Label) (s' : State) (run : Run rules s labels s') (p i : ℕ) → Always (IsOver number) rules s labels s' run → Sometime (WritesSector rules number p i) rules s labels s' run → ⊥
  over_writes_nothing rules s [] s' run p i over never = never
  over_writes_nothing rules s (label ∷ labels) s' run p i over (inl w) = All-contains (HasOtherNumber number) s.requests w.act.owner over.0.not_open w.act.is_open w.is_request
  over_writes_nothing rules s (label ∷ labels) s' run p i over (inr later) = over_writes_nothing rules run.0 labels s' run.2 p i over.1 later

-- an answered request is gone
pub answered_gone : (rules : Rules) (s : State) (number : ℕ) (status : NtStatus) (bytes : List ℕ) (s' : State) → AreDistinct s → Answers rules s number status bytes s' → IsGone number s'
answered_gone rules s number status bytes s' d h =
    let differ : All (λ x. x.number ≢ h.request.number) h.others = distinct_first request_number s.requests h.request h.others d.requests h.is_open in
    let given : h.request.number < s.next_request = All-head (IsGiven s.next_request) h.request h.others (All-permutation (IsGiven s.next_request) _ _ h.is_open d.given) in
    record {
      given = rw h.after.next_request (rw h.is_number at given);
      not_open = All-permutation (HasOtherNumber number) _ _ (IsPermutation-sym _ _ h.after.requests) (rw h.is_number at differ);
    }

-- FROM THE OPENING STATE

AreDistinct-Answers : (rules : Rules) (s : State) (number : ℕ) (status : NtStatus) (bytes : List ℕ) (s' : State) → AreDistinct s → Answers rules s number status bytes s' → AreDistinct s'
AreDistinct-Answers rules s number status bytes s' distinct h = AreDistinct-same s' _ h.after (record {
  requests = IsDistinct-tail eqb _ _ (requests_in_order _ _ h.is_open distinct.requests);
  given = All-tail (IsGiven s.next_request) h.request h.others (All-permutation (IsGiven s.next_request) _ _ h.is_open distinct.given);
  pieces = distinct.pieces;
  sent = distinct.sent;
})

pub answered_over : AnsweredAreOver
answered_over rules s number status bytes answered labels s' reached h run =
    let start : State = opening reached.arrays in
    let distinct : AreDistinct s = AreDistinct-Run rules start reached.labels s (AreDistinct-opening reached.arrays) reached.run in
    let placed : ArePlaced s = ArePlaced-Run rules start reached.labels s (AreDistinct-opening reached.arrays) (ArePlaced-opening reached.arrays) reached.run in
    gone_for_good number rules answered labels s' (AreDistinct-Answers rules s number status bytes answered distinct h) (ArePlaced-Answers rules s number status bytes answered placed h)
    (answered_gone rules s number status bytes answered distinct h) run
