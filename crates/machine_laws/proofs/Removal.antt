-- After the end of a removal the device is empty, and left alone.
use Rattle.machine_laws.proofs.Common.{◌≡◌, ◌<◌, inl, inr, ℕ, List, [], ◌∷◌, Option, Some, None, refl, ap, arith, map, length, IsPermutation, All, IsPermutation-sym, All-nil, All-cons, NtStatus, DeviceLabel, Start, Act, Fault, Return, ClientRequest, Label, Call, Device, Answer, Cancel, Pause, Resume, Remove, Surprise, Removed, Rules, Piece, State, IsSame, opening, refusal, Admits, as_timely, DeviceStep, FreeStep, OwingStep, Step, Run, IsPlaced, ArePlaced, IsSame-sym, none_there, IsTakenIn, taken_in, AreDistinct-opening, ArePlaced-opening, ArePlaced-Run, Always, IsEmpty, RemovedAreEmpty, IsNotOfDevice, RemovedIsLast}

none_left : {X : Type 0} (x : X) (xs ys : List X) → ys ≡ [] → IsPermutation ys (x ∷ xs) → ⊥
none_left x xs ys none p = let e : x ∷ xs ≡ [] = none_there ys (x ∷ xs) none p in cc (e)

IsEmpty-same : (s t : State) → IsSame s t → IsEmpty t → IsEmpty s
IsEmpty-same s t h k = record {
  removing = rw h.removing k.removing;
  none_open = none_there t.requests s.requests k.none_open (IsPermutation-sym _ _ h.requests);
  none_out = none_there t.pieces s.pieces k.none_out (IsPermutation-sym _ _ h.pieces);
}

-- EMPTY STATES STAY

module _ (rules : Rules) where
  IsEmpty-Admits : (s : State) (number : ℕ) (q : ClientRequest) (answer : Option NtStatus) (s' : State) → answer ≡ refusal rules s q → IsEmpty s → Admits rules s number q answer s' → IsEmpty s'
  IsEmpty-Admits s number q None s' e k h =
      let taken : IsTakenIn rules s q = taken_in rules s q h.not_refused in
      cc (k.removing, taken.staying)
  IsEmpty-Admits s number q (Some status) s' e k h = IsEmpty-same s' _ h.after (record { removing = k.removing; none_open = k.none_open; none_out = k.none_out })

  DeviceStep-empty : (s : State) (label : DeviceLabel) (s' : State) → IsEmpty s → DeviceStep rules s label s' → ⊥
  DeviceStep-empty s (Start number tag block) s' k h = none_left h.owner h.others s.requests k.none_open h.is_open
  DeviceStep-empty s (Act number bytes) s' k h = none_left h.piece h.other_pieces s.pieces k.none_out h.fresh.is_out
  DeviceStep-empty s (Fault number) s' k h = none_left h.piece h.other_pieces s.pieces k.none_out h.fresh.is_out
  DeviceStep-empty s (Return number class) s' k h = none_left h.piece h.other_pieces s.pieces k.none_out h.is_out

  FreeStep-empty : (s : State) (label : Label) (s' : State) → IsEmpty s → FreeStep rules s label s' → IsNotOfDevice label × IsEmpty s'
  FreeStep-empty s (Call number q) s' k h = (tt, IsEmpty-Admits s number q (refusal rules s q) s' refl k h.admits)
  FreeStep-empty s (Device label) s' k h = absurd (DeviceStep-empty s label s' k h)
  FreeStep-empty s (Answer number status informed bytes) s' k h = absurd (none_left h.answers.request h.answers.others s.requests k.none_open h.answers.is_open)
  FreeStep-empty s (Cancel number) s' k h = absurd (none_left h.request h.others s.requests k.none_open h.is_open)
  FreeStep-empty s Pause s' k h = cc (k.removing, h.not_removing)
  FreeStep-empty s Resume s' k h = (tt, IsEmpty-same s' _ h.after (record { removing = k.removing; none_open = ap (λ xs. map as_timely xs) k.none_open; none_out = k.none_out }))
  FreeStep-empty s Remove s' k h = (tt, IsEmpty-same s' _ h.after (record { removing = refl; none_open = k.none_open; none_out = k.none_out }))
  FreeStep-empty s Surprise s' k h = cc (k.removing, h.not_removing)
  FreeStep-empty s Removed s' k h = (tt, IsEmpty-same s' _ h.after (record { removing = k.removing; none_open = k.none_open; none_out = k.none_out }))

  OwingStep-empty : (s : State) (label : Label) (s' : State) → IsEmpty s → OwingStep s label s' → IsNotOfDevice label × IsEmpty s'
  OwingStep-empty s (Answer number status informed bytes) s' k h = (tt, IsEmpty-same s' _ h.after (record { removing = k.removing; none_open = k.none_open; none_out = k.none_out }))
  OwingStep-empty s _ s' k h = absurd h

  Step-empty : (s : State) (label : Label) (s' : State) → IsEmpty s → Step rules s label s' → IsNotOfDevice label × IsEmpty s'
  Step-empty s label s' k (inl h) = FreeStep-empty s label s' k h.1
  Step-empty s label s' k (inr h) = OwingStep-empty s label s' k h

  always_empty : (s : State) (labels : List Label) (s' : State) → IsEmpty s → (run : Run rules s labels s') → Always IsEmpty rules s labels s' run
  always_empty s [] s' k run = (k, IsEmpty-same s' s (IsSame-sym s s' run) k)
  always_empty s (label ∷ labels) s' k run = (k, always_empty run.0 labels s' (Step-empty s label run.0 k run.1).1 run.2)

  none_of_device : (s : State) (labels : List Label) (s' : State) → IsEmpty s → Run rules s labels s' → All IsNotOfDevice labels
  none_of_device s [] s' k run = All-nil IsNotOfDevice
  none_of_device s (label ∷ labels) s' k run =
      let next : IsNotOfDevice label × IsEmpty run.0 = Step-empty s label run.0 k run.1 in
      All-cons IsNotOfDevice label labels next.0 (none_of_device run.0 labels s' next.1 run.2)

-- HOW THEY COME ABOUT

-- with nothing open nothing is out
none_out : (s : State) → ArePlaced s → s.requests ≡ [] → s.pieces ≡ []
none_out s placed none = no_pieces s.pieces placed.pieces
  where
    not_owned : (p : Piece) → IsPlaced s.requests p → ⊥
    not_owned p h = let n : length s.requests ≡ 0 = ap length none in let low : h.owned.0 < length s.requests = h.owned.2 in absurd (omega arith)

    no_pieces : (ps : List Piece) → All (IsPlaced s.requests) ps → ps ≡ []
    no_pieces [] h = refl
    no_pieces (p ∷ ps) h = absurd (not_owned p (h 0 p (omega arith)))

removed_is_empty : (rules : Rules) (arrays : List (List (List ℕ))) (before : List Label) (s removed : State) → Run rules (opening arrays) before s → Step rules s Removed removed → IsEmpty removed
removed_is_empty rules arrays before s removed run (inl h) =
    let placed : ArePlaced s = ArePlaced-Run rules (opening arrays) before s (AreDistinct-opening arrays) (ArePlaced-opening arrays) run in
    IsEmpty-same removed _ h.1.after (record { removing = h.1.is_removing; none_open = h.1.none_open; none_out = none_out s placed h.1.none_open })
removed_is_empty rules arrays before s removed run (inr none) = absurd none

pub removed_are_empty : RemovedAreEmpty
removed_are_empty rules arrays before s removed after s' first step run = always_empty rules removed after s' (removed_is_empty rules arrays before s removed first step) run

pub removed_is_last : RemovedIsLast
removed_is_last rules arrays before s removed after s' first step run = none_of_device rules removed after s' (removed_is_empty rules arrays before s removed first step) run
