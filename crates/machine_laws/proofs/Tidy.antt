-- Pieces stand in their places, and have no more of them than the longest may have, at each moment that a run reaches.
use Rattle.machine_laws.proofs.Common.{◌≡◌, ◌≤◌, inl, inr, ℕ, List, [], ◌∷◌, Option, Some, None, refl, IsPermutation, All, IsPermutation-sym, All-permutation, All-nil, All-cons, All-tail, NtStatus, Start, Act, Fault, Return, ClientRequest, Label, Call, Device, Answer, Cancel, Pause, Resume, Remove, Surprise, Removed, Rules, opening, Piece, State, refusal, Admits, AreDistinct, ArePlaced, FreeStep, OwingStep, Step, Run, IsSame-sym, AreDistinct-opening, AreDistinct-Step, AreDistinct-same, All-changed, ArePlaced-opening, ArePlaced-Step, ArePlaced-same, IsReached}

-- a piece has no more places than the longest may have
abbrev pub IsShort : Rules → Piece → Type 0
IsShort rules piece = piece.places.count ≤ rules.max_transfer

pub record IsTidy (rules : Rules) (s : State) : Type 0 where
  pub distinct : AreDistinct s
  pub placed : ArePlaced s
  pub short : All (IsShort rules) s.pieces

module _ (rules : Rules) where
  abbrev AreShort : State → Type 0
  AreShort s = All (IsShort rules) s.pieces

  short_along : (s' : State) (ps : List Piece) → IsPermutation s'.pieces ps → All (IsShort rules) ps → AreShort s'
  short_along s' ps p k = All-permutation (IsShort rules) _ _ (IsPermutation-sym _ _ p) k

  -- one piece met its fate
  short_met : (s : State) (piece piece' : Piece) (others : List Piece) → piece'.places ≡ piece.places
      → IsPermutation s.pieces (piece ∷ others)
      → AreShort s → All (IsShort rules) (piece' ∷ others)
  short_met s piece piece' others same p k = All-changed (IsShort rules) s.pieces piece piece' others p k (λ n. rw same n)

  short_Admits : (s : State) (number : ℕ) (q : ClientRequest) (answer : Option NtStatus) (s' : State)
      → AreShort s → Admits rules s number q answer s' → AreShort s'
  short_Admits s number q None s' k h = short_along s' _ h.after.pieces k
  short_Admits s number q (Some status) s' k h = short_along s' _ h.after.pieces k

  short_FreeStep : (s : State) (label : Label) (s' : State) → AreShort s → FreeStep rules s label s' → AreShort s'
  short_FreeStep s (Call number q) s' k h = short_Admits s number q (refusal rules s q) s' k h.admits
  short_FreeStep s (Device (Start number tag block)) s' k h =
      short_along s' _ h.after.pieces (All-cons (IsShort rules) _ s.pieces h.sendable.short k)
  short_FreeStep s (Device (Act number bytes)) s' k h =
      short_along s' _ h.after.pieces (short_met s h.piece _ h.other_pieces refl h.fresh.is_out k)
  short_FreeStep s (Device (Fault number)) s' k h =
      short_along s' _ h.after.pieces (short_met s h.piece _ h.other_pieces refl h.fresh.is_out k)
  short_FreeStep s (Device (Return number class)) s' k h =
      short_along s' _ h.after.pieces (All-tail (IsShort rules) h.piece h.other_pieces (All-permutation (IsShort rules) _ _ h.is_out k))
  short_FreeStep s (Answer number status informed bytes) s' k h = short_along s' _ h.answers.after.pieces k
  short_FreeStep s (Cancel number) s' k h = short_along s' _ h.after.pieces k
  short_FreeStep s Pause s' k h = short_along s' _ h.after.pieces k
  short_FreeStep s Resume s' k h = short_along s' _ h.after.pieces k
  short_FreeStep s Remove s' k h = short_along s' _ h.after.pieces k
  short_FreeStep s Surprise s' k h = short_along s' _ h.drains.pieces k
  short_FreeStep s Removed s' k h = short_along s' _ h.after.pieces k

  short_OwingStep : (s : State) (label : Label) (s' : State) → AreShort s → OwingStep s label s' → AreShort s'
  short_OwingStep s (Answer number status informed bytes) s' k h = short_along s' _ h.after.pieces k
  short_OwingStep s _ s' k h = absurd h

  short_Step : (s : State) (label : Label) (s' : State) → AreShort s → Step rules s label s' → AreShort s'
  short_Step s label s' k (inl h) = short_FreeStep s label s' k h.1
  short_Step s label s' k (inr h) = short_OwingStep s label s' k h

  pub IsTidy-Step : (s : State) (label : Label) (s' : State) → IsTidy rules s → Step rules s label s' → IsTidy rules s'
  IsTidy-Step s label s' k h = record {
    distinct = AreDistinct-Step rules s label s' k.distinct h;
    placed = ArePlaced-Step rules s label s' k.distinct k.placed h;
    short = short_Step s label s' k.short h;
  }

  IsTidy-Run : (s : State) (labels : List Label) (s' : State) → IsTidy rules s → Run rules s labels s' → IsTidy rules s'
  IsTidy-Run s [] s' k run = record {
    distinct = AreDistinct-same s' s (IsSame-sym s s' run) k.distinct;
    placed = ArePlaced-same s' s (IsSame-sym s s' run) k.placed;
    short = short_along s' s.pieces (IsPermutation-sym _ _ run.pieces) k.short;
  }
  IsTidy-Run s (label ∷ labels) s' k run = IsTidy-Run run.0 labels s' (IsTidy-Step s label run.0 k run.1) run.2

  IsTidy-opening : (arrays : List (List (List ℕ))) → IsTidy rules (opening arrays)
  IsTidy-opening arrays =
      record { distinct = AreDistinct-opening arrays; placed = ArePlaced-opening arrays; short = All-nil (IsShort rules) }

  pub IsTidy-reached : (s : State) → IsReached rules s → IsTidy rules s
  IsTidy-reached s reached = IsTidy-Run (opening reached.arrays) reached.labels s (IsTidy-opening reached.arrays) reached.run
