-- A request that is open has a command sent for it before its answer.
use Rattle.volume.proofs.Common.{◌≡◌, ◌<◌, ◌≤◌, ◌⊎◌, inl, inr, ℕ, zero, suc, Bool, true, false, List, [], ◌∷◌, sym, ◌∙◌, subst, arith, replicate, All, IsFalse, IsTrue, All-nil, All-cons, All-head, All-tail, All-permutation, NtStatus, DeviceLabel, Label, Rules, Untouched, OpenRequest, State, IsSame, Answers, HasEnded, DeviceStep, Step, Run, none_there, IsQuiet}
use Rattle.srb.specs.declared.DeviceLabel.TheVariants.{Start, Act, Fault, Return}
use Rattle.machine.specs.declared.Label.TheVariants.{Call, Device, Answer, Cancel, Pause, Resume, Remove, Surprise, Removed}
use Rattle.volume.proofs.Phases.{IsDevice, none_first, quiet_rises}

-- no place of it was sent, of which there are so many, and it is not cancelled
pub record IsWaiting (places : ℕ) (o : OpenRequest) : Type 0 where
  pub untouched : o.marks ≡ replicate places Untouched
  pub not_cancelled : IsFalse o.cancelled

-- so are all open requests, and nothing is out
pub record NoneSent (places : ℕ) (s : State) : Type 0 where
  pub none_out : s.pieces ≡ []
  pub waiting : All (IsWaiting places) s.requests

-- the first label of the device sends a command
starts_first : (places : ℕ) (rules : Rules) (s : State) (label : DeviceLabel) (s' : State) → NoneSent places s → DeviceStep rules s label s' → s.next_piece < s'.next_piece
starts_first places rules s (Start piece tag block) s' none h = rw h.after.next_piece (omega arith)
starts_first places rules s (Act piece bytes) s' none h = absurd (none_first s.pieces h.piece h.other_pieces none.none_out h.fresh.is_out)
starts_first places rules s (Fault piece) s' none h = absurd (none_first s.pieces h.piece h.other_pieces none.none_out h.fresh.is_out)
starts_first places rules s (Return piece class) s' none h = absurd (none_first s.pieces h.piece h.other_pieces none.none_out h.is_out)

none_same : (places : ℕ) (s s' : State) → IsSame s s' → NoneSent places s → NoneSent places s'
none_same places s s' same none = record {
  none_out = none_there s.pieces s'.pieces none.none_out same.pieces;
  waiting = All-permutation (IsWaiting places) s.requests s'.requests same.requests none.waiting;
}

are_quiet : (labels : List Label) → All IsDevice labels → All IsQuiet labels
are_quiet [] h = All-nil IsQuiet
are_quiet (Device label ∷ labels) h = All-cons IsQuiet (Device label) labels tt (are_quiet labels (All-tail IsDevice (Device label) labels h))
are_quiet (Call r q ∷ labels) h = absurd (All-head IsDevice (Call r q) labels h)
are_quiet (Answer r status informed bytes ∷ labels) h = absurd (All-head IsDevice (Answer r status informed bytes) labels h)
are_quiet (Cancel r ∷ labels) h = absurd (All-head IsDevice (Cancel r) labels h)
are_quiet (Pause ∷ labels) h = absurd (All-head IsDevice Pause labels h)
are_quiet (Resume ∷ labels) h = absurd (All-head IsDevice Resume labels h)
are_quiet (Remove ∷ labels) h = absurd (All-head IsDevice Remove labels h)
are_quiet (Surprise ∷ labels) h = absurd (All-head IsDevice Surprise labels h)
are_quiet (Removed ∷ labels) h = absurd (All-head IsDevice Removed labels h)

first_is_device : (places : ℕ) (rules : Rules) (s : State) (label : Label) (s' : State) → IsDevice label → NoneSent places s → Step rules s label s' → s.next_piece < s'.next_piece
first_is_device places rules s (Device label) s' is none (inl h) = starts_first places rules s label s' none h.1
first_is_device places rules s (Device label) s' is none (inr h) = absurd h
first_is_device places rules s (Call r q) s' is none h = absurd is
first_is_device places rules s (Answer r status informed bytes) s' is none h = absurd is
first_is_device places rules s (Cancel r) s' is none h = absurd is
first_is_device places rules s Pause s' is none h = absurd is
first_is_device places rules s Resume s' is none h = absurd is
first_is_device places rules s Remove s' is none h = absurd is
first_is_device places rules s Surprise s' is none h = absurd is
first_is_device places rules s Removed s' is none h = absurd is

-- a command was sent, or still none
sent_or_none : (places : ℕ) (rules : Rules) (s : State) (labels : List Label) (s' : State) → All IsDevice labels → NoneSent places s → Run rules s labels s'
    → (s.next_piece < s'.next_piece) ⊎ NoneSent places s'
sent_or_none places rules s [] s' devices none run = inr (none_same places s s' run none)
sent_or_none places rules s (label ∷ labels) s' devices none run =
    let first : s.next_piece < run.0.next_piece = first_is_device places rules s label run.0 (All-head IsDevice label labels devices) none run.1 in
    let more : run.0.next_piece ≤ s'.next_piece = quiet_rises rules run.0 labels s' (are_quiet labels (All-tail IsDevice label labels devices)) run.2 in
    inl (omega arith)

-- a request that waits has not ended, unless the device is removed
not_ended : (places : ℕ) (rules : Rules) (s : State) (o : OpenRequest) → 0 < places → IsFalse s.removing → IsWaiting places o → All (HasEnded rules s o) o.marks → ⊥
not_ended zero rules s o some staying waiting h = absurd (omega arith)
not_ended (suc places) rules s o some staying waiting h = by (All-head (HasEnded rules s o) Untouched (replicate places Untouched) (subst (All (HasEnded rules s o)) waiting.untouched h))
  where
    differ : {b : Bool} → IsFalse b → IsTrue b → ⊥
    differ f t = let e : false ≡ true = sym f ∙ t in cc

    by : HasEnded rules s o Untouched → ⊥
    by (inl done) = let e : false ≡ true = done in cc
    by (inr (status, inl cancelled)) = differ waiting.not_cancelled cancelled.0
    by (inr (status, inr removing)) = differ staying removing.0

-- an answer wants a command
pub sent_by : (places : ℕ) (rules : Rules) (s : State) (labels : List Label) (ended : State) (number : ℕ) (status : NtStatus) (bytes : List ℕ) (after : State) → 0 < places → All IsDevice labels
    → NoneSent places s → Run rules s labels ended → IsFalse ended.removing → Answers rules ended number status bytes after → s.next_piece < after.next_piece
sent_by places rules s labels ended number status bytes after some devices none run staying h =
    let e : after.next_piece ≡ ended.next_piece = h.after.next_piece in
    elim (sent_or_none places rules s labels ended devices none run) [
      | inl sent ↦ omega arith
      | inr still ↦
          let waiting : IsWaiting places h.request = All-head (IsWaiting places) h.request h.others (All-permutation (IsWaiting places) ended.requests (h.request ∷ h.others) h.is_open still.waiting) in
          absurd (not_ended places rules ended h.request some staying waiting h.ended)
    ]
