-- What suits the SRB of an armed piece may be booked: its piece was started in the trace, and so isn't piece 0.
use Rattle.compose.proofs.Common.{Need, ◌≡◌, ◌≤◌, inl, inr, ℕ, zero, suc, Bool, true, false, List, [], ◌∷◌, length, Option, None, Some, IsFalse, sym, subst, arith, Contains, All-head, All-permutation, NtStatus, DeviceLabel, AdapterView, ReservesMore, MovesOn, MovesByAll, Suits, ClientRequest, Label, Rules, State, opening, Admits, refusal, DeviceStep, FreeStep, OwingStep, Step, Run, AdapterMoves, MovesWith, reserves_more, IsStartedUse, ArmedMayBeBooked}
use Rattle.srb.specs.declared.DeviceLabel.TheVariants.{Start, Act, Fault, Return}
use Rattle.machine.specs.declared.Label.TheVariants.{Call, Device, Answer as AnswerLabel, Cancel, Pause, Resume, Remove as RemoveLabel, Surprise, Removed}

-- A PIECE THAT WAS STARTED ISN'T PIECE 0

admits_piece : (rules : Rules) (s : State) (number : ℕ) (q : ClientRequest) (answer : Option NtStatus) (s' : State) → Admits rules s number q answer s' → s'.next_piece ≡ s.next_piece
admits_piece rules s number q None s' h = h.after.next_piece
admits_piece rules s number q (Some status) s' h = h.after.next_piece

device_piece : (rules : Rules) (s : State) (label : DeviceLabel) (s' : State) → DeviceStep rules s label s' → s.next_piece ≤ s'.next_piece
device_piece rules s (Start piece tag block) s' h = rw h.after.next_piece (omega arith)
device_piece rules s (Act piece bytes) s' h = rw h.after.next_piece (omega arith)
device_piece rules s (Fault piece) s' h = rw h.after.next_piece (omega arith)
device_piece rules s (Return piece class) s' h = rw h.after.next_piece (omega arith)

free_piece : (rules : Rules) (s : State) (label : Label) (s' : State) → FreeStep rules s label s' → s.next_piece ≤ s'.next_piece
free_piece rules s (Call number q) s' h = rw (admits_piece rules s number q (refusal rules s q) s' h.admits) (omega arith)
free_piece rules s (Device label) s' h = device_piece rules s label s' h
free_piece rules s (AnswerLabel number status informed bytes) s' h = rw h.answers.after.next_piece (omega arith)
free_piece rules s (Cancel number) s' h = rw h.after.next_piece (omega arith)
free_piece rules s Pause s' h = rw h.after.next_piece (omega arith)
free_piece rules s Resume s' h = rw h.after.next_piece (omega arith)
free_piece rules s RemoveLabel s' h = rw h.after.next_piece (omega arith)
free_piece rules s Surprise s' h = rw h.drains.next_piece (omega arith)
free_piece rules s Removed s' h = rw h.after.next_piece (omega arith)

owing_piece : (s : State) (label : Label) (s' : State) → OwingStep s label s' → s.next_piece ≤ s'.next_piece
owing_piece s (AnswerLabel number status informed bytes) s' h = rw h.after.next_piece (omega arith)
owing_piece s _ s' h = absurd h

step_piece : (rules : Rules) (s : State) (label : Label) (s' : State) → Step rules s label s' → s.next_piece ≤ s'.next_piece
step_piece rules s label s' (inl h) = free_piece rules s label s' h.1
step_piece rules s label s' (inr h) = owing_piece s label s' h

start_piece : (rules : Rules) (s : State) (piece tag : ℕ) (block : List ℕ) (s' : State) → Step rules s (Device (Start piece tag block)) s' → piece ≡ s.next_piece
start_piece rules s piece tag block s' (inl h) = h.1.next_number
start_piece rules s piece tag block s' (inr h) = absurd h

started_above : (rules : Rules) (s : State) (labels : List Label) (s' : State) → Run rules s labels s' → 1 ≤ s.next_piece
    → (piece tag : ℕ) (block : List ℕ) → Contains labels (Device (Start piece tag block)) → 1 ≤ piece
started_above rules s [] s' run above piece tag block (k, low, is) = absurd (omega (arith, low))
started_above rules s (label ∷ labels) s' run above piece tag block (zero, low, is) =
    let first : Step rules s (Device (Start piece tag block)) run.0 = subst (λ l. Step rules s l run.0) is run.1 in
    subst (λ n. 1 ≤ n) (sym (start_piece rules s piece tag block run.0 first)) above
started_above rules s (label ∷ labels) s' run above piece tag block (suc k, low, is) =
    let rises : s.next_piece ≤ run.0.next_piece = step_piece rules s label run.0 run.1 in
    started_above rules run.0 labels s' run.2 (omega (arith, above, rises)) piece tag block (k, omega (arith, low), is)

pub armed_may_be_booked : ArmedMayBeBooked
armed_may_be_booked arrays trace entries view tag piece srb what run kept apart armed suits = record {
  use' = armed.use';
  others = armed.others;
  apart = apart;
  is_on = armed.is_on;
  is_piece = armed.is_piece;
  is_fresh = armed.is_fresh;
  not_first = λ zero_is. absurd (let one = started_one in omega (arith, one, zero_is));
  suits = subst (λ x. Suits view.adapter.sector_size (length view.adapter.sectors) x what) (sym armed.is_srb) suits;
}
  where
    mine : IsStartedUse trace armed.use'
    mine = All-head (IsStartedUse trace) armed.use' armed.others (All-permutation (IsStartedUse trace) _ _ armed.is_on.in_use kept.started)

    started_one : 1 ≤ piece
    started_one = subst (λ n. 1 ≤ n) armed.is_piece
        (started_above view.rules (opening arrays) trace view.state run (omega arith) armed.use'.piece armed.use'.tag armed.use'.srb.block mine)

-- WHERE THE SECTORS STAND STAYS

moves_apart : (old new : AdapterView) (tag : ℕ) (label : DeviceLabel) → MovesOn old tag label new → IsFalse old.faithful → IsFalse new.faithful
moves_apart old new tag (Start piece started block) (same, h) apart = subst (λ (v : AdapterView). IsFalse v.faithful) (sym h.accepts.after) apart
moves_apart old new tag (Act piece bytes) h apart = subst (λ (v : AdapterView). IsFalse v.faithful) (sym h.after) apart
moves_apart old new tag (Fault piece) h apart = subst (λ (v : AdapterView). IsFalse v.faithful) (sym h.after) apart
moves_apart old new tag (Return piece class) h apart = subst (λ (v : AdapterView). IsFalse v.faithful) (sym h.after) apart

reserves_apart : (old new : AdapterView) → ReservesMore old new → IsFalse old.faithful → IsFalse new.faithful
reserves_apart old new h apart = subst (λ (v : AdapterView). IsFalse v.faithful) (sym h.after) apart

all_apart : (old : AdapterView) (labels : List DeviceLabel) (new : AdapterView) → MovesByAll old labels new → IsFalse old.faithful → IsFalse new.faithful
all_apart old [] new h apart = subst (λ (v : AdapterView). IsFalse v.faithful) (sym h) apart
all_apart old (label ∷ labels) new (after, (tag, moves), rest) apart = all_apart after labels new rest (moves_apart old after tag label moves apart)

with_apart : (reset : Bool) (first : AdapterView) (labels : List DeviceLabel) (new : AdapterView) → MovesWith reset first labels new → IsFalse first.faithful → IsFalse new.faithful
with_apart false first labels new h apart = all_apart first labels new h apart
with_apart true first labels new (faulted, moves, notes) apart = subst (λ (v : AdapterView). IsFalse v.faithful) (sym notes.after) (all_apart first labels faulted moves apart)

pub step_apart : (reset : Bool) (reserves : Option Need) (old : AdapterView) (labels : List DeviceLabel) (new : AdapterView) → AdapterMoves reset reserves old labels new → IsFalse old.faithful → IsFalse new.faithful
step_apart reset reserves old labels new h apart =
    let first : IsFalse h.first.faithful = reserves_apart old h.first (reserves_more reserves old h.first h.before) apart in
    subst (λ (v : AdapterView). IsFalse v.faithful) (sym h.taken) (with_apart reset h.first labels h.moved h.moves first)
