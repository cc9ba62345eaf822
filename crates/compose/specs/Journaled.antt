-- The trace of a stack whose sectors stand elsewhere, and the entries of what its acts did there.
use Rattle.std.specs.Prelude.{◌≡◌, ℕ, List, [], ◌∷◌, ◌++◌, All, Contains, IsPermutation, Result, Ok, Err, IsFalse, length, map}
use Rattle.srb.specs.declared.Srb.{Srb}
use Rattle.srb.specs.declared.Entry.{Entry}
use Rattle.srb.specs.declared.Completion.{Completion}
use Rattle.srb.specs.declared.DeviceLabel.TheVariants.{Start}
use Rattle.adapter.specs.View.{TagInUse, IsInOrder}
use Rattle.adapter.specs.Calls.{HasNoneFresh}
use Rattle.adapter.specs.Booking.{IsArmed, IsBookable, Suits}
use Rattle.machine.specs.declared.Label.{Label}
use Rattle.machine.specs.declared.Label.TheVariants.{Device}
use Rattle.machine.specs.State.{opening}
use Rattle.machine.specs.Step.{Run}
use Rattle.machine_laws.specs.Booked.{AreOfActs}
use Rattle.machine_laws.specs.Reached.{IsReached}
use Rattle.device.specs.View.{piece_on_tag, use_on_tag}
use Rattle.io_manager.specs.declared.Reply.{Reply}
use Rattle.io_manager.specs.Shown.{ManagerView}
use Rattle.io_manager.specs.Right.{BooksPiece}
use Rattle.compose.specs.declared.Event.{Event}
use Rattle.compose.specs.declared.Event.TheVariants.{Open, Close, Read, Write, Flush, CancelIoEx, Mark, QueryRemove}
use Rattle.compose.specs.declared.Event.TheVariants.{CancelRemove, Remove, SurpriseRemove, Act, Finish, Reset}
use Rattle.compose.specs.Right.{IsRight}

-- the start of the piece stands in the trace
abbrev pub IsStarted : List Label → ℕ → ℕ → List ℕ → Type 0
IsStarted trace piece tag block = Contains trace (Device (Start piece tag block))

-- the piece on a tag was started in this trace
abbrev pub IsStartedUse : List Label → TagInUse → Type 0
IsStartedUse trace use' = IsStarted trace use'.piece use'.tag use'.srb.block

-- act n of the trace is that of entry n, and each piece on a tag was started in the trace
pub record IsJournaled (trace : List Label) (entries : List Entry) (view : ManagerView) : Type 0 where
  pub of_acts : AreOfActs trace trace entries
  pub started : All (IsStartedUse trace) view.adapter.tags

-- where the sectors stand elsewhere, whatever suits the SRB of a piece that may act may be booked
abbrev pub ArmedMayBeBooked : Type 0
ArmedMayBeBooked = (arrays : List (List (List ℕ))) (trace : List Label) (entries : List Entry) (view : ManagerView)
    (tag piece : ℕ) (srb : Srb) (what : Result Entry Completion)
    → Run view.rules (opening arrays) trace view.state → IsJournaled trace entries view
    → IsFalse view.adapter.faithful → IsArmed view.adapter tag piece srb
    → Suits view.adapter.sector_size (length view.adapter.sectors) srb what
    → IsBookable view.adapter tag piece what

-- EACH RIGHT STEP KEEPS IT

-- an event that has no piece act
abbrev pub IsNoAct : Event → Type 0
IsNoAct (Open partition) = Unit {0}
IsNoAct (Close handle) = Unit {0}
IsNoAct (Read handle offset buffer) = Unit {0}
IsNoAct (Write handle offset bytes through) = Unit {0}
IsNoAct (Flush handle) = Unit {0}
IsNoAct (CancelIoEx handle target) = Unit {0}
IsNoAct (Mark number) = Unit {0}
IsNoAct QueryRemove = Unit {0}
IsNoAct CancelRemove = Unit {0}
IsNoAct Remove = Unit {0}
IsNoAct SurpriseRemove = Unit {0}
IsNoAct (Act tag) = ⊥
IsNoAct (Finish tag) = Unit {0}
IsNoAct Reset = Unit {0}

-- the step of such an event adds no entry
abbrev pub StepsKeepEntries : Type 0
StepsKeepEntries = (trace : List Label) (entries : List Entry) (old : ManagerView) (event : Event) (reply : Reply)
    (new : ManagerView)
    → IsNoAct event → IsRight old event reply new → IsJournaled trace entries old
    → IsJournaled (trace ++ new.labels) entries new

-- the pieces out are those on the adapter's tags
abbrev pub AreOnTags : ManagerView → Type 0
AreOnTags v = IsPermutation (map piece_on_tag v.state.pieces) (map use_on_tag v.adapter.tags)

-- an act on a tag where nothing can act adds no entry
abbrev pub IdleActsKeepEntries : Type 0
IdleActsKeepEntries = (trace : List Label) (entries : List Entry) (old : ManagerView) (tag : ℕ) (reply : Reply)
    (new : ManagerView)
    → AreOnTags old → HasNoneFresh old.adapter tag → IsRight old (Act tag) reply new
    → IsJournaled trace entries old → IsJournaled (trace ++ new.labels) entries new

-- what was booked is of this piece, on this tag
abbrev pub IsOfPiece : ℕ → ℕ → Result Entry Completion → Type 0
IsOfPiece tag piece (Ok entry) = (entry.piece ≡ piece) × (entry.tag ≡ tag)
IsOfPiece tag piece (Err completion) = Unit {0}

-- the entries, and behind them the one that was booked, if one was
abbrev pub with_entry : List Entry → Result Entry Completion → List Entry
with_entry entries (Ok entry) = entries ++ entry ∷ []
with_entry entries (Err completion) = entries

-- the act of what was booked adds its entry, or none where a failure was booked
abbrev pub BookedActsAddEntries : Type 0
BookedActsAddEntries = (trace : List Label) (entries : List Entry) (old booked new : ManagerView) (tag piece : ℕ)
    (what : Result Entry Completion) (reply : Reply)
    → IsBookable old.adapter tag piece what → IsOfPiece tag piece what → BooksPiece old tag piece what booked
    → IsInOrder booked.adapter → AreOnTags booked → IsReached booked.rules booked.state
    → IsRight booked (Act tag) reply new
    → IsJournaled trace entries old → IsJournaled (trace ++ new.labels) (with_entry entries what) new

-- where the sectors stand elsewhere, they do so after each step
abbrev pub StepsStayApart : Type 0
StepsStayApart = (old : ManagerView) (event : Event) (reply : Reply) (new : ManagerView)
    → IsRight old event reply new → IsFalse old.adapter.faithful → IsFalse new.adapter.faithful
