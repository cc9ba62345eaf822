-- What a closed host gives.
--
-- Two machines read the trace. The stack's own, of the host's rules, moves no sectors by its acts: the trace is a run of
-- it from the state that the host was opened with, whose arrays no act reads or writes (`IsClosed`, `SettledAtRemoved`).
-- The faithful one has the same rules, but its acts read and write the arrays: the trace is a run of it from the sectors
-- that the journal was opened with, cut into partitions (`IsFaithfulRun`). The journal's entries join the two: the acts
-- of the trace are the first of them, in order (`AreFirst`).
use Rattle.std.specs.Prelude.{◌≡◌, ◌<◌, ℕ, zero, suc, ◌+◌, Bool, true, false, List, [], ◌∷◌, Some, map, length, slice_get, take, if◌then◌else◌}
use Rattle.machine.specs.declared.Label.{Label}
use Rattle.machine.specs.declared.Label.TheVariants.{Device, Removed}
use Rattle.srb.specs.declared.DeviceLabel.TheVariants.{Start, Act, Fault, Return}
use Rattle.machine.specs.Rules.{Rules, as_faithful}
use Rattle.machine.specs.State.{State, opening}
use Rattle.sector.specs.Extents.{sectors_in}
use Rattle.srb.specs.Replaying.{Replays}
use Rattle.machine_laws.specs.Booked.{AreOfActs}
use Rattle.machine_laws.specs.Lifting.{over_disk}
use Rattle.sector_journal.specs.declared.acted.Entered.{Entered}
use Rattle.sector_journal.specs.Journal.{entries_in}
use Rattle.book.specs.Taken.{BeginsWith, numbered_from}
use Rattle.machine.specs.Step.{Run}
use Rattle.machine_laws.specs.EndLaws.{IsEmpty}
use Rattle.chronicle.specs.Claims.{AllStand}
use Rattle.traced.specs.declared.TraceEntry.{TraceEntry}
use Rattle.traced.specs.Entries.{AreRowed, is_call_of, labels_of, places}
use Rattle.traced.specs.Rows.{RowView, row_at}
use Rattle.host.specs.Receipts.{Receipt, AreAnswers, AreCalls, AreRising, places_of}
use Rattle.host.specs.Clients.{ClientView, client_at}

-- f of each number below, added up
abbrev pub total : ℕ → (ℕ → ℕ) → ℕ
total zero f = 0
total (suc n) f = total n f + f n

-- a client's receipts stand in the trace: calls and answers of its own, the calls in rising places
pub record HasReceiptsIn (es : List TraceEntry) (client : ℕ) (called answered : List Receipt) : Type 0 where
  pub calls_stand : AllStand es called
  pub answers_stand : AllStand es answered
  pub calls : AreCalls client called
  pub rising : AreRising 0 called
  pub answers : AreAnswers client answered

abbrev pub IsBorneOut : List TraceEntry → ClientView → Type 0
IsBorneOut es v = HasReceiptsIn es v.client v.called v.answered

abbrev pub AreBorneOut : List TraceEntry → ℕ → List ClientView → Type 0
AreBorneOut es count clients = (c : ℕ) → c < count → IsBorneOut es (client_at clients c)

-- the places of the calls of a row, where the entries begin at this one
abbrev pub call_places : ℕ → ℕ → List TraceEntry → List ℕ
call_places c from [] = []
call_places c from (e ∷ es) = if is_call_of c e then from ∷ call_places c (suc from) es else call_places c (suc from) es

-- the trace and the rows of a closed host, with the receipts of its clients: the trace is a run of the machine from the
-- opening state; each call is in the row of the one client that made it, and an answer in its call's
pub record IsClosed (rules : Rules) (opening : State) (clients : List ClientView) (trace : List TraceEntry) (rows : List RowView) : Type 0 where
  pub last : State
  pub run : Run rules opening (labels_of trace) last
  pub owners : List ℕ
  pub rowed : AreRowed owners trace
  pub row : (c : ℕ) → c < length clients → (row_at rows c).places ≡ places c 0 trace
  -- each receipt's label stands at its place
  pub stand : AreBorneOut trace (length clients) clients
  -- each row's calls are just its client's, in its order
  pub calls : (c : ℕ) → c < length clients → call_places c 0 trace ≡ places_of (client_at clients c).called

-- these labels are a run, and nothing is open or out at the end of any such run
pub record LeaveNothing (rules : Rules) (opening : State) (labels : List Label) : Type 0 where
  pub last : State
  pub run : Run rules opening labels last
  pub empty : (s : State) → Run rules opening labels s → IsEmpty s

-- the trace leaves nothing up to the end of a removal, and up to each place behind it
abbrev pub SettledAtRemoved : Rules → State → List TraceEntry → Type 0
SettledAtRemoved rules opening trace =
    (place count : ℕ) (e : TraceEntry) → slice_get trace place ≡ Some e → e.label ≡ Removed → place < count → LeaveNothing rules opening (take count (labels_of trace))

-- WHAT ACTS DID

-- the acts of the trace, in order, are the first entries, and these are their receipts
pub record AreFirst (trace : List Label) (entries : List Entered) (receipts : List (ℕ × Entered)) : Type 0 where
  pub taken : List Entered
  pub first : BeginsWith entries taken
  pub numbered : receipts ≡ numbered_from 0 taken
  pub of_acts : AreOfActs trace trace (entries_in taken)

-- the label is an act
abbrev pub is_act : Label → Bool
is_act (Device (Act piece bytes)) = true
is_act (Device (Start piece tag block)) = false
is_act (Device (Fault piece)) = false
is_act (Device (Return piece class)) = false
is_act _ = false

-- how many of the labels are acts
abbrev pub act_count : List Label → ℕ
act_count [] = 0
act_count (label ∷ labels) = if is_act label then suc (act_count labels) else act_count labels

-- these labels are a run of the machine whose acts read and write the sectors, from those of the disk on; its acts are the
-- first entries. Where it has as many acts as there are entries, it ends with the sectors of the medium
pub record IsFaithfulRun (rules : Rules) (disk : List (List ℕ)) (trace : List Label) (entries : List Entered) (sectors : List (List ℕ)) : Type 0 where
  pub taken : List Entered
  pub first : BeginsWith entries taken
  pub of_acts : AreOfActs trace trace (entries_in taken)
  pub after : List (List ℕ)
  pub replays : Replays rules.sector_size disk (entries_in taken) after
  pub all : act_count trace ≡ length entries → after ≡ sectors
  pub last : State
  pub run : Run (as_faithful rules) (opening (map (sectors_in disk) rules.partitions)) trace (over_disk rules after last)
