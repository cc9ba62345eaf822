-- A request that goes on alone: nobody calls, and the adapter acts on what it has and hands it back.
use Rattle.std.specs.Prelude.{◌≡◌, ◌<◌, ◌≤◌, ◌⊎◌, ◌≢◌, ℕ, ◌+◌, ◌*◌, false, List, [], ◌∷◌, ◌++◌, Option, Some, map, length, slice_get, slice_range, count_by, All, IsPermutation, IsTrue, IsFalse}
use Rattle.std.specs.List.{sum_by, concat}
use Rattle.ntstatus.specs.declared.NtStatus.{NtStatus}
use Rattle.ntstatus.specs.declared.NtStatus.TheVariants.{Success}
use Rattle.srb.specs.declared.Kind.TheVariants.{Read, Write, Flush}
use Rattle.machine.specs.declared.ClientRequest.{ClientRequest}
use Rattle.machine.specs.declared.Label.{Label}
use Rattle.machine.specs.declared.Label.TheVariants.{Call, Device, Answer, Removed}
use Rattle.machine.specs.Rules.{Rules, is_transfer, is_in_bounds, first_sector, place_count}
use Rattle.machine.specs.State.{OpenRequest, State}
use Rattle.machine.specs.Calling.{Opens}
use Rattle.machine.specs.Sending.{is_unsent, partition_number}
use Rattle.machine.specs.Settled.{Settled}
use Rattle.machine.specs.Step.{Run}
use Rattle.machine_laws.specs.Reached.{IsReached}
use Rattle.machine_laws.specs.Sectors.{sector_of, bytes_for}
use Rattle.device.specs.Served.{is_fresh_piece, piece_tag}
use Rattle.io_manager.specs.declared.Answer.{Answer as AnswerOf}
use Rattle.io_manager.specs.declared.Refusal.{Refusal}
use Rattle.io_manager.specs.declared.Refusal.TheVariants.{InvalidParameter, DeviceBusy, InsufficientResources}
use Rattle.io_manager.specs.Shown.{ManagerView}
use Rattle.io_manager.specs.Calls.{call_on, number_limit}
use Rattle.device.specs.View.{KeepsOutside}
use Rattle.io_manager.specs.Right.{FitsTogether, SameHandles, TakesAnswer, as_answer}
use Rattle.compose.specs.declared.Event.{Event}
use Rattle.compose.specs.declared.Event.TheVariants.{Read as ReadEvent, Write as WriteEvent, Flush as FlushEvent}
use Rattle.volume.specs.Shown.{extent_at}
use Rattle.volume.specs.Ready.{IsReady}

-- LABELS

-- a label of the adapter, an answer, or the end of a removal; no call, no cancel, and no other change of the device's
-- state
abbrev pub IsQuiet : Label → Type 0
IsQuiet (Device label) = Unit {0}
IsQuiet (Answer number status informed bytes) = Unit {0}
IsQuiet Removed = Unit {0}
IsQuiet _ = ⊥

-- the answers among labels, in order
abbrev pub answers_of : List Label → List Label
answers_of [] = []
answers_of (Answer number status informed bytes ∷ labels) = Answer number status informed bytes ∷ answers_of labels
answers_of (_ ∷ labels) = answers_of labels

-- WHAT A STACK SHOWS BETWEEN TWO STEPS

pub record IsBetween (v : ManagerView) : Type 0 where
  pub settled : Settled v.rules v.state
  pub whole : FitsTogether v
  pub reached : IsReached v.rules v.state
  pub no_labels : v.labels ≡ []

-- the tags of the pieces out
abbrev pub tags_out : State → List ℕ
tags_out s = map piece_tag s.pieces

-- how many places of an open request wait to be sent
abbrev pub unsent_places : OpenRequest → ℕ
unsent_places o = count_by is_unsent o.marks

-- a measure of the work that is left, of which each return uses some up: places that wait to be sent, and pieces out
abbrev pub work : State → ℕ
work s = 2 * sum_by unsent_places s.requests + length s.pieces

-- how many pieces did nothing yet
abbrev pub fresh_count : State → ℕ
fresh_count s = count_by is_fresh_piece s.pieces

-- STEPS

-- quiet labels lead from one view to another, and the answers among them wait to be taken
pub record Quietly (old new : ManagerView) : Type 0 where
  pub labels : List Label
  pub quiet : All IsQuiet labels
  pub run : Run old.rules old.state labels new.state
  pub untaken : IsPermutation (map as_answer new.answers) (answers_of labels ++ map as_answer old.answers)
  pub same_rules : new.rules ≡ old.rules
  pub outside : KeepsOutside old.rules.partitions old.adapter new.adapter
  pub handles : SameHandles old new

-- a request was called and opened, and quiet labels came since; their answers wait to be taken
pub record Goes (before : ManagerView) (number : ℕ) (q : ClientRequest) (now : ManagerView) : Type 0 where
  pub called : State
  pub is_next : number ≡ before.state.next_request
  pub opens : Opens before.rules before.state number q called
  pub labels : List Label
  pub quiet : All IsQuiet labels
  pub run : Run before.rules called labels now.state
  pub untaken : IsPermutation (map as_answer now.answers) (answers_of labels)
  pub same_rules : now.rules ≡ before.rules
  pub outside : KeepsOutside before.rules.partitions before.adapter now.adapter
  pub handles : SameHandles before now

-- quiet labels led to a look for an answer
pub record Looks (old : ManagerView) (answer : Option AnswerOf) (now : ManagerView) : Type 0 where
  pub looked : ManagerView
  pub quietly : Quietly old looked
  pub between : IsBetween looked
  pub takes : TakesAnswer looked answer now

-- CALLS

-- the event calls this request
abbrev pub Asks : ManagerView → Event → ClientRequest → Type 0
Asks v (ReadEvent handle offset buffer) q = q ≡ call_on v handle Read offset buffer false
Asks v (WriteEvent handle offset bytes through) q = q ≡ call_on v handle Write offset bytes through
Asks v (FlushEvent handle) q = q ≡ call_on v handle Flush 0 [] false
Asks v _ q = ⊥

-- what every call leaves
pub record Leaves (old new : ManagerView) : Type 0 where
  pub ready : IsReady new
  pub same_rules : new.rules ≡ old.rules
  pub handles : SameHandles old new
  pub asked : new.state.next_request ≤ old.state.next_request + 1

-- sector i of partition p is one of the request's
pub record IsPlaceOf (rules : Rules) (q : ClientRequest) (p i : ℕ) : Type 0 where
  pub on_partition : partition_number q ≡ p
  pub place : ℕ
  pub is_sector : sector_of rules q place ≡ i
  pub inside : place < place_count rules q

-- where the sectors of a request begin on the disk
abbrev pub disk_first : Rules → ClientRequest → ℕ
disk_first rules q = (extent_at rules.partitions (partition_number q)).first + first_sector rules q

-- the sectors of a request among the disk's
abbrev pub sectors_on : Rules → ClientRequest → List (List ℕ) → List (List ℕ)
sectors_on rules q sectors = slice_range sectors (disk_first rules q) (disk_first rules q + place_count rules q)

-- each sector of a write is as it was or was written, and all others are as they were
pub record ChangesSome (rules : Rules) (q : ClientRequest) (old new : List (List ℕ)) : Type 0 where
  pub elsewhere : (i : ℕ) → (i < disk_first rules q) ⊎ (disk_first rules q + place_count rules q ≤ i) → slice_get new i ≡ slice_get old i
  pub each : (place : ℕ) → place < place_count rules q
      → (slice_get new (disk_first rules q + place) ≡ slice_get old (disk_first rules q + place)) ⊎ (slice_get new (disk_first rules q + place) ≡ Some (bytes_for rules q place))

-- a request was called under the next number, and came to its one answer, which has this status; all other labels are
-- the adapter's
pub record ComesTo (rules : Rules) (s : State) (q : ClientRequest) (status : NtStatus) (s' : State) : Type 0 where
  pub labels : List Label
  pub quiet : All IsQuiet labels
  pub run : Run rules s (Call s.next_request q ∷ labels) s'
  pub informed : ℕ
  pub bytes : List ℕ
  pub answers : answers_of labels ≡ Answer s.next_request status informed bytes ∷ []

-- how a request ended that was not refused
pub record Ends (old : ManagerView) (q : ClientRequest) (answer : AnswerOf) (new : ManagerView) : Type 0 where
  pub leaves : Leaves old new
  pub comes_to : ComesTo old.rules old.state q answer.status new.state
  pub in_bounds : IsTrue (is_transfer q.kind) → IsTrue (is_in_bounds old.rules q)
  pub reads : q.kind ≡ Read → answer.status ≡ Success → answer.bytes ≡ concat (sectors_on old.rules q old.adapter.sectors)
  pub writes : q.kind ≡ Write → answer.status ≡ Success → concat (sectors_on old.rules q new.adapter.sectors) ≡ q.bytes
  pub changes : q.kind ≡ Write → ChangesSome old.rules q old.adapter.sectors new.adapter.sectors
  pub same : q.kind ≢ Write → new.adapter.sectors ≡ old.adapter.sectors
  -- a command was sent for it, unless it succeeded and has no place
  pub sent : (answer.status ≡ Success → 0 < place_count old.rules q) → old.state.next_piece < new.state.next_piece

-- why a request was refused
abbrev pub HasReason : ManagerView → ClientRequest → Refusal → Type 0
HasReason old q InvalidParameter = IsTrue (is_transfer q.kind) × IsFalse (is_in_bounds old.rules q)
HasReason old q DeviceBusy = number_limit ≤ old.state.next_request
HasReason old q InsufficientResources = IsTrue (is_transfer q.kind) → IsTrue (is_in_bounds old.rules q)
HasReason old q _ = ⊥

-- a request was refused, and nothing changed
pub record Turns (old : ManagerView) (q : ClientRequest) (reason : Refusal) (new : ManagerView) : Type 0 where
  pub leaves : Leaves old new
  pub why : HasReason old q reason
  pub same_sectors : new.adapter.sectors ≡ old.adapter.sectors
  pub none_sent : new.state.next_piece ≡ old.state.next_piece
