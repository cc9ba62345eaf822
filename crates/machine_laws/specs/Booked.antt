-- The acts of a trace and the entries of a journal, by the labels alone.
use Rattle.std.specs.Prelude.{◌≡◌, ℕ, List, [], ◌∷◌, map, length, All, Contains}
use Rattle.cdb.specs.declared.Cdb.{Cdb}
use Rattle.cdb.specs.declared.Cdb.TheVariants.{Read10, Write10, Sync10, ReadCapacity10, Read16, Write16, Sync16, ReadCapacity16}
use Rattle.cdb.specs.Meaning.{Means}
use Rattle.sector.specs.Extents.{IsSector, sectors_in}
use Rattle.srb.specs.declared.Entry.{Entry}
use Rattle.srb.specs.declared.Kind.{Kind}
use Rattle.srb.specs.declared.Kind.TheVariants.{Read, Write, Flush}
use Rattle.srb.specs.declared.DeviceLabel.TheVariants.{Start, Act, Fault, Return}
use Rattle.machine.specs.declared.Label.{Label}
use Rattle.machine.specs.declared.Label.TheVariants.{Call, Device, Answer, Cancel, Pause, Resume, Remove, Surprise, Removed}
use Rattle.machine.specs.Rules.{Rules, as_faithful}
use Rattle.machine.specs.Map.{IsMap}
use Rattle.machine.specs.State.{State, opening}
use Rattle.machine.specs.Step.{Run}
use Rattle.machine_laws.specs.Reached.{AreWhole}
use Rattle.machine_laws.specs.Lifting.{AreActsOf, over_disk}
use Rattle.srb.specs.Replaying.{Replays}

-- the kind and the sectors of a transfer
abbrev pub IsTransfer : Entry → Kind → ℕ → ℕ → Type 0
IsTransfer entry kind lba count = (entry.kind ≡ kind) × (entry.extent.first ≡ lba) × (entry.extent.count ≡ count)

-- the entry is of what this command asks for
abbrev pub IsAskedBy : Entry → Cdb → Type 0
IsAskedBy entry (Read10 lba count fua) = IsTransfer entry Read lba count
IsAskedBy entry (Write10 lba count fua) = IsTransfer entry Write lba count
IsAskedBy entry (Sync10 lba count) = entry.kind ≡ Flush
IsAskedBy entry ReadCapacity10 = ⊥
IsAskedBy entry (Read16 lba count fua) = IsTransfer entry Read lba count
IsAskedBy entry (Write16 lba count fua) = IsTransfer entry Write lba count
IsAskedBy entry (Sync16 lba count) = entry.kind ≡ Flush
IsAskedBy entry (ReadCapacity16 allocation) = ⊥

-- the entry is of the act of this piece, whose start in the trace has a block that asks for it
pub record IsOfAct (trace : List Label) (piece : ℕ) (bytes : List ℕ) (entry : Entry) : Type 0 where
  pub block : List ℕ
  pub command : Cdb
  pub started : Contains trace (Device (Start piece entry.tag block))
  pub means : Means block command
  pub asked : IsAskedBy entry command
  pub is_piece : entry.piece ≡ piece
  pub bytes_are : entry.bytes ≡ bytes

-- an act takes the first entry, which is its own, and any other label none
abbrev pub TakesEntry : List Label → Label → List Entry → List Entry → Type 0
TakesEntry trace (Device (Act piece bytes)) entries left = (entry : Entry) × (entries ≡ entry ∷ left) × IsOfAct trace piece bytes entry
TakesEntry trace (Device (Start piece tag block)) entries left = left ≡ entries
TakesEntry trace (Device (Fault piece)) entries left = left ≡ entries
TakesEntry trace (Device (Return piece class)) entries left = left ≡ entries
TakesEntry trace (Call number q) entries left = left ≡ entries
TakesEntry trace (Answer number status informed bytes) entries left = left ≡ entries
TakesEntry trace (Cancel number) entries left = left ≡ entries
TakesEntry trace Pause entries left = left ≡ entries
TakesEntry trace Resume entries left = left ≡ entries
TakesEntry trace Remove entries left = left ≡ entries
TakesEntry trace Surprise entries left = left ≡ entries
TakesEntry trace Removed entries left = left ≡ entries

-- act n of these labels is of entry n, and there are no others
abbrev pub AreOfActs : List Label → List Label → List Entry → Type 0
AreOfActs trace [] entries = entries ≡ []
AreOfActs trace (label ∷ labels) entries = (left : List Entry) × TakesEntry trace label entries left × AreOfActs trace labels left

-- entries that are of the acts of a trace are the acts of the run that the trace is
abbrev pub EntriesAreOfRuns : Type 0
EntriesAreOfRuns = (rules : Rules) (arrays : List (List (List ℕ))) (trace : List Label) (s' : State) (run : Run rules (opening arrays) trace s') (entries : List Entry)
    → AreWhole rules arrays → AreOfActs trace trace entries → AreActsOf rules (opening arrays) trace s' run entries

-- a journal of such entries, replayed from the sectors of a disk, makes the trace a run of the faithful machine from that disk on
abbrev pub JournalsCloseRuns : Type 0
JournalsCloseRuns = (rules : Rules) (arrays : List (List (List ℕ))) (trace : List Label) (s' : State) (entries : List Entry) (disk after : List (List ℕ))
    → AreWhole rules arrays → IsMap (length disk) rules.partitions → All (IsSector rules.sector_size) disk
    → Run rules (opening arrays) trace s' → AreOfActs trace trace entries → Replays rules.sector_size disk entries after
    → Run (as_faithful rules) (opening (map (sectors_in disk) rules.partitions)) trace (over_disk rules after s')
