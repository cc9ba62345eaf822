-- What a client of a served file keeps, by what it asked for and what it was told.
use Rattle.std.specs.Prelude.{◌≡◌, ◌<◌, ◌⊎◌, ℕ, ◌+◌, ◌-◌, ◌/◌, Bool, true, false, List, [], ◌∷◌, ◌++◌, All, Option, Result, Ok, Err}
use mathlib.Core.Logic.{inl, inr}
use Rattle.sector.specs.declared.Extent.{Extent}
use Rattle.settings.specs.declared.Config.{Config}
use Rattle.settings.specs.Medium.{extents_of}
use Rattle.volume.specs.Shown.{extent_at}
use Rattle.file_disk.specs.Calls.{Call}
use Rattle.loss.specs.Held.{has, sector_in}
use Rattle.nbd.specs.declared.End.{End}
use Rattle.nbd.specs.declared.arrays.Sizes.{Sizes}
use Rattle.nbd.specs.declared.requests.Command.{Command}
use Rattle.nbd.specs.declared.requests.Command.TheVariants.{Read, Write, Flush, WriteZeroes}
use Rattle.nbd.specs.declared.requests.ReplyError.{ReplyError}
use Rattle.nbd.specs.Over.{IsSessionOver, RunOver}
use Rattle.nbd.specs.Requests.{command_in}
use Rattle.nbd.specs.Session.{Exchange}
use Rattle.file_sessions.specs.Stored.{Content, IsKept, Remains, Survives, under_way}
use Rattle.serving.specs.declared.faults.Error.{Error}
use Rattle.serving.specs.Filed.{CarriesBy, FiledView}
use Rattle.serving.specs.Lasting.{ServesFile}
use Rattle.serving.specs.OnDisk.{IsOpened}

-- EXCHANGES

-- the requests that were served, in order; a session that ended before its options has none
abbrev pub exchanges_of : (sizes : Sizes) (old : FiledView) (input out : Option (List ℕ)) (end : End) (new : FiledView) (after : Option (List ℕ)) → IsSessionOver CarriesBy sizes old input out end new after → List Exchange
exchanges_of sizes old input out end new after (inl early) = []
exchanges_of sizes old input out end new after (inr talks) = talks.exchanges

-- what the request asks for
abbrev pub command_of : Sizes → Exchange → Result Command ReplyError
command_of sizes x = command_in sizes.block sizes.bytes x.request

-- the client was told that it was done: the error of the reply is 0
abbrev pub IsToldDone : Exchange → Type 0
IsToldDone x = x.outcome.error ≡ 0

-- the whole sectors among these bytes
abbrev pub sectors_in : ℕ → ℕ → ℕ → Extent
sectors_in size offset count = record { first = offset / size; count = (offset + count) / size - offset / size }

-- the command writes sector k of the partition
abbrev pub writes : ℕ → ℕ → Command → Bool
writes size k (Read offset count) = false
writes size k (Write offset count through) = has (sectors_in size offset count) k
writes size k Flush = false
writes size k (WriteZeroes offset count through) = has (sectors_in size offset count) k

-- a flush, or a write past volatile caches
abbrev pub syncs : Command → Bool
syncs (Read offset count) = false
syncs (Write offset count through) = through
syncs Flush = true
syncs (WriteZeroes offset count through) = through

-- the exchange writes no sector k
abbrev pub IsElsewhere : Sizes → ℕ → Exchange → Type 0
IsElsewhere sizes k x = (command : Command) → command_of sizes x ≡ Ok command → writes sizes.block k command ≡ false

-- no sync of it was told to have failed
abbrev pub HasSynced : Sizes → Exchange → Type 0
HasSynced sizes x = (command : Command) → command_of sizes x ≡ Ok command → syncs command ≡ true → IsToldDone x

-- it has none
abbrev pub HasNoSync : Sizes → Exchange → Type 0
HasNoSync sizes x = (command : Command) → command_of sizes x ≡ Ok command → syncs command ≡ false

-- a write (NBD_CMD_WRITE) that was told as done, of which sector k of the partition is sector `place`
pub record IsWrite (sizes : Sizes) (w : Exchange) (place k : ℕ) : Type 0 where
  pub offset : ℕ
  pub count : ℕ
  pub through : Bool
  pub command : command_of sizes w ≡ Ok (Write offset count through)
  pub done : IsToldDone w
  pub inside : place < count / sizes.block
  pub sector : k ≡ offset / sizes.block + place

-- a flush that was
pub record IsFlush (sizes : Sizes) (f : Exchange) : Type 0 where
  pub command : command_of sizes f ≡ Ok Flush
  pub done : IsToldDone f

-- sector k of the partition, on the disk
abbrev pub sector_on : Config → ℕ → ℕ → ℕ
sector_on c p k = (extent_at (extents_of c) p).first + k

-- a session, and the calls that its file got meanwhile
abbrev pub served_in : (c : Config) (p : ℕ) (opened : List Call) (old : FiledView) (input out : Option (List ℕ)) (fault : Option Error) (new : FiledView) (after : Option (List ℕ)) (calls : List Call)
    → ServesFile c p opened old input out fault new after calls → List Exchange
served_in c p opened old input out fault new after calls h = exchanges_of old.sizes old input out h.session.end new after h.session.session

-- THE LAWS

-- a write that was told as done, then a flush that was; no other write of the sector after the first, and no failed sync
-- between the two: the file has the write's bytes there, whatever a loss of power left after the session
abbrev pub FlushedIsKept : Type 0
FlushedIsKept = (c : Config) (p : ℕ) (opened : List Call) (old : FiledView) (input out : Option (List ℕ)) (fault : Option Error) (new : FiledView) (after : Option (List ℕ)) (calls : List Call) (before left : Content)
    (first : List Exchange) (w : Exchange) (between : List Exchange) (f : Exchange) (later : List Exchange) (place k : ℕ)
    → (h : ServesFile c p opened old input out fault new after calls) → 0 < c.sector_size → IsKept c.sector_size before calls
    → served_in c p opened old input out fault new after calls h ≡ first ++ w ∷ (between ++ f ∷ later)
    → IsWrite old.sizes w place k → IsFlush old.sizes f
    → All (IsElsewhere old.sizes k) between → All (HasSynced old.sizes) between → All (IsElsewhere old.sizes k) later
    → sector_on c p k < c.sectors → Survives c.sector_size c.sectors before calls left
    → left (sector_on c p k) ≡ sector_in c.sector_size place w.payload

-- so it is at once where the write went past volatile caches (NBD_CMD_FLAG_FUA), also where later syncs fail
abbrev pub SecuredIsKept : Type 0
SecuredIsKept = (c : Config) (p : ℕ) (opened : List Call) (old : FiledView) (input out : Option (List ℕ)) (fault : Option Error) (new : FiledView) (after : Option (List ℕ)) (calls : List Call) (before left : Content)
    (first : List Exchange) (w : Exchange) (later : List Exchange) (place k : ℕ)
    → (h : ServesFile c p opened old input out fault new after calls) → 0 < c.sector_size → IsKept c.sector_size before calls
    → served_in c p opened old input out fault new after calls h ≡ first ++ w ∷ later
    → (is_write : IsWrite old.sizes w place k) → is_write.through ≡ true
    → All (IsElsewhere old.sizes k) later
    → sector_on c p k < c.sectors → Survives c.sector_size c.sectors before calls left
    → left (sector_on c p k) ≡ sector_in c.sector_size place w.payload

-- a sector that no request writes is as it was: so what one session leaves the next ones keep
abbrev pub UntouchedIsKept : Type 0
UntouchedIsKept = (c : Config) (p : ℕ) (opened : List Call) (old : FiledView) (input out : Option (List ℕ)) (fault : Option Error) (new : FiledView) (after : Option (List ℕ)) (calls : List Call) (before left : Content) (k : ℕ)
    → (h : ServesFile c p opened old input out fault new after calls) → 0 < c.sector_size → IsKept c.sector_size before calls
    → All (IsElsewhere old.sizes k) (served_in c p opened old input out fault new after calls h)
    → sector_on c p k < c.sectors → Survives c.sector_size c.sectors before calls left
    → left (sector_on c p k) ≡ before (sector_on c p k)

-- a write that was told as done outlives its process, where no sync was told to have failed since
abbrev pub AnsweredIsKept : Type 0
AnsweredIsKept = (c : Config) (p : ℕ) (opened : List Call) (old : FiledView) (input out : Option (List ℕ)) (fault : Option Error) (new : FiledView) (after : Option (List ℕ)) (calls : List Call) (before left : Content)
    (first : List Exchange) (w : Exchange) (later : List Exchange) (place k : ℕ)
    → (h : ServesFile c p opened old input out fault new after calls) → 0 < c.sector_size → IsKept c.sector_size before calls
    → served_in c p opened old input out fault new after calls h ≡ first ++ w ∷ later
    → IsWrite old.sizes w place k → All (IsElsewhere old.sizes k) later → All (HasSynced old.sizes) later
    → sector_on c p k < c.sectors → Remains c.sector_size c.sectors before calls left
    → left (sector_on c p k) ≡ sector_in c.sector_size place w.payload

-- AT A MOMENT

-- a client was told of some requests. At a moment behind that, while later ones are served, the file had got these calls since, and one was
-- under way
pub record IsMoment (c : Config) (p : ℕ) (opened : List Call) (old : FiledView) (front later : List Exchange) (new : FiledView) (told since : List Call) (call : Call) : Type 0 where
  pub opens : IsOpened c p opened old
  pub seen : FiledView
  pub told_of : RunOver CarriesBy old.sizes old front seen
  pub onwards : RunOver CarriesBy old.sizes seen later new
  pub told_are : seen.carried.disk.calls ≡ told ++ old.carried.disk.calls
  pub rest : List Call
  pub calls_are : new.carried.disk.calls ≡ (rest ++ call ∷ (since ++ told)) ++ old.carried.disk.calls

-- what was told by then is kept at that moment too
abbrev pub FlushedIsKeptMeanwhile : Type 0
FlushedIsKeptMeanwhile = (c : Config) (p : ℕ) (opened : List Call) (old new : FiledView) (told since : List Call) (call : Call) (before left : Content)
    (first : List Exchange) (w : Exchange) (between : List Exchange) (f : Exchange) (behind later : List Exchange) (place k : ℕ)
    → IsMoment c p opened old (first ++ w ∷ (between ++ f ∷ behind)) later new told since call → 0 < c.sector_size → IsKept c.sector_size before (since ++ told)
    → IsWrite old.sizes w place k → IsFlush old.sizes f
    → All (IsElsewhere old.sizes k) between → All (HasSynced old.sizes) between → All (IsElsewhere old.sizes k) behind → All (IsElsewhere old.sizes k) later
    → sector_on c p k < c.sectors → Survives c.sector_size c.sectors before (under_way call ∷ (since ++ told)) left
    → left (sector_on c p k) ≡ sector_in c.sector_size place w.payload

abbrev pub SecuredIsKeptMeanwhile : Type 0
SecuredIsKeptMeanwhile = (c : Config) (p : ℕ) (opened : List Call) (old new : FiledView) (told since : List Call) (call : Call) (before left : Content)
    (first : List Exchange) (w : Exchange) (behind later : List Exchange) (place k : ℕ)
    → IsMoment c p opened old (first ++ w ∷ behind) later new told since call → 0 < c.sector_size → IsKept c.sector_size before (since ++ told)
    → (is_write : IsWrite old.sizes w place k) → is_write.through ≡ true
    → All (IsElsewhere old.sizes k) behind → All (IsElsewhere old.sizes k) later
    → sector_on c p k < c.sectors → Survives c.sector_size c.sectors before (under_way call ∷ (since ++ told)) left
    → left (sector_on c p k) ≡ sector_in c.sector_size place w.payload

abbrev pub UntouchedIsKeptMeanwhile : Type 0
UntouchedIsKeptMeanwhile = (c : Config) (p : ℕ) (opened : List Call) (old new : FiledView) (told since : List Call) (call : Call) (before left : Content) (front later : List Exchange) (k : ℕ)
    → IsMoment c p opened old front later new told since call → 0 < c.sector_size → IsKept c.sector_size before (since ++ told)
    → All (IsElsewhere old.sizes k) front → All (IsElsewhere old.sizes k) later
    → sector_on c p k < c.sectors → Survives c.sector_size c.sectors before (under_way call ∷ (since ++ told)) left
    → left (sector_on c p k) ≡ before (sector_on c p k)

-- where the process ended then, and none of the requests that were served is a sync
abbrev pub AnsweredIsKeptMeanwhile : Type 0
AnsweredIsKeptMeanwhile = (c : Config) (p : ℕ) (opened : List Call) (old new : FiledView) (told since : List Call) (call : Call) (before left : Content)
    (first : List Exchange) (w : Exchange) (behind later : List Exchange) (place k : ℕ)
    → IsMoment c p opened old (first ++ w ∷ behind) later new told since call → 0 < c.sector_size → IsKept c.sector_size before (since ++ told)
    → IsWrite old.sizes w place k
    → All (IsElsewhere old.sizes k) behind → All (HasSynced old.sizes) behind → All (IsElsewhere old.sizes k) later → All (HasNoSync old.sizes) later
    → sector_on c p k < c.sectors → Remains c.sector_size c.sectors before (under_way call ∷ (since ++ told)) left
    → left (sector_on c p k) ≡ sector_in c.sector_size place w.payload

-- SESSIONS IN A ROW

-- a session over a file that held `before`; no request of it wrote sector i of the disk; behind it power was lost, or only the process ended
pub record LeavesAlone (c : Config) (i : ℕ) (before left : Content) : Type 0 where
  pub p : ℕ
  pub opened : List Call
  pub old : FiledView
  pub input : Option (List ℕ)
  pub out : Option (List ℕ)
  pub fault : Option Error
  pub new : FiledView
  pub after : Option (List ℕ)
  pub calls : List Call
  pub serves : ServesFile c p opened old input out fault new after calls
  pub kept : IsKept c.sector_size before calls
  pub k : ℕ
  pub is_sector : sector_on c p k ≡ i
  pub elsewhere : All (IsElsewhere old.sizes k) (served_in c p opened old input out fault new after calls serves)
  pub ends : Survives c.sector_size c.sectors before calls left ⊎ Remains c.sector_size c.sectors before calls left

-- such sessions, each over what the last one left
abbrev pub LeaveAlone : Config → ℕ → Content → List Content → Content → Type 0
LeaveAlone c i before [] left = left ≡ before
LeaveAlone c i before (mid ∷ mids) left = LeavesAlone c i before mid × LeaveAlone c i mid mids left

-- so what one session made certain stays over the next ones, until a request writes the sector
abbrev pub StaysOverSessions : Type 0
StaysOverSessions = (c : Config) (i : ℕ) (before left : Content) (mids : List Content) → 0 < c.sector_size → i < c.sectors → LeaveAlone c i before mids left → left i ≡ before i

-- BY HAND

-- sectors of 512 bytes: those of 1,024 bytes from byte 1,024 on, and what syncs
pub record AreCommandsByHand : Type 0 where
  pub before : writes 512 1 (Write 1024 1024 false) ≡ false
  pub first : writes 512 2 (Write 1024 1024 false) ≡ true
  pub last : writes 512 3 (Write 1024 1024 false) ≡ true
  pub behind : writes 512 4 (Write 1024 1024 false) ≡ false
  pub zeros : writes 512 3 (WriteZeroes 1024 1024 false) ≡ true
  pub zeros_behind : writes 512 4 (WriteZeroes 1024 1024 false) ≡ false
  pub read : writes 512 2 (Read 1024 1024) ≡ false
  pub flush : writes 512 2 Flush ≡ false
  pub syncing : (syncs Flush ≡ true) × (syncs (Write 1024 1024 true) ≡ true) × (syncs (WriteZeroes 1024 1024 true) ≡ true)
  pub not_syncing : (syncs (Read 1024 1024) ≡ false) × (syncs (Write 1024 1024 false) ≡ false) × (syncs (WriteZeroes 1024 1024 false) ≡ false)
