-- A session over a disk in a storage, whose requests are served side by side.
use Rattle.std.specs.Prelude.{◌≡◌, ◌<◌, ◌⊎◌, ℕ, ◌+◌, Bool, true, false, List, [], ◌∷◌, ◌++◌, All, Contains, IsNone, IsTrue, length, replicate, slice_get, slice_set, Option, Some, None, Result, Ok, Err, MatchResult}
use Rattle.sector.specs.declared.Extent.{Extent}
use Rattle.srb.specs.declared.Completion.{Completion}
use Rattle.srb.specs.declared.DeviceLabel.{DeviceLabel}
use Rattle.srb.specs.declared.DeviceLabel.TheVariants.{Start, Act, Fault, Return}
use Rattle.srb.specs.declared.Srb.{Srb}
use Rattle.machine.specs.declared.ClientRequest.{ClientRequest}
use Rattle.machine.specs.declared.Label.{Label}
use Rattle.machine.specs.declared.Label.TheVariants.{Call, Device}
use Rattle.io_manager.specs.declared.Answer.{Answer}
use Rattle.io_manager.specs.declared.Handle.{Handle}
use Rattle.io_manager.specs.declared.Refusal.{Refusal}
use Rattle.io_manager.specs.declared.Reply.TheVariants.{Refused}
use Rattle.io_manager.specs.Shown.{ManagerView}
use Rattle.io_manager.specs.Calls.{without_bytes}
use Rattle.io_manager.specs.Right.{as_answer}
use Rattle.compose.specs.declared.Event.{Event}
use Rattle.compose.specs.declared.Event.TheVariants.{Read as ReadEvent, Write as WriteEvent, Flush as FlushEvent}
use Rattle.compose.specs.Right.{IsRight}
use Rattle.volume.specs.Working.{Asks}
use Rattle.file_disk.specs.Asked.{Asks as AsksStorage}
use Rattle.file_disk.specs.Copies.{IsCopyOf}
use Rattle.file_disk.specs.Transfers.{DiskView, Transfers}
use Rattle.file_disk.specs.declared.file_disk.Task.{Task}
use Rattle.file_disk.specs.declared.file_disk.Task.TheVariants.{Read as ReadTask, Write as WriteTask, Flush as FlushTask}
use Rattle.movers.specs.declared.ask.Ask.{Ask}
use Rattle.movers.specs.declared.flight.Flown.{Flown}
use Rattle.movers.specs.Flight.{AllBeside}
use Rattle.nbd.specs.declared.arrays.Sizes.{Sizes}
use Rattle.nbd.specs.declared.requests.Command.{Command}
use Rattle.nbd.specs.declared.requests.Command.TheVariants.{Read, Write, Flush, WriteZeroes}
use Rattle.nbd.specs.declared.requests.ReplyError.{ReplyError}
use Rattle.nbd.specs.declared.requests.ReplyError.TheVariants.{Eio, Enomem}
use Rattle.nbd.specs.Requests.{command_in}
use Rattle.nbd.specs.Replies.{Outcome, failure, success}
use Rattle.nbd.specs.Beside.{Taken, Told}
use Rattle.serving.specs.Carried.{Deed, TellsOn}
use Rattle.serving.specs.Filed.{ComesTo, plain_outcome, read_outcome, total}

-- PIECES

-- a piece that could act and what came of it, with the calls of the thread that moved it before it, and behind it
pub record Moved : Type 0 where
  pub deed : Deed
  pub before : DiskView
  pub after : DiskView

-- the thread's calls between are just those of the piece
abbrev pub IsOwn : Moved → Type 0
IsOwn m = Transfers m.before m.deed.tag m.deed.piece m.deed.srb m.deed.what m.after

abbrev pub deeds_of : List Moved → List Deed
deeds_of [] = []
deeds_of (m ∷ ms) = m.deed ∷ deeds_of ms

-- the answer waited before, or is among these labels
abbrev pub WaitsOrTold : List Answer → List Label → Answer → Type 0
WaitsOrTold waiting labels answer = Contains labels (as_answer answer) ⊎ Contains waiting answer

-- the stack went on with these labels, whose acts and faults are these pieces
pub record GoesBeside (old : ManagerView) (labels : List Label) (moves : List Moved) (new : ManagerView) : Type 0 where
  pub same_rules : new.rules ≡ old.rules
  pub same_handles : new.handles ≡ old.handles
  pub told : TellsOn old labels (deeds_of moves) new
  pub own : All IsOwn moves
  pub untaken : All (WaitsOrTold old.answers labels) new.answers

-- PIECES AT THE STORAGE

-- a piece that a thread was handed: its place among all that was, its SRB and the thread's copy of that, and which sectors
-- it reads or writes
pub record Handed : Type 0 where
  pub at : ℕ
  pub ask : Ask
  pub srb : Srb
  pub flown : Flown

-- what the owner of the stack did with a piece
pub data Moment : Type 0 where
  -- it handed one to a thread, which made its calls from then on
  Hands : Handed → Moment
  -- the one that was handed out at this place came back for this tag, and all its calls were made; and what was booked of it
  Brings : ℕ → ℕ → Option Moved → Moment
  -- it moved one itself
  Moves : Moved → Moment

-- the pieces that were moved, in the order in which that was booked
abbrev pub moves_in : List Moment → List Moved
moves_in [] = []
moves_in (Hands h ∷ moments) = moves_in moments
moves_in (Brings at tag None ∷ moments) = moves_in moments
moves_in (Brings at tag (Some m) ∷ moments) = m ∷ moves_in moments
moves_in (Moves m ∷ moments) = m ∷ moves_in moments

-- for each tag what a thread reads or writes for it, and the place of what it was handed
pub record Aloft : Type 0 where
  pub flown : List (Option Flown)
  pub places : List (Option ℕ)

abbrev pub none_aloft : ℕ → Aloft
none_aloft depth = record { flown = replicate depth None; places = replicate depth None }

abbrev pub no_extent : Extent
no_extent = record { first = 0; count = 0 }

-- a flush reads and writes none of the sectors
abbrev pub flown_by : Task → Extent → Flown
flown_by ReadTask extent = record { extent = extent; writes = false; syncs = false }
flown_by (WriteTask through) extent = record { extent = extent; writes = true; syncs = through }
flown_by FlushTask extent = record { extent = no_extent; writes = false; syncs = true }

-- the sectors are those for which the SRB asks a disk of this size
pub record IsFlown (disk : DiskView) (srb : Srb) (flown : Flown) : Type 0 where
  pub task : Task
  pub extent : Extent
  pub asks : AsksStorage disk srb (task, extent)
  pub flown_is : flown ≡ flown_by task extent

-- the thread's SRB is a copy of the piece's
pub record IsHandedWell (disk : DiskView) (h : Handed) : Type 0 where
  pub is_copy : IsCopyOf h.srb h.ask.srb
  pub flown : IsFlown disk h.srb h.flown

abbrev pub IsWell : DiskView → Moment → Type 0
IsWell disk (Hands h) = IsHandedWell disk h
IsWell disk (Brings at tag None) = Unit {0}
IsWell disk (Brings at tag (Some m)) = m.deed.tag ≡ tag
IsWell disk (Moves m) = Unit {0}

abbrev pub with_handed : Handed → Aloft → Aloft
with_handed h a = record { flown = slice_set a.flown h.ask.tag (Some h.flown); places = slice_set a.places h.ask.tag (Some h.at) }

abbrev pub with_back : ℕ → Aloft → Aloft
with_back tag a = record { flown = slice_set a.flown tag None; places = slice_set a.places tag None }

-- A piece is handed out where it may be moved beside all that are out, and comes back once. The owner moves one itself
-- where none is out. So calls of pieces that may not be moved side by side are not made at once
abbrev pub AreApart : Aloft → List Moment → Aloft → Type 0
AreApart a [] after = after ≡ a
AreApart a (Hands h ∷ moments) after = (slice_get a.places h.ask.tag ≡ Some None) × All (AllBeside h.flown) a.flown × AreApart (with_handed h a) moments after
AreApart a (Brings at tag m ∷ moments) after = (slice_get a.places tag ≡ Some (Some at)) × AreApart (with_back tag a) moments after
AreApart a (Moves m ∷ moments) after = All IsNone a.places × AreApart a moments after

-- the calls of the owner's disk were just those of the pieces that it moved itself
abbrev pub MovesOwn : DiskView → List Moment → DiskView → Type 0
MovesOwn disk [] after = after ≡ disk
MovesOwn disk (Hands h ∷ moments) after = MovesOwn disk moments after
MovesOwn disk (Brings at tag m ∷ moments) after = MovesOwn disk moments after
MovesOwn disk (Moves m ∷ moments) after = (m.before ≡ disk) × MovesOwn m.after moments after

pub record HasShape (disk disk' : DiskView) : Type 0 where
  pub sector_size : disk'.sector_size ≡ disk.sector_size
  pub sectors : disk'.sectors ≡ disk.sectors
  pub write_protected : disk'.write_protected ≡ disk.write_protected

-- what the owner did with pieces, from these that were out, and its own disk as it stood
pub record Deals (a : Aloft) (disk : DiskView) (moments : List Moment) (a' : Aloft) (disk' : DiskView) : Type 0 where
  pub apart : AreApart a moments a'
  pub own : MovesOwn disk moments disk'
  pub well : All (IsWell disk) moments
  pub shape : HasShape disk disk'

-- WHAT HAPPENED IN A SESSION SO FAR

-- what the stack told, and what became of its pieces
pub record Gone : Type 0 where
  pub labels : List Label
  pub moments : List Moment

abbrev pub nothing_gone : Gone
nothing_gone = record { labels = []; moments = [] }

abbrev pub joined : Gone → Gone → Gone
joined one more = record { labels = one.labels ++ more.labels; moments = one.moments ++ more.moments }

-- so much had happened before
pub record IsBefore (old new : Gone) : Type 0 where
  pub more : Gone
  pub labels : new.labels ≡ old.labels ++ more.labels
  pub moments : new.moments ≡ old.moments ++ more.moments

-- a piece found no room in the storage
pub record FoundFull (gone : Gone) : Type 0 where
  pub move : Moved
  pub there : Contains (moves_in gone.moments) move
  pub full : IsTrue move.after.full

-- a piece failed
pub record HasFailed (gone : Gone) : Type 0 where
  pub move : Moved
  pub there : Contains (moves_in gone.moments) move
  pub completion : Completion
  pub failed : move.deed.what ≡ Err completion

-- WHEN ONE IS ANSWERED

-- no piece came back
abbrev pub ReturnsNone : DeviceLabel → Type 0
ReturnsNone (Start piece tag block) = Unit {0}
ReturnsNone (Act piece bytes) = Unit {0}
ReturnsNone (Fault piece) = Unit {0}
ReturnsNone (Return piece class) = ⊥

abbrev pub IsNoReturn : Label → Type 0
IsNoReturn (Device label) = ReturnsNone label
IsNoReturn _ = Unit {0}

-- the label is there, and no piece came back since
pub record IsNewest (labels : List Label) (label : Label) : Type 0 where
  pub before : List Label
  pub behind : List Label
  pub among : labels ≡ before ++ (label ∷ behind)
  pub no_return : All IsNoReturn behind

abbrev pub IsToldIn : Gone → Answer → Type 0
IsToldIn gone answer = Contains gone.labels (as_answer answer)

abbrev pub IsNewIn : Gone → Answer → Type 0
IsNewIn gone answer = IsNewest gone.labels (as_answer answer)

-- REQUESTS

-- the event's request was called under this number
pub record IsCalled (stack : ManagerView) (gone : Gone) (event : Event) (number : ℕ) : Type 0 where
  pub request : ClientRequest
  pub asks : Asks stack event request
  pub called : Contains gone.labels (Call number request)

-- among the labels stand the call of the event's request, under the answer's number, and the answer. A request of no
-- bytes is answered at once, and the label of its call has no bytes
pub record HasAnswer (Heard : Gone → Answer → Type 0) (stack : ManagerView) (gone : Gone) (event : Event) (answer : Answer) : Type 0 where
  pub request : ClientRequest
  pub asks : Asks stack event request
  pub called : Contains gone.labels (Call answer.number request) ⊎ Contains gone.labels (Call answer.number (without_bytes request))
  pub answered : Heard gone answer

-- the stack, as it stood behind the first of the labels, refused the event at once
pub record HasRefusal (stack : ManagerView) (gone : Gone) (event : Event) (reason : Refusal) : Type 0 where
  pub first : List Label
  pub others : List Label
  pub among : gone.labels ≡ first ++ others
  pub moves : List Moved
  pub mid : ManagerView
  pub went : GoesBeside stack first moves mid
  pub after : ManagerView
  pub bytes : List ℕ
  pub refused : IsRight mid event (Refused reason bytes) after

-- what became of an event that the stack was asked for
abbrev pub HasResult : (Gone → Answer → Type 0) → ManagerView → Gone → Event → Result Answer Refusal → Type 0
HasResult Heard stack gone event (Ok answer) = HasAnswer Heard stack gone event answer
HasResult Heard stack gone event (Err reason) = HasRefusal stack gone event reason

-- the stack was asked for the event, and it came to this
pub record IsAskedIn (Heard : Gone → Answer → Type 0) (stack : ManagerView) (gone : Gone) (event : Event) (done : Result (List ℕ) ReplyError) : Type 0 where
  pub result : Result Answer Refusal
  pub has : HasResult Heard stack gone event result
  pub full : Bool
  pub full_by : IsTrue full → FoundFull gone
  pub comes_to : ComesTo full result done

-- it was asked for an event that brings no bytes, and this is its error, if it failed
abbrev pub IsDoneIn : (Gone → Answer → Type 0) → ManagerView → Gone → Event → Option ReplyError → Type 0
IsDoneIn Heard stack gone event None = (bytes : List ℕ) × IsAskedIn Heard stack gone event (Ok bytes)
IsDoneIn Heard stack gone event (Some error) = IsAskedIn Heard stack gone event (Err error)

-- this many zeros each were written by a request of their own, from this byte on; the newest stands first
abbrev pub ClearsIn : ManagerView → Handle → Gone → ℕ → List ℕ → Bool → Type 0
ClearsIn stack handle gone offset [] through = Unit {0}
ClearsIn stack handle gone offset (count ∷ counts) through =
    ClearsIn stack handle gone offset counts through × IsDoneIn IsToldIn stack gone (WriteEvent handle (offset + total counts) (replicate count 0) through) None

-- so many zeros were written, and the last ones just now
pub record ClearsAll (stack : ManagerView) (handle : Handle) (gone : Gone) (offset count : ℕ) (through : Bool) : Type 0 where
  pub counts : List ℕ
  pub cleared : ClearsIn stack handle gone offset counts through
  pub next : ℕ
  pub ends : IsDoneIn IsNewIn stack gone (WriteEvent handle (offset + total counts) (replicate next 0) through) None
  pub all : total counts + next ≡ count

-- so many zeros were written, and the write of the next ones just failed
pub record StopsIn (stack : ManagerView) (handle : Handle) (gone : Gone) (offset : ℕ) (through : Bool) (error : ReplyError) : Type 0 where
  pub counts : List ℕ
  pub cleared : ClearsIn stack handle gone offset counts through
  pub next : ℕ
  pub stops : IsDoneIn IsNewIn stack gone (WriteEvent handle (offset + total counts) (replicate next 0) through) (Some error)

-- how a command ended that was carried out: its newest request was just answered
abbrev pub CarriesIn : ManagerView → Handle → Gone → Command → List ℕ → Outcome → Type 0
CarriesIn stack handle gone (Read offset count) payload o =
    (done : Result (List ℕ) ReplyError) × (buffer : List ℕ) × (length buffer ≡ count) × IsAskedIn IsNewIn stack gone (ReadEvent handle offset buffer) done × (o ≡ read_outcome done)
CarriesIn stack handle gone (Write offset count through) payload o =
    (failed : Option ReplyError) × IsDoneIn IsNewIn stack gone (WriteEvent handle offset payload through) failed × (o ≡ plain_outcome failed)
CarriesIn stack handle gone Flush payload o = (failed : Option ReplyError) × IsDoneIn IsNewIn stack gone (FlushEvent handle) failed × (o ≡ plain_outcome failed)
CarriesIn stack handle gone (WriteZeroes offset count through) payload o =
    (ClearsAll stack handle gone offset count through × (o ≡ success []))
    ⊎ ((error : ReplyError) × StopsIn stack handle gone offset through error × (o ≡ failure error))

-- how a command ended: it was carried out; or there was no memory; or a piece failed meanwhile, and it is told as a failure
abbrev pub EndsIn : ManagerView → Handle → Gone → Command → List ℕ → Outcome → Type 0
EndsIn stack handle gone command payload o =
    CarriesIn stack handle gone command payload o ⊎ (o ≡ failure Enomem) ⊎ (HasFailed gone × (o ≡ failure Eio))

-- there was no memory for the bytes behind a request
abbrev pub LacksRoom : Taken → Outcome → Type 0
LacksRoom one o = (0 < length one.payload) × (o ≡ failure Enomem)

-- how a request ended: as the command that it asks for, or by its own error
abbrev pub IsServedIn : ManagerView → Handle → Sizes → Gone → Taken → Outcome → Type 0
IsServedIn stack handle sizes gone one o =
    MatchResult (command_in sizes.block sizes.bytes one.request)
    (λ command. EndsIn stack handle gone command one.payload o)
    (λ e. o ≡ failure e)
    ⊎ LacksRoom one o

-- an answer that was told is one of these
pub record AreServedIn (stack : ManagerView) (handle : Handle) (sizes : Sizes) (gone : Gone) (taken : List Taken) (t : Told) : Type 0 where
  pub one : Taken
  pub at_place : slice_get taken t.place ≡ Some one
  pub served : IsServedIn stack handle sizes gone one t.outcome

-- The answers were told one after the other, each when so much more had happened: behind the stack's answer, and before
-- another piece came back. So they are told in the order in which pieces came back
abbrev pub ToldInTurn : ManagerView → Handle → Sizes → List Taken → Gone → List Told → Gone → Type 0
ToldInTurn stack handle sizes taken was [] gone = IsBefore was gone
ToldInTurn stack handle sizes taken was (t ∷ ts) gone =
    (early : Gone) × IsBefore was early × AreServedIn stack handle sizes early taken t × ToldInTurn stack handle sizes taken early ts gone
