-- What the calls of pieces leave in a file, and which sessions they make.
use Rattle.std.specs.Prelude.{◌≡◌, ◌<◌, ℕ, true, false, List, ◌∷◌, ◌++◌, Result, Ok, Err}
use Rattle.srb.specs.declared.Entry.{Entry}
use Rattle.srb.specs.declared.Kind.TheVariants.{Write, Flush}
use Rattle.srb.specs.declared.Completion.{Completion}
use Rattle.machine.specs.declared.ClientRequest.{ClientRequest}
use Rattle.machine.specs.declared.Label.{Label}
use Rattle.machine.specs.Rules.{Rules, place_count}
use Rattle.machine.specs.State.{State, opening}
use Rattle.file_disk.specs.Calls.{Call}
use Rattle.file_disk.specs.Transfers.{DiskView, Transfers}
use Rattle.loss.specs.Held.{Change, Work, act_changes, changed_by, fault_changes}
use Rattle.loss.specs.Moved.{Table, TableRun, work_of}
use Rattle.loss.specs.Laws.{AtWork, Brings, BringsSurely, Changes, Is, LeavesOnly, Meanwhile, Succeeds, Throughout, sector_of, value_for}
use Rattle.loss.specs.Sessions.{MayBeLeft, MayRemain, Moment, Sessions}
use Rattle.file_sessions.specs.Stored.{Content, IsKept, Remains, Survives, held, under_way}
use Rattle.file_sessions.specs.Within.{IsWithin}
use Rattle.file_sessions.specs.Deeds.{Deed, DeedRun, Files, IsDeedOf}
use Rattle.file_sessions.specs.Sessions.{AreSessions, IsSession, Part, beginning, lines_of}

-- ONE PIECE

-- what the piece's act or its fault does to sector i
abbrev pub deed_changes : ℕ → ℕ → Result Entry Completion → Work → ℕ → List Change
deed_changes size number (Ok entry) w i = act_changes size number w i
deed_changes size number (Err completion) w i = fault_changes size w i

-- the deed is of a piece of the run, on a disk of the machine's sectors
pub record IsOnDisk (rules : Rules) (s : State) (number : ℕ) (deed : Deed) (old new : DiskView) : Type 0 where
  pub some : 0 < rules.sector_size
  pub size : old.sector_size ≡ rules.sector_size
  pub of_piece : IsDeedOf rules s number deed
  pub transfers : Transfers old deed.tag deed.piece deed.srb deed.what new

-- the calls of a piece leave no more than its act or its fault
abbrev pub PiecesLeaveNoMore : Type 0
PiecesLeaveNoMore = (rules : Rules) (s : State) (number : ℕ) (deed : Deed) (old new : DiskView) (h : IsOnDisk rules s number deed old new) (before : Content) (earlier calls : List Call) (next i : ℕ)
    → new.calls ≡ calls ++ old.calls → IsKept rules.sector_size before (calls ++ earlier)
    → IsWithin (held rules.sector_size i (before i) (calls ++ earlier)) (changed_by next (deed_changes rules.sector_size number deed.what (work_of rules h.of_piece.owner.request h.of_piece.piece.places) i) (held rules.sector_size i (before i) earlier))

-- and those so far, with one that was under way, no more than its fault
abbrev pub PiecesAtWorkLeaveNoMore : Type 0
PiecesAtWorkLeaveNoMore = (rules : Rules) (s : State) (number : ℕ) (deed : Deed) (old new : DiskView) (h : IsOnDisk rules s number deed old new) (before : Content) (earlier later calls : List Call) (call : Call) (next i : ℕ)
    → new.calls ≡ (later ++ call ∷ calls) ++ old.calls → IsKept rules.sector_size before (calls ++ earlier)
    → IsWithin (held rules.sector_size i (before i) (under_way call ∷ (calls ++ earlier))) (changed_by next (fault_changes rules.sector_size (work_of rules h.of_piece.owner.request h.of_piece.piece.places) i) (held rules.sector_size i (before i) earlier))

-- RUNS

-- a run of a machine that moves no sectors, its deeds, and the calls that they made of a disk
pub record IsFiled (rules : Rules) (arrays : List (List (List ℕ))) (labels : List Label) (s' : State) (calls : List Call) : Type 0 where
  pub apart : rules.faithful ≡ false
  pub some : 0 < rules.sector_size
  pub deeds : List Deed
  pub run : DeedRun rules (opening arrays) labels s' deeds
  pub old : DiskView
  pub new : DiskView
  pub size : old.sector_size ≡ rules.sector_size
  pub files : Files old deeds new
  pub calls_are : new.calls ≡ calls ++ old.calls

-- over a file that keeps what it should such a run is a session
abbrev pub RunsAreSessions : Type 0
RunsAreSessions = (rules : Rules) (arrays : List (List (List ℕ))) (before : Content) (calls : List Call) (labels : List Label) (s' : State)
    → IsFiled rules arrays labels s' calls → IsKept rules.sector_size before calls
    → (table : Table) × IsSession rules arrays before calls labels (record { machine = s'; table = table })

-- at any moment of it the calls so far, with the next under way, are those of a session, with the labels so far
abbrev pub MomentsAreSessions : Type 0
MomentsAreSessions = (rules : Rules) (arrays : List (List (List ℕ))) (before : Content) (calls : List Call) (labels : List Label) (s' : State) (later earlier : List Call) (call : Call)
    → IsFiled rules arrays labels s' calls → calls ≡ later ++ call ∷ earlier → IsKept rules.sector_size before earlier
    → (first : List Label) × (rest : List Label) × (end : Moment) × (labels ≡ first ++ rest) × IsSession rules arrays before (under_way call ∷ earlier) first end

-- what a sector may hold where no call is under way it may hold where one is
abbrev pub NoneUnderWay : Type 0
NoneUnderWay = (size i : ℕ) (first : List ℕ) (calls : List Call) (call : Call) → IsWithin (held size i first calls) (held size i first (under_way call ∷ calls))

-- sessions one behind the other are a trace of the machine with losses and ends
abbrev pub SeriesAreSessions : Type 0
SeriesAreSessions = (rules : Rules) (arrays : List (List (List ℕ))) (before : Content) (parts : List Part) (after : Content)
    → AreSessions rules arrays before parts after → Sessions rules (beginning arrays before) (lines_of parts) (beginning arrays after)

-- WHAT SURVIVES

-- what a loss leaves of the file is what it may leave of the machine's sectors, and so is what the end of the process leaves
abbrev pub SurvivorsAreLeft : Type 0
SurvivorsAreLeft = (rules : Rules) (arrays : List (List (List ℕ))) (before : Content) (calls : List Call) (labels : List Label) (end : Moment) (i : ℕ) (after : Content)
    → IsSession rules arrays before calls labels end → i < rules.disk_sectors → Survives rules.sector_size rules.disk_sectors before calls after → MayBeLeft rules end.machine end.table i (after i)

abbrev pub RemainsAreLeft : Type 0
RemainsAreLeft = (rules : Rules) (arrays : List (List (List ℕ))) (before : Content) (calls : List Call) (labels : List Label) (end : Moment) (i : ℕ) (after : Content)
    → IsSession rules arrays before calls labels end → i < rules.disk_sectors → Remains rules.sector_size rules.disk_sectors before calls after → MayRemain rules end.machine end.table i (after i)

-- what is certain of a sector is what it holds behind a loss
abbrev pub CertainSurvives : Type 0
CertainSurvives = (rules : Rules) (arrays : List (List (List ℕ))) (before : Content) (calls : List Call) (labels : List Label) (end : Moment) (i : ℕ) (value : List ℕ) (after : Content)
    → IsSession rules arrays before calls labels end → i < rules.disk_sectors → LeavesOnly (Is value) (end.table i) → AtWork rules i (Is value) end.machine
    → Survives rules.sector_size rules.disk_sectors before calls after → after i ≡ value

-- a write past volatile caches that was answered SUCCESS: then nothing else was brought to its sector up to the session's end
abbrev pub ThroughSurvives : Type 0
ThroughSurvives = (rules : Rules) (number : ℕ) (q : ClientRequest) (place : ℕ) (s0 : State) (t0 : Table) (s1 : State) (t1 : Table) (write : Succeeds rules number q s0 t0 s1 t1)
    (labels : List Label) (end : Moment) (later : TableRun rules s1 t1 labels end.machine end.table) (arrays : List (List (List ℕ))) (before : Content) (calls : List Call) (all : List Label) (after : Content)
    → q.kind ≡ Write → q.through ≡ true → place < place_count rules q
    → Meanwhile (Brings (Is (value_for rules q place))) rules number q (sector_of rules q place) s0 t0 s1 t1 write
    → Throughout (Changes rules (sector_of rules q place) (Brings (Is (value_for rules q place)))) rules s1 t1 labels end.machine end.table later
    → AtWork rules (sector_of rules q place) (Is (value_for rules q place)) end.machine
    → IsSession rules arrays before calls all end → sector_of rules q place < rules.disk_sectors → Survives rules.sector_size rules.disk_sectors before calls after
    → after (sector_of rules q place) ≡ value_for rules q place

-- a write that was answered SUCCESS, then a flush that was called and answered SUCCESS, with no failed sync between
abbrev pub SuccessSurvives : Type 0
SuccessSurvives = (rules : Rules) (number : ℕ) (q : ClientRequest) (place : ℕ) (s0 : State) (t0 : Table) (s1 : State) (t1 : Table) (write : Succeeds rules number q s0 t0 s1 t1)
    (labels : List Label) (s2 : State) (t2 : Table) (between : TableRun rules s1 t1 labels s2 t2)
    (flush : ℕ) (f : ClientRequest) (s3 : State) (t3 : Table) (flushed : Succeeds rules flush f s2 t2 s3 t3)
    (labels' : List Label) (end : Moment) (later : TableRun rules s3 t3 labels' end.machine end.table) (arrays : List (List (List ℕ))) (before : Content) (calls : List Call) (all : List Label) (after : Content)
    → q.kind ≡ Write → place < place_count rules q → f.kind ≡ Flush
    → Meanwhile (BringsSurely (Is (value_for rules q place))) rules number q (sector_of rules q place) s0 t0 s1 t1 write
    → Throughout (Changes rules (sector_of rules q place) (BringsSurely (Is (value_for rules q place)))) rules s1 t1 labels s2 t2 between
    → Meanwhile (BringsSurely (Is (value_for rules q place))) rules flush f (sector_of rules q place) s2 t2 s3 t3 flushed
    → Throughout (Changes rules (sector_of rules q place) (Brings (Is (value_for rules q place)))) rules s3 t3 labels' end.machine end.table later
    → AtWork rules (sector_of rules q place) (Is (value_for rules q place)) end.machine
    → IsSession rules arrays before calls all end → sector_of rules q place < rules.disk_sectors → Survives rules.sector_size rules.disk_sectors before calls after
    → after (sector_of rules q place) ≡ value_for rules q place
