-- What is certain of a sector, by requests.
use Rattle.std.specs.Prelude.{◌≡◌, ◌≢◌, ◌⊎◌, ◌<◌, ℕ, ◌+◌, true, List, [], ◌∷◌}
use Rattle.ntstatus.specs.declared.NtStatus.TheVariants.{Success}
use Rattle.srb.specs.declared.Kind.TheVariants.{Write, Flush}
use Rattle.srb.specs.declared.Class.TheVariants.{Bad}
use Rattle.srb.specs.declared.DeviceLabel.TheVariants.{Act, Fault, Return}
use Rattle.machine.specs.declared.ClientRequest.{ClientRequest}
use Rattle.machine.specs.declared.Label.{Label}
use Rattle.machine.specs.declared.Label.TheVariants.{Device}
use Rattle.machine.specs.Answering.{Answers}
use Rattle.machine.specs.Calling.{Opens}
use Rattle.machine.specs.Numbers.{AreDistinct}
use Rattle.machine.specs.Rules.{Rules, first_sector, home, place_count}
use Rattle.machine.specs.State.{OpenRequest, Piece, State}
use Rattle.loss.specs.Held.{Change, Puts, Secures, Tries, Syncs, Doubts, Held, IsOneOf, act_changes, fault_changes, left, return_changes, sector_in}
use Rattle.loss.specs.Moved.{IsOut, IsReachedWith, IsSameTable, Moves, Table, TableRun, work_of}
use Rattle.loss.specs.Sessions.{IsAtWork, MayBeLeft}

-- OF A SECTOR

abbrev pub Is : List ℕ → List ℕ → Type 0
Is value other = other ≡ value

-- a read gives such a value
abbrev pub GivesOnly : (List ℕ → Type 0) → Held → Type 0
GivesOnly Such h = (value : List ℕ) → IsOneOf value h.now → Such value

-- a loss leaves such a value, and a read gives it
abbrev pub LeavesOnly : (List ℕ → Type 0) → Held → Type 0
LeavesOnly Such h = (value : List ℕ) → IsOneOf value (left h) → Such value

-- a change that brings such a value, if any
abbrev pub Brings : (List ℕ → Type 0) → Change → Type 0
Brings Such (Puts value) = Such value
Brings Such (Secures value) = Such value
Brings Such (Tries value) = Such value
Brings Such (Syncs number) = Unit {0}
Brings Such Doubts = Unit {0}

-- and is no failed sync
abbrev pub BringsSurely : (List ℕ → Type 0) → Change → Type 0
BringsSurely Such Doubts = ⊥
BringsSurely Such change = Brings Such change

abbrev pub Each : (Change → Type 0) → List Change → Type 0
Each So [] = Unit {0}
Each So (change ∷ changes) = So change × Each So changes

-- ALONG A RUN

-- each change that the label makes of sector i is such a one
abbrev pub Changes : Rules → ℕ → (Change → Type 0) → State → Label → Type 0
Changes rules i So s (Device (Act number bytes)) =
    (piece : Piece) (owner : OpenRequest) → IsOut s number piece owner → Each So (act_changes rules.sector_size number (work_of rules owner.request piece.places) i)
Changes rules i So s (Device (Fault number)) =
    (piece : Piece) (owner : OpenRequest) → IsOut s number piece owner → Each So (fault_changes rules.sector_size (work_of rules owner.request piece.places) i)
Changes rules i So s (Device (Return number (Bad completion))) =
    (piece : Piece) (owner : OpenRequest) → IsOut s number piece owner → Each So (return_changes rules.sector_size piece.fate (work_of rules owner.request piece.places) i)
Changes rules i So s label = Unit {0}

-- at each label of the run
abbrev pub Throughout : (State → Label → Type 0) → (rules : Rules) (s : State) (t : Table) (labels : List Label) (s' : State) (t' : Table) → TableRun rules s t labels s' t' → Type 0
Throughout Holds rules s t [] s' t' run = Unit {0}
Throughout Holds rules s t (label ∷ labels) s' t' run = Holds s label × Throughout Holds rules run.0 run.1 labels s' t' run.4

-- at one of them
abbrev pub Somewhere : (State → Label → Type 0) → (rules : Rules) (s : State) (t : Table) (labels : List Label) (s' : State) (t' : Table) → TableRun rules s t labels s' t' → Type 0
Somewhere Happens rules s t [] s' t' run = ⊥
Somewhere Happens rules s t (label ∷ labels) s' t' run = Happens s label ⊎ Somewhere Happens rules run.0 run.1 labels s' t' run.4

-- each piece that may be at work brings such a value for sector i, if any
abbrev pub AtWork : Rules → ℕ → (List ℕ → Type 0) → State → Type 0
AtWork rules i Such s = (piece : Piece) (owner : OpenRequest) → IsAtWork s piece owner → Each (Brings Such) (fault_changes rules.sector_size (work_of rules owner.request piece.places) i)

-- REQUESTS

-- the sector of the disk where a place of the request lies, and what a write has for it
abbrev pub sector_of : Rules → ClientRequest → ℕ → ℕ
sector_of rules q place = home rules q.partition (first_sector rules q + place)

abbrev pub value_for : Rules → ClientRequest → ℕ → List ℕ
value_for rules q place = sector_in rules.sector_size place q.bytes

-- a request of a session, from its call to its answer, SUCCESS
pub record Succeeds (rules : Rules) (number : ℕ) (q : ClientRequest) (before : State) (t : Table) (ended : State) (t' : Table) : Type 0 where
  pub reached : IsReachedWith rules before t
  pub called : State
  pub opens : Opens rules before number q called
  pub labels : List Label
  pub run : TableRun rules called t labels ended t'
  pub bytes : List ℕ
  pub after : State
  pub answers : Answers rules ended number Success bytes after

-- meanwhile each change of sector i was such a one
abbrev pub Meanwhile : (Change → Type 0) → (rules : Rules) (number : ℕ) (q : ClientRequest) (i : ℕ) (before : State) (t : Table) (ended : State) (t' : Table) → Succeeds rules number q before t ended t' → Type 0
Meanwhile So rules number q i before t ended t' h = Throughout (Changes rules i So) rules h.called t h.labels ended t' h.run

-- a write that was answered SUCCESS is read: where no other write brought its sector anything else, and no sync failed
abbrev pub SuccessIsRead : Type 0
SuccessIsRead = (rules : Rules) (number : ℕ) (q : ClientRequest) (place : ℕ) (before : State) (t : Table) (ended : State) (t' : Table) (h : Succeeds rules number q before t ended t')
    → q.kind ≡ Write → place < place_count rules q
    → Meanwhile (BringsSurely (Is (value_for rules q place))) rules number q (sector_of rules q place) before t ended t' h
    → GivesOnly (Is (value_for rules q place)) (t' (sector_of rules q place))

-- one that went past volatile caches is certain, also where a sync failed
abbrev pub ThroughIsLeft : Type 0
ThroughIsLeft = (rules : Rules) (number : ℕ) (q : ClientRequest) (place : ℕ) (before : State) (t : Table) (ended : State) (t' : Table) (h : Succeeds rules number q before t ended t')
    → q.kind ≡ Write → q.through ≡ true → place < place_count rules q
    → Meanwhile (Brings (Is (value_for rules q place))) rules number q (sector_of rules q place) before t ended t' h
    → LeavesOnly (Is (value_for rules q place)) (t' (sector_of rules q place))

-- what is read when a flush is called is certain once it was answered SUCCESS
abbrev pub FlushIsLeft : Type 0
FlushIsLeft = (rules : Rules) (number : ℕ) (q : ClientRequest) (i : ℕ) (value : List ℕ) (before : State) (t : Table) (ended : State) (t' : Table) (h : Succeeds rules number q before t ended t')
    → q.kind ≡ Flush → GivesOnly (Is value) (t i)
    → Meanwhile (BringsSurely (Is value)) rules number q i before t ended t' h
    → LeavesOnly (Is value) (t' i)

-- what is certain stays so while nothing else is brought, also where syncs fail
abbrev pub CertainStays : Type 0
CertainStays = (rules : Rules) (i : ℕ) (value : List ℕ) (s : State) (t : Table) (labels : List Label) (s' : State) (t' : Table) (run : TableRun rules s t labels s' t')
    → LeavesOnly (Is value) (t i) → Throughout (Changes rules i (Brings (Is value))) rules s t labels s' t' run → LeavesOnly (Is value) (t' i)

-- and a loss leaves it
abbrev pub CertainIsLeft : Type 0
CertainIsLeft = (rules : Rules) (i : ℕ) (value : List ℕ) (s : State) (t : Table) (after : List ℕ)
    → LeavesOnly (Is value) (t i) → AtWork rules i (Is value) s → MayBeLeft rules s t i after → after ≡ value

-- the whole: a write that was answered SUCCESS; then a flush that was called and answered SUCCESS; then a loss
abbrev pub SuccessIsLeft : Type 0
SuccessIsLeft = (rules : Rules) (number : ℕ) (q : ClientRequest) (place : ℕ) (s0 : State) (t0 : Table) (s1 : State) (t1 : Table) (write : Succeeds rules number q s0 t0 s1 t1)
    (labels : List Label) (s2 : State) (t2 : Table) (between : TableRun rules s1 t1 labels s2 t2)
    (flush : ℕ) (f : ClientRequest) (s3 : State) (t3 : Table) (flushed : Succeeds rules flush f s2 t2 s3 t3)
    (labels' : List Label) (s4 : State) (t4 : Table) (later : TableRun rules s3 t3 labels' s4 t4) (after : List ℕ)
    → q.kind ≡ Write → place < place_count rules q → f.kind ≡ Flush
    → Meanwhile (BringsSurely (Is (value_for rules q place))) rules number q (sector_of rules q place) s0 t0 s1 t1 write
    → Throughout (Changes rules (sector_of rules q place) (BringsSurely (Is (value_for rules q place)))) rules s1 t1 labels s2 t2 between
    → Meanwhile (BringsSurely (Is (value_for rules q place))) rules flush f (sector_of rules q place) s2 t2 s3 t3 flushed
    → Throughout (Changes rules (sector_of rules q place) (Brings (Is (value_for rules q place)))) rules s3 t3 labels' s4 t4 later
    → AtWork rules (sector_of rules q place) (Is (value_for rules q place)) s4
    → MayBeLeft rules s4 t4 (sector_of rules q place) after → after ≡ value_for rules q place

-- NO OTHER WRITE

abbrev pub Nothing : List ℕ → Type 0
Nothing value = ⊥

-- a label of a piece of another request than this one brings sector i nothing
abbrev pub OthersAway : Rules → ℕ → ℕ → State → Label → Type 0
OthersAway rules i request s (Device (Act number bytes)) =
    (piece : Piece) (owner : OpenRequest) → IsOut s number piece owner → owner.number ≢ request → Each (Brings Nothing) (act_changes rules.sector_size number (work_of rules owner.request piece.places) i)
OthersAway rules i request s (Device (Fault number)) =
    (piece : Piece) (owner : OpenRequest) → IsOut s number piece owner → owner.number ≢ request → Each (Brings Nothing) (fault_changes rules.sector_size (work_of rules owner.request piece.places) i)
OthersAway rules i request s (Device (Return number (Bad completion))) =
    (piece : Piece) (owner : OpenRequest) → IsOut s number piece owner → owner.number ≢ request → Each (Brings Nothing) (return_changes rules.sector_size piece.fate (work_of rules owner.request piece.places) i)
OthersAway rules i request s label = Unit {0}

-- where no other write's piece acts or fails on a sector of a write, what is brought there is the write's own
abbrev pub OwnIsBrought : Type 0
OwnIsBrought = (rules : Rules) (number : ℕ) (q : ClientRequest) (place : ℕ) (before : State) (t : Table) (ended : State) (t' : Table) (h : Succeeds rules number q before t ended t')
    → q.kind ≡ Write → Throughout (OthersAway rules (sector_of rules q place) number) rules h.called t h.labels ended t' h.run
    → Meanwhile (Brings (Is (value_for rules q place))) rules number q (sector_of rules q place) before t ended t' h

-- NOTHING ELSE

abbrev pub Brought : List ℕ → Change → Type 0
Brought value (Puts other) = value ≡ other
Brought value (Secures other) = value ≡ other
Brought value (Tries other) = value ≡ other
Brought value (Syncs number) = ⊥
Brought value Doubts = ⊥

abbrev pub SomeOf : (Change → Type 0) → List Change → Type 0
SomeOf So [] = ⊥
SomeOf So (change ∷ changes) = So change ⊎ SomeOf So changes

-- the label is of a piece that brings sector i this value
abbrev pub BroughtBy : Rules → ℕ → List ℕ → State → Label → Type 0
BroughtBy rules i value s (Device (Act number bytes)) =
    (piece : Piece) × (owner : OpenRequest) × IsOut s number piece owner × SomeOf (Brought value) (act_changes rules.sector_size number (work_of rules owner.request piece.places) i)
BroughtBy rules i value s (Device (Fault number)) =
    (piece : Piece) × (owner : OpenRequest) × IsOut s number piece owner × SomeOf (Brought value) (fault_changes rules.sector_size (work_of rules owner.request piece.places) i)
BroughtBy rules i value s (Device (Return number (Bad completion))) =
    (piece : Piece) × (owner : OpenRequest) × IsOut s number piece owner × SomeOf (Brought value) (return_changes rules.sector_size piece.fate (work_of rules owner.request piece.places) i)
BroughtBy rules i value s label = ⊥

-- a loss leaves what it would have left before, or what a write brought since, whole
abbrev pub OnlyWritten : Type 0
OnlyWritten = (rules : Rules) (i : ℕ) (value : List ℕ) (s : State) (t : Table) (labels : List Label) (s' : State) (t' : Table) (run : TableRun rules s t labels s' t')
    → IsOneOf value (left (t' i)) → IsOneOf value (left (t i)) ⊎ Somewhere (BroughtBy rules i value) rules s t labels s' t' run

-- what a label does to the sectors is determined
abbrev pub TablesAreOne : Type 0
TablesAreOne = (rules : Rules) (s : State) (label : Label) (t one other : Table) → AreDistinct s → Moves rules s label t one → Moves rules s label t other → IsSameTable one other
