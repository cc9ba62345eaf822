-- A traced stack: a stack, the trace of all its labels with a row for each client, and the marks on its open requests.
use Rattle.std.specs.Prelude.{◌≡◌, ◌⊎◌, ℕ, zero, suc, ◌+◌, Bool, true, false, List, [], Option, Some, None, length}
use mathlib.Core.Logic.{inl, inr}
use Rattle.machine.specs.Rules.{Rules}
use Rattle.machine.specs.State.{State}
use Rattle.machine.specs.Settled.{Settled, IsFinished}
use Rattle.machine.specs.Step.{Run}
use Rattle.cancel_marks.specs.declared.rule.View.{View}
use Rattle.cancel_marks.specs.Marks.{slot_at}
use Rattle.traced.specs.declared.TraceEntry.{TraceEntry}
use Rattle.io_manager.specs.declared.OpenHandle.{OpenHandle}
use Rattle.io_manager.specs.declared.Refusal.TheVariants.{InsufficientResources}
use Rattle.io_manager.specs.declared.Reply.{Reply}
use Rattle.io_manager.specs.declared.Reply.TheVariants.{Refused}
use Rattle.io_manager.specs.Right.{FitsTogether}
use Rattle.io_manager.specs.Shown.{ManagerView}
use Rattle.compose.specs.declared.Event.{Event}
use Rattle.compose.specs.declared.Event.TheVariants.{Read, Write, Flush, Mark, QueryRemove}
use Rattle.asking.specs.Asking.{bytes_of}
use Rattle.compose.specs.Right.{IsRight}
use Rattle.traced.specs.Serving.{open_at}
use Rattle.traced.specs.Entries.{labels_of, AreRowed}
use Rattle.traced.specs.Opening.{AreClientsOf}
use Rattle.traced.specs.Log.{LogView, noted_all, AreKept}
use Rattle.traced.specs.Rows.{RowView}
use Rattle.traced.specs.Shares.{ShareView}
use Rattle.traced.specs.Slots.{IsArmedAs, LooksNowhere, LooksAt}
use Rattle.traced.specs.Told.{AreTold}

-- the stack between two steps, the entries of the trace, the clients of all requests by number, and what the owner of
-- the marks knows
pub record TracedView : Type 0 where
  pub stack : ManagerView
  pub entries : List TraceEntry
  pub owners : List ℕ
  pub marks : View

-- WHAT HOLDS WHENEVER THE LOCK IS GOT

-- a slot is armed exactly with the open request there
abbrev pub AreMarked : ManagerView → View → Type 0
AreMarked stack marks = (k : ℕ) → IsArmedAs (slot_at marks k) (open_at stack k)

-- the trace is a run from the opening state to the one that the stack shows, which is settled; each label stands in its
-- row, and the calls have the numbers from 1 on
pub record IsTraced (rules : Rules) (opening : State) (partitions : List ℕ) (handles : List (Option OpenHandle)) (v : TracedView) : Type 0 where
  pub same_rules : v.stack.rules ≡ rules
  pub run : Run rules opening (labels_of v.entries) v.stack.state
  pub settled : Settled v.stack.rules v.stack.state
  pub finished : IsFinished v.stack.state
  pub whole : FitsTogether v.stack
  pub taken : v.stack.labels ≡ []
  pub same_handles : v.stack.handles ≡ handles
  pub clients : AreClientsOf partitions v.stack.handles
  pub marked : AreMarked v.stack v.marks
  pub rowed : AreRowed v.owners v.entries
  pub told : AreTold v.entries v.owners v.stack.state

-- A STEP

-- the log as far as a traced stack shows them
abbrev pub log_of : TracedView → LogView
log_of v = record { entries = v.entries; owners = v.owners; room = 0; ready = None }

-- a right step of the stack, whose labels are noted in order, a call in the client's row; no slot is looked at
pub record IsCarried (client : ℕ) (old : TracedView) (event : Event) (reply : Reply) (new : TracedView) : Type 0 where
  pub stepped : ManagerView
  pub right : IsRight old.stack event reply stepped
  pub stack : new.stack ≡ record stepped { labels = [] }
  pub entries : new.entries ≡ (noted_all client (log_of old) stepped.labels).entries
  pub owners : new.owners ≡ (noted_all client (log_of old) stepped.labels).owners
  pub looks : LooksNowhere old.marks new.marks

-- where a mark was seen, a step carries it out
abbrev pub CarriesSeen : Option ℕ → TracedView → TracedView → Type 0
CarriesSeen None old new = new ≡ old
CarriesSeen (Some number) old new = (reply : Reply) × IsCarried 0 old (Mark number) reply new

-- the slot of an open request is looked at once, and a mark seen there is carried out; a slot with no open request is
-- left alone
pub record IsLooked (slot : ℕ) (old new : TracedView) : Type 0 where
  pub seen : Option ℕ
  pub looked : View
  pub looks : LooksAt (open_at old.stack slot) slot old.marks seen looked
  pub carries : CarriesSeen seen (record old { marks = looked }) new

-- each slot below is looked at, in order
abbrev pub AreLooked : ℕ → TracedView → TracedView → Type 0
AreLooked zero old new = new ≡ old
AreLooked (suc slot) old new = (mid : TracedView) × AreLooked slot old mid × IsLooked slot mid new

-- whether an event may be refused for want of memory: the trace grows by places for its labels
abbrev pub may_want : Event → Bool
may_want (Read handle offset buffer) = true
may_want (Write handle offset bytes through) = true
may_want (Flush handle) = true
may_want QueryRemove = true
may_want _ = false

-- memory for the trace was refused, before any step: nothing happens
pub record IsWanting (old : TracedView) (event : Event) (reply : Reply) (new : TracedView) : Type 0 where
  pub wants : may_want event ≡ true
  pub replies : reply ≡ Refused InsufficientResources (bytes_of event)
  pub same : new ≡ old

-- an event is carried out, or refused for want of memory
abbrev pub IsServed : ℕ → TracedView → Event → Reply → TracedView → Type 0
IsServed client old event reply new = IsCarried client old event reply new ⊎ IsWanting old event reply new

-- SHARES

-- the share counts the calls that were noted, and keeps its client and its handle
pub record HasCounted (old : TracedView) (before after : ShareView) (new : TracedView) : Type 0 where
  pub client : after.client ≡ before.client
  pub handle : after.handle ≡ before.handle
  pub calls : after.calls + length old.owners ≡ before.calls + length new.owners

-- CLOSING

-- the trace of a traced stack, and for each client the places of its calls and of their answers
pub record AreRowsOf (clients : ℕ) (v : TracedView) (trace : List TraceEntry) (rows : List RowView) : Type 0 where
  pub stored : trace ≡ v.entries
  pub kept : AreKept clients v.entries v.owners rows
