-- A book beside its journal: a stack with its trace, and the entries that were booked.
use Rattle.std.specs.Prelude.{◌≡◌, ◌⊎◌, ℕ, zero, suc, List, [], ◌∷◌, ◌++◌, Option, Some, None, Err, IsFalse, length}
use Rattle.std.specs.Borrow.{MutBor}
use mathlib.Core.Logic.{inl, inr}
use Rattle.srb.specs.declared.Completion.{Completion}
use Rattle.machine.specs.declared.Label.{Label}
use Rattle.machine.specs.Rules.{Rules}
use Rattle.machine.specs.State.{State, opening}
use Rattle.machine_laws.specs.Booked.{AreOfActs}
use Rattle.machine_laws.specs.Reached.{AreWhole}
use Rattle.io_manager.specs.declared.Handle.{Handle}
use Rattle.io_manager.specs.declared.Reply.{Reply}
use Rattle.io_manager.specs.declared.Reply.TheVariants.{Ok as OkReply}
use Rattle.compose.specs.declared.Event.{Event}
use Rattle.compose.specs.declared.Event.TheVariants.{Read, Write, Flush, Act}
use Rattle.compose.specs.Journaled.{IsJournaled}
use Rattle.sector_journal.specs.declared.acted.Entered.{Entered}
use Rattle.sector_journal.specs.Journal.{JournalView, entries_in}
use Rattle.traced.specs.Entries.{labels_of}
use Rattle.traced.specs.Shares.{ShareView}
use Rattle.traced.specs.Traced.{TracedView, AreLooked, IsServed, HasCounted}
use Rattle.book.specs.Acting.{ActsEntry, HoldsBooked}
use Rattle.book.specs.Rooms.{FailsAs}
use Rattle.book.specs.Staying.{Claimed, AreOnTags}

-- the stack with its trace, and the journal's entries of its acts, in order
pub record BookView : Type 0 where
  pub traced : TracedView
  pub taken : List Entered

abbrev pub book_of : TracedView → List Entered → BookView
book_of traced taken = record { traced = traced; taken = taken }

-- nothing happened to the book
abbrev pub IsSameBook : TracedView → List Entered → TracedView → List Entered → Type 0
IsSameBook old before new after = (new ≡ old) × (after ≡ before)

-- WHAT HOLDS WHENEVER THE LOCK IS GOT

-- act n of the trace is of entry n, the sectors stand elsewhere, and what is claimed of the tags may act there
pub record IsKept (rules : Rules) (start : State) (traced : TracedView) (taken : List Entered) (tags : Claimed) : Type 0 where
  pub arrays : List (List (List ℕ))
  pub starts : start ≡ opening arrays
  pub whole : AreWhole rules arrays
  pub journaled : IsJournaled (labels_of traced.entries) (entries_in taken) traced.stack
  pub apart : IsFalse traced.stack.adapter.faithful
  pub on_tags : AreOnTags traced.stack.adapter tags

-- what holds of a book still holds where nothing more was booked
abbrev pub StaysKept : Rules → State → TracedView → Claimed → TracedView → Claimed → Type 0
StaysKept rules start old tags new tags' = (taken : List Entered) → IsKept rules start old taken tags → IsKept rules start new taken tags'

-- ENTRIES ARE BOOKED

-- the next entry of the journal, of this tag, is booked and acts
pub record BooksOne (tag : ℕ) (old new : BookView) : Type 0 where
  pub next : Entered
  pub is_tag : next.entry.tag ≡ tag
  pub acts : ActsEntry old.traced next.entry new.traced
  pub taken : new.taken ≡ old.taken ++ next ∷ []

-- this many entries are booked, in the order of their numbers
abbrev pub AreBooked : ℕ → BookView → BookView → Type 0
AreBooked zero old new = new ≡ old
AreBooked (suc count) old new = (mid : BookView) × AreBooked count old mid × ((tag : ℕ) × BooksOne tag mid new)

-- the last entry that is booked is of this tag
abbrev pub EndsWith : ℕ → ℕ → BookView → BookView → Type 0
EndsWith tag zero old new = ⊥
EndsWith tag (suc count) old new = (mid : BookView) × AreBooked count old mid × BooksOne tag mid new

-- the last entry that is booked has this tag, if one is booked
abbrev pub EndsWithLast : Option ℕ → ℕ → BookView → BookView → Type 0
EndsWithLast None count old new = Unit {0}
EndsWithLast (Some tag) count old new = EndsWith tag count old new

pub record HasBooked (last : Option ℕ) (count : ℕ) (old new : BookView) : Type 0 where
  pub books : AreBooked count old new
  pub ends : EndsWithLast last count old new

-- SHARES

-- the handle of a read, a write or a flush
abbrev pub call_handle : Event → Option Handle
call_handle (Read handle offset buffer) = Some handle
call_handle (Write handle offset bytes through) = Some handle
call_handle (Flush handle) = Some handle
call_handle _ = None

-- a call comes with the share of its handle, any other event with none
abbrev pub FitsHandle : Option Handle → Option (MutBor ShareView) → Type 0
FitsHandle (Some handle) (Some share) = handle ≡ share.now.handle
FitsHandle None None = Unit {0}
FitsHandle _ _ = ⊥

-- A STEP

-- a piece that failed elsewhere fails as it did there
abbrev pub IsWhy : Option Completion → Completion → Type 0
IsWhy None completion = Unit {0}
IsWhy (Some failed) completion = completion ≡ failed

-- the failure of an act's piece is booked, or nothing is
abbrev pub HoldsFailure : Option Completion → TracedView → Event → TracedView → Type 0
HoldsFailure failed old event held = (held ≡ old) ⊎ ((tag piece : ℕ) × (completion : Completion) × IsWhy failed completion × (event ≡ Act tag) × HoldsBooked old tag piece (Err completion) held)

-- the event is the act of the last entry that was booked, so that the entry's step was the event's
pub record IsLastAct (count : ℕ) (before booked : BookView) (event : Event) (reply : Reply) (new : BookView) : Type 0 where
  pub tag : ℕ
  pub is_act : event ≡ Act tag
  pub ends : EndsWith tag count before booked
  pub replies : reply ≡ OkReply
  pub same : new ≡ booked

-- entries are booked, and then a call is carried out, or refused for want of memory
pub record CallsAfter (before after : ShareView) (old : BookView) (event : Event) (reply : Reply) (new : BookView) : Type 0 where
  pub count : ℕ
  pub booked : BookView
  pub books : AreBooked count old booked
  pub served : IsServed before.client booked.traced event reply new.traced
  pub counted : HasCounted booked.traced before after new.traced
  pub taken : new.taken ≡ booked.taken

-- the event is carried out, or refused for want of memory
pub record ServesEvent (failed : Option Completion) (old : BookView) (event : Event) (reply : Reply) (new : BookView) : Type 0 where
  pub held : TracedView
  pub holds : HoldsFailure failed old.traced event held
  pub served : IsServed 0 held event reply new.traced
  pub taken : new.taken ≡ old.taken

-- entries are booked, and then any other event is carried out, unless it is the act of the last of them
pub record ServesAfter (failed : Option Completion) (old : BookView) (event : Event) (reply : Reply) (new : BookView) : Type 0 where
  pub count : ℕ
  pub booked : BookView
  pub books : AreBooked count old booked
  pub serves : ServesEvent failed booked event reply new ⊎ IsLastAct count old booked event reply new

-- the piece of a tag acts in the journal, and then in the stack, or fails by just what came of it there
abbrev pub ActsOrFails : ℕ → BookView → JournalView → Reply → BookView → Type 0
ActsOrFails tag old before reply new =
    (completion : Completion) × (after : JournalView) × FailsAs old.traced.stack.adapter (length old.taken) tag before completion after
    × ServesAfter (Some completion) old (Act tag) reply new

-- a call comes with its client's share: an `Option<&mut Share>`, as it comes in and as it is left
abbrev pub ServesWith : Option (MutBor ShareView) → Unit {0} ⊎ ((MutBor ShareView × Unit {0}) ⊎ ⊥) → BookView → Event → Reply → BookView → Type 0
ServesWith (Some share) (inr (inl left)) old event reply new = CallsAfter share.now left.0.now old event reply new
ServesWith (Some share) _ old event reply new = ⊥
ServesWith None _ old event reply new = ServesAfter None old event reply new

-- a step carries out first the marks, then the acts of the entries that are booked, and then the event
pub record IsStepped (slots : ℕ) (share : Option (MutBor ShareView)) (left : Unit {0} ⊎ ((MutBor ShareView × Unit {0}) ⊎ ⊥)) (old : BookView) (event : Event) (reply : Reply) (new : BookView) : Type 0 where
  pub marked : TracedView
  pub looks : AreLooked slots old.traced marked
  pub serves : ServesWith share left (record old { traced = marked }) event reply new

-- AT FIRST

-- nothing was told of the stack, which is in the state that was named, and its sectors stand elsewhere
pub record IsBlank (start : State) (traced : TracedView) : Type 0 where
  pub opens : start ≡ opening start.arrays
  pub no_entries : traced.entries ≡ []
  pub same_state : traced.stack.state ≡ start
  pub apart : IsFalse traced.stack.adapter.faithful

-- CLOSING

-- these are the entries of the acts of a trace, which is a run over the sectors of whole partitions
pub record ActsAreOf (rules : Rules) (start : State) (trace : List Label) (taken : List Entered) : Type 0 where
  pub arrays : List (List (List ℕ))
  pub starts : start ≡ opening arrays
  pub whole : AreWhole rules arrays
  pub of_acts : AreOfActs trace trace (entries_in taken)
