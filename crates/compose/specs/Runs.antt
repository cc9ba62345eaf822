-- Events carried out one after another, and what is promised of the labels that they show.
use Rattle.std.specs.Prelude.{◌≡◌, ◌<◌, ◌⊎◌, ℕ, List, [], ◌∷◌, ◌++◌, None, All, length, take, IsTrue}
use Rattle.std.specs.List.{concat}
use Rattle.ntstatus.specs.declared.NtStatus.{NtStatus}
use Rattle.ntstatus.specs.declared.NtStatus.TheVariants.{Success}
use Rattle.srb.specs.declared.Kind.TheVariants.{Read, Write}
use Rattle.machine.specs.declared.ClientRequest.{ClientRequest}
use Rattle.machine.specs.declared.Label.{Label}
use Rattle.machine.specs.declared.Label.TheVariants.{Call, Answer, Removed}
use Rattle.machine.specs.Rules.{Rules, place_count}
use Rattle.machine.specs.State.{State}
use Rattle.machine.specs.Calling.{refusal}
use Rattle.machine.specs.Sending.{sectors_at, array_at}
use Rattle.machine.specs.Settled.{Settled, IsFinished}
use Rattle.machine.specs.Step.{Step, Run}
use Rattle.machine.specs.Solo.{IsSolo, all_places}
use Rattle.machine_laws.specs.SoloLaws.{WroteOrLeft}
use Rattle.machine_laws.specs.Along.{Sometime}
use Rattle.machine_laws.specs.EndLaws.{IsNotOfDevice}
use Rattle.machine_laws.specs.Reached.{IsReached}
use Rattle.machine_laws.specs.Sectors.{sector_at, IsAct, WritesPartition, WritesSector}
use Rattle.machine_laws.specs.Success.{MovesPlace, WasAsked, bytes_due}
use Rattle.machine_laws.specs.WriteLaws.{IsWriteAt}
use Rattle.io_manager.specs.Shown.{ManagerView}
use Rattle.device.specs.View.{KeepsOutside}
use Rattle.io_manager.specs.Right.{FitsTogether}
use Rattle.compose.specs.declared.Event.{Event}
use Rattle.compose.specs.declared.Shown.{Shown}
use Rattle.compose.specs.declared.RunStopped.{RunStopped}
use Rattle.compose.specs.Right.{IsRight}

-- EVENTS

-- a right step leaves the stack settled and whole, and all its labels are taken
pub record Carries (old : ManagerView) (event : Event) (shown : Shown) (new : ManagerView) : Type 0 where
  pub stepped : ManagerView
  pub right : IsRight old event shown.reply stepped
  pub settled : Settled stepped.rules stepped.state
  -- a removal with nothing open has ended
  pub finished : IsFinished stepped.state
  -- the arrays and the pieces out are read from the adapter
  pub whole : FitsTogether stepped
  pub labels : shown.labels.items ≡ stepped.labels
  pub taken : new ≡ record stepped { labels = [] }

-- these events in order, each with what it showed
abbrev pub CarriesAll : ManagerView → List Event → List Shown → ManagerView → Type 0
CarriesAll old [] [] new = new ≡ old
CarriesAll old (event ∷ events) (shown ∷ more) new = (mid : ManagerView) × Carries old event shown mid
    × CarriesAll mid events more new
CarriesAll old [] (shown ∷ more) new = ⊥
CarriesAll old (event ∷ events) [] new = ⊥

-- the first of these events were carried out, and no others; at least one was not
pub record StopsAfter (old : ManagerView) (events : List Event) (stopped : RunStopped)
    (new : ManagerView) : Type 0 where
  pub within : stopped.done < length events
  pub carries : CarriesAll old (take stopped.done events) stopped.shown.items new

-- all labels in order
abbrev pub labels_shown : List Shown → List Label
labels_shown [] = []
labels_shown (shown ∷ more) = shown.labels.items ++ labels_shown more

-- THE LAWS OF A RUN'S LABELS

-- a request that a run calls and answers: it is called and not refused at one label, and answered at a later one
pub record IsOfRun (rules : Rules) (s : State) (labels : List Label) (s' : State) (number : ℕ) (q : ClientRequest)
    (status : NtStatus) (bytes : List ℕ) (before after : State) : Type 0 where
  pub first : List Label
  pub between : List Label
  pub last : List Label
  pub called : State
  pub ended : State
  pub informed : ℕ
  pub split : labels ≡ first ++ Call number q ∷ (between ++ Answer number status informed bytes ∷ last)
  pub comes : Run rules s first before
  pub calls : Step rules before (Call number q) called
  pub not_refused : refusal rules before q ≡ None
  pub run : Run rules called between ended
  pub answers : Step rules ended (Answer number status informed bytes) after
  pub goes : Run rules after last s'

-- no other write that shares a place with it is open from its call to its answer
abbrev pub IsSoloIn : (rules : Rules) (s : State) (labels : List Label) (s' : State) (number : ℕ) (q : ClientRequest)
    (status : NtStatus) (bytes : List ℕ) (before after : State)
    → IsOfRun rules s labels s' number q status bytes before after → Type 0
IsSoloIn rules s labels s' number q status bytes before after h = IsSolo rules number q h.called h.between h.ended h.run

-- what is promised of the requests that a run calls and answers, and of its arrays
pub record ObeysLaws (rules : Rules) (s : State) (labels : List Label) (s' : State) : Type 0 where
  -- SUCCESS: at each place of the request a piece of it acted between call and answer, with the bytes due there
  pub answered_was_moved : (number : ℕ) (q : ClientRequest) (bytes : List ℕ) (before after : State)
      (h : IsOfRun rules s labels s' number q Success bytes before after)
      → (place : ℕ) → place < place_count rules q
      → Sometime (MovesPlace rules number place (bytes_due rules q q.kind bytes place)) rules h.called h.between h.ended h.run
  -- a piece that acts was asked for: it was started for a request called before and not yet answered, at places of it
  pub acts_were_asked : (reached : IsReached rules s) (first last : List Label) (label : Label) (before : State) → labels ≡ first ++ label ∷ last
      → Run rules s first before → (act : IsAct before label) → WasAsked rules (reached.labels ++ first) act.owner act.piece
  -- where acts read and write the arrays, a solo read that succeeds gives the bytes of the array at its call
  pub solo_reads : (number : ℕ) (q : ClientRequest) (bytes : List ℕ) (before after : State)
      (h : IsOfRun rules s labels s' number q Success bytes before after)
      → IsTrue rules.faithful → q.kind ≡ Read → IsSoloIn rules s labels s' number q Success bytes before after h
      → bytes ≡ concat (sectors_at rules before q (all_places rules q))
  -- where acts read and write the arrays, a solo write that succeeds stands in the array at its answer
  pub solo_writes : (number : ℕ) (q : ClientRequest) (bytes : List ℕ) (before after : State)
      (h : IsOfRun rules s labels s' number q Success bytes before after)
      → IsTrue rules.faithful → q.kind ≡ Write → IsSoloIn rules s labels s' number q Success bytes before after h
      → q.bytes ≡ concat (sectors_at rules after q (all_places rules q))
  -- a solo write, also one that failed, changed only places on which a piece of it acted before its answer
  pub failed_writes : (number : ℕ) (q : ClientRequest) (status : NtStatus) (bytes : List ℕ) (before after : State)
      (h : IsOfRun rules s labels s' number q status bytes before after)
      → q.kind ≡ Write → IsSoloIn rules s labels s' number q status bytes before after h
      → (place : ℕ) → place < place_count rules q
      → WroteOrLeft rules number q before h.called h.between h.ended after h.run place
  -- no label changes another partition's array
  pub keeps_arrays : (first last : List Label) (label : Label) (before after : State) → labels ≡ first ++ label ∷ last
      → Run rules s first before → Step rules before label after → Run rules after last s'
      → (p : ℕ) → (array_at after.arrays p ≡ array_at before.arrays p) ⊎ WritesPartition p before label
  -- no label changes a sector but the act of a write's piece that covers it, whose bytes then stand there
  pub keeps_sectors : (first last : List Label) (label : Label) (before after : State) → labels ≡ first ++ label ∷ last
      → Run rules s first before → Step rules before label after → Run rules after last s'
      → (p i : ℕ) → (sector_at after p i ≡ sector_at before p i) ⊎ IsWriteAt rules p i before label after
  -- a write, also one that failed, writes no sector after its answer
  pub answered_writes : (number : ℕ) (q : ClientRequest) (status : NtStatus) (bytes : List ℕ) (before after : State)
      (h : IsOfRun rules s labels s' number q status bytes before after)
      → (p i : ℕ) → Sometime (WritesSector rules number p i) rules after h.last s' h.goes → ⊥

-- once a removal has ended, before these labels or at one of them, no start, act, fault or return comes
pub record IsQuietOnceRemoved (s : State) (labels : List Label) : Type 0 where
  pub before : IsTrue s.removed → All IsNotOfDevice labels
  pub among : (first last : List Label) → labels ≡ first ++ Removed ∷ last → All IsNotOfDevice last

-- all that is shown is one run, which obeys the laws and leaves the device alone once it is removed; sectors of no
-- partition stay as they are
pub record IsLawful (old : ManagerView) (shown : List Shown) (new : ManagerView) : Type 0 where
  pub same_rules : new.rules ≡ old.rules
  pub run : Run old.rules old.state (labels_shown shown) new.state
  pub laws : ObeysLaws old.rules old.state (labels_shown shown) new.state
  pub quiet : IsQuietOnceRemoved old.state (labels_shown shown)
  pub outside : KeepsOutside old.rules.partitions old.adapter new.adapter

-- every run from a state that can be reached obeys the laws
abbrev pub RunsObeyLaws : Type 0
RunsObeyLaws = (rules : Rules) (s : State) (labels : List Label) (s' : State) → IsReached rules s
    → ObeysLaws rules s labels s'

-- every run from a state that can be reached leaves the device alone once it is removed
abbrev pub RunsAreQuietOnceRemoved : Type 0
RunsAreQuietOnceRemoved = (rules : Rules) (s : State) (labels : List Label) (s' : State) → IsReached rules s
    → Run rules s labels s' → IsQuietOnceRemoved s labels
