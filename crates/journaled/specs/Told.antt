-- What a trace tells of a stack over a journal.
use Rattle.std.specs.Prelude.{ℕ, List, ◌++◌, map}
use Rattle.sector.specs.Extents.{sectors_in}
use Rattle.machine.specs.declared.Label.{Label}
use Rattle.machine.specs.Rules.{as_faithful}
use Rattle.machine.specs.State.{opening}
use Rattle.machine.specs.Step.{Run}
use Rattle.machine_laws.specs.Lifting.{over_disk}
use Rattle.machine_laws.specs.Reached.{AreWhole}
use Rattle.compose.specs.Journaled.{IsJournaled}
use Rattle.sector_journal.specs.Journal.{entries_of}
use Rattle.journaled.specs.Shown.{JournaledView}

-- the labels so far are a run of the machine that moves no sectors, and the journal has the entries of its acts
pub record IsTold (arrays : List (List (List ℕ))) (trace : List Label) (v : JournaledView) : Type 0 where
  pub whole : AreWhole v.stack.rules arrays
  pub run : Run v.stack.rules (opening arrays) trace v.stack.state
  pub journaled : IsJournaled trace (entries_of v.journal) v.stack

-- whatever was told goes on with the labels of a step
abbrev pub TellsOn : JournaledView → JournaledView → Type 0
TellsOn old new = (arrays : List (List (List ℕ))) (trace : List Label) → IsTold arrays trace old
    → IsTold arrays (trace ++ new.stack.labels) new

-- what the stack told before stays told
abbrev pub StaysTold : JournaledView → JournaledView → Type 0
StaysTold old new = (arrays : List (List (List ℕ))) (trace : List Label) → IsTold arrays trace old
    → IsTold arrays trace new

-- what was told is a run of the faithful machine, from these sectors to the journal's
abbrev pub RunsFaithfully : List (List ℕ) → JournaledView → Type 0
RunsFaithfully disk v =
    (arrays : List (List (List ℕ))) (trace : List Label) → IsTold arrays trace v
    → Run (as_faithful v.stack.rules) (opening (map (sectors_in disk) v.stack.rules.partitions)) trace
    (over_disk v.stack.rules v.journal.medium.sectors v.stack.state)
