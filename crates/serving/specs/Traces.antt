-- The trace of a stack over a storage: the lines of its labels, as far as they were written.
use Rattle.std.specs.Prelude.{◌≡◌, ℕ, Bool, List, [], ◌∷◌, ◌++◌, Option, None, IsTrue, if◌then◌else◌, false}
use Rattle.std.specs.Io.KnownBytes.{Appends}
use Rattle.machine.specs.Bare.{in_memory}
use Rattle.machine.specs.declared.Label.{Label}
use Rattle.label_text.specs.Lines.{line_end, line_of, owned}
use Rattle.io_manager.specs.declared.Reply.{Reply}
use Rattle.io_manager.specs.Shown.{ManagerView}
use Rattle.compose.specs.declared.Event.{Event}
use Rattle.compose.specs.Right.{IsRight}

pub record TraceView : Type 0 where
  -- whether all was written so far
  pub whole : Bool
  -- what the writer has, where that is known
  pub bytes : Option (List ℕ)

-- the lines of labels as memory has them: with their bytes, or without
abbrev pub shown_lines : Bool → List Label → List ℕ
shown_lines keeps_bytes [] = []
shown_lines keeps_bytes (label ∷ labels) = (line_of (owned (in_memory keeps_bytes label) None) ++ line_end) ++ shown_lines keeps_bytes labels

-- the lines of labels
abbrev pub lines_of : List Label → List ℕ
lines_of [] = []
lines_of (label ∷ labels) = (line_of (owned label None) ++ line_end) ++ lines_of labels

-- a trace that has all had all before, and got the lines of just these labels since
abbrev pub Wrote : TraceView → List Label → TraceView → Type 0
Wrote old labels new = IsTrue new.whole → IsTrue old.whole × Appends old.bytes new.bytes (lines_of labels)

-- as a stack shows itself whose labels are kept for who is told of them, or for nobody
abbrev pub shown_to : Bool → ManagerView → ManagerView
shown_to keeps stack = record stack { keeps = if keeps then stack.keeps else false }

-- as one shows itself whose labels are kept for nobody
abbrev pub quiet : ManagerView → ManagerView
quiet stack = shown_to false stack

-- a right step, whose labels were taken, and written where they have their bytes
pub record StepsFor (keeps : Bool) (old : ManagerView) (was : TraceView) (event : Event) (reply : Reply) (new : ManagerView) (now : TraceView) : Type 0 where
  pub stepped : ManagerView
  pub right : IsRight (shown_to keeps old) event reply stepped
  pub after : shown_to keeps new ≡ record stepped { labels = [] }
  pub wrote : IsTrue old.rules.keeps_bytes → Wrote was stepped.labels now
