-- Which waiting answers go with labels, and calls whose bytes are never made.
use Rattle.std.specs.Prelude.{◌≡◌, ℕ, List, [], ◌∷◌, Option, Some, None, false, drop}
use Rattle.srb.specs.declared.Kind.TheVariants.{Read as ReadKind, Write as WriteKind}
use Rattle.machine.specs.declared.Label.{Label}
use Rattle.machine.specs.declared.Label.TheVariants.{Answer as AnswerLabel}
use Rattle.machine.specs.Rules.{Rules}
use Rattle.io_manager.specs.declared.Answer.{Answer}
use Rattle.io_manager.specs.declared.Asked.{Asked}
use Rattle.io_manager.specs.declared.Handle.{Handle}
use Rattle.io_manager.specs.declared.Reply.{Reply}
use Rattle.io_manager.specs.declared.Reply.TheVariants.{Refused}
use Rattle.io_manager.specs.Shown.{ManagerView}
use Rattle.script.specs.declared.Order.{Order}
use Rattle.script.specs.declared.Order.TheVariants.{Read, Write}
use Rattle.script.specs.declared.given.Given.{Given}
use Rattle.script.specs.Events.{handle_of}
use Rattle.script.specs.Trace.{IsCarriedOut}

-- ANSWERS AND LABELS

-- the waiting answers that are left when the one that goes with a label was taken, if one does
abbrev pub left_by : Label → List Answer → List Answer
left_by (AnswerLabel number status information bytes) answers = drop 1 answers
left_by _ answers = answers

-- the bytes of the first waiting answer, or these where none waits
abbrev pub first_bytes : List Answer → List ℕ → List ℕ
first_bytes [] otherwise = otherwise
first_bytes (answer ∷ answers) otherwise = answer.bytes

-- a label with the bytes of the waiting answer that goes with it, if one does
abbrev pub answered_by : Label → List Answer → Label
answered_by (AnswerLabel number status information bytes) answers = AnswerLabel number status information (first_bytes answers bytes)
answered_by label answers = label

-- the label of an answer tells the bytes of the first that waits, or none where none waits
abbrev pub HasBytesOf : Label → List Answer → Type 0
HasBytesOf (AnswerLabel number status information bytes) answers = bytes ≡ first_bytes answers []
HasBytesOf _ answers = Unit {0}

-- labels tell the answers as they wait, and none is left behind them
abbrev pub GoWith : List Label → List Answer → Type 0
GoWith [] answers = answers ≡ []
GoWith (label ∷ labels) answers = HasBytesOf label answers × GoWith labels (left_by label answers)

-- CALLS

-- a reply without the bytes that a refused call gives back
abbrev pub without_bytes : Reply → Reply
without_bytes (Refused reason bytes) = Refused reason []
without_bytes reply = reply

-- what a read or a write asks for on its handle
abbrev pub asked_by : Given → Order → Option (Handle × Asked)
asked_by given (Read handle offset length) =
    Some (handle_of given.handles handle, record { kind = ReadKind; offset = offset; length = length; through = false })
asked_by given (Write handle offset length byte through) =
    Some (handle_of given.handles handle, record { kind = WriteKind; offset = offset; length = length; through = through })
asked_by given _ = None

-- the order is carried out, with a reply that is this but for the bytes that a refused call gives back
abbrev pub IsCarriedOutFor : Given → Order → ManagerView → Reply → ManagerView → Type 0
IsCarriedOutFor given order old shown new = (reply : Reply) × IsCarriedOut given order old reply new × (without_bytes shown ≡ without_bytes reply)

-- the same, and the answers that wait go with the labels
pub record Tells (given : Given) (order : Order) (old : ManagerView) (shown : Reply) (new : ManagerView) : Type 0 where
  pub carried : IsCarriedOutFor given order old shown new
  pub answers : GoWith new.labels new.answers
  pub same_rules : new.rules ≡ old.rules
