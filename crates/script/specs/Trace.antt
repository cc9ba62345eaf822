-- A script run through a stack, and what is printed of it.
use Rattle.std.specs.Prelude.{◌≡◌, ◌⊎◌, ℕ, List, [], ◌∷◌, ◌++◌, Option, codes}
use Rattle.std.specs.Io.KnownBytes.{Appends}
use Rattle.std.specs.BTreeMap.{IsEmpty}
use Rattle.machine.specs.declared.Label.{Label}
use Rattle.io_manager.specs.declared.Reply.{Reply}
use Rattle.io_manager.specs.Shown.{ManagerView}
use Rattle.compose.specs.declared.Event.{Event}
use Rattle.compose.specs.Right.{IsRight}
use Rattle.script.specs.declared.Line.{Line}
use Rattle.script.specs.declared.Order.{Order}
use Rattle.script.specs.declared.given.Given.{Given}
use Rattle.script.specs.Events.{IsEventOf, IsReplyTo, Keeps}
use Rattle.label_text.specs.Lines.{line_end}
use Rattle.script.specs.declared.Style.{Style}
use Rattle.script.specs.declared.Style.TheVariants.{Transcript, Trace}
use Rattle.script.specs.Printing.{labels_text, reply_line}

-- WHAT IS TAKEN

-- the stack after all labels and answers were taken
abbrev pub all_taken : ManagerView → ManagerView
all_taken v = record v { labels = []; answers = [] }

-- no label and no answer waits to be taken
pub record IsAllTaken (v : ManagerView) : Type 0 where
  pub labels : v.labels ≡ []
  pub answers : v.answers ≡ []

-- A LINE

-- the stack makes a right step of the event that an order asks for
pub record IsStepOf (given : Given) (order : Order) (old : ManagerView) (reply : Reply) (new : ManagerView) : Type 0 where
  pub event : Event
  pub is_event : IsEventOf given order event
  pub right : IsRight old event reply new

-- an order is carried out: the stack makes a right step, or the order is no event, and the stack stays as it is
abbrev pub IsCarriedOut : Given → Order → ManagerView → Reply → ManagerView → Type 0
IsCarriedOut given order old reply new = IsStepOf given order old reply new ⊎ (IsReplyTo order reply × (new ≡ old))

-- what is known between two lines: the stack, and the handles and requests that it gave
pub record Between : Type 0 where
  pub stack : ManagerView
  pub given : Given

-- what is told of a line: in a transcript the line behind "> ", the line of its reply, and the labels of its step in
-- short; in a trace the labels alone
abbrev pub line_text : Style → Line → Reply → List Label → List ℕ
line_text Transcript line reply labels = (codes "> " ++ (line.text.now ++ line_end)) ++ (reply_line reply ++ labels_text Transcript labels)
line_text Trace line reply labels = labels_text Trace labels

-- a line is carried out, its text is told, and then all labels and answers are taken
pub record IsLineTold (style : Style) (old : Between) (line : Line) (text : List ℕ) (new : Between) : Type 0 where
  pub reply : Reply
  pub stepped : ManagerView
  pub carried : IsCarriedOut old.given line.order old.stack reply stepped
  pub told : text ≡ line_text style line reply stepped.labels
  pub taken : new.stack ≡ all_taken stepped
  pub keeps : Keeps reply old.given new.given

-- ALL LINES

-- lines are carried out in order, and their texts are told
abbrev pub AreLinesTold : Style → Between → List Line → List ℕ → Between → Type 0
AreLinesTold style old [] text new = (text ≡ []) × (new ≡ old)
AreLinesTold style old (line ∷ lines) text new =
    (first : List ℕ) × (rest : List ℕ) × (mid : Between) × IsLineTold style old line first mid × AreLinesTold style mid lines rest new × (text ≡ first ++ rest)

-- lines are run through a stack that has given nothing, and their texts are told
pub record IsToldTo (style : Style) (stack : ManagerView) (lines : List Line) (text : List ℕ) (end : Between) : Type 0 where
  pub given : Given
  pub no_handle : IsEmpty given.handles
  pub no_request : given.requests.items ≡ []
  pub told : AreLinesTold style (record { stack = stack; given = given }) lines text end

-- the text of a run, with the stack that is left
abbrev pub IsTold : Style → ManagerView → List Line → List ℕ → ManagerView → Type 0
IsTold style stack lines text last = (end : Between) × IsToldTo style stack lines text end × (last ≡ end.stack)

-- PRINTING

-- a text of this kind is printed
pub record Prints (old new : Option (List ℕ)) (Is : List ℕ → Type 0) : Type 0 where
  pub text : List ℕ
  pub is : Is text
  pub appends : Appends old new text
