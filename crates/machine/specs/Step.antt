-- One step of the sector machine for each label, and runs of them.
use Rattle.std.specs.Prelude.{◌⊎◌, List, [], ◌∷◌, IsNone}
use Rattle.srb.specs.declared.DeviceLabel.{DeviceLabel}
use Rattle.srb.specs.declared.DeviceLabel.TheVariants.{Start, Act, Fault, Return}
use Rattle.machine.specs.declared.Label.{Label}
use Rattle.machine.specs.declared.Label.TheVariants.{Call, Device, Answer, Cancel, Pause, Resume, Remove, Surprise, Removed}
use Rattle.machine.specs.Rules.{Rules}
use Rattle.machine.specs.State.{State, IsSame}
use Rattle.machine.specs.Calling.{Calls, AnswersRefused}
use Rattle.machine.specs.Sending.{Starts, Acts, Faults, Returns}
use Rattle.machine.specs.Answering.{AnswersWith}
use Rattle.machine.specs.Holding.{Cancels, Pauses, Resumes, Removes, Surprises, Ends}

-- the step by a label of the adapter
abbrev pub DeviceStep : Rules → State → DeviceLabel → State → Type 0
DeviceStep rules s (Start piece tag block) s' = Starts rules s piece tag block s'
DeviceStep rules s (Act piece bytes) s' = Acts rules s piece bytes s'
DeviceStep rules s (Fault piece) s' = Faults s piece s'
DeviceStep rules s (Return piece class) s' = Returns s piece class s'

-- the step where no answer is owed
abbrev pub FreeStep : Rules → State → Label → State → Type 0
FreeStep rules s (Call number q) s' = Calls rules s number q s'
FreeStep rules s (Device label) s' = DeviceStep rules s label s'
FreeStep rules s (Answer number status informed bytes) s' = AnswersWith rules s number status informed bytes s'
FreeStep rules s (Cancel number) s' = Cancels s number s'
FreeStep rules s Pause s' = Pauses rules s s'
FreeStep rules s Resume s' = Resumes s s'
FreeStep rules s Remove s' = Removes s s'
FreeStep rules s Surprise s' = Surprises rules s s'
FreeStep rules s Removed s' = Ends s s'

-- the step where one is owed: that answer, and no other label
abbrev pub OwingStep : State → Label → State → Type 0
OwingStep s (Answer number status informed bytes) s' = AnswersRefused s number status informed bytes s'
OwingStep s _ s' = ⊥

-- from s the machine may go to s' by this label
abbrev pub Step : Rules → State → Label → State → Type 0
Step rules s label s' = (IsNone s.owed × FreeStep rules s label s') ⊎ OwingStep s label s'

-- a list of labels that leads from a state to a state
abbrev pub Run : Rules → State → List Label → State → Type 0
Run rules s [] s' = IsSame s s'
Run rules s (label ∷ labels) s' = (mid : State) × Step rules s label mid × Run rules mid labels s'

-- a label of the adapter as one of the machine
abbrev pub as_label : DeviceLabel → Label
as_label label = Device label
