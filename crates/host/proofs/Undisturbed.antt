-- Labels that are no keeper's leave the device where it is.
use Rattle.std.proofs.Common.{◌≡◌, Bool, true, false, if◌then◌else◌, List, [], ◌∷◌, ◌++◌, map, Option, Some, None, refl, sym, ◌∙◌, subst, inl, inr}
use Rattle.host.proofs.Common.{DeviceLabel, Label, Rules, State, Step, Run, as_label, NtStatus, Admits, refusal, ManagerView, as_answer}
use Rattle.std.specs.Prelude.{◌⊎◌, IsNone}
use Rattle.machine.specs.declared.Label.TheVariants.{Call, Device, Answer as AnswerLabel, Cancel, Pause, Resume, Remove, Surprise, Removed}
use Rattle.machine.specs.Step.{FreeStep, OwingStep}
use Rattle.srb.specs.declared.DeviceLabel.TheVariants.{Start, Act, Fault, Return}
use Rattle.io_manager.specs.declared.Answer.{Answer}
use Rattle.io_manager.specs.Right.{IsRightBy, Told, end_labels, labels_of}

-- the label begins or ends no pause, and no removal begins with it
abbrev pub LeavesDevice : Label → Type 0
LeavesDevice Pause = ⊥
LeavesDevice Resume = ⊥
LeavesDevice Remove = ⊥
LeavesDevice Surprise = ⊥
LeavesDevice _ = Unit {0}

abbrev pub LeaveDevice : List Label → Type 0
LeaveDevice [] = Unit {0}
LeaveDevice (label ∷ labels) = LeavesDevice label × LeaveDevice labels

-- the device is paused or removed as it was
pub record IsWhereItWas (old new : State) : Type 0 where
  pub paused : new.paused ≡ old.paused
  pub removing : new.removing ≡ old.removing

pub where_same : (s t : State) → t ≡ s → IsWhereItWas s t
where_same s t same = subst (IsWhereItWas s) (sym same) (record { paused = refl; removing = refl })

pub where_then : (a b c : State) → IsWhereItWas a b → IsWhereItWas b c → IsWhereItWas a c
where_then a b c x y = record { paused = y.paused ∙ x.paused; removing = y.removing ∙ x.removing }

-- LABELS

leave_both : (xs ys : List Label) → LeaveDevice xs → LeaveDevice ys → LeaveDevice (xs ++ ys)
leave_both [] ys a b = b
leave_both (x ∷ xs) ys a b = (a.0, leave_both xs ys a.1 b)

devices_leave : (labels : List DeviceLabel) → LeaveDevice (map as_label labels)
devices_leave [] = tt
devices_leave (l ∷ ls) = (tt, devices_leave ls)

answers_leave : (answers : List Answer) → LeaveDevice (map as_answer answers)
answers_leave [] = tt
answers_leave (a ∷ more) = (tt, answers_leave more)

end_leaves : (ends : Bool) → LeaveDevice (end_labels ends)
end_leaves true = (tt, tt)
end_leaves false = tt

-- what is told but for a step's own labels
pub rest_leaves : (told : Told) → LeaveDevice ((map as_label told.device ++ map as_answer told.answers) ++ end_labels told.ends)
rest_leaves told =
    leave_both (map as_label told.device ++ map as_answer told.answers) (end_labels told.ends)
    (leave_both (map as_label told.device) (map as_answer told.answers) (devices_leave told.device) (answers_leave told.answers))
    (end_leaves told.ends)

told_leaves : (told : Told) → LeaveDevice told.own → LeaveDevice (labels_of told)
told_leaves told own =
    leave_both ((told.own ++ map as_label told.device) ++ map as_answer told.answers) (end_labels told.ends)
    (leave_both (told.own ++ map as_label told.device) (map as_answer told.answers)
    (leave_both told.own (map as_label told.device) own (devices_leave told.device))
    (answers_leave told.answers))
    (end_leaves told.ends)

-- STEPS OF THE MACHINE

leaves_call : (rules : Rules) (s : State) (number : _) (q : _) (status : Option NtStatus) (t : State) → Admits rules s number q status t → IsWhereItWas s t
leaves_call rules s number q None t h = record { paused = h.after.paused; removing = h.after.removing }
leaves_call rules s number q (Some status) t h = record { paused = h.after.paused; removing = h.after.removing }

leaves_free : (rules : Rules) (s : State) (label : Label) (t : State) → LeavesDevice label → FreeStep rules s label t → IsWhereItWas s t
leaves_free rules s (Call number q) t leaves h = leaves_call rules s number q (refusal rules s q) t h.admits
leaves_free rules s (Device (Start piece tag block)) t leaves h = record { paused = h.after.paused; removing = h.after.removing }
leaves_free rules s (Device (Act piece bytes)) t leaves h = record { paused = h.after.paused; removing = h.after.removing }
leaves_free rules s (Device (Fault piece)) t leaves h = record { paused = h.after.paused; removing = h.after.removing }
leaves_free rules s (Device (Return piece class)) t leaves h = record { paused = h.after.paused; removing = h.after.removing }
leaves_free rules s (AnswerLabel number status informed bytes) t leaves h = record { paused = h.answers.after.paused; removing = h.answers.after.removing }
leaves_free rules s (Cancel number) t leaves h = record { paused = h.after.paused; removing = h.after.removing }
leaves_free rules s Removed t leaves h = record { paused = h.after.paused; removing = h.after.removing }
leaves_free rules s _ t leaves h = absurd leaves

leaves_owing : (s : State) (label : Label) (t : State) → OwingStep s label t → IsWhereItWas s t
leaves_owing s (AnswerLabel number status informed bytes) t h = record { paused = h.after.paused; removing = h.after.removing }
leaves_owing s _ t h = absurd h

leaves_step : (rules : Rules) (s : State) (label : Label) (t : State) → LeavesDevice label → Step rules s label t → IsWhereItWas s t
leaves_step rules s label t leaves (inl (none, h)) = leaves_free rules s label t leaves h
leaves_step rules s label t leaves (inr h) = leaves_owing s label t h

pub leaves_run : (rules : Rules) (s : State) (labels : List Label) (t : State) → LeaveDevice labels → Run rules s labels t → IsWhereItWas s t
leaves_run rules s [] t leave run = record { paused = sym run.paused; removing = sym run.removing }
leaves_run rules s (label ∷ labels) t leave (mid, step, run) =
    where_then s mid t (leaves_step rules s label mid leave.0 step) (leaves_run rules mid labels t leave.1 run)

-- a right step whose own labels leave the device
pub right_leaves : (reset : Bool) (told : Told) (old new : ManagerView) → IsRightBy reset told old new → LeaveDevice told.own → IsWhereItWas old.state new.state
right_leaves reset told old new by own = leaves_run old.rules old.state new.labels new.state (subst LeaveDevice (sym by.in_order) (told_leaves told own)) by.run
