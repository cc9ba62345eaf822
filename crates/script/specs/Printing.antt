-- What is printed of a reply or a label: one line each.
use Rattle.std.specs.Prelude.{ℕ, List, None, ◌++◌, map, codes}
use Rattle.std.specs.Fmt.{decimal}
use Rattle.std.specs.List.{concat}
use Rattle.machine.specs.declared.Label.{Label}
use Rattle.io_manager.specs.declared.Refusal.{Refusal}
use Rattle.io_manager.specs.declared.Refusal.TheVariants.{InvalidHandle, InvalidParameter, DeletePending, DeviceBusy, InsufficientResources, InvalidDeviceRequest, NotFound}
use Rattle.io_manager.specs.declared.Reply.{Reply}
use Rattle.io_manager.specs.declared.Reply.TheVariants.{Handle, Ok, Request, Answered, Refused, Ignored}
use Rattle.label_text.specs.Lines.{line_end, line_of, owned, short_line_of}
use Rattle.script.specs.declared.Style.{Style}
use Rattle.script.specs.declared.Style.TheVariants.{Transcript, Trace}

-- the number of a refusal, behind its E
abbrev pub number_of : Refusal → ℕ
number_of InvalidHandle = 1
number_of InvalidParameter = 2
number_of DeletePending = 3
number_of DeviceBusy = 4
number_of InsufficientResources = 5
number_of InvalidDeviceRequest = 6
number_of NotFound = 7

-- the line of a reply
abbrev pub reply_line : Reply → List ℕ
reply_line (Handle handle) = codes "handle " ++ (decimal handle.number ++ line_end)
reply_line Ok = codes "ok" ++ line_end
reply_line (Request id) = codes "request " ++ (decimal id.number ++ line_end)
reply_line (Answered answer) = codes "answered" ++ line_end
reply_line (Refused refusal bytes) = codes "refused E" ++ (decimal (number_of refusal) ++ line_end)
reply_line Ignored = codes "ignored" ++ line_end

-- the line of a label: in short, or as a line of a trace
abbrev pub label_line : Style → Label → List ℕ
label_line Transcript label = short_line_of label ++ line_end
label_line Trace label = line_of (owned label None) ++ line_end

-- the lines of labels, one after the other
abbrev pub labels_text : Style → List Label → List ℕ
labels_text style labels = concat (map (label_line style) labels)
