-- The line that the machine is asked of in place of one whose bytes may not have been recorded.
use Rattle.std.specs.Prelude.{◌≡◌, ℕ, ◌*◌, ◌^◌, min, Bool, true, false, List, Option, Some, None, length, replicate, if◌then◌else◌}
use Rattle.std.specs.List.{find}
use Rattle.srb.specs.declared.DeviceLabel.{DeviceLabel}
use Rattle.srb.specs.declared.DeviceLabel.TheVariants as device
use Rattle.machine.specs.declared.Label.{Label}
use Rattle.machine.specs.declared.Label.TheVariants as label
use Rattle.trace_line.specs.declared.Line.{Line}
use Rattle.trace_reader.specs.Known.{KnownView, is_sent}
use Rattle.trace_reader.specs.declared.known.Sent.{Sent}
use Rattle.trace_reader.specs.declared.Recorded.{Recorded}

-- no label has more bytes
abbrev pub most_bytes : ℕ
most_bytes = 2 ^ 28

-- zeros in place of the bytes: as many as were told, or else as many as are due
abbrev pub zeros_for : Bool → ℕ → List ℕ → List ℕ
zeros_for untold due bytes = replicate (if untold then min due most_bytes else length bytes) 0

abbrev pub bytes_of : KnownView → Option Sent → ℕ
bytes_of v None = 0
bytes_of v (Some piece) = piece.extent.count * v.size

abbrev pub due_device : KnownView → DeviceLabel → ℕ
due_device v (device.Start piece tag block) = 0
due_device v (device.Act piece bytes) = bytes_of v (find (is_sent piece) v.sent)
due_device v (device.Fault piece) = 0
due_device v (device.Return piece class) = 0

-- how many bytes a label has where they were not recorded: a call as many as its length, an act those of its block's sectors, an answer the
-- number that it tells
abbrev pub due_count : KnownView → Label → ℕ
due_count v (label.Call number q) = q.length
due_count v (label.Device l) = due_device v l
due_count v (label.Answer number status informed bytes) = informed
due_count v _ = 0

abbrev pub blank_device : Bool → ℕ → DeviceLabel → DeviceLabel
blank_device untold due (device.Start piece tag block) = device.Start piece tag block
blank_device untold due (device.Act piece bytes) = device.Act piece (zeros_for untold due bytes)
blank_device untold due (device.Fault piece) = device.Fault piece
blank_device untold due (device.Return piece class) = device.Return piece class

-- the label with zeros for its bytes
abbrev pub blank_label : Bool → ℕ → Label → Label
blank_label untold due (label.Call number q) = label.Call number (record q { bytes = zeros_for untold due q.bytes })
blank_label untold due (label.Device l) = label.Device (blank_device untold due l)
blank_label untold due (label.Answer number status informed bytes) = label.Answer number status informed (zeros_for untold due bytes)
blank_label untold due l = l

-- the line with zeros for its bytes, where so many are due and some of the trace were not recorded
abbrev pub blank_with : Option ℕ → Recorded → Line
blank_with None r = r.line
blank_with (Some due) r = record r.line { label = blank_label r.untold due r.line.label }
