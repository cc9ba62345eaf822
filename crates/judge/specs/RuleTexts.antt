-- The sentence that tells a rule which a line breaks.
use Rattle.std.specs.Prelude.{ℕ, ◌++◌, ◌/◌, ◌%◌, true, false, List, Option, Some, None, codes}
use Rattle.std.specs.Fmt.{decimal, radix_digits}
use Rattle.ntstatus.specs.Codes.{name_of}
use Rattle.cdb.specs.declared.CdbFault.{CdbFault}
use Rattle.cdb.specs.declared.CdbFault.TheVariants.{ShortCdb, UnknownOpcode, InvalidField}
use Rattle.srb.specs.declared.Kind.TheVariants.{Read, Write, Flush}
use Rattle.judge.specs.declared.label_rules.Difference.{Difference}
use Rattle.judge.specs.declared.label_rules.OwedRule.{OwedRule}
use Rattle.judge.specs.declared.label_rules.OwedRule.TheVariants as owed_rule
use Rattle.judge.specs.declared.label_rules.CallRule.{CallRule}
use Rattle.judge.specs.declared.label_rules.CallRule.TheVariants as call_rule
use Rattle.judge.specs.declared.label_rules.AnswerRule.{AnswerRule}
use Rattle.judge.specs.declared.label_rules.AnswerRule.TheVariants as answer_rule
use Rattle.judge.specs.declared.label_rules.CancelRule.{CancelRule}
use Rattle.judge.specs.declared.label_rules.CancelRule.TheVariants as cancel_rule
use Rattle.judge.specs.declared.label_rules.RemovalRule.{RemovalRule}
use Rattle.judge.specs.declared.label_rules.RemovalRule.TheVariants as removal_rule
use Rattle.judge.specs.declared.start_rules.Misfit.{Misfit}
use Rattle.judge.specs.declared.start_rules.Misfit.TheVariants as misfit
use Rattle.judge.specs.declared.start_rules.Hindrance.{Hindrance}
use Rattle.judge.specs.declared.start_rules.Hindrance.TheVariants as hindrance
use Rattle.judge.specs.declared.start_rules.StartRule.{StartRule}
use Rattle.judge.specs.declared.start_rules.StartRule.TheVariants as start_rule
use Rattle.judge.specs.declared.piece_rules.ActRule.{ActRule}
use Rattle.judge.specs.declared.piece_rules.ActRule.TheVariants as act_rule
use Rattle.judge.specs.declared.piece_rules.ReturnRule.{ReturnRule}
use Rattle.judge.specs.declared.piece_rules.ReturnRule.TheVariants as return_rule
use Rattle.judge.specs.declared.label_rules.Rule.{Rule}
use Rattle.judge.specs.declared.label_rules.Rule.TheVariants as rule

-- a byte in two hexadecimal digits
abbrev pub hex_text : ℕ → List ℕ
hex_text byte = radix_digits 16 false (byte / 16) ++ radix_digits 16 false (byte % 16)

-- how a byte differs from the one that is due
abbrev pub difference_by : ℕ → Option ℕ → Option ℕ → List ℕ
difference_by at (Some due) (Some told) = codes "byte " ++ (decimal at ++ (codes " is " ++ (hex_text told ++ (codes ", and " ++ (hex_text due ++ codes " is due")))))
difference_by at (Some due) None = codes "byte " ++ (decimal at ++ (codes " is missing, and " ++ (hex_text due ++ codes " is due")))
difference_by at None (Some told) = codes "byte " ++ (decimal at ++ (codes " is " ++ (hex_text told ++ codes ", and the bytes end before it")))
difference_by at None None = codes "byte " ++ (decimal at ++ codes " is missing")

abbrev pub difference_text : Difference → List ℕ
difference_text d = difference_by d.at d.due d.told

-- what is wrong with a command block that asks for no command
abbrev pub block_text : CdbFault → List ℕ
block_text ShortCdb = codes "the command block is too short"
block_text UnknownOpcode = codes "the operation code is not known"
block_text InvalidField = codes "a field of the command block is not supported"

-- the sentence of the answer that a refused call is owed
abbrev pub owed_text : OwedRule → List ℕ
owed_text (owed_rule.Other number status) = codes "call " ++ (decimal number ++ (codes " was refused with " ++ (name_of status ++ codes ", and its answer comes before all else")))
owed_text (owed_rule.Status number due told) = codes "call " ++ (decimal number ++ (codes " was refused with " ++ (name_of due ++ (codes ", and its answer says " ++ name_of told))))
owed_text (owed_rule.Information number told) = codes "call " ++ (decimal number ++ (codes " was refused, and its answer tells of " ++ (decimal told ++ codes " bytes")))
owed_text (owed_rule.Bytes number count) = codes "call " ++ (decimal number ++ (codes " was refused, and its answer hands back " ++ (decimal count ++ codes " bytes")))

-- the sentence of a call
abbrev pub call_text : CallRule → List ℕ
call_text (call_rule.Number due told) = codes "this is call " ++ (decimal due ++ (codes ", and not " ++ decimal told))
call_text (call_rule.Refused status count) = codes "the call is refused with " ++ (name_of status ++ (codes ", and takes none of its " ++ (decimal count ++ codes " bytes in")))
call_text (call_rule.Bytes due told) = codes "the call takes " ++ (decimal due ++ (codes " bytes in, and not " ++ decimal told))

-- the sentence of the answer of an open request
abbrev pub answer_text : AnswerRule → List ℕ
answer_text (answer_rule.NotOpen number) = codes "request " ++ (decimal number ++ codes " is not open")
answer_text (answer_rule.Out place) = codes "its sector " ++ (decimal place ++ codes " is at the adapter")
answer_text (answer_rule.Waits place) = codes "its sector " ++ (decimal place ++ codes " waits to be sent, and nothing has ended the request")
answer_text (answer_rule.NotDone place) = codes "it answers SUCCESS, and its sector " ++ (decimal place ++ codes " is not done")
answer_text (answer_rule.AllDone told) = codes "all its sectors are done, and it answers " ++ name_of told
answer_text (answer_rule.Status place due told) = codes "its lowest sector that is not done is " ++ (decimal place ++ (codes ", which gives " ++ (name_of due ++ (codes " and not " ++ name_of told))))
answer_text (answer_rule.Information due told) = codes "it transferred " ++ (decimal due ++ (codes " bytes, and its answer tells of " ++ decimal told))
answer_text (answer_rule.Bytes difference) = codes "the bytes of the answer: " ++ difference_text difference

-- the sentence of a cancel
abbrev pub cancel_text : CancelRule → List ℕ
cancel_text (cancel_rule.NotOpen number) = codes "request " ++ (decimal number ++ codes " is not open")
cancel_text (cancel_rule.Before number) = codes "request " ++ (decimal number ++ codes " was cancelled before")

-- the sentence of a pause and its end, of a removal and its end
abbrev pub removal_text : RemovalRule → List ℕ
removal_text removal_rule.Paused = codes "the device is paused"
removal_text removal_rule.NotPaused = codes "the device is not paused"
removal_text removal_rule.Removing = codes "the device is being removed"
removal_text removal_rule.NotRemoving = codes "the device is not being removed"
removal_text removal_rule.Removed = codes "the removal has ended before"
removal_text (removal_rule.Open number) = codes "request " ++ (decimal number ++ codes " is open")

-- the sentence of a block that no open request asks for
abbrev pub misfit_text : Misfit → List ℕ
misfit_text misfit.Command = codes "no request asks for such a command"
misfit_text misfit.Form = codes "the command has the other form: of ten or of sixteen bytes"
misfit_text misfit.Range = codes "a flush is of the whole disk: address 0, 0 blocks"
misfit_text (misfit.Kind Read) = codes "no read is open"
misfit_text (misfit.Kind Write) = codes "no write is open"
misfit_text (misfit.Kind Flush) = codes "no flush is open"
misfit_text (misfit.Sectors lba count) = codes "no open request has the " ++ (decimal count ++ (codes " sectors from block " ++ (decimal lba ++ codes " on")))
misfit_text (misfit.Fua number true) = codes "request " ++ (decimal number ++ codes " is write-through, and the FUA bit is clear")
misfit_text (misfit.Fua number false) = codes "request " ++ (decimal number ++ codes " is not write-through, and the FUA bit is set")

-- the sentence of what holds a request back
abbrev pub hindrance_text : Hindrance → List ℕ
hindrance_text hindrance.Cancelled = codes "it is cancelled"
hindrance_text hindrance.Removing = codes "the device is being removed"
hindrance_text hindrance.Late = codes "a pause holds it"
hindrance_text (hindrance.Earlier number) = codes "request " ++ (decimal number ++ codes " came earlier, and waits to start")
hindrance_text (hindrance.Long longest count) = codes "the piece has " ++ (decimal count ++ (codes " sectors, and " ++ (decimal longest ++ codes " are the most")))
hindrance_text (hindrance.Out place) = codes "its sector " ++ (decimal place ++ codes " is at the adapter")
hindrance_text (hindrance.Done place) = codes "its sector " ++ (decimal place ++ codes " is done")
hindrance_text (hindrance.Failed place) = codes "its sector " ++ (decimal place ++ codes " failed")
hindrance_text (hindrance.OffGrid place grid) = codes "no piece begins at its sector " ++ (decimal place ++ (codes ": it is cut at multiples of " ++ decimal grid))
hindrance_text (hindrance.Worn place) = codes "its sector " ++ (decimal place ++ codes " came back busy, and no restart is left")
hindrance_text (hindrance.NotWhole due count) = codes "it goes as one piece of " ++ (decimal due ++ (codes " sectors, and not of " ++ decimal count))
hindrance_text hindrance.Again = codes "it goes as one piece, once, and was started before"

-- the sentence of a start
abbrev pub start_text : StartRule → List ℕ
start_text (start_rule.Number due told) = codes "this is piece " ++ (decimal due ++ (codes ", and not " ++ decimal told))
start_text (start_rule.Depth tag depth) = codes "there is no tag " ++ (decimal tag ++ (codes ": the adapter has " ++ decimal depth))
start_text (start_rule.TagInUse tag piece) = codes "piece " ++ (decimal piece ++ (codes " is on tag " ++ decimal tag))
start_text (start_rule.Tag lowest told) = codes "tag " ++ (decimal lowest ++ (codes " is free, and lower than tag " ++ decimal told))
start_text (start_rule.Block fault) = block_text fault
start_text (start_rule.NotPlain difference) = codes "the block holds more than its command: " ++ difference_text difference
start_text (start_rule.NotOpen number) = codes "request " ++ (decimal number ++ codes " is not open")
start_text (start_rule.NotAsked misfit) = misfit_text misfit
start_text (start_rule.Held number hindrance) = codes "request " ++ (decimal number ++ (codes " asks for it, but " ++ hindrance_text hindrance))

-- the sentence of an act or a fault
abbrev pub act_text : ActRule → List ℕ
act_text (act_rule.NoPiece piece) = codes "piece " ++ (decimal piece ++ codes " is not at the adapter")
act_text (act_rule.Before piece) = codes "piece " ++ (decimal piece ++ codes " has acted or faulted before")
act_text (act_rule.Length due told) = codes "the act moves " ++ (decimal due ++ (codes " bytes, and not " ++ decimal told))
act_text (act_rule.Write difference) = codes "of the bytes of the write's sectors, " ++ difference_text difference
act_text (act_rule.Disk difference) = codes "of the bytes of the disk's sectors, " ++ difference_text difference
act_text (act_rule.NoSectors piece) = codes "the disk has no such sectors as piece " ++ (decimal piece ++ codes " asks for")

-- the sentence of a return
abbrev pub return_text : ReturnRule → List ℕ
return_text (return_rule.NoPiece piece) = codes "piece " ++ (decimal piece ++ codes " is not at the adapter")
return_text (return_rule.GoodWithoutAct piece) = codes "piece " ++ (decimal piece ++ codes " came back good, and hasn't acted")
return_text (return_rule.BusyAfterAct piece) = codes "piece " ++ (decimal piece ++ codes " came back busy, and has acted or faulted")
return_text (return_rule.GoodCode piece srb_status) = codes "piece " ++ (decimal piece ++ (codes " came back bad, with the SRB status " ++ (hex_text srb_status ++ codes " of no error")))

-- the sentence of a rule
abbrev pub rule_text : Rule → List ℕ
rule_text (rule.Owed rule) = owed_text rule
rule_text (rule.Call rule) = call_text rule
rule_text (rule.Start rule) = start_text rule
rule_text (rule.Act rule) = act_text rule
rule_text (rule.Return rule) = return_text rule
rule_text (rule.Answer rule) = answer_text rule
rule_text (rule.Cancel rule) = cancel_text rule
rule_text (rule.Removal rule) = removal_text rule
