-- The rule that is named, as a function of the state and the label.
use Rattle.std.specs.Prelude.{ℕ, ◌==◌, ◌+◌, not, Bool, false, List, [], ◌∷◌, Option, Some, None, length, slice_get, option_map, if◌then◌else◌}
use Rattle.std.specs.List.{find, position}
use Rattle.std.specs.Option.{option_or}
use Rattle.ntstatus.specs.declared.NtStatus.{NtStatus}
use Rattle.ntstatus.specs.declared.NtStatus.TheVariants.{Success, Cancelled, DeviceBusy, NoSuchDevice, DeletePending}
use Rattle.machine.specs.declared.ClientRequest.{ClientRequest}
use Rattle.machine.specs.declared.Label.{Label}
use Rattle.machine.specs.declared.Label.TheVariants as label
use Rattle.machine.specs.Rules.{Rules}
use Rattle.machine.specs.State.{Mark, Failed, OpenRequest, Owed, State}
use Rattle.machine.specs.Calling.{refusal, bytes_carried}
use Rattle.machine.specs.Cutting.{mark_at}
use Rattle.machine.specs.Settled.{is_out}
use Rattle.machine.specs.Answering.{is_done, answer_bytes, information}
use Rattle.judge.specs.Deciding.{has_number, same_status, is_given_up, is_worn_out, ended_by, is_cause}
use Rattle.judge.specs.declared.label_rules.Difference.{Difference}
use Rattle.judge.specs.declared.label_rules.OwedRule.{OwedRule}
use Rattle.judge.specs.declared.label_rules.OwedRule.TheVariants as owed_rule
use Rattle.judge.specs.declared.label_rules.CallRule.{CallRule}
use Rattle.judge.specs.declared.label_rules.CallRule.TheVariants as call_rule
use Rattle.judge.specs.declared.label_rules.AnswerRule.{AnswerRule}
use Rattle.judge.specs.declared.label_rules.AnswerRule.TheVariants as answer_rule
use Rattle.judge.specs.declared.label_rules.CancelRule.{CancelRule}
use Rattle.judge.specs.declared.label_rules.CancelRule.TheVariants as cancel_rule
use Rattle.judge.specs.declared.label_rules.RemovalRule.{RemovalRule}
use Rattle.judge.specs.declared.label_rules.RemovalRule.TheVariants as removal_rule

-- the first byte in which the bytes told differ from the bytes due, counted from a number on
abbrev pub difference : ℕ → List ℕ → List ℕ → Option Difference
difference first [] [] = None
difference first [] (t ∷ told) = Some (record { at = first; due = None; told = Some t })
difference first (d ∷ due) [] = Some (record { at = first; due = Some d; told = None })
difference first (d ∷ due) (t ∷ told) = if d == t then difference (first + 1) due told else Some (record { at = first; due = Some d; told = Some t })

-- there is a byte, and it is this one
abbrev pub is_byte : ℕ → Option ℕ → Bool
is_byte byte None = false
is_byte byte (Some there) = byte == there

-- a byte where none is due
abbrev pub too_many : ℕ → Option ℕ → Option Difference
too_many at None = None
too_many at (Some told) = Some (record { at = at; due = None; told = Some told })

-- WHERE AN ANSWER IS OWED

abbrev pub unpaid_rule : Owed → ℕ → NtStatus → ℕ → List ℕ → Option OwedRule
unpaid_rule owed number status informed bytes =
    if not (owed.number == number) then Some (owed_rule.Other owed.number owed.status)
    else (if not (same_status owed.status status) then Some (owed_rule.Status owed.number owed.status status)
    else (if not (informed == 0) then Some (owed_rule.Information owed.number informed)
    else (if not (length bytes == 0) then Some (owed_rule.Bytes owed.number (length bytes)) else None)))

abbrev pub owing_rule : Owed → Label → Option OwedRule
owing_rule owed (label.Answer number status informed bytes) = unpaid_rule owed number status informed bytes
owing_rule owed _ = Some (owed_rule.Other owed.number owed.status)

-- CALLS

abbrev pub carried_rule : ClientRequest → Option NtStatus → Option CallRule
carried_rule q None =
    if length q.bytes == bytes_carried q.kind q.length then None else Some (call_rule.Bytes (bytes_carried q.kind q.length) (length q.bytes))
carried_rule q (Some status) = if length q.bytes == 0 then None else Some (call_rule.Refused status (length q.bytes))

abbrev pub calling_rule : Rules → State → ℕ → ClientRequest → Option CallRule
calling_rule rules s number q =
    if number == s.next_request then carried_rule q (refusal rules s q) else Some (call_rule.Number s.next_request number)

-- ANSWERS

abbrev pub is_unended : Bool → Bool → Mark → Bool
is_unended given_up worn_out mark = not (ended_by given_up worn_out mark)

abbrev pub is_undone : Mark → Bool
is_undone mark = not (is_done mark)

-- what is wrong with an answer while a place has not ended, which is the first
abbrev pub unended_rule : OpenRequest → Option ℕ → Option AnswerRule
unended_rule o None = None
unended_rule o (Some place) = Some (if is_out (mark_at o place) then answer_rule.Out place else answer_rule.Waits place)

-- the status by which a place failed, if it did
abbrev pub failure_of : Mark → Option NtStatus
failure_of (Failed failure) = Some failure
failure_of _ = None

-- a status that a place gives that has ended and isn't done
abbrev pub status_due_of : State → OpenRequest → Option NtStatus → NtStatus
status_due_of s o (Some failure) = failure
status_due_of s o None = if o.cancelled then Cancelled else (if s.removing then (if o.late then DeletePending else NoSuchDevice) else DeviceBusy)

abbrev pub status_due : State → OpenRequest → Mark → NtStatus
status_due s o mark = status_due_of s o (failure_of mark)

-- what is wrong with the status, by the first place that isn't done
abbrev pub status_rule : Rules → State → OpenRequest → NtStatus → Option ℕ → Option AnswerRule
status_rule rules s o status None = if same_status status Success then None else Some (answer_rule.AllDone status)
status_rule rules s o status (Some place) =
    if same_status status Success then Some (answer_rule.NotDone place)
    else (if is_cause rules s o status (mark_at o place) then None else Some (answer_rule.Status place (status_due s o (mark_at o place)) status))

abbrev pub information_rule : ClientRequest → NtStatus → ℕ → Option AnswerRule
information_rule q status informed = if informed == information q status then None else Some (answer_rule.Information (information q status) informed)

abbrev pub bytes_rule : OpenRequest → List ℕ → Option AnswerRule
bytes_rule o bytes = option_map answer_rule.Bytes (difference 0 (answer_bytes o.request.kind o.marks) bytes)

abbrev pub ending_rule : Rules → State → OpenRequest → NtStatus → ℕ → List ℕ → Option AnswerRule
ending_rule rules s o status informed bytes =
    option_or (unended_rule o (position (is_unended (is_given_up s o) (is_worn_out rules o)) o.marks))
    (option_or (status_rule rules s o status (position is_undone o.marks))
    (option_or (information_rule o.request status informed) (bytes_rule o bytes)))

abbrev pub answering_rule_of : Rules → State → ℕ → NtStatus → ℕ → List ℕ → Option OpenRequest → Option AnswerRule
answering_rule_of rules s number status informed bytes None = Some (answer_rule.NotOpen number)
answering_rule_of rules s number status informed bytes (Some o) = ending_rule rules s o status informed bytes

abbrev pub answering_rule : Rules → State → ℕ → NtStatus → ℕ → List ℕ → Option AnswerRule
answering_rule rules s number status informed bytes = answering_rule_of rules s number status informed bytes (find (has_number number) s.requests)

-- CANCELS

abbrev pub cancelling_rule_of : ℕ → Option OpenRequest → Option CancelRule
cancelling_rule_of number None = Some (cancel_rule.NotOpen number)
cancelling_rule_of number (Some o) = if o.cancelled then Some (cancel_rule.Before number) else None

abbrev pub cancelling_rule : State → ℕ → Option CancelRule
cancelling_rule s number = cancelling_rule_of number (find (has_number number) s.requests)

-- THE HOLD AND REMOVAL

abbrev pub pausing_rule : State → Option RemovalRule
pausing_rule s = if s.paused then Some removal_rule.Paused else (if s.removing then Some removal_rule.Removing else None)

abbrev pub paused_rule : State → Option RemovalRule
paused_rule s = if s.paused then None else Some removal_rule.NotPaused

abbrev pub surprising_rule : State → Option RemovalRule
surprising_rule s = if s.removing then Some removal_rule.Removing else None

abbrev pub none_open_rule : Option OpenRequest → Option RemovalRule
none_open_rule None = None
none_open_rule (Some o) = Some (removal_rule.Open o.number)

abbrev pub removed_rule : State → Option RemovalRule
removed_rule s =
    if not s.removing then Some removal_rule.NotRemoving
    else (if s.removed then Some removal_rule.Removed else none_open_rule (slice_get s.requests 0))
