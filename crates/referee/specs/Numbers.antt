-- The numbers of the rules that a line can break, and of why else it isn't taken; and its sentence.
use Rattle.std.specs.Prelude.{ℕ, ◌++◌, List, codes}
use Rattle.std.specs.Fmt.{decimal}
use Rattle.judge.specs.RuleTexts.{rule_text}
use Rattle.judge.specs.declared.label_rules.Rule.{Rule}
use Rattle.judge.specs.declared.label_rules.Rule.TheVariants as rule
use Rattle.judge.specs.declared.label_rules.OwedRule.{OwedRule}
use Rattle.judge.specs.declared.label_rules.OwedRule.TheVariants as owed
use Rattle.judge.specs.declared.label_rules.CallRule.{CallRule}
use Rattle.judge.specs.declared.label_rules.CallRule.TheVariants as call
use Rattle.judge.specs.declared.start_rules.StartRule.{StartRule}
use Rattle.judge.specs.declared.start_rules.StartRule.TheVariants as start
use Rattle.judge.specs.declared.piece_rules.ActRule.{ActRule}
use Rattle.judge.specs.declared.piece_rules.ActRule.TheVariants as act
use Rattle.judge.specs.declared.piece_rules.ReturnRule.{ReturnRule}
use Rattle.judge.specs.declared.piece_rules.ReturnRule.TheVariants as return
use Rattle.judge.specs.declared.label_rules.AnswerRule.{AnswerRule}
use Rattle.judge.specs.declared.label_rules.AnswerRule.TheVariants as answer
use Rattle.judge.specs.declared.label_rules.CancelRule.{CancelRule}
use Rattle.judge.specs.declared.label_rules.CancelRule.TheVariants as cancel
use Rattle.judge.specs.declared.label_rules.RemovalRule.{RemovalRule}
use Rattle.judge.specs.declared.label_rules.RemovalRule.TheVariants as removal
use Rattle.referee.specs.declared.why.Why.{Why}
use Rattle.referee.specs.declared.why.Why.TheVariants as why

abbrev pub owed_number : OwedRule → ℕ
owed_number (owed.Other a b) = 101
owed_number (owed.Status a b c) = 102
owed_number (owed.Information a b) = 103
owed_number (owed.Bytes a b) = 104

abbrev pub call_number : CallRule → ℕ
call_number (call.Number a b) = 201
call_number (call.Refused a b) = 202
call_number (call.Bytes a b) = 203

abbrev pub start_number : StartRule → ℕ
start_number (start.Number a b) = 301
start_number (start.Depth a b) = 302
start_number (start.TagInUse a b) = 303
start_number (start.Tag a b) = 304
start_number (start.Block a) = 305
start_number (start.NotPlain a) = 306
start_number (start.NotOpen a) = 307
start_number (start.NotAsked a) = 308
start_number (start.Held a b) = 309

abbrev pub act_number : ActRule → ℕ
act_number (act.NoPiece a) = 401
act_number (act.Before a) = 402
act_number (act.Length a b) = 403
act_number (act.Write a) = 404
act_number (act.Disk a) = 405
act_number (act.NoSectors a) = 406

abbrev pub return_number : ReturnRule → ℕ
return_number (return.NoPiece a) = 501
return_number (return.GoodWithoutAct a) = 502
return_number (return.BusyAfterAct a) = 503
return_number (return.GoodCode a b) = 504

abbrev pub answer_number : AnswerRule → ℕ
answer_number (answer.NotOpen a) = 601
answer_number (answer.Out a) = 602
answer_number (answer.Waits a) = 603
answer_number (answer.NotDone a) = 604
answer_number (answer.AllDone a) = 605
answer_number (answer.Status a b c) = 606
answer_number (answer.Information a b) = 607
answer_number (answer.Bytes a) = 608

abbrev pub cancel_number : CancelRule → ℕ
cancel_number (cancel.NotOpen a) = 701
cancel_number (cancel.Before a) = 702

abbrev pub removal_number : RemovalRule → ℕ
removal_number removal.Paused = 801
removal_number removal.NotPaused = 802
removal_number removal.Removing = 803
removal_number removal.NotRemoving = 804
removal_number removal.Removed = 805
removal_number (removal.Open a) = 806

-- hundreds by the kind of label, or what is owed; then by the rule
abbrev pub number_of_rule : Rule → ℕ
number_of_rule (rule.Owed r) = owed_number r
number_of_rule (rule.Call r) = call_number r
number_of_rule (rule.Start r) = start_number r
number_of_rule (rule.Act r) = act_number r
number_of_rule (rule.Return r) = return_number r
number_of_rule (rule.Answer r) = answer_number r
number_of_rule (rule.Cancel r) = cancel_number r
number_of_rule (rule.Removal r) = removal_number r

-- the number that says why a line isn't taken
abbrev pub number_of : Why → ℕ
number_of (why.Breaks r) = number_of_rule r
number_of (why.BadLine column) = 1
number_of (why.NoPartition partition count) = 2
number_of why.NoMemory = 3
number_of (why.Readings readings) = 4
number_of why.BadLabel = 5

-- the sentence that says so
abbrev pub why_text : Why → List ℕ
why_text (why.Breaks r) = rule_text r
why_text (why.BadLine column) = codes "bad word in column " ++ decimal column
why_text (why.NoPartition partition count) = codes "there is no partition " ++ (decimal partition ++ (codes ": there are " ++ (decimal count ++ codes ", counted from 0")))
why_text why.BadLabel = codes "this is no label"
why_text why.NoMemory = codes "no memory for a verdict"
why_text (why.Readings readings) = codes "the starts have " ++ (decimal readings ++ codes " readings, and 1024 are the most: name the request of each")
