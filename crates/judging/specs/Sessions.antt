-- What is said of a trace over several sessions.
use Rattle.std.specs.Prelude.{◌≡◌, false, List}
use Rattle.machine.specs.Rules.{Rules}
use Rattle.judge.specs.Views.{rules_of}
use Rattle.judge.specs.declared.rules.MachineRules.{MachineRules}
use Rattle.session_judge.specs.declared.walk.Line.{Line}
use Rattle.session_judge.specs.declared.judging.Verdict.{Verdict}
use Rattle.session_judge.specs.Verdicts.{IsRight}
use Rattle.judging.specs.declared.opened.Standard.{Standard}
use Rattle.judging.specs.Checked.{rules_by}

-- the rules by which a trace of the settings is judged, but for its sectors, which stand elsewhere
abbrev pub session_rules : Standard → Rules
session_rules standard = record (rules_by standard) { faithful = false }

abbrev pub AreSessionRules : Standard → MachineRules → Type 0
AreSessionRules standard rules = rules_of rules ≡ session_rules standard

-- the verdict is right of lines by these rules
abbrev pub AreJudged : Standard → List Line → Verdict → Type 0
AreJudged standard lines verdict = IsRight (session_rules standard) lines verdict
