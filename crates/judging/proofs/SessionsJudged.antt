-- Rules of traces over several sessions.
use Rattle.std.proofs.Common.{◌≡◌, false, List, ap, subst}
use Rattle.machine.specs.Rules.{Rules}
use Rattle.judge.specs.Views.{rules_of}
use Rattle.judge.specs.declared.rules.MachineRules.{MachineRules}
use Rattle.session_judge.specs.declared.walk.Line.{Line}
use Rattle.session_judge.specs.declared.judging.Verdict.{Verdict}
use Rattle.session_judge.specs.Verdicts.{IsRight}
use Rattle.judging.specs.declared.opened.Standard.{Standard}
use Rattle.judging.specs.Checked.{rules_by}
use Rattle.judging.specs.Sessions.{AreJudged, AreSessionRules, session_rules}

pub unfaithful : (standard : Standard) (rules : MachineRules) → rules_of rules ≡ rules_by standard → AreSessionRules standard (record rules { faithful = false })
unfaithful standard rules is = ap (λ (r : Rules). record r { faithful = false }) is

pub judged_by : (standard : Standard) (rules : MachineRules) (lines : List Line) (verdict : Verdict) → AreSessionRules standard rules → IsRight (rules_of rules) lines verdict → AreJudged standard lines verdict
judged_by standard rules lines verdict are right = subst (λ r. IsRight r lines verdict) are right
