-- A history as a recorder further from the service has it: calls earlier, answers later.
use Rattle.std.specs.Prelude.{ℕ, List, ◌∷◌, ◌++◌}
use Rattle.ntstatus.specs.declared.NtStatus.{NtStatus}
use Rattle.machine.specs.declared.ClientRequest.{ClientRequest}
use Rattle.machine.specs.declared.Label.{Label}
use Rattle.machine.specs.declared.Label.TheVariants.{Call, Answer}
use Rattle.machine.specs.Rules.{Rules}
use Rattle.machine_laws.specs.NumberLaws.{IsNoAnswerOf}
use Rattle.loss.specs.Sessions.{Line, Told}
use Rattle.history_loss.specs.Schedules.{AreScheduled}

-- a history with schedules keeps them where a call is seen a label earlier, in its session
abbrev pub CallsMoveUp : Type 0
CallsMoveUp = (rules : Rules) (disk : ℕ → List ℕ) (before : List Line) (label : Label) (number : ℕ) (q : ClientRequest) (after : List Line)
    → AreScheduled rules disk (before ++ Told label ∷ Told (Call number q) ∷ after) → AreScheduled rules disk (before ++ Told (Call number q) ∷ Told label ∷ after)

-- and where an answer is seen a label later
abbrev pub AnswersMoveDown : Type 0
AnswersMoveDown = (rules : Rules) (disk : ℕ → List ℕ) (before : List Line) (number : ℕ) (status : NtStatus) (informed : ℕ) (bytes : List ℕ) (label : Label) (after : List Line)
    → IsNoAnswerOf number label
    → AreScheduled rules disk (before ++ Told (Answer number status informed bytes) ∷ Told label ∷ after)
    → AreScheduled rules disk (before ++ Told label ∷ Told (Answer number status informed bytes) ∷ after)
