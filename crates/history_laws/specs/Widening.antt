-- A history as a recorder further from the service has it: calls earlier, answers later.
use Rattle.std.specs.Prelude.{ℕ, List, ◌∷◌, ◌++◌}
use Rattle.ntstatus.specs.declared.NtStatus.{NtStatus}
use Rattle.machine.specs.declared.ClientRequest.{ClientRequest}
use Rattle.machine.specs.declared.Label.{Label}
use Rattle.machine.specs.declared.Label.TheVariants.{Call, Answer}
use Rattle.machine.specs.Rules.{Rules}
use Rattle.machine_laws.specs.NumberLaws.{IsNoAnswerOf}
use Rattle.history_laws.specs.Schedules.{IsScheduled}

-- a history with a schedule keeps one where a call is seen a label earlier
abbrev pub CallsMoveUp : Type 0
CallsMoveUp = (rules : Rules) (p i : ℕ) (start : List ℕ) (before : List Label) (label : Label) (number : ℕ) (q : ClientRequest) (after : List Label)
    → IsScheduled rules p i start (before ++ label ∷ Call number q ∷ after) → IsScheduled rules p i start (before ++ Call number q ∷ label ∷ after)

-- and where an answer is seen a label later
abbrev pub AnswersMoveDown : Type 0
AnswersMoveDown = (rules : Rules) (p i : ℕ) (start : List ℕ) (before : List Label) (number : ℕ) (status : NtStatus) (informed : ℕ) (bytes : List ℕ) (label : Label)
    (after : List Label) → IsNoAnswerOf number label
    → IsScheduled rules p i start (before ++ Answer number status informed bytes ∷ label ∷ after) → IsScheduled rules p i start (before ++ label ∷ Answer number status informed bytes ∷ after)
