-- Requests are called once, where each call has the next number.
use Rattle.std.specs.Prelude.{◌≡◌, ◌≤◌, ℕ, ◌+◌, false, List, [], Option}
use Rattle.std.specs.List.{list_any}
use Rattle.ntstatus.specs.declared.NtStatus.{NtStatus}
use Rattle.machine.specs.declared.ClientRequest.{ClientRequest}
use Rattle.machine.specs.Rules.{Rules}
use Rattle.history_loss_kept.specs.declared.Own.{Own}
use Rattle.history_loss_kept.specs.declared.Shared.{Shared}
use Rattle.history_loss_kept.specs.Kept.{own_after_answer, own_after_call}
use Rattle.history_loss_sector.specs.Seen.{IsOnce, is_for}

-- each was called once at most, and none that comes next
abbrev pub AreApart : ℕ → List Own → Type 0
AreApart next own = (n : ℕ) → IsOnce n own × (next ≤ n → list_any (is_for n) own ≡ false)

abbrev pub NoneAreApart : Type 0
NoneAreApart = (next : ℕ) → AreApart next []

abbrev pub CallsStayApart : Type 0
CallsStayApart = (code : List ℕ → ℕ) (rules : Rules) (i behind n : ℕ) (q : ClientRequest) (own : List Own)
    → AreApart n own → AreApart (n + 1) (own_after_call code rules i behind n q own)

abbrev pub AnswersStayApart : Type 0
AnswersStayApart = (code : List ℕ → ℕ) (rules : Rules) (next n : ℕ) (shared : List Shared) (status : NtStatus) (bytes : Option (List ℕ)) (own : List Own)
    → AreApart next own → AreApart next (own_after_answer code rules n shared status bytes own)
