-- Why a call of too many bytes may be made with one byte.
use Rattle.std.specs.Prelude.{◌≡◌, ◌≤◌, ◌<◌, ℕ, IsTrue}
use Rattle.machine.specs.declared.ClientRequest.{ClientRequest}
use Rattle.machine.specs.Calling.{refusal}
use Rattle.machine.specs.Rules.{Rules, is_transfer}
use Rattle.machine.specs.State.{State}

-- on sectors of this size, with no longer request than of 65,536 sectors, a read or a write of so many bytes is answered at
-- once just as one of these other bytes is: by the same status, or not at all
abbrev pub IsRefusedAlike : ℕ → ℕ → ℕ → Type 0
IsRefusedAlike size count other = (rules : Rules) (s : State) (q : ClientRequest) → rules.sector_size ≡ size → 1 < size
    → rules.longest ≤ 65536 → IsTrue (is_transfer q.kind) → q.length ≡ count
    → refusal rules s (record q { length = other }) ≡ refusal rules s q
