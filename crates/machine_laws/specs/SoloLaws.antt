-- The laws of a request that no other write meets, at each moment that a run reaches.
use Rattle.std.specs.Prelude.{◌≡◌, ◌<◌, ◌⊎◌, ℕ, List, Some, None, IsTrue}
use Rattle.ntstatus.specs.declared.NtStatus.{NtStatus}
use Rattle.srb.specs.declared.Kind.TheVariants.{Write}
use Rattle.machine.specs.declared.ClientRequest.{ClientRequest}
use Rattle.machine.specs.declared.Label.{Label}
use Rattle.machine.specs.declared.Label.TheVariants.{Call, Answer}
use Rattle.machine.specs.Rules.{Rules, place_count}
use Rattle.machine.specs.State.{State}
use Rattle.machine.specs.Calling.{refusal, Opens}
use Rattle.machine.specs.Sending.{partition_number}
use Rattle.machine.specs.Answering.{Answers}
use Rattle.machine.specs.Step.{Step, Run}
use Rattle.machine.specs.Solo.{IsAnswered, SoloReads, SoloWrites}
use Rattle.machine_laws.specs.Sectors.{sector_at, sector_of, bytes_for, WritesSector}
use Rattle.machine_laws.specs.Along.{Sometime}
use Rattle.machine_laws.specs.Reached.{IsReached}

-- where acts move the arrays, a solo read that succeeds gives the bytes of the array at its call
abbrev pub SoloReadsHold : Type 0
SoloReadsHold = (rules : Rules) (before : State) → IsTrue rules.faithful → IsReached rules before → SoloReads rules before

-- there a solo write that succeeds stands in the array at its answer
abbrev pub SoloWritesHold : Type 0
SoloWritesHold = (rules : Rules) (before : State) → IsTrue rules.faithful → IsReached rules before → SoloWrites rules before

-- a call that is not refused opens its request, and an answer of that number after it is the open request's
abbrev pub LabelsAreOfOne : Type 0
LabelsAreOfOne = (rules : Rules) (number : ℕ) (q : ClientRequest) (status : NtStatus) (informed : ℕ) (bytes : List ℕ) (before called : State) (labels : List Label) (ended after : State)
    → refusal rules before q ≡ None → Step rules before (Call number q) called → Run rules called labels ended → Step rules ended (Answer number status informed bytes) after
    → Opens rules before number q called × Answers rules ended number status bytes after

-- the place of a write is as it was before the call, or a piece of the write acted on it and its bytes stand there
abbrev pub WroteOrLeft : (rules : Rules) (number : ℕ) (q : ClientRequest) (before called : State) (between : List Label) (ended : State) (after : State)
    → Run rules called between ended → ℕ → Type 0
WroteOrLeft rules number q before called between ended after run place =
    (sector_at after (partition_number q) (sector_of rules q place) ≡ sector_at before (partition_number q) (sector_of rules q place))
    ⊎ (Sometime (WritesSector rules number (partition_number q) (sector_of rules q place)) rules called between ended run
    × (sector_at after (partition_number q) (sector_of rules q place) ≡ Some (bytes_for rules q place)))

-- each place of a solo write, also of one that failed, is as it was or was written before its answer
abbrev pub FailedWrites : Rules → State → Type 0
FailedWrites rules before = (number : ℕ) (q : ClientRequest) (status : NtStatus) (bytes : List ℕ) (after : State)
    → q.kind ≡ Write → (answered : IsAnswered rules number q status bytes before after) → (place : ℕ) → place < place_count rules q
    → WroteOrLeft rules number q before answered.called answered.labels answered.ended after answered.run place

abbrev pub FailedWritesHold : Type 0
FailedWritesHold = (rules : Rules) (before : State) → IsReached rules before → FailedWrites rules before
